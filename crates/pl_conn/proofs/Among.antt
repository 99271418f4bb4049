-- Turns of a conversation among calls of others.
use Rattle.std.proofs.Common.{◌≡◌, ℕ, List, [], ◌∷◌, Result, Ok, Err, refl, sym, ap, subst, inl, inr}
use Rattle.std.specs.Io.KnownBytes.{Appends, Consumes, IsAtEnd}
use Rattle.pl_core.specs.declared.reply.Reply.{Reply}
use Rattle.pl_table.specs.Requests.Request.{Query}
use Rattle.pl_wire.specs.Answering.{Answered, AnswersBody, AnswersReading, Calls}
use Rattle.pl_wire.specs.Reading.{request_reading}
use Rattle.pl_wire.specs.declared.fault.WireFault.{WireFault}
use Rattle.pl_conn.specs.Conversation.{Scene}
use Rattle.pl_conn.specs.Resting.{Came, GoesAmong, Middle, OthersCall, Replies, Rests, Resumes, TurnsAmongOthers, TurnsJoinAmongOthers, among, middle, with_pass}
use Rattle.pl_conn.specs.Serving.{Reaches}
use Rattle.pl_conn.specs.declared.cause.Cause.{Cause}
use Rattle.pl_conn.specs.declared.conversation.Rest.{Rest}
use Rattle.pl_conn.specs.declared.conversation.Rest.TheVariants as rests
use Rattle.pl_conn.proofs.Finishing.{begun, ended, over, turn_of}
use Rattle.pl_conn.proofs.Reaching.{reaches_more, reaches_self}
use Rattle.pl_conn.proofs.Turning.{resumes_then}

module _ {P : Type 0} (calls : Calls P) where
  -- an answer after calls of others
  among_reading : (read : Result Query WireFault) (p q now : P) (reply : Reply) → Reaches calls p q → AnswersReading calls read q reply now
      → (then : P) × AnswersReading (among calls) read p reply then × Reaches calls then now
  among_reading (Ok request) p q now reply first one = (now, (q, first, one), reaches_self calls now)
  among_reading (Err fault) p q now reply first none = (p, (none.0, refl), subst (λ x. Reaches calls p x) (sym none.1) first)

  among_body : (body : List ℕ) (p q now : P) (reply : Reply) → Reaches calls p q → AnswersBody calls q body reply now
      → (then : P) × AnswersBody (among calls) p body reply then × Reaches calls then now
  among_body body p q now reply first (inl one) =
      let a = among_reading (request_reading body) p q now reply first one in (a.0, inl a.1, a.2)
  among_body body p q now reply first (inr none) = (p, inr (none.0, none.1, refl), subst (λ x. Reaches calls p x) (sym none.2) first)

  among_chain : (p q r : P) (bodies : List (List ℕ)) (rs : List Reply) → Reaches calls p q → Answered (AnswersBody calls) q bodies rs r
      → (left : P) × Answered (AnswersBody (among calls)) p bodies rs left × Reaches calls left r
  among_chain p q r [] [] first done = (p, refl, subst (λ x. Reaches calls p x) (sym done) first)
  among_chain p q r [] (y ∷ ys) first done = absurd done
  among_chain p q r (b ∷ bs) [] first done = absurd done
  among_chain p q r (b ∷ bs) (y ∷ ys) first done =
      let a = among_body b p q done.0 y first done.1 in
      let more = among_chain a.0 done.0 r bs ys a.2 done.2 in
      (more.0, (a.0, a.1, more.1), more.2)

  -- a turn after calls of others
  among_turn : (before then after : Scene P) (old new : Middle) → OthersCall calls before then → Resumes calls then old after new
      → (left : P) × Reaches calls left after.pass × Resumes (among calls) before old (with_pass after left) new
  among_turn before then after old new others r =
      let chain = among_chain before.pass then.pass after.pass r.replies.bodies r.replies.replies others.2 r.replies.chain in (
        chain.0,
        chain.2,
        record {
          heard = r.heard;
          said = r.said;
          input = subst (λ bytes. Consumes bytes after.input r.heard) others.0 r.input;
          output = subst (λ bytes. Appends bytes after.output r.said) others.1 r.output;
          replies = record {
            bodies = r.replies.bodies;
            replies = r.replies.replies;
            short = r.replies.short;
            fits = r.replies.fits;
            read = r.replies.read;
            chain = chain.1;
            told = r.replies.told;
          };
          waits = r.waits;
        },
      )

  -- turns that are as one so far, and then one more
  joins_one : (start before then after : Scene P) (first old new : Middle) (left : P) → Reaches calls left before.pass
      → Resumes (among calls) start first (with_pass before left) old → OthersCall calls before then → Resumes calls then old after new
      → (more : P) × Reaches calls more after.pass × Resumes (among calls) start first (with_pass after more) new
  joins_one start before then after first old new left reached so_far others r =
      let one = among_turn (with_pass before left) then after old new (others.0, others.1, reaches_more calls left before.pass then.pass reached others.2) r in
      (one.0, one.1, resumes_then (among calls) start (with_pass before left) (with_pass after one.0) first old new so_far one.2)

  joins_all : (start before now : Scene P) (more : List Rest) (first old kept : Middle) (left : P) → Reaches calls left before.pass
      → Resumes (among calls) start first (with_pass before left) old → GoesAmong calls before old more now kept
      → (last : P) × Reaches calls last now.pass × Resumes (among calls) start first (with_pass now last) kept
  joins_all start before now [] first old kept left reached so_far (same, is) = (
    left,
    subst (λ (s : Scene P). Reaches calls left s.pass) (sym same) reached,
    subst (λ (s : Scene P). Resumes (among calls) start first (with_pass s left) kept) (sym same)
        (subst (λ (m : Middle). Resumes (among calls) start first (with_pass before left) m) (sym is) so_far),
  )
  joins_all start before now (rest ∷ more) first old kept left reached so_far (then, next, m, others, turn, goes) =
      let one = joins_one start before then next first old m left reached so_far others (turn_of calls then next old m rest turn) in
      joins_all start next now more first m kept one.0 one.1 one.2 goes

  pub joins : TurnsJoinAmongOthers calls
  joins before now old kept more goes = joins_all before before now more old old kept before.pass (reaches_self calls before.pass) (begun (among calls) before old) goes

  -- the last turn too
  whole : (before now then after : Scene P) (more : List Rest) (kept new : Middle) → GoesAmong calls before (middle [] []) more now kept
      → OthersCall calls now then → Resumes calls then kept after new
      → (left : P) × Reaches calls left after.pass × Resumes (among calls) before (middle [] []) (with_pass after left) new
  whole before now then after more kept new goes others turn =
      let so_far = joins before now (middle [] []) kept more goes in
      joins_one before now then after (middle [] []) kept new so_far.0 so_far.1 so_far.2 others turn

  pub among_others : TurnsAmongOthers calls
  among_others before now then after more kept new (Ok rests.Again) goes others last = (after.pass, reaches_self calls after.pass, tt)
  among_others before now then after more kept new (Ok rests.Input) goes others last = (after.pass, reaches_self calls after.pass, tt)
  among_others before now then after more kept new (Ok rests.Output) goes others last = (after.pass, reaches_self calls after.pass, tt)
  among_others before now then after more kept new (Ok rests.Over) goes others (turn, is, end) =
      let r = whole before now then after more kept new goes others turn in
      (r.0, r.1, over (among calls) before (with_pass after r.0) new r.2 is end)
  among_others before now then after more kept new (Err cause) goes others (lost, turn, end) =
      let r = whole before now then after more kept lost goes others turn in
      (r.0, r.1, ended (among calls) before (with_pass after r.0) lost r.2 cause end)
