-- All turns of a conversation are a conversation.
use Rattle.std.proofs.Common.{◌≡◌, ℕ, ◌+◌, ◌<◌, ◌≤◌, List, [], ◌∷◌, ◌++◌, length, take, Ok, Err, refl, sym, ap, subst, ◌∙◌, append-nil, inl, inr, arith, le_refl}
use Rattle.std.proofs.Math.Seq.{take-append_seam}
use Rattle.std.proofs.lemmas.List.{length-append, length-take-le}
use Rattle.std.proofs.lemmas.Grind.{flat_map-append}
use Rattle.std.proofs.KnownBytes.{Appends-nil, Consumes-nil}
use Rattle.std.specs.Io.KnownBytes.{Appends, Consumes, IsAtEnd}
use Rattle.std.specs.List.{AllByRecursion}
use Rattle.pl_core.specs.declared.reply.Reply.{Reply}
use Rattle.pl_core.specs.Reply.{FitsReply}
use Rattle.pl_wire.specs.Answering.{Answered, AnswersBody, Calls}
use Rattle.pl_wire.specs.Frames.{frames_of}
use Rattle.pl_wire.specs.FrameWriting.{reply_frame}
use Rattle.pl_conn.specs.Conversation.{Ends, IsToldInPart, MayWait, Scene, Talk, Talks, replies_text}
use Rattle.pl_conn.specs.Resting.{Came, Goes, Middle, Rests, Resumes, TurnsAreAConversation, WaitsFirst, middle}
use Rattle.pl_conn.specs.declared.cause.Cause.{Cause}
use Rattle.pl_conn.specs.declared.cause.Cause.TheVariants as causes
use Rattle.pl_conn.specs.declared.conversation.Rest.{Rest}
use Rattle.pl_conn.specs.declared.conversation.Rest.TheVariants as rests
use Rattle.pl_conn.proofs.Talking.{cut_text, fewer_after}
use Rattle.pl_conn.proofs.Turning.{resumes_then}

-- Of replies that are not all written, those from the first that is not whole on may wait together, if they do that hold as much
-- as is not written.
pub from_the_cut : (front last whole : List Reply) (next : Reply) (more : List Reply) (k : ℕ) → front ++ last ≡ whole ++ next ∷ more
    → k < length (reply_frame next) → length (replies_text (next ∷ more)) ≤ k + length (replies_text last) → MayWait last → MayWait (next ∷ more)
from_the_cut [] last whole next more k same less within few = fewer_after whole (next ∷ more) (subst MayWait same few)
from_the_cut (f ∷ front) last [] next more k same less within few =
    let others : front ++ last ≡ more = cc in
    absurd (omega (
      arith,
      less,
      within,
      length-append (reply_frame next) (replies_text more),
      ap length (ap replies_text (sym others) ∙ flat_map-append reply_frame front last),
      length-append (replies_text front) (replies_text last),
    ))
from_the_cut (f ∷ front) last (w ∷ whole) next more k same less within few =
    let others : front ++ last ≡ whole ++ next ∷ more = cc in from_the_cut front last whole next more k others less within few

module _ {P : Type 0} (calls : Calls P) where
  -- the turn in what a turn came to
  pub turn_of : (before after : Scene P) (old new : Middle) (rest : Rest) → Rests calls before old after new (Ok rest) → Resumes calls before old after new
  turn_of before after old new rests.Again r = r.0
  turn_of before after old new rests.Input r = r.0
  turn_of before after old new rests.Output r = r.0
  turn_of before after old new rests.Over r = r.0

  -- nothing happened yet
  pub begun : (s : Scene P) (m : Middle) → Resumes calls s m s m
  begun s m = record {
    heard = [];
    said = [];
    input = Consumes-nil s.input;
    output = Appends-nil s.output;
    replies = record {
      bodies = [];
      replies = [];
      short = tt;
      fits = tt;
      read = append-nil m.unread;
      chain = refl;
      told = sym (append-nil m.waiting);
    };
    waits = inl (refl, refl, le_refl _);
  }

  -- turns are as one
  goes_as_one : (start before now : Scene P) (more : List Rest) (first old kept : Middle) → Resumes calls start first before old
      → Goes calls before old more now kept → Resumes calls start first now kept
  goes_as_one start before now [] first old kept r (same, is) =
      subst (λ (s : Scene P). Resumes calls start first s kept) (sym same) (subst (λ (m : Middle). Resumes calls start first before m) (sym is) r)
  goes_as_one start before now (rest ∷ more) first old kept r (next, m, turn, others) =
      goes_as_one start next now more first m kept (resumes_then calls start before next first old m r (turn_of before next old m rest turn)) others

  module _ (before after : Scene P) (lost : Middle) (r : Resumes calls before (middle [] []) after lost) where
    abbrev all_told : Talk
    all_told = record { bodies = r.replies.bodies; whole = r.replies.replies; others = []; part = lost.unread; cut = [] }

    heard_is : r.heard ≡ frames_of r.replies.bodies ++ lost.unread
    heard_is = r.replies.read

    text_is : r.said ++ lost.waiting ≡ replies_text r.replies.replies
    text_is = r.replies.told

    -- all replies are written
    talks_whole : lost.waiting ≡ [] → Talks calls before after all_told
    talks_whole none = record {
      short = r.replies.short;
      read = subst (λ (l : List ℕ). Consumes before.input after.input l) heard_is r.input;
      chain = subst (λ (rs : List Reply). Answered (AnswersBody calls) before.pass r.replies.bodies rs after.pass) (sym (append-nil r.replies.replies)) r.replies.chain;
      fits = subst (AllByRecursion FitsReply) (sym (append-nil r.replies.replies)) r.replies.fits;
      written = subst (λ (l : List ℕ). Appends before.output after.output l)
          (sym (append-nil r.said) ∙ ap (λ l. r.said ++ l) (sym none) ∙ text_is ∙ sym (append-nil (replies_text r.replies.replies))) r.output;
    }

    -- some are not
    talks_cut : 0 < length lost.waiting → (talk : Talk) × Talks calls before after talk × IsToldInPart talk
    talks_cut some =
        let rs = r.replies.replies in
        let count : length r.said + length lost.waiting ≡ length (replies_text rs) = sym (length-append r.said lost.waiting) ∙ ap length text_is in
        let c = cut_text rs (length r.said) (omega (arith, count, some)) in
        let said_is : r.said ≡ replies_text c.whole ++ take c.k (reply_frame c.next) =
        sym (take-append_seam r.said lost.waiting) ∙ ap (λ (l : List ℕ). take (length r.said) l) text_is ∙ c.text in
        let part : length (take c.k (reply_frame c.next)) ≡ c.k = length-take-le c.k (reply_frame c.next) (omega (arith, c.less)) in
        let said_length : length r.said ≡ length (replies_text c.whole) + c.k =
        omega (arith, ap length said_is, length-append (replies_text c.whole) (take c.k (reply_frame c.next)), part) in
        let text_length : length (replies_text rs) ≡ length (replies_text c.whole) + length (replies_text (c.next ∷ c.more)) =
        ap length (ap replies_text c.parts ∙ flat_map-append reply_frame c.whole (c.next ∷ c.more)) ∙ length-append (replies_text c.whole) (replies_text (c.next ∷ c.more)) in
        let left : length (replies_text (c.next ∷ c.more)) ≡ c.k + length lost.waiting = omega (arith, count, said_length, text_length) in (
          record { bodies = r.replies.bodies; whole = c.whole; others = c.next ∷ c.more; part = lost.unread; cut = take c.k (reply_frame c.next) },
          record {
            short = r.replies.short;
            read = subst (λ (l : List ℕ). Consumes before.input after.input l) heard_is r.input;
            chain = subst (λ (l : List Reply). Answered (AnswersBody calls) before.pass r.replies.bodies l after.pass) c.parts r.replies.chain;
            fits = subst (AllByRecursion FitsReply) c.parts r.replies.fits;
            written = subst (λ (l : List ℕ). Appends before.output after.output l) said_is r.output;
          },
          (c.next, c.more, c.k, refl, c.less, refl, may_wait c.whole c.next c.more c.k c.parts c.less left r.waits),
        )
      where
        may_wait : (whole : List Reply) (next : Reply) (more : List Reply) (k : ℕ) → r.replies.replies ≡ whole ++ next ∷ more → k < length (reply_frame next)
            → length (replies_text (next ∷ more)) ≡ k + length lost.waiting → WaitsFirst (middle [] []) r.heard r.said r.replies.replies lost → MayWait (next ∷ more)
        may_wait whole next more k parts less left (inl (heard, none, few)) = absurd (omega (arith, some, few))
        may_wait whole next more k parts less left (inr (then, is, w)) =
            from_the_cut w.front w.last whole next more k (sym w.parts ∙ parts) less (omega (arith, left, w.within)) w.few

    -- it is over, and no reply and no byte is left
    pub over : lost ≡ middle [] [] → IsAtEnd after.input → Came calls before after (Ok rests.Over)
    over is end = (_, (all_told, talks_whole (ap (λ (m : Middle). m.waiting) is), refl, (refl, refl), ap (λ (m : Middle). m.unread) is), end)

    -- it ended for this cause
    pub ended : (cause : Cause) → Ends cause (lost.waiting ≡ []) (0 < length lost.waiting) lost.unread after.input → Came calls before after (Err cause)
    ended causes.Short (none, some, cut, end) = (_, (all_told, talks_whole none, refl, ((refl, refl), some, cut, end), tt))
    ended causes.TooLong (none, end) = (_, (all_told, talks_whole none, refl, ((refl, refl), end), tt))
    ended causes.Read (none, end) = (_, (all_told, talks_whole none, refl, ((refl, refl), end), tt))
    ended causes.NoMemory (none, end) = (_, (all_told, talks_whole none, refl, ((refl, refl), end), tt))
    ended causes.Write some = let t = talks_cut some in (_, (t.0, t.1, refl, t.2, tt))

  pub all_turns : TurnsAreAConversation calls
  all_turns before now after more kept new (Ok rests.Again) goes last = tt
  all_turns before now after more kept new (Ok rests.Input) goes last = tt
  all_turns before now after more kept new (Ok rests.Output) goes last = tt
  all_turns before now after more kept new (Ok rests.Over) goes (turn, is, end) =
      let r = resumes_then calls before now after (middle [] []) kept new (goes_as_one before before now more (middle [] []) (middle [] []) kept (begun before (middle [] [])) goes) turn in
      over before after new r is end
  all_turns before now after more kept new (Err cause) goes (lost, turn, end) =
      ended before after lost (resumes_then calls before now after (middle [] []) kept lost
      (goes_as_one before before now more (middle [] []) (middle [] []) kept (begun before (middle [] [])) goes) turn) cause end
