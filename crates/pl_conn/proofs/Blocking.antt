-- The turns of a conversation that waits for its reader and its writer.
use Rattle.std.proofs.Common.{◌≡◌, ℕ, ◌+◌, ◌-◌, ◌^◌, ◌<◌, ◌≤◌, true, List, [], ◌∷◌, ◌++◌, length, take, Option, Result, Ok, Err, refl, sym, ap, subst, ◌∙◌, append_assoc, append-nil, inl, inr, arith}
use Rattle.std.specs.Io.KnownBytes.{Appends, Consumes, IsAtEnd}
use Rattle.std.specs.Int.{w32, to_be_bytes}
use Rattle.std.specs.List.{AllByRecursion}
use Rattle.std.proofs.KnownBytes.{Appends-nil, Appends-trans, Consumes-nil, Consumes-trans}
use Rattle.std.proofs.lemmas.List.{length-append, length-map, take_all}
use Rattle.std.proofs.lemmas.Grind.{flat_map-append}
use Rattle.pl_core.specs.declared.reply.Reply.{Reply}
use Rattle.pl_core.specs.Reply.{FitsReply}
use Rattle.pl_wire.specs.FrameReading.{IsCut, StopsFrame}
use Rattle.std.proofs.lemmas.Nat.{from_be_bytes-to_be_bytes_4}
use Rattle.pl_wire.specs.Frames.{frame, frames_of, longest_request}
use Rattle.pl_wire.specs.FrameWriting.{reply_frame}
use Rattle.pl_wire.specs.declared.frame_reading.FrameFault.{FrameFault}
use Rattle.pl_wire.specs.declared.frame_reading.FrameFault.TheVariants as frame_faults
use Rattle.pl_wire.specs.Answering.{Answered, AnswersBody, Calls}
use Rattle.pl_conn.specs.Conversation.{Converses, IsTooLong, MayWait, Scene, Talk, Talks, cause_of, scene, replies_text}
use Rattle.pl_conn.specs.Gathering.{Box, Gathers, TakesFrame, Told, Turns, emptied, reported_talk, whole_in}
use Rattle.pl_conn.specs.declared.cause.Cause.{Cause}
use Rattle.pl_conn.specs.declared.cause.Cause.TheVariants as causes
use Rattle.pl_conn.specs.declared.cause.ConnFault.{ConnFault}
use Rattle.pl_conn.proofs.Gathered.{gathers_then, holds_none}
use Rattle.pl_conn.proofs.Talking.{all_then, answered_then, cut_text, fewer_after}

-- the talk, and these bodies and replies before it
abbrev later : List (List ℕ) → List Reply → Talk → Talk
later bodies replies talk = record { bodies = bodies ++ talk.bodies; whole = replies ++ talk.whole; others = talk.others; part = talk.part; cut = talk.cut }

-- a length that is too long
told_long : (len : ℕ) → longest_request < len → len < 2 ^ 32 → IsTooLong (to_be_bytes w32 len)
told_long len above fits = (omega arith, omega (arith, above, from_be_bytes-to_be_bytes_4 len fits))

-- a length, and nothing after it
cut_at_length : (len : ℕ) → 0 < len → len ≤ longest_request → IsCut longest_request (to_be_bytes w32 len)
cut_at_length len some within = inr (len, [], within, some, sym (append-nil (to_be_bytes w32 len)))

module _ {P : Type 0} (calls : Calls P) where
  -- nothing is read
  pub told_none : (input left output : Option (List ℕ)) (p : P) → Consumes input left [] → Told calls (scene input output p) (scene left output p) 0
  told_none input left output p reads = record {
    bodies = [];
    replies = [];
    talks = record { short = tt; read = reads; chain = refl; fits = tt; written = Appends-nil output };
    number = refl;
  }

  -- there is no memory to begin with
  pub converses_none : (input output : Option (List ℕ)) (p : P) → Converses calls (scene input output p) (scene input output p) (Err (record { cause = causes.NoMemory; answered = 0 }))
  converses_none input output p = (
    reported_talk [] [],
    record { short = tt; read = Consumes-nil input; chain = refl; fits = tt; written = Appends-nil output },
    refl,
    ((refl, refl), inl (omega arith)),
    inl (inl (omega arith)),
  )

  -- what was said goes on
  talks_after : (before now after : Scene P) (bodies : List (List ℕ)) (replies : List Reply) (talk : Talk)
      → Talks calls before now (reported_talk bodies replies) → Talks calls now after talk → Talks calls before after (later bodies replies talk)
  talks_after before now after bodies replies talk s t =
      let read = rw (append-nil (frames_of bodies)) at s.read in
      let chain = rw (append-nil replies) at s.chain in
      let fits = rw (append-nil replies) at s.fits in
      let written = rw (append-nil (replies_text replies)) at s.written in
      record {
        short = all_then _ bodies talk.bodies s.short t.short;
        read = subst (λ (l : List ℕ). Consumes before.input after.input l)
            (sym (append_assoc (frames_of bodies) (frames_of talk.bodies) talk.part) ∙ ap (λ (l : List ℕ). l ++ talk.part) (sym (flat_map-append frame bodies talk.bodies)))
            (Consumes-trans before.input now.input after.input (frames_of bodies) (frames_of talk.bodies ++ talk.part) read t.read);
        chain = subst (λ (rs : List Reply). Answered (AnswersBody calls) before.pass (bodies ++ talk.bodies) rs after.pass) (sym (append_assoc replies talk.whole talk.others))
            (answered_then (AnswersBody calls) before.pass now.pass after.pass bodies talk.bodies replies (talk.whole ++ talk.others) chain t.chain);
        fits = subst (AllByRecursion FitsReply) (sym (append_assoc replies talk.whole talk.others)) (all_then _ replies (talk.whole ++ talk.others) fits t.fits);
        written = subst (λ (l : List ℕ). Appends before.output after.output l)
            (sym (append_assoc (replies_text replies) (replies_text talk.whole) talk.cut) ∙ ap (λ (l : List ℕ). l ++ talk.cut) (sym (flat_map-append reply_frame replies talk.whole)))
            (Appends-trans before.output now.output after.output (replies_text replies) (replies_text talk.whole ++ talk.cut) written t.written);
      }

  counted : (xs ys : List Reply) (n m : ℕ) → length xs ≡ n → length ys ≡ m → length (xs ++ ys) ≡ n + m
  counted xs ys n m first then = omega (arith, length-append xs ys, first, then)

  pub told_more : (before now after : Scene P) (n m : ℕ) → Told calls before now n → Told calls now after m → Told calls before after (n + m)
  told_more before now after n m s t = record {
    bodies = s.bodies ++ t.bodies;
    replies = s.replies ++ t.replies;
    talks = talks_after before now after s.bodies s.replies (reported_talk t.bodies t.replies) s.talks t.talks;
    number = counted s.replies t.replies n m s.number t.number;
  }

  -- and comes to a fault
  pub told_then : (before now after : Scene P) (n : ℕ) (fault : ConnFault) → Told calls before now n → Converses calls now after (Err fault)
      → Converses calls before after (Err (record { cause = fault.cause; answered = n + fault.answered }))
  told_then before now after n fault s t = (
    later s.bodies s.replies t.0,
    talks_after before now after s.bodies s.replies t.0 s.talks t.1,
    counted s.replies t.0.whole n fault.answered s.number t.2,
    t.3,
    t.4,
  )

  -- or to the end of input
  pub told_end : (before now after : Scene P) (n : ℕ) → n ≤ 2 ^ 32 → Told calls before now n → Turns calls now after (Ok 0) → Converses calls before after (Ok n)
  told_end before now after n few s t =
      let same : n + 0 ≡ n = omega arith in
      let all = subst (λ (k : ℕ). Told calls before after k) same (told_more before now after n 0 s t.0) in
      ((reported_talk all.bodies all.replies, all.talks, all.number, (refl, refl), refl), few, λ less. t.1 refl)

  -- or to the most frames
  pub told_full : (before now : Scene P) (n : ℕ) → n ≤ 2 ^ 32 → 2 ^ 32 ≤ n → Told calls before now n → Converses calls before now (Ok n)
  told_full before now n few full t = ((reported_talk t.bodies t.replies, t.talks, t.number, (refl, refl), refl), few, λ less. absurd (omega (arith, less, full)))

  -- there is no frame
  pub stopped : (input left output : Option (List ℕ)) (p : P) (fault : FrameFault) → StopsFrame longest_request input left fault
      → Converses calls (scene input output p) (scene left output p) (Err (record { cause = cause_of fault; answered = 0 }))
  stopped input left output p fault stops = by fault stops
    where
      read_on : (bytes : List ℕ) → Consumes input left bytes → Talks calls (scene input output p) (scene left output p) (record { bodies = []; whole = []; others = []; part = bytes; cut = [] })
      read_on bytes reads = record { short = tt; read = reads; chain = refl; fits = tt; written = Appends-nil output }

      by : (fault : FrameFault) → StopsFrame longest_request input left fault → Converses calls (scene input output p) (scene left output p) (Err (record { cause = cause_of fault; answered = 0 }))
      by frame_faults.Short (bytes, some, cut, reads, end) = (_, read_on bytes reads, refl, ((refl, refl), some, cut, end), inl cut)
      by frame_faults.TooLong (len, above, fits, reads) = (_, read_on (to_be_bytes w32 len) reads, refl, ((refl, refl), told_long len above fits), inr (len, above, fits, refl))
      by frame_faults.Io (bytes, cut, reads) = (_, read_on bytes reads, refl, ((refl, refl), cut), inl cut)
      by frame_faults.NoMemory (len, some, within, reads) =
          let cut = cut_at_length len some within in (_, read_on (to_be_bytes w32 len) reads, refl, ((refl, refl), cut), inl cut)

  module _ (input left output out : Option (List ℕ)) (p q : P) (bytes : List ℕ) (box : Box) (reads : Consumes input left bytes) (g : Gathers calls p bytes emptied q box) where
    -- frames are answered, and all replies are written
    pub spoken : Appends output out box.text → Told calls (scene input output p) (scene left out q) (length box.lens)
    spoken writes = let h = g.waits [] holds_none in record {
      bodies = g.bodies;
      replies = g.replies;
      talks = record {
        short = g.short;
        read = subst (λ (l : List ℕ). Consumes input left l) (g.read ∙ sym (append-nil (frames_of g.bodies))) reads;
        chain = subst (λ (rs : List Reply). Answered (AnswersBody calls) p g.bodies rs q) (sym (append-nil g.replies)) g.chain;
        fits = subst (AllByRecursion FitsReply) (sym (append-nil g.replies)) g.fits;
        written = subst (λ (l : List ℕ). Appends output out l) (h.text ∙ sym (append-nil (replies_text g.replies))) writes;
      };
      number = sym (length-map g.replies (λ r. length (reply_frame r))) ∙ ap length (sym h.lens);
    }

    -- a write fails: a beginning of the replies is written
    pub cut_short : (n : ℕ) → n < length box.text → Appends output out (take n box.text)
        → Converses calls (scene input output p) (scene left out q) (Err (record { cause = causes.Write; answered = whole_in box.lens n }))
    cut_short n less writes =
        let h = g.waits [] holds_none in
        let c = cut_text g.replies n (subst (λ (l : List ℕ). n < length l) h.text less) in (
          record { bodies = g.bodies; whole = c.whole; others = c.next ∷ c.more; part = []; cut = take c.k (reply_frame c.next) },
          record {
            short = g.short;
            read = subst (λ (l : List ℕ). Consumes input left l) (g.read ∙ sym (append-nil (frames_of g.bodies))) reads;
            chain = subst (λ (rs : List Reply). Answered (AnswersBody calls) p g.bodies rs q) c.parts g.chain;
            fits = subst (AllByRecursion FitsReply) c.parts g.fits;
            written = subst (λ (l : List ℕ). Appends output out l) (ap (take n) h.text ∙ c.text) writes;
          },
          c.number ∙ ap (λ (l : List ℕ). whole_in l n) (sym h.lens),
          (c.next, c.more, c.k, refl, c.less, refl, fewer_after c.whole (c.next ∷ c.more) (subst MayWait c.parts h.few)),
          inl (inl (omega arith)),
        )

  -- a turn at whose start there is no frame
  pub turn_stops : (a b output : Option (List ℕ)) (p q : P) (cause : Cause)
      → (q ≡ p) × ((fault : FrameFault) × (cause ≡ cause_of fault) × StopsFrame longest_request a b fault)
      → Turns calls (scene a output p) (scene b output q) (Err (record { cause = cause; answered = 0 }))
  turn_stops a b output p q cause (same, (fault, is, stops)) =
      subst (λ (x : P). Converses calls (scene a output p) (scene b output x) (Err (record { cause = cause; answered = 0 }))) (sym same)
      (subst (λ (x : Cause). Converses calls (scene a output p) (scene b output p) (Err (record { cause = x; answered = 0 }))) (sym is) (stopped a b output p fault stops))

  -- a turn at the end of input
  pub turn_ends : (a b output : Option (List ℕ)) (p q : P) → (q ≡ p) × Consumes a b [] × IsAtEnd b → Turns calls (scene a output p) (scene b output q) (Ok 0)
  turn_ends a b output p q (same, reads, end) =
      (subst (λ (x : P). Told calls (scene a output p) (scene b output x) 0) (sym same) (told_none a b output p reads), λ none. end)

  module _ (a b c output out : Option (List ℕ)) (p q r : P) (box left last : Box) (ys : List ℕ) (n : ℕ) (is : box ≡ emptied)
      (takes : TakesFrame calls a p box b q left (Ok true)) (g : Gathers calls q ys left r last) (reads : Consumes b c ys) (writes : Appends output out (take n last.text)) where
    all : (bytes : List ℕ) × Consumes a c bytes × Gathers calls p bytes emptied r last
    all = (
      takes.0 ++ ys,
      Consumes-trans a b c takes.0 ys takes.1 reads,
      gathers_then calls p q r takes.0 ys emptied left last (subst (λ (x : Box). Gathers calls p takes.0 x q left) is takes.2) g,
    )

    -- a turn whose replies are written
    pub turn_tells : 0 < length last.lens → length last.text ≤ n → Turns calls (scene a output p) (scene c out r) (Ok (length last.lens))
    turn_tells some past = (
      spoken a c output out p r all.0 last all.1 all.2 (subst (λ (l : List ℕ). Appends output out l) (take_all n last.text past) writes),
      λ none. absurd (omega (arith, some, none)),
    )

    -- a turn whose write fails
    pub turn_cut : (answered : ℕ) → answered ≡ whole_in last.lens n → n < length last.text
        → Turns calls (scene a output p) (scene c out r) (Err (record { cause = causes.Write; answered = answered }))
    turn_cut answered whole less =
        subst (λ (k : ℕ). Converses calls (scene a output p) (scene c out r) (Err (record { cause = causes.Write; answered = k }))) (sym whole)
        (cut_short a c output out p r all.0 last all.1 all.2 n less writes)
