-- Frames that are answered, and their replies, which wait.
use Rattle.std.specs.Io.KnownBytes.{Consumes}
use Rattle.std.proofs.Common.{◌≡◌, ℕ, ◌+◌, ◌-◌, ◌<◌, ◌≤◌, true, List, [], ◌∷◌, ◌++◌, length, take, drop, take-add, Option, Result, Ok, Err, refl, sym, ap, ap₂, subst, ◌∙◌, append_assoc, append-nil, arith}
use Rattle.std.proofs.lemmas.List.{length-append, take-append-drop, take_rest}
use Rattle.std.proofs.lemmas.Grind.{flat_map-append}
use Rattle.pl_block.specs.Faults.{Returns}
use Rattle.pl_block.specs.declared.fault.Failed.{Failed}
use Rattle.pl_block.specs.declared.fault.Failed.TheVariants.{NoMemory}
use Rattle.pl_table.specs.Requests.Request.{Query}
use Rattle.pl_core.specs.declared.reply.Reply.{Reply}
use Rattle.pl_core.specs.Reply.{FitsReply}
use Rattle.pl_wire.specs.FrameReading.{StopsFrame}
use Rattle.pl_wire.specs.Frames.{frame, longest_request}
use Rattle.pl_wire.specs.FrameWriting.{reply_frame}
use Rattle.pl_wire.specs.Reading.{MayLackMemory, request_reading}
use Rattle.pl_wire.specs.declared.fault.WireFault.{WireFault}
use Rattle.pl_wire.specs.declared.frame_reading.FrameFault.{FrameFault}
use Rattle.pl_wire.specs.Answering.{AnswersBody, AnswersRead, Calls}
use Rattle.pl_conn.specs.Conversation.{MayWait, cause_of, replies_text}
use Rattle.pl_conn.specs.Gathering.{Box, Gathers, HoldsReplies, MayGather, TakesFrame, emptied, gathered}
use Rattle.pl_conn.specs.Resting.{Replies, middle}
use Rattle.pl_conn.proofs.Reading.{answers_body}
use Rattle.pl_conn.proofs.Talking.{all_but_last, all_then, answered_then, joined, map_more}

-- no replies wait in an empty box
pub holds_none : HoldsReplies emptied []
holds_none = record { text = refl; lens = refl; few = omega arith }

-- one more waits
holds_more : (box : Box) (front : List Reply) (reply : Reply) → length box.text < 262144 → HoldsReplies box front → HoldsReplies (gathered box reply) (front ++ reply ∷ [])
holds_more box front reply less h = record {
  text = ap (λ (l : List ℕ). l ++ reply_frame reply) h.text ∙ sym (joined reply_frame front reply);
  lens = ap (λ (l : List ℕ). l ++ length (reply_frame reply) ∷ []) h.lens ∙ sym (map_more (λ r. length (reply_frame r)) front reply);
  few = subst (λ (l : List ℕ). length l < 262144) (h.text ∙ ap replies_text (sym (all_but_last front reply))) less;
}

-- there is one more than before
pub one_waits : (box left : Box) (reply : Reply) → left ≡ gathered box reply → length left.lens ≡ length box.lens + 1
one_waits box left reply waits = ap (λ (b : Box). length b.lens) waits ∙ length-append box.lens (length (reply_frame reply) ∷ [])

module _ {P : Type 0} (calls : Calls P) where
  -- nothing is answered
  pub gathers_none : (p : P) (box : Box) → Gathers calls p [] box p box
  gathers_none p box = record {
    bodies = [];
    replies = [];
    short = tt;
    fits = tt;
    read = refl;
    chain = refl;
    waits = λ front h. subst (HoldsReplies box) (sym (append-nil front)) h;
  }

  -- some frames are answered, and then some more
  pub gathers_then : (p q r : P) (xs ys : List ℕ) (a b c : Box) → Gathers calls p xs a q b → Gathers calls q ys b r c → Gathers calls p (xs ++ ys) a r c
  gathers_then p q r xs ys a b c first then = record {
    bodies = first.bodies ++ then.bodies;
    replies = first.replies ++ then.replies;
    short = all_then _ first.bodies then.bodies first.short then.short;
    fits = all_then _ first.replies then.replies first.fits then.fits;
    read = ap₂ (λ (k l : List ℕ). k ++ l) first.read then.read ∙ sym (flat_map-append frame first.bodies then.bodies);
    chain = answered_then (AnswersBody calls) p q r first.bodies then.bodies first.replies then.replies first.chain then.chain;
    waits = λ front h. subst (HoldsReplies c) (append_assoc front first.replies then.replies) (then.waits (front ++ first.replies) (first.waits front h));
  }

  -- a frame is answered
  pub one_gathered : (p q : P) (bytes body : List ℕ) (box left : Box) (reply : Reply) (read : Result Query (Failed WireFault))
      → length body ≤ longest_request → bytes ≡ frame body → Returns read (request_reading body) → (read ≡ Err NoMemory → MayLackMemory body)
      → AnswersRead calls read p reply q → FitsReply reply → MayGather box → left ≡ gathered box reply → Gathers calls p bytes box q left
  one_gathered p q bytes body box left reply read short whole exact lacks answers fits room waits = record {
    bodies = body ∷ [];
    replies = reply ∷ [];
    short = (short, tt);
    fits = (fits, tt);
    read = whole ∙ sym (append-nil (frame body));
    chain = (q, answers_body calls body read p q reply exact lacks answers, refl);
    waits = λ front h. subst (λ (b : Box). HoldsReplies b (front ++ reply ∷ [])) (sym waits) (holds_more box front reply room.0 h);
  }

  -- frames after those that are answered
  pub more_gathered : (p q r : P) (bytes : List ℕ) (n m : ℕ) (a b c : Box) → Gathers calls p (take n bytes) a q b
      → Gathers calls q (take m (take (length bytes - n) (drop n bytes))) b r c → Gathers calls p (take (n + m) bytes) a r c
  more_gathered p q r bytes n m a b c first second =
      let rest = subst (λ (l : List ℕ). Gathers calls q (take m l) b r c) (take_rest bytes n) second in
      subst (λ (l : List ℕ). Gathers calls p l a r c) (sym (take-add n m bytes))
      (gathers_then p q r (take n bytes) (take m (drop n bytes)) a b c first rest)

  -- the frames that some bytes begin with are answered
  pub replies_of : (p q : P) (bytes : List ℕ) (n : ℕ) (none box : Box) → none ≡ emptied → Gathers calls p (take n bytes) none q box
      → Replies calls p (middle bytes []) q (middle (drop n bytes) box.text)
  replies_of p q bytes n none box is g = record {
    bodies = g.bodies;
    replies = g.replies;
    short = g.short;
    fits = g.fits;
    read = sym (take-append-drop n bytes) ∙ ap (λ (l : List ℕ). l ++ drop n bytes) g.read;
    chain = g.chain;
    told = let h = g.waits [] (subst (λ (b : Box). HoldsReplies b []) (sym is) holds_none) in h.text;
  }

  -- and their replies may wait together
  pub waits_alone : (p q : P) (bytes : List ℕ) (n : ℕ) (none box : Box) (is : none ≡ emptied) (g : Gathers calls p (take n bytes) none q box)
      → MayWait (replies_of p q bytes n none box is g).replies
  unfolding replies_of
  waits_alone p q bytes n none box is g = let h = g.waits [] (subst (λ (b : Box). HoldsReplies b []) (sym is) holds_none) in h.few

  -- the next frame is taken where it lies
  pub takes_buffered : (a b : Option (List ℕ)) (p q : P) (bytes : List ℕ) (box left : Box) → Consumes a b bytes → Gathers calls p bytes box q left
      → TakesFrame calls a p box b q left (Ok true)
  takes_buffered a b p q bytes box left reads g = (bytes, reads, g)

  -- the next frame is read by itself
  pub takes_read : (a b : Option (List ℕ)) (p same q : P) (body : List ℕ) (box kept left : Box) (reply : Reply) (read : Result Query (Failed WireFault))
      → same ≡ p → kept ≡ box → length body ≤ longest_request → Consumes a b (frame body) → Returns read (request_reading body)
      → (read ≡ Err NoMemory → MayLackMemory body) → AnswersRead calls read same reply q → FitsReply reply → MayGather kept → left ≡ gathered kept reply
      → TakesFrame calls a p box b q left (Ok true)
  takes_read a b p same q body box kept left reply read is there short reads exact lacks answers fits room waits = (
    frame body,
    reads,
    subst (λ (x : P). Gathers calls x (frame body) box q left) is (subst (λ (x : Box). Gathers calls same (frame body) x q left) there
        (one_gathered same q (frame body) body kept left reply read short refl exact lacks answers fits room waits)),
  )

  -- there is no frame
  pub takes_fault : (a b : Option (List ℕ)) (p q : P) (box left : Box) (fault : FrameFault) → q ≡ p → StopsFrame longest_request a b fault
      → TakesFrame calls a p box b q left (Err (cause_of fault))
  takes_fault a b p q box left fault same stops = (same, (fault, refl, stops))
