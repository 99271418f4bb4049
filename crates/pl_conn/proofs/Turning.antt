-- A turn of a conversation that rests: bytes are heard, frames answered, replies written, and the rest kept.
use Rattle.std.proofs.Common.{◌≡◌, ℕ, zero, suc, ◌+◌, ◌-◌, ◌*◌, ◌^◌, ◌<◌, ◌≤◌, List, [], ◌∷◌, ◌++◌, length, take, drop, Option, Result, Ok, Err, refl, sym, ap, ap₂, subst, ◌∙◌, append_assoc, append-nil, drop-drop, take-add, inl, inr, arith, le_refl}
use Rattle.std.specs.Prelude.{◌⊎◌, ◌==◌, Bool, true, false, is_err, is_ok, IfErr, OnErr, OnOk}
use Rattle.std.proofs.lemmas.List.{take-append-drop, take_rest, drop_all, length-append, length-drop}
use Rattle.std.proofs.lemmas.Nat.{from_be_bytes-to_be_bytes_4}
use Rattle.std.specs.Int.{w32, from_be_bytes}
use Rattle.std.proofs.lemmas.Bool.{eqb-true, eqb-false}
use Rattle.std.proofs.lemmas.Grind.{flat_map-append}
use Rattle.std.proofs.lemmas.Slice.{take-put_mid_below}
use Rattle.std.specs.Io.KnownBytes.{Appends, Consumes, IsAtEnd, Keeps, ReadConsumes}
use Rattle.std.proofs.KnownBytes.{Appends-nil, Appends-trans, Consumes-nil, Consumes-trans, Consumes-kept}
use borrow.Rule.Slice.PartMut.{put_mid}
use Rattle.pl_wire.specs.Frames.{frame, frames_of, longest_request}
use Rattle.pl_wire.specs.FrameWriting.{reply_frame}
use Rattle.pl_core.specs.declared.reply.Reply.{Reply}
use Rattle.pl_wire.specs.Answering.{AnswersBody, Calls}
use Rattle.pl_conn.specs.Conversation.{IsTooLong, Scene, scene, replies_text}
use Rattle.pl_conn.specs.Gathering.{Box, Gathers, emptied}
use Rattle.pl_conn.proofs.Gathered.{gathers_then, replies_of, waits_alone}
use Rattle.pl_conn.specs.Resting.{HasFrame, Hears, Middle, Replies, Rests, Resumes, Speaks, Tells, WaitsFirst, WaitsOf, middle}
use Rattle.pl_conn.specs.Serving.{Reaches}
use Rattle.pl_conn.specs.declared.cause.Cause.{Cause}
use Rattle.pl_conn.specs.declared.cause.Cause.TheVariants as causes
use Rattle.pl_wire.specs.FrameReading.{IsCut, IsDecided, LacksFrame, length_at}
use Rattle.pl_conn.specs.declared.conversation.Rest.{Rest}
use Rattle.pl_conn.specs.declared.conversation.Rest.TheVariants as rests
use Rattle.pl_conn.proofs.Filling.{later}
use Rattle.pl_conn.proofs.Reaching.{by_answers}
use Rattle.pl_conn.proofs.Talking.{all_then, answered_then}

-- a read puts bytes after those that wait
pub heard_after : (a b : Option (List ℕ)) (at k n : ℕ) (xs ys : List ℕ) → at ≤ length xs → n ≤ length ys → Consumes a b (take n ys)
    → Hears a (take at xs) b (take (at + n) (put_mid at k xs ys))
heard_after a b at k n xs ys within fits reads = (take n ys, reads, sym (later at k n xs ys within fits))

kept_of : (a b : Option (List ℕ)) → Keeps a b → Consumes a b []
kept_of a b kept = Consumes-kept a a b [] (Consumes-nil a) kept

-- a read that fails leaves them
pub heard_none : {E : Type 0} (r : Result ℕ E) (a b : Option (List ℕ)) (at k : ℕ) (xs ys : List ℕ) → at ≤ length xs → ReadConsumes a b r ys
    → OnErr r (Hears a (take at xs) b (take at (put_mid at k xs ys)))
heard_none (Ok n) a b at k xs ys within reads = tt
heard_none (Err e) a b at k xs ys within reads =
    ([], kept_of a b reads, take-put_mid_below _ _ _ _ _ (le_refl _) within ∙ sym (append-nil (take at xs)))

-- a test of a result, and a clause of it
pub on_ok : {A E : Type 0} (r : Result A E) (Q : Type 0) → OnOk r Q → is_ok r ≡ true → Q
on_ok (Ok a) Q holds told = holds
on_ok (Err e) Q holds told = cc

pub on_err : {A E : Type 0} (r : Result A E) (Q : Type 0) → OnErr r Q → is_err r ≡ true → Q
on_err (Ok a) Q holds told = cc
on_err (Err e) Q holds told = holds

-- what was heard comes after what was there
pub heard_more : (a b : Option (List ℕ)) (old new : List ℕ) → Hears a old b new → length old ≤ length new
heard_more a b old new h = omega (arith, ap length h.2, length-append old h.0)

-- if nothing waits, all was said
pub unless_waiting : {X : Type 0} (n : ℕ) (text : List ℕ) → (n < length text) ⊎ X → length (drop n text) ≡ 0 → X
unless_waiting n text (inl less) none = absurd (omega (arith, less, none, length-drop n text))
unless_waiting n text (inr x) none = x

pub drop_some : (n : ℕ) (xs : List ℕ) → n < length xs → 0 < length (drop n xs)
drop_some n xs less = omega (arith, less, length-drop n xs)

pub none_left : (xs : List ℕ) → length xs ≡ 0 → xs ≡ []
none_left [] none = refl
none_left (x ∷ xs) none = absurd (omega (arith, none))

-- what begins with a length that is too long, and what lacks a frame
pub too_long : (bytes : List ℕ) → IsDecided longest_request bytes → LacksFrame longest_request bytes → IsTooLong bytes
too_long bytes (long, inl above) lacks = (long, above)
too_long bytes (long, inr whole) (inl less) = absurd (omega (arith, long, less))
too_long bytes (long, inr whole) (inr (inl above)) = (long, above)
too_long bytes (long, inr whole) (inr (inr less)) = absurd (omega (arith, whole, less))

-- a beginning of a frame is undecided
pub cut_undecided : (bytes : List ℕ) → IsCut longest_request bytes → IsDecided longest_request bytes → ⊥
cut_undecided bytes (inl less) (long, told) = omega (arith, less, long)
cut_undecided bytes (inr (len, part, within, less, is)) (long, told) =
    let fits : len < 2 ^ 32 = omega (arith, within) in
    let at_len : length_at bytes ≡ len = ap (λ (l : List ℕ). from_be_bytes w32 (take 4 l)) is ∙ from_be_bytes-to_be_bytes_4 len fits in
    let count : length bytes ≡ 4 + length part = omega (arith, ap length is) in by told at_len count
  where
    by : (longest_request < length_at bytes) ⊎ (4 + length_at bytes ≤ length bytes) → length_at bytes ≡ len → length bytes ≡ 4 + length part → ⊥
    by (inl above) at_len count = omega (arith, above, at_len, within)
    by (inr whole) at_len count = omega (arith, whole, at_len, count, less)

-- the length that a whole frame begins with
length_of_frame : (bytes body : List ℕ) → length body ≤ longest_request → 4 + length body ≤ length bytes → take (4 + length body) bytes ≡ frame body → length_at bytes ≡ length body
length_of_frame [] body short long is = absurd (omega (arith, long))
length_of_frame (a ∷ []) body short long is = absurd (omega (arith, long))
length_of_frame (a ∷ b ∷ []) body short long is = absurd (omega (arith, long))
length_of_frame (a ∷ b ∷ c ∷ []) body short long is = absurd (omega (arith, long))
length_of_frame (a ∷ b ∷ c ∷ d ∷ bytes) body short long is =
    let fits : length body < 2 ^ 32 = omega (arith, short) in
    let four : 4 + length body ≡ suc (suc (suc (suc (length body)))) = omega arith in
    let same = subst (λ (n : ℕ). take n (a ∷ b ∷ c ∷ d ∷ bytes) ≡ frame body) four is in
    ap (λ (l : List ℕ). from_be_bytes w32 (take 4 l)) same ∙ from_be_bytes-to_be_bytes_4 (length body) fits

pub whole_lacks : (bytes : List ℕ) → HasFrame bytes → LacksFrame longest_request bytes → ⊥
whole_lacks bytes (body, short, long, is) (inl less) = omega (arith, long, less)
whole_lacks bytes (body, short, long, is) (inr (inl above)) = omega (arith, short, above, length_of_frame bytes body short long is)
whole_lacks bytes (body, short, long, is) (inr (inr less)) = omega (arith, long, less, length_of_frame bytes body short long is)

-- a turn after which another is due heard a byte, or took one
pub moves_on : {E : Type 0} (old bytes unread : List ℕ) (taken : ℕ) → unread ≡ drop taken bytes → length old ≤ length bytes
    → (E → (length old < length bytes) ⊎ IsDecided longest_request bytes) → HasFrame unread ⊎ (E × IsCut longest_request unread)
    → (4 * 4 ≤ taken) ⊎ LacksFrame longest_request (drop taken bytes) → length old < length bytes + taken
moves_on old bytes unread taken is more some whole (inl many) = omega (arith, more, many)
moves_on old bytes unread taken is more some (inl whole) (inr lacks) = absurd (whole_lacks unread whole (subst (LacksFrame longest_request) (sym is) lacks))
moves_on old bytes unread (suc n) is more some (inr cut) (inr lacks) = omega (arith, more)
moves_on old bytes unread zero is more some (inr (heard, cut)) (inr lacks) = by (some heard)
  where
    by : (length old < length bytes) ⊎ IsDecided longest_request bytes → length old < length bytes + 0
    by (inl less) = omega (arith, less)
    by (inr decided) = absurd (cut_undecided bytes (subst (IsCut longest_request) is cut) decided)

-- more replies before those of which some wait
waits_before : (before replies : List Reply) (waiting : List ℕ) → WaitsOf replies waiting → WaitsOf (before ++ replies) waiting
waits_before before replies waiting w = record {
  front = before ++ w.front;
  last = w.last;
  parts = ap (λ l. before ++ l) w.parts ∙ sym (append_assoc before w.front w.last);
  few = w.few;
  within = w.within;
}

-- none wait
pub waits_none : (replies : List Reply) → WaitsOf replies []
waits_none replies = record { front = replies; last = []; parts = sym (append-nil replies); few = omega arith; within = omega arith }

-- what waits in two turns, one after the other
waits_then : (a b c : Middle) (h h' s s' : List ℕ) (r r' : List Reply) → s ++ b.waiting ≡ a.waiting ++ replies_text r
    → WaitsFirst a h s r b → WaitsFirst b h' s' r' c → WaitsFirst a (h ++ h') (s ++ s') (r ++ r') c
waits_then a b c h h' s s' r r' told (inl (eh, er, le)) (inl (eh', er', le')) =
    inl (ap₂ (λ (x y : List ℕ). x ++ y) eh eh', ap₂ (λ (x y : List Reply). x ++ y) er er', omega (arith, le, le'))
waits_then a b c h h' s s' r r' told (inl (eh, er, le)) (inr (more, is, w)) = inr (
  more,
  ap (λ l. s ++ l) is ∙ sym (append_assoc s b.waiting more) ∙ ap (λ l. l ++ more) (told ∙ ap (λ rs. a.waiting ++ replies_text rs) er ∙ append-nil a.waiting),
  waits_before r r' c.waiting w,
)
waits_then a b c h h' s s' r r' told (inr (more, is, w)) (inl (eh', er', le')) = inr (
  more ++ s',
  ap (λ l. l ++ s') is ∙ append_assoc a.waiting more s',
  record { front = w.front; last = w.last; parts = ap (λ l. r ++ l) er' ∙ append-nil r ∙ w.parts; few = w.few; within = omega (arith, le', w.within) },
)
waits_then a b c h h' s s' r r' told (inr (more, is, w)) (inr (more', is', w')) =
    inr (more ++ s', ap (λ l. l ++ s') is ∙ append_assoc a.waiting more s', waits_before r r' c.waiting w')

-- a test whether there are none
pub none_empty : (b : Bool) (xs : List ℕ) → b ≡ (length xs == 0) → b ≡ true → xs ≡ []
none_empty b xs is told = none_left xs (eqb-true (length xs) 0 (sym is ∙ told))

pub some_there : (b : Bool) (xs : List ℕ) → b ≡ (length xs == 0) → b ≡ false → 0 < length xs
some_there b [] is told = absurd (eqb-false 0 0 (sym is ∙ told) refl)
some_there b (x ∷ xs) is told = omega arith

-- of bytes that are more, or of which some were taken
moved : (bodies : List (List ℕ)) (heard bytes unread rest : List ℕ) (taken : ℕ) → taken ≤ length bytes → length rest ≡ length bytes - taken
    → bytes ≡ frames_of bodies ++ rest → bytes ≡ unread ++ heard → length unread < length bytes + taken → 0 < length heard + length bodies
moved [] heard bytes unread rest taken within left read hears more =
    omega (arith, within, left, ap length read, ap length hears, length-append unread heard, more)
moved (b ∷ bs) heard bytes unread rest taken within left read hears more = omega arith

module _ {P : Type 0} (calls : Calls P) where
  -- a turn that heard a byte, or answered a frame
  abbrev pub Moves : Scene P → Middle → Scene P → Middle → Type 0
  Moves before old after new = (turn : Resumes calls before old after new) × (0 < length turn.heard + length turn.replies.bodies)

  -- nothing is answered
  pub replies_none : (p : P) (m : Middle) → Replies calls p m p m
  replies_none p m = record { bodies = []; replies = []; short = tt; fits = tt; read = refl; chain = refl; told = sym (append-nil m.waiting) }

  -- some frames are answered, and then some more
  pub replies_then : (p q r : P) (a b c : Middle) → Replies calls p a q b → Replies calls q b r c → Replies calls p a r c
  replies_then p q r a b c first then = record {
    bodies = first.bodies ++ then.bodies;
    replies = first.replies ++ then.replies;
    short = all_then _ first.bodies then.bodies first.short then.short;
    fits = all_then _ first.replies then.replies first.fits then.fits;
    read = first.read ∙ ap (λ l. frames_of first.bodies ++ l) then.read ∙ sym (append_assoc (frames_of first.bodies) (frames_of then.bodies) c.unread)
        ∙ ap (λ l. l ++ c.unread) (sym (flat_map-append frame first.bodies then.bodies));
    chain = answered_then (AnswersBody calls) p q r first.bodies then.bodies first.replies then.replies first.chain then.chain;
    told = then.told ∙ ap (λ l. l ++ replies_text then.replies) first.told ∙ append_assoc a.waiting (replies_text first.replies) (replies_text then.replies)
        ∙ ap (λ l. a.waiting ++ l) (sym (flat_map-append reply_frame first.replies then.replies));
  }

  -- the same after what waited
  replies_after : (p q : P) (bytes rest waits text : List ℕ) → Replies calls p (middle bytes []) q (middle rest text)
      → Replies calls p (middle bytes waits) q (middle rest (waits ++ text))
  replies_after p q bytes rest waits text r = record {
    bodies = r.bodies;
    replies = r.replies;
    short = r.short;
    fits = r.fits;
    read = r.read;
    chain = r.chain;
    told = ap (λ l. waits ++ l) r.told;
  }

  -- frames are answered, and these bytes of their replies wait
  abbrev pub Left : P → Middle → P → Middle → List ℕ → Type 0
  Left p a q b waiting = (r : Replies calls p a q b) × WaitsOf r.replies waiting

  left_then : (p q r : P) (a b c : Middle) (waiting : List ℕ) → Replies calls p a q b → Left q b r c waiting → Left p a r c waiting
  unfolding replies_then
  left_then p q r a b c waiting first then =
      (replies_then p q r a b c first then.0, waits_before first.replies then.0.replies waiting then.1)

  left_after : (p q : P) (bytes rest waits text waiting : List ℕ) → Left p (middle bytes []) q (middle rest text) waiting
      → Left p (middle bytes waits) q (middle rest (waits ++ text)) waiting
  unfolding replies_after
  left_after p q bytes rest waits text waiting r = (replies_after p q bytes rest waits text r.0, r.1)

  -- some of the replies that were gathered wait
  pub left_of : (p q : P) (bytes : List ℕ) (n k : ℕ) (none box : Box) → none ≡ emptied → Gathers calls p (take n bytes) none q box
      → Left p (middle bytes []) q (middle (drop n bytes) box.text) (drop k box.text)
  left_of p q bytes n k none box is g =
      let h = replies_of calls p q bytes n none box is g in
      let f = waits_alone calls p q bytes n none box is g in
      let few : length (drop k box.text) ≤ length (replies_text h.replies) = omega (arith, length-drop k box.text, ap length h.told) in
      (h, record { front = []; last = h.replies; parts = refl; few = f; within = few })

  -- a frame is answered, and then others, and some of their replies wait
  pub round : (p q r : P) (bytes : List ℕ) (n first more k : ℕ) (none one box : Box) → none ≡ emptied
      → Gathers calls p (take first (take (length bytes - n) (drop n bytes))) none q one
      → Gathers calls q (take more (take (length bytes - (n + first)) (drop (n + first) bytes))) one r box
      → Left p (middle (drop n bytes) []) r (middle (drop (first + more) (drop n bytes)) box.text) (drop k box.text)
  round p q r bytes n first more k none one box is g h =
      let front = subst (λ (l : List ℕ). Gathers calls p (take first l) none q one) (take_rest bytes n) g in
      let rest = subst (λ (l : List ℕ). Gathers calls q (take more l) one r box) (take_rest bytes (n + first) ∙ sym (drop-drop first n bytes)) h in
      left_of p r (drop n bytes) (first + more) k none box is
      (subst (λ (l : List ℕ). Gathers calls p l none r box) (sym (take-add first more (drop n bytes)))
      (gathers_then calls p q r (take first (drop n bytes)) (take more (drop first (drop n bytes))) none one box front rest))

  -- nothing is said
  pub speaks_none : (p : P) (a : Option (List ℕ)) (bytes : List ℕ) → Speaks calls p a bytes p a (middle bytes [])
  unfolding replies_none
  speaks_none p a bytes = record { said = []; output = Appends-nil a; replies = replies_none p (middle bytes []); waits = waits_none [] }

  -- all is said, and then more frames are answered, and some bytes of their replies are written
  pub speaks_more : (p q r : P) (a b c : Option (List ℕ)) (bytes : List ℕ) (n m k : ℕ) (text : List ℕ) → Speaks calls p a bytes q b (middle (drop n bytes) [])
      → Left q (middle (drop n bytes) []) r (middle (drop m (drop n bytes)) text) (drop k text) → Appends b c (take k text)
      → Speaks calls p a bytes r c (middle (drop (n + m) bytes) (drop k text))
  speaks_more p q r a b c bytes n m k text s rest writes =
      let all : s.said ++ text ≡ (s.said ++ take k text) ++ drop k text =
      ap (λ l. s.said ++ l) (sym (take-append-drop k text)) ∙ sym (append_assoc s.said (take k text) (drop k text)) in
      let first = subst (λ (l : List ℕ). Replies calls p (middle bytes []) q (middle (drop n bytes) l)) (append-nil s.said) s.replies in
      let both = left_then p q r (middle bytes []) (middle (drop n bytes) s.said) _ (drop k text) first (left_after q r (drop n bytes) (drop m (drop n bytes)) s.said text (drop k text) rest) in
      let last = subst (λ (l : List ℕ). Left p (middle bytes []) r (middle l ((s.said ++ take k text) ++ drop k text)) (drop k text)) (drop-drop m n bytes)
      (subst (λ (l : List ℕ). Left p (middle bytes []) r (middle (drop m (drop n bytes)) l) (drop k text)) all both) in
      record { said = s.said ++ take k text; output = Appends-trans a b c s.said (take k text) s.output writes; replies = last.0; waits = last.1 }

  -- nothing waits
  pub speaks_whole : (p q : P) (a b : Option (List ℕ)) (bytes rest text : List ℕ) → text ≡ [] → Speaks calls p a bytes q b (middle rest text)
      → Speaks calls p a bytes q b (middle rest [])
  speaks_whole p q a b bytes rest text none s = subst (λ (l : List ℕ). Speaks calls p a bytes q b (middle rest l)) none s

  -- all is said, and then more
  pub speaks_then : (p q r : P) (a b c : Option (List ℕ)) (bytes rest : List ℕ) (left : Middle) → Speaks calls p a bytes q b (middle rest [])
      → Speaks calls q b rest r c left → Speaks calls p a bytes r c left
  speaks_then p q r a b c bytes rest left s then =
      let first = subst (λ (l : List ℕ). Replies calls p (middle bytes []) q (middle rest l)) (append-nil s.said) s.replies in
      let both = left_then p q r (middle bytes []) (middle rest s.said) _ left.waiting first
      (left_after q r rest left.unread s.said (then.said ++ left.waiting) left.waiting (then.replies, then.waits)) in
      let last = subst (λ (l : List ℕ). Left p (middle bytes []) r (middle left.unread l) left.waiting) (sym (append_assoc s.said then.said left.waiting)) both in
      record { said = s.said ++ then.said; output = Appends-trans a b c s.said then.said s.output then.output; replies = last.0; waits = last.1 }

  -- all of the replies are written
  pub speaks_all : (p q : P) (a b : Option (List ℕ)) (bytes : List ℕ) (n k : ℕ) (text : List ℕ) → length text ≤ k → Speaks calls p a bytes q b (middle (drop n bytes) (drop k text))
      → Speaks calls p a bytes q b (middle (drop n bytes) [])
  speaks_all p q a b bytes n k text past s = subst (λ (l : List ℕ). Speaks calls p a bytes q b (middle (drop n bytes) l)) (drop_all k text past) s

  module _ (p : P) (input output heard_to wrote : Option (List ℕ)) where
    -- what waited is written, and no more
    pub only_told : (old new : Middle) → Tells output old wrote new → Resumes calls (scene input output p) old (scene input wrote p) new
    only_told old new t = record {
      heard = [];
      said = t.0;
      input = Consumes-nil input;
      output = t.1;
      replies = record {
        bodies = [];
        replies = [];
        short = tt;
        fits = tt;
        read = append-nil old.unread ∙ sym t.3;
        chain = refl;
        told = sym t.2 ∙ sym (append-nil old.waiting);
      };
      waits = inl (refl, refl, omega (arith, ap length t.2, length-append t.0 new.waiting));
    }

    -- what waited is written, all of it, and bytes are heard, and no more
    pub only_heard : (old new : Middle) (bytes : List ℕ) → Tells output old wrote new → new.waiting ≡ [] → Hears input new.unread heard_to bytes
        → Resumes calls (scene input output p) old (scene heard_to wrote p) (middle bytes [])
    only_heard old new bytes t none h = record {
      heard = h.0;
      said = t.0;
      input = h.1;
      output = t.1;
      replies = record {
        bodies = [];
        replies = [];
        short = tt;
        fits = tt;
        read = ap (λ l. l ++ h.0) (sym t.3) ∙ sym h.2;
        chain = refl;
        told = ap (λ l. t.0 ++ l) (sym none) ∙ sym t.2 ∙ sym (append-nil old.waiting);
      };
      waits = inr ([], sym (append-nil old.waiting ∙ t.2 ∙ ap (λ l. t.0 ++ l) none ∙ append-nil t.0), waits_none []);
    }

    -- a whole turn
    pub turned : (q : P) (then : Option (List ℕ)) (old new left : Middle) (bytes : List ℕ)
        → Tells output old wrote new → new.waiting ≡ [] → Hears input new.unread heard_to bytes → Speaks calls p wrote bytes q then left
        → Resumes calls (scene input output p) old (scene heard_to then q) left
    turned q then old new left bytes t none h s =
        let waited : old.waiting ≡ t.0 = t.2 ∙ ap (λ l. t.0 ++ l) none ∙ append-nil t.0 in record {
          heard = h.0;
          said = t.0 ++ s.said;
          input = h.1;
          output = Appends-trans output wrote then t.0 s.said t.1 s.output;
          replies = record {
            bodies = s.replies.bodies;
            replies = s.replies.replies;
            short = s.replies.short;
            fits = s.replies.fits;
            read = ap (λ l. l ++ h.0) (sym t.3) ∙ sym h.2 ∙ s.replies.read;
            chain = s.replies.chain;
            told = append_assoc t.0 s.said left.waiting ∙ ap (λ l. t.0 ++ l) s.replies.told ∙ ap (λ l. l ++ replies_text s.replies.replies) (sym waited);
          };
          waits = inr (s.said, ap (λ l. l ++ s.said) (sym waited), s.waits);
        }

    -- that heard a byte, or answered a frame
    pub turned_on : (q : P) (then : Option (List ℕ)) (old new : Middle) (bytes : List ℕ) (taken : ℕ) (text : List ℕ)
        → Tells output old wrote new → new.waiting ≡ [] → Hears input new.unread heard_to bytes → Speaks calls p wrote bytes q then (middle (drop taken bytes) text)
        → taken ≤ length bytes → length new.unread < length bytes + taken → Moves (scene input output p) old (scene heard_to then q) (middle (drop taken bytes) text)
    unfolding turned
    turned_on q then old new bytes taken text t none h s within more = (
      turned q then old new (middle (drop taken bytes) text) bytes t none h s,
      moved s.replies.bodies h.0 bytes new.unread (drop taken bytes) taken within (length-drop taken bytes) s.replies.read h.2 more,
    )

  -- what is left is kept
  pub kept_as : (before after : Scene P) (old new left : Middle) → Resumes calls before old after left → new ≡ left → Resumes calls before old after new
  kept_as before after old new left r is = subst (λ (m : Middle). Resumes calls before old after m) (sym is) r

  pub moved_as : (before after : Scene P) (old new left : Middle) → Moves before old after left → new ≡ left → Moves before old after new
  moved_as before after old new left r is = subst (λ (m : Middle). Moves before old after m) (sym is) r

  -- what a turn comes to
  pub rested : {E : Type 0} (before after : Scene P) (old new : Middle) (waiting : ℕ) (end : Result Rest Cause)
      → Resumes calls before old after new → length new.waiting ≡ waiting → (E → IsAtEnd after.input)
      → (end ≡ Ok rests.Again → (waiting ≡ 0) × Moves before old after new)
      → (end ≡ Ok rests.Input → (waiting ≡ 0) × IsCut longest_request new.unread) → (end ≡ Ok rests.Output → 0 < waiting)
      → (end ≡ Ok rests.Over → (waiting ≡ 0) × (new.unread ≡ []) × E)
      → IfErr end (λ cause. (waiting ≡ 0) × (((cause ≡ causes.TooLong) × IsTooLong new.unread)
      ⊎ ((cause ≡ causes.Short) × (0 < length new.unread) × IsCut longest_request new.unread × E)))
      → Rests calls before old after new end
  rested before after old new waiting (Ok rests.Again) r is at_end again input output over err =
      let a = again refl in (a.1.0, a.1.1, none_left new.waiting (is ∙ a.0))
  rested before after old new waiting (Ok rests.Input) r is at_end again input output over err =
      let i = input refl in (r, none_left new.waiting (is ∙ i.0), i.1)
  rested before after old new waiting (Ok rests.Output) r is at_end again input output over err =
      let some = output refl in (r, omega (arith, is, some))
  rested before after old new waiting (Ok rests.Over) r is at_end again input output over err =
      let o = over refl in (r, ap₂ middle o.1 (none_left new.waiting (is ∙ o.0)), at_end o.2)
  rested before after old new waiting (Err cause) r is at_end again input output over (none, inl (same, long)) =
      rw same (new, r, (none_left new.waiting (is ∙ none), long))
  rested before after old new waiting (Err cause) r is at_end again input output over (none, inr (same, some, cut, end)) =
      rw same (new, r, (none_left new.waiting (is ∙ none), some, cut, at_end end))

  -- more is unread after it all
  heard_later : (p q : P) (unread rest more waits then : List ℕ) → Replies calls p (middle unread waits) q (middle rest then)
      → Replies calls p (middle (unread ++ more) waits) q (middle (rest ++ more) then)
  heard_later p q unread rest more waits then r = record {
    bodies = r.bodies;
    replies = r.replies;
    short = r.short;
    fits = r.fits;
    read = ap (λ l. l ++ more) r.read ∙ append_assoc (frames_of r.bodies) rest more;
    chain = r.chain;
    told = r.told;
  }

  -- more was said before it all
  said_before : (p q : P) (unread rest said waits then : List ℕ) → Replies calls p (middle unread waits) q (middle rest then)
      → Replies calls p (middle unread (said ++ waits)) q (middle rest (said ++ then))
  said_before p q unread rest said waits then r = record {
    bodies = r.bodies;
    replies = r.replies;
    short = r.short;
    fits = r.fits;
    read = r.read;
    chain = r.chain;
    told = ap (λ l. said ++ l) r.told ∙ sym (append_assoc said waits (replies_text r.replies));
  }

  -- two turns are as one
  pub resumes_then : (before between after : Scene P) (old middle_one new : Middle) → Resumes calls before old between middle_one → Resumes calls between middle_one after new
      → Resumes calls before old after new
  unfolding replies_then heard_later said_before
  resumes_then before between after old middle_one new r s =
      let first = heard_later before.pass between.pass _ _ s.heard _ _ r.replies in
      let then = said_before between.pass after.pass _ _ r.said _ _ s.replies in
      let waits = waits_then old middle_one new r.heard s.heard r.said s.said r.replies.replies s.replies.replies r.replies.told r.waits s.waits in
      let both : (rs : Replies calls before.pass (middle ((old.unread ++ r.heard) ++ s.heard) old.waiting) after.pass (middle new.unread (r.said ++ (s.said ++ new.waiting))))
      × WaitsFirst old (r.heard ++ s.heard) (r.said ++ s.said) rs.replies new =
      (replies_then before.pass between.pass after.pass _ _ _ first then, waits) in
      let all = subst (λ (l : List ℕ). (rs : Replies calls before.pass (middle l old.waiting) after.pass (middle new.unread ((r.said ++ s.said) ++ new.waiting)))
      × WaitsFirst old (r.heard ++ s.heard) (r.said ++ s.said) rs.replies new)
      (append_assoc old.unread r.heard s.heard)
      (subst (λ (l : List ℕ). (rs : Replies calls before.pass (middle ((old.unread ++ r.heard) ++ s.heard) old.waiting) after.pass (middle new.unread l))
      × WaitsFirst old (r.heard ++ s.heard) (r.said ++ s.said) rs.replies new)
      (sym (append_assoc r.said s.said new.waiting)) both) in
      record {
        heard = r.heard ++ s.heard;
        said = r.said ++ s.said;
        input = Consumes-trans before.input between.input after.input r.heard s.heard r.input s.input;
        output = Appends-trans before.output between.output after.output r.said s.said r.output s.output;
        replies = all.0;
        waits = all.1;
      }

  -- a turn reaches the pass that it leaves by calls
  pub by_turn : (before after : Scene P) (old new : Middle) → Resumes calls before old after new → Reaches calls before.pass after.pass
  by_turn before after old new r = by_answers calls before.pass after.pass r.replies.bodies r.replies.replies r.replies.chain

  -- whatever it comes to
  pub by_rests : (before after : Scene P) (old new : Middle) (end : Result Rest Cause) → Rests calls before old after new end → Reaches calls before.pass after.pass
  by_rests before after old new (Ok rests.Again) r = by_turn before after old new r.0
  by_rests before after old new (Ok rests.Input) r = by_turn before after old new r.0
  by_rests before after old new (Ok rests.Output) r = by_turn before after old new r.0
  by_rests before after old new (Ok rests.Over) r = by_turn before after old new r.0
  by_rests before after old new (Err cause) r = by_turn before after old r.0 r.1
