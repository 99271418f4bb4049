-- Lists of bodies and replies: one more of each, and a text that is cut.
use Rattle.std.proofs.Common.{◌≡◌, ℕ, suc, ◌+◌, ◌-◌, ◌<◌, ◌≤◌, Bool, true, false, ltb, List, [], ◌∷◌, ◌++◌, length, map, take, drop, slice_index, if◌then◌else◌, add-one, refl, sym, ap, subst, ◌∙◌, append_assoc, append-nil, arith}
use Rattle.std.proofs.Math.Seq.{take-append_seam}
use lib.Seq.{take-append-le, take-append-add, drop-cons}
use Rattle.std.specs.List.{AllByRecursion, flat_map}
use Rattle.std.proofs.lemmas.Bool.{ltb-false, ltb-true, le-ltb, lt-ltb}
use Rattle.std.proofs.lemmas.List.{length-append, drop_all}
use Rattle.std.proofs.lemmas.Grind.{flat_map-append}
use Rattle.pl_core.specs.declared.reply.Reply.{Reply}
use Rattle.pl_wire.specs.Answering.{Answered, Answers}
use Rattle.pl_wire.specs.FrameWriting.{reply_frame}
use Rattle.pl_conn.specs.Conversation.{MayWait, replies_text}
use Rattle.pl_conn.specs.Gathering.{whole_in}

-- a chain, and one after it
pub answered_then : {P : Type 0} (answers : Answers P) (p q r : P) (bs cs : List (List ℕ)) (xs ys : List Reply)
    → Answered answers p bs xs q → Answered answers q cs ys r → Answered answers p (bs ++ cs) (xs ++ ys) r
answered_then answers p q r [] cs [] ys first second = subst (λ x. Answered answers x cs ys r) first second
answered_then answers p q r [] cs (x ∷ xs) ys first second = absurd first
answered_then answers p q r (b ∷ bs) cs [] ys first second = absurd first
answered_then answers p q r (b ∷ bs) cs (x ∷ xs) ys first second = (first.0, first.1, answered_then answers first.0 q r bs cs xs ys first.2 second)

-- all of both
pub all_then : {X : Type 0} (Q : X → Type 0) (xs ys : List X) → AllByRecursion Q xs → AllByRecursion Q ys → AllByRecursion Q (xs ++ ys)
all_then Q [] ys first second = second
all_then Q (x ∷ xs) ys first second = (first.0, all_then Q xs ys first.1 second)

-- what the list gives, and what one more gives
pub joined : {X A : Type 0} (f : X → List A) (xs : List X) (x : X) → flat_map f (xs ++ x ∷ []) ≡ flat_map f xs ++ f x
joined f xs x = flat_map-append f xs (x ∷ []) ∙ ap (λ l. flat_map f xs ++ l) (append-nil (f x))

pub map_more : {X A : Type 0} (f : X → A) (xs : List X) (x : X) → map f (xs ++ x ∷ []) ≡ map f xs ++ f x ∷ []
map_more f [] x = refl
map_more f (y ∷ ys) x = ap (λ l. f y ∷ l) (map_more f ys x)

-- all but the last
pub all_but_last : {X : Type 0} (xs : List X) (x : X) → take (length (xs ++ x ∷ []) - 1) (xs ++ x ∷ []) ≡ xs
all_but_last xs x =
    let count : length (xs ++ x ∷ []) - 1 ≡ length xs = omega (arith, length-append xs (x ∷ [])) in
    ap (λ (n : ℕ). take n (xs ++ x ∷ [])) count ∙ take-append_seam xs (x ∷ [])

-- those after some that may wait may wait
pub fewer_after : (front back : List Reply) → MayWait (front ++ back) → MayWait back
fewer_after front [] few = omega arith
fewer_after front (r ∷ rs) few =
    let count : length (front ++ (r ∷ rs)) - 1 ≡ length front + length rs = omega (arith, length-append front (r ∷ rs)) in
    let all : replies_text (take (length (front ++ (r ∷ rs)) - 1) (front ++ (r ∷ rs))) ≡ replies_text front ++ replies_text (take (length rs) (r ∷ rs)) =
    ap (λ (n : ℕ). replies_text (take n (front ++ (r ∷ rs)))) count ∙ (ap replies_text (take-append-add front (r ∷ rs) (length rs))
    ∙ flat_map-append reply_frame front (take (length rs) (r ∷ rs))) in
    let one : length (r ∷ rs) - 1 ≡ length rs = omega arith in
    rw one (omega (arith, few, ap length all, length-append (replies_text front) (replies_text (take (length rs) (r ∷ rs)))))

-- a text of replies that is cut: some are whole, and the next one is not
pub record Cut (waiting : List Reply) (count : ℕ) (bytes : List ℕ) : Type 0 where
  pub whole : List Reply
  pub next : Reply
  pub more : List Reply
  pub k : ℕ
  pub parts : waiting ≡ whole ++ next ∷ more
  pub number : length whole ≡ count
  pub less : k < length (reply_frame next)
  pub text : bytes ≡ replies_text whole ++ take k (reply_frame next)

abbrev pub lens_of : List Reply → List ℕ
lens_of rs = map (λ r. length (reply_frame r)) rs

pub cut_text : (rs : List Reply) (n : ℕ) → n < length (replies_text rs) → Cut rs (whole_in (lens_of rs) n) (take n (replies_text rs))
cut_text [] n less = absurd (omega (arith, less))
cut_text (r ∷ rs) n less = by (ltb n (length (reply_frame r))) refl (λ m l. cut_text rs m l)
  where
    by : (b : Bool) → ltb n (length (reply_frame r)) ≡ b → ((m : ℕ) → m < length (replies_text rs) → Cut rs (whole_in (lens_of rs) m) (take m (replies_text rs))) → Cut (r ∷ rs) (if b then 0 else suc (whole_in (lens_of rs) (n - length (reply_frame r)))) (take n (reply_frame r ++ replies_text rs))
    by true e again = let within : n < length (reply_frame r) = ltb-true _ _ e in record {
      whole = [];
      next = r;
      more = rs;
      k = n;
      parts = refl;
      number = refl;
      less = within;
      text = take-append-le n (reply_frame r) (replies_text rs) (omega (arith, within));
    }
    by false e again =
        let long : length (reply_frame r) ≤ n = ltb-false _ _ e in
        let rest : n - length (reply_frame r) < length (replies_text rs) = omega (arith, long, less, length-append (reply_frame r) (replies_text rs)) in
        let c = again (n - length (reply_frame r)) rest in
        let whole : n ≡ length (reply_frame r) + (n - length (reply_frame r)) = omega (arith, long) in
        record {
          whole = r ∷ c.whole;
          next = c.next;
          more = c.more;
          k = c.k;
          parts = ap (λ (l : List Reply). r ∷ l) c.parts;
          number = ap suc c.number;
          less = c.less;
          text = ap (λ (j : ℕ). take j (reply_frame r ++ replies_text rs)) whole
              ∙ take-append-add (reply_frame r) (replies_text rs) (n - length (reply_frame r))
              ∙ ap (λ (l : List ℕ). reply_frame r ++ l) c.text
              ∙ sym (append_assoc (reply_frame r) (replies_text c.whole) (take c.k (reply_frame c.next)));
        }

-- the lengths after a place: the frame there is whole, or cut; there are none
pub whole_at : (lens : List ℕ) (i k : ℕ) → i < length lens → slice_index lens i ≤ k → whole_in (drop i lens) k ≡ suc (whole_in (drop (i + 1) lens) (k - slice_index lens i))
whole_at lens i k within fits =
    rw (drop-cons lens i 0 within, le-ltb _ _ fits, add-one i) refl

pub whole_cut : (lens : List ℕ) (i k : ℕ) → i < length lens → k < slice_index lens i → whole_in (drop i lens) k ≡ 0
whole_cut lens i k within less = rw (drop-cons lens i 0 within, lt-ltb _ _ less) refl

pub whole_past : (lens : List ℕ) (i k : ℕ) → length lens ≤ i → whole_in (drop i lens) k ≡ 0
whole_past lens i k past = ap (λ (l : List ℕ). whole_in l k) (drop_all i lens past)
