-- The lines of a text whose front has no line feed.
use Rattle.std.proofs.Common.{◌≡◌, ◌≢◌, ℕ, ◌<◌, ◌≤◌, List, [], ◌∷◌, ◌++◌, cond, length, refl, sym, ap, subst, ◌∙◌, arith, ne_eqb}
use Rattle.std.proofs.lemmas.List.Elements.{All-head, All-tail}
use Rattle.pl_play.specs.Lines.{text_lines, push_front, HasNoFeed, IsLong, OnFirst}

-- a byte that is not a line feed is the first byte of the first line
pub lines_of-byte : (b : ℕ) (bs : List ℕ) → b ≢ 10 → text_lines (b ∷ bs) ≡ push_front b (text_lines bs)
lines_of-byte b bs other = ap (λ t. cond t ([] ∷ text_lines bs) (push_front b (text_lines bs))) (ne_eqb b 10 other)

-- a front with no line feed, and then a line feed, is the first line
pub lines_of-feed : (front rest : List ℕ) → HasNoFeed front → text_lines (front ++ 10 ∷ rest) ≡ front ∷ text_lines rest
lines_of-feed [] rest h = refl
lines_of-feed (b ∷ front) rest h =
    lines_of-byte b (front ++ 10 ∷ rest) (All-head (λ x. x ≢ 10) b front h)
    ∙ ap (push_front b) (lines_of-feed front rest (All-tail (λ x. x ≢ 10) b front h))

-- a text with no line feed is one line, unless it is empty
pub lines_of-last : (front : List ℕ) → HasNoFeed front → 0 < length front → text_lines front ≡ front ∷ []
lines_of-last [] h some = absurd (omega arith)
lines_of-last (b ∷ []) h some = lines_of-byte b [] (All-head (λ x. x ≢ 10) b [] h)
lines_of-last (b ∷ c ∷ front) h some =
    lines_of-byte b (c ∷ front) (All-head (λ x. x ≢ 10) b (c ∷ front) h)
    ∙ ap (push_front b) (lines_of-last (c ∷ front) (All-tail (λ x. x ≢ 10) b (c ∷ front) h) (omega arith))

-- some first line, at least so long
record FirstAtLeast (n : ℕ) (lines : List (List ℕ)) : Type 0 where
  line : List ℕ
  others : List (List ℕ)
  is : lines ≡ line ∷ others
  long : n ≤ length line

push_front-long : (b : ℕ) (lines : List (List ℕ)) → FirstAtLeast 1 (push_front b lines)
push_front-long b [] = record { line = b ∷ []; others = []; is = refl; long = omega arith }
push_front-long b (l ∷ ls) = record { line = b ∷ l; others = ls; is = refl; long = omega arith }

-- a front with no line feed is within the first line
lines_of-front : (front rest : List ℕ) → HasNoFeed front → 0 < length front → FirstAtLeast (length front) (text_lines (front ++ rest))
lines_of-front [] rest h some = absurd (omega arith)
lines_of-front (b ∷ []) rest h some =
    subst (FirstAtLeast 1) (sym (lines_of-byte b rest (All-head (λ x. x ≢ 10) b [] h))) (push_front-long b (text_lines rest))
lines_of-front (b ∷ c ∷ front) rest h some =
    let next = lines_of-front (c ∷ front) rest (All-tail (λ x. x ≢ 10) b (c ∷ front) h) (omega arith) in
    record {
      line = b ∷ next.line;
      others = next.others;
      is = lines_of-byte b (c ∷ front ++ rest) (All-head (λ x. x ≢ 10) b (c ∷ front) h) ∙ ap (push_front b) next.is;
      long = omega (arith, next.long);
    }

-- a front with no line feed that is longer than a line may be makes the first line too long
pub IsLong-front : (front rest : List ℕ) → HasNoFeed front → IsLong front → OnFirst (text_lines (front ++ rest)) IsLong
IsLong-front front rest h over =
    let first = lines_of-front front rest h (omega (arith, over)) in
    let long : IsLong first.line = omega (arith, over, first.long) in
    subst (λ lines. OnFirst lines IsLong) (sym first.is) long
