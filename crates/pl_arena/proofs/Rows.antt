-- Chunks of 64 frames as one row: the frame i is the frame i % 64 of the chunk i / 64.
use Rattle.std.proofs.Common.{◌≡◌, ℕ, zero, suc, ◌+◌, ◌-◌, ◌*◌, ◌/◌, ◌%◌, ◌<◌, ◌≤◌, ◌++◌, List, [], ◌∷◌, length, get_or, set, refl, sym, ap, ◌∙◌, arith, length-append, length-set, append_assoc, div-add-mod'}
use Rattle.std.proofs.lemmas.List.{get_or_append_left, get_or-append_right, set-append_left, set-append_right, append-nil}
use Rattle.pl_arena.specs.Packed.{IsPacked, flat}

abbrev pub Row : Type 0
Row = List (List ℕ)

-- a frame that is not in the first chunk comes after 64 others
first_whole : (c : Row) (cs : List Row) (i : ℕ) → 64 ≤ i → i < length (c ++ flat cs) → IsPacked (c ∷ cs) → length c ≡ 64
first_whole c [] i past within all = absurd (omega (arith, past, within, length-append c [], all.0))
first_whole c (d ∷ ds) i past within all = all.1 (omega arith)

first_holds : (c : Row) (cs : List Row) (i : ℕ) → i < 64 → i < length (c ++ flat cs) → IsPacked (c ∷ cs) → i < length c
first_holds c [] i small within all = omega (arith, within, length-append c [])
first_holds c (d ∷ ds) i small within all = omega (arith, small, all.1 (omega arith))

-- where a frame is
pub record IsAt (chunks : List Row) (q r i : ℕ) : Type 0 where
  pub chunk : q < length chunks
  pub frame : r < length (get_or chunks q [])
  pub value : get_or (flat chunks) i [] ≡ get_or (get_or chunks q []) r []
  pub written : (w : List ℕ) → flat (set chunks q (set (get_or chunks q []) r w)) ≡ set (flat chunks) i w

at_place : (chunks : List Row) (q r i : ℕ) → i ≡ q * 64 + r → r < 64 → i < length (flat chunks) → IsPacked chunks → IsAt chunks q r i
at_place [] q r i e small within all = absurd (omega (arith, within))
at_place (c ∷ cs) zero r i e small within all =
    let same : i ≡ r = omega (arith, e) in
    let there : r < length c = first_holds c cs r small (omega (arith, within, same)) all in record {
      chunk = omega arith;
      frame = there;
      value = ap (λ k. get_or (c ++ flat cs) k []) same ∙ get_or_append_left c (flat cs) [] r there;
      written = λ w. sym (set-append_left c (flat cs) r w there) ∙ ap (λ k. set (c ++ flat cs) k w) (sym same);
    }
at_place (c ∷ cs) (suc q) r i e small within all =
    let past : 64 ≤ i = omega (arith, e) in
    let whole = first_whole c cs i past within all in
    let on = at_place cs q r (i - 64) (omega (arith, e)) small (omega (arith, within, length-append c (flat cs), whole, past)) all.2 in record {
      chunk = omega (arith, on.chunk);
      frame = on.frame;
      value = get_or-append_right c (flat cs) 64 i [] whole past ∙ on.value;
      written = λ w. ap (λ (xs : Row). c ++ xs) (on.written w) ∙ sym (set-append_right c (flat cs) 64 i w whole past);
    }

pub at_number : (chunks : List Row) (i : ℕ) → IsPacked chunks → i < length (flat chunks) → IsAt chunks (i / 64) (i % 64) i
at_number chunks i all within = at_place chunks (i / 64) (i % 64) i (sym (div-add-mod' i 64)) (omega arith) within all

-- a chunk of as many frames takes the place of one
pub packed_set : (chunks : List Row) (q : ℕ) (c : Row) → length c ≡ length (get_or chunks q []) → IsPacked chunks → IsPacked (set chunks q c)
packed_set [] q c e all = all
packed_set (x ∷ xs) zero c e all = (omega (arith, e, all.0), (λ more. e ∙ all.1 more), all.2)
packed_set (x ∷ xs) (suc q) c e all = (all.0, (λ more. all.1 (omega (arith, more, length-set xs q c))), packed_set xs q c e all.2)

-- a chunk is added after those that there are, if the last is whole
pub packed_pushed : (chunks : List Row) (c : Row) → length c ≤ 64 → ((n : ℕ) → n + 1 ≡ length chunks → length (get_or chunks n []) ≡ 64) → IsPacked chunks → IsPacked (chunks ++ c ∷ [])
packed_pushed [] c small whole all = (small, (λ more. absurd (omega (arith, more))), tt)
packed_pushed (x ∷ []) c small whole all = (all.0, (λ more. whole 0 (omega arith)), packed_pushed [] c small (λ n e. absurd (omega (arith, e))) tt)
packed_pushed (x ∷ y ∷ ys) c small whole all = (all.0, (λ more. all.1 (omega arith)), packed_pushed (y ∷ ys) c small (λ n e. whole (suc n) (omega (arith, e))) all.2)

pub flat_pushed : (chunks : List Row) (c : Row) → flat (chunks ++ c ∷ []) ≡ flat chunks ++ c
flat_pushed [] c = append-nil c
flat_pushed (x ∷ xs) c = ap (λ (l : Row). x ++ l) (flat_pushed xs c) ∙ sym (append_assoc x (flat xs) c)

-- the last chunk has a frame more
module _ (w : List ℕ) where
  pub packed_grown : (chunks : List Row) (n : ℕ) → n + 1 ≡ length chunks → length (get_or chunks n []) < 64 → IsPacked chunks → IsPacked (set chunks n (get_or chunks n [] ++ w ∷ []))
  packed_grown [] n e room all = absurd (omega (arith, e))
  packed_grown (x ∷ []) zero e room all = (omega (arith, room, length-append x (w ∷ [])), (λ more. absurd (omega (arith, more))), tt)
  packed_grown (x ∷ []) (suc n) e room all = absurd (omega (arith, e))
  packed_grown (x ∷ y ∷ ys) zero e room all = absurd (omega (arith, e))
  packed_grown (x ∷ y ∷ ys) (suc n) e room all = (all.0, (λ more. all.1 (omega arith)), packed_grown (y ∷ ys) n (omega (arith, e)) room all.2)

  pub flat_grown : (chunks : List Row) (n : ℕ) → n + 1 ≡ length chunks → flat (set chunks n (get_or chunks n [] ++ w ∷ [])) ≡ flat chunks ++ w ∷ []
  flat_grown [] n e = absurd (omega (arith, e))
  flat_grown (x ∷ []) zero e = append-nil (x ++ w ∷ []) ∙ ap (λ (l : Row). l ++ w ∷ []) (sym (append-nil x))
  flat_grown (x ∷ []) (suc n) e = absurd (omega (arith, e))
  flat_grown (x ∷ y ∷ ys) zero e = absurd (omega (arith, e))
  flat_grown (x ∷ y ∷ ys) (suc n) e = ap (λ (l : Row). x ++ l) (flat_grown (y ∷ ys) n (omega (arith, e))) ∙ sym (append_assoc x (flat (y ∷ ys)) (w ∷ []))

pub each_small : (chunks : List Row) (q : ℕ) → IsPacked chunks → length (get_or chunks q []) ≤ 64
each_small [] q all = omega arith
each_small (c ∷ cs) zero all = all.0
each_small (c ∷ cs) (suc q) all = each_small cs q all.2

-- if the last chunk is whole, each has 64 frames
pub flat_whole : (chunks : List Row) → ((n : ℕ) → n + 1 ≡ length chunks → length (get_or chunks n []) ≡ 64) → IsPacked chunks → length (flat chunks) ≡ 64 * length chunks
flat_whole [] whole all = refl
flat_whole (x ∷ []) whole all = omega (arith, length-append x [], whole 0 (omega arith))
flat_whole (x ∷ y ∷ ys) whole all = omega (arith, length-append x (flat (y ∷ ys)), all.1 (omega arith), flat_whole (y ∷ ys) (λ n e. whole (suc n) (omega (arith, e))) all.2)
