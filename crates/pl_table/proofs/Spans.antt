-- The partitions between two, all or some of them within a range.
use Rattle.std.proofs.Common.{◌≡◌, ℕ, zero, suc, ◌+◌, ◌-◌, ◌≤◌, ◌&&◌, leb, max, min, ap, ◌∙◌, arith}
use Rattle.std.specs.List.{list_all, list_any, range_with_len}
use Rattle.std.proofs.lemmas.Bool.Decides.{nat_tests}
use Rattle.pl_table.specs.declared.tables.range.PartitionRange.{PartitionRange}
use Rattle.pl_table.specs.Tables.Row.{is_within}

all_from : (from to a n : ℕ) → list_all (λ p. leb from p && leb p to) (range_with_len a (suc n)) ≡ (leb from a && leb (a + n) to)
all_from from to a zero = grind (arith, nat_tests)
all_from from to a (suc n) = grind (arith, nat_tests, all_from from to (a + 1) n)

any_from : (from to a n : ℕ) → list_any (λ p. leb from p && leb p to) (range_with_len a (suc n)) ≡ leb (max from a) (min to (a + n))
any_from from to a zero = grind (arith, nat_tests)
any_from from to a (suc n) = grind (arith, nat_tests, any_from from to (a + 1) n)

-- the span's length and its last partition, as numbers without a difference
span : (lo hi : ℕ) → lo ≤ hi → (n : ℕ) × (hi + 1 - lo ≡ suc n) × (lo + n ≡ hi)
span lo hi le = (hi - lo, omega arith, omega arith)

pub list_all-between : (range : PartitionRange) (lo hi : ℕ) → lo ≤ hi → list_all (is_within range) (range_with_len lo (hi + 1 - lo)) ≡ (leb range.from lo && leb hi range.to)
list_all-between range lo hi le =
    let n = span lo hi le in
    ap (λ (k : ℕ). list_all (is_within range) (range_with_len lo k)) n.1 ∙ all_from range.from range.to lo n.0 ∙ ap (λ (k : ℕ). leb range.from lo && leb k range.to) n.2

pub list_any-between : (range : PartitionRange) (lo hi : ℕ) → lo ≤ hi → list_any (is_within range) (range_with_len lo (hi + 1 - lo)) ≡ leb (max range.from lo) (min range.to hi)
list_any-between range lo hi le =
    let n = span lo hi le in
    ap (λ (k : ℕ). list_any (is_within range) (range_with_len lo k)) n.1 ∙ any_from range.from range.to lo n.0 ∙ ap (λ (k : ℕ). leb (max range.from lo) (min range.to k)) n.2
