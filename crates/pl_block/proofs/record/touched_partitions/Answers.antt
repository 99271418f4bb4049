use Rattle.std.proofs.lemmas.List.Filters.{dedup_is}
use Rattle.std.proofs.lemmas.List.Kept.{Contains-dedup_nat, Contains-from_dedup}
use Rattle.std.proofs.lemmas.List.Sorted.{Contains-permutation, IsPermutation-sym}
use Rattle.std.proofs.lemmas.Map.Keys.{IsStrictlyIncreasing-dedup}
use Rattle.pl_block.proofs.Touched.{touched_from_members}
use Rattle.pl_block.proofs.record.touched_partitions.Goals as goal

pub returns : goal.returns
returns c =
    let is = dedup_is _ _ _ c.dedup.ensures.filtered in
    let moved = c.sort_unstable.ensures.permutation in
    record {
      ok = touched_from_members c.args.records.now _
          (rw is (IsStrictlyIncreasing-dedup _ c.sort_unstable.ensures.sorted))
          (λ x. (
            λ h. rw c.in_ok-partitions.ensures.ok at (Contains-permutation _ _ x (IsPermutation-sym _ _ moved) (Contains-from_dedup _ _ x (rw is at h))),
            λ h. rw is (Contains-dedup_nat _ x (Contains-permutation _ _ x moved (rw (← c.in_ok-partitions.ensures.ok) at h))),
          ));
    }
