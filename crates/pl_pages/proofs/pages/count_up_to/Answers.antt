use Rattle.std.proofs.Common.{◌-◌, rules, leb, arith}
use Rattle.std.proofs.lemmas.Bool.{leb-true, leb-false}
use Rattle.std.proofs.lemmas.List.Sorted.{IsNonDecreasingBy-from_default, IsPartitionedBy-leb, IsPartitionPoint-from_clause}
use Rattle.pl_pages.proofs.pages.count_up_to.Goals as goal

pub returns-clause-below : goal.returns-clause-below
returns-clause-below c = λ some.
    let lsns = c.args.lsns.now in
    let point = IsPartitionPoint-from_clause (λ y. leb y c.args.lsn) lsns _ c.partition_point.ensures.partitioned
    (IsPartitionedBy-leb (λ y. y) lsns c.args.lsn (IsNonDecreasingBy-from_default (λ y. y) lsns 0 c.requires.rising)) (λ a r f k. search rules) in
    leb-true _ _ (point.0 (c.partition_point.result - 1) 0 (omega arith) (omega (arith, some)))

pub returns-clause-above : goal.returns-clause-above
returns-clause-above c = λ within.
    let lsns = c.args.lsns.now in
    let point = IsPartitionPoint-from_clause (λ y. leb y c.args.lsn) lsns _ c.partition_point.ensures.partitioned
    (IsPartitionedBy-leb (λ y. y) lsns c.args.lsn (IsNonDecreasingBy-from_default (λ y. y) lsns 0 c.requires.rising)) (λ a r f k. search rules) in
    leb-false _ _ (point.1 c.partition_point.result 0 (omega arith) within)
