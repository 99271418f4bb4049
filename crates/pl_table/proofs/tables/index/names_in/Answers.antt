use Rattle.std.proofs.lemmas.List.Filters.{dedup_is}
use Rattle.std.proofs.lemmas.Map.Keys.{IsStrictlyIncreasing-dedup}
use Rattle.pl_table.proofs.Listed.{each-named}
use Rattle.pl_table.proofs.tables.index.names_in.Goals as goal

pub returns-clause-rising : goal.returns-clause-rising
returns-clause-rising c = rw (dedup_is _ _ _ c.dedup.ensures.filtered) (IsStrictlyIncreasing-dedup _ c.sort_unstable.ensures.sorted)

pub returns-clause-each : goal.returns-clause-each
returns-clause-each c = each-named c.args.rows.now _ _ _ c.in_ok-names.ensures.ok c.sort_unstable.ensures.permutation (dedup_is _ _ _ c.dedup.ensures.filtered)
