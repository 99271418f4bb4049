use Rattle.std.proofs.Common.{refl}
use Rattle.pl_table.specs.Tables.Tree.{is_one_of, top_keys}
use Rattle.pl_table.specs.Tables.TableText.{listed_in_tree}
use Rattle.pl_table.proofs.Trees.{known_keys}
use Rattle.pl_table.proofs.tables.text.reading.lists_in.Goals as goal

pub returns-then-not-has_top_keys-clause-err : goal.returns-then-not-has_top_keys-clause-err
unfolding listed_in_tree
returns-then-not-has_top_keys-clause-err c = rw (← known_keys (is_one_of top_keys) c.args.tree.now.entries, ← c.has_top_keys.ensures.value, c.if-not-has_top_keys.true) refl

pub returns-in-Some-Some-clause-ok : goal.returns-in-Some-Some-clause-ok
unfolding listed_in_tree
returns-in-Some-Some-clause-ok c = rw (← known_keys (is_one_of top_keys) c.args.tree.now.entries, ← c.has_top_keys.ensures.value, c.if-not-has_top_keys.false, ← c.tables_under.ensures.value, ← c.tables_under-2.ensures.value, c.in-Some-Some.is-0, c.in-Some-Some.is-1, c.zone_under.ensures.value) refl
