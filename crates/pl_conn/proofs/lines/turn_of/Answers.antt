use Rattle.std.proofs.Common.{rules}
use Rattle.pl_conn.proofs.Listing.{kept_by}
use Rattle.pl_conn.proofs.lines.turn_of.Goals as goal

pub returns-clause-value : goal.returns-clause-value
returns-clause-value g c = kept_by _ _ c.in-Some.line.now _ _ (search rules) (search rules) (c.turn.ensures.same.1, c.turn.ensures.value)
