use Rattle.std.proofs.Common.{rules}
use Rattle.pl_conn.proofs.Listing.{listed_end}
use Rattle.pl_conn.proofs.lines.Lines.list.Goals as goal

pub invariant_of-self-2 : goal.invariant_of-self-2
invariant_of-self-2 c = listed_end _ _ _ _ _ c.self.invariant (search rules) (search rules) c.mark.ensures.value
