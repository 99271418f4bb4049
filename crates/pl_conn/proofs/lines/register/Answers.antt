use Rattle.std.proofs.Common.{rules}
use Rattle.pl_conn.proofs.Listing.{kept_by}
use Rattle.pl_conn.proofs.lines.register.Goals as goal

pub returns : goal.returns
returns c = record { value = kept_by _ _ c.in-Some.line.now _ _ (search rules) (search rules) (search rules) }
