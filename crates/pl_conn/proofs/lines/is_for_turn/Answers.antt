use Rattle.std.proofs.Common.{rules}
use Rattle.pl_conn.proofs.Listing.{idle_by, kept_by}
use Rattle.pl_conn.proofs.lines.is_for_turn.Goals as goal

pub returns-clause-value : goal.returns-clause-value
returns-clause-value c = kept_by _ _ c.in-Some.line.now _ _ (search rules) (search rules) (search rules)

pub returns-clause-idle : goal.returns-clause-idle
returns-clause-idle c = idle_by c.args.items.now c.args.place c.in-Some.line.now _ (search rules)
