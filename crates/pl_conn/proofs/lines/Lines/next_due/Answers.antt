use Rattle.std.proofs.Common.{rules}
use Rattle.pl_conn.proofs.Listing.{idle_first, listed_rest}
use Rattle.pl_conn.proofs.lines.Lines.next_due.Goals as goal

pub invariant_of-self-2 : goal.invariant_of-self-2
invariant_of-self-2 c = listed_rest _ _ _ _ _ c.self.invariant (search rules) c.mark.ensures.value

pub returns-clause-idle : goal.returns-clause-idle
returns-clause-idle c = idle_first _ _ _ c.pop_front.new.self.items _ c.self.invariant (search rules) c.mark.ensures.value
