use Rattle.std.proofs.Common.{Bool, List, length, ap}
use Rattle.pl_arena.specs.Free.{map_below, held}
use Rattle.pl_arena.proofs.arena.VersionArena.new.Goals as goal

pub returns-clause-none : goal.returns-clause-none
unfolding map_below
returns-clause-none c = ap (λ (outs : List Bool). map_below (length outs) (held c.new.result outs)) c.new-2.ensures.items
