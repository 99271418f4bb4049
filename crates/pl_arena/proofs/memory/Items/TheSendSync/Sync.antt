use denote.RattleType.{RattleType}
use denote.Param.Send.{IsSync}
use Rattle.pl_arena.specs.contracts.memory.Items.{the_row}
use Rattle.pl_arena.proofs.Crossing.{Items-sync}

pub sync : (R : RattleType) → IsSync R → IsSync (the_row R)
sync = Items-sync
