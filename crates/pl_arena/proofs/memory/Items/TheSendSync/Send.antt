use denote.RattleType.{RattleType}
use denote.Param.Send.{IsSend}
use Rattle.pl_arena.specs.contracts.memory.Items.{the_row}
use Rattle.pl_arena.proofs.Crossing.{Items-send}

pub send : (R : RattleType) → IsSend R → IsSend (the_row R)
send = Items-send
