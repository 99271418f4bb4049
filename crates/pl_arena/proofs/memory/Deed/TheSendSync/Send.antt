use denote.RattleType.{RattleType}
use denote.Param.Send.{IsSend, Frees}
use Rattle.core.specs.declared.alloc.Allocator.{Ghosts}
use Rattle.pl_arena.specs.contracts.memory.Deed.{the_row}
use Rattle.pl_arena.proofs.Crossing.{Deed-send}

pub send : (R A : RattleType) (g : Ghosts A.Denot) → IsSend A → Frees g g.dealloc_token → IsSend (the_row R A g)
send R A g handle = Deed-send R A g
