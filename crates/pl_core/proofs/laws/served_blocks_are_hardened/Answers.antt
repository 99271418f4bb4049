use Rattle.pl_core.proofs.Served.{served_blocks, hardened_numbers, hardened_blocks}
use Rattle.pl_core.proofs.laws.served_blocks_are_hardened.Goals as goal

pub returns : goal.returns
returns c = record { members = served_blocks c.order_laws.ensures.law; rising = hardened_numbers c.order_laws.ensures.law; blocks = hardened_blocks c.order_laws.ensures.law }
