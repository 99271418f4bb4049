use Rattle.pl_wire.proofs.ReplyLemmas.{replies_law}
use Rattle.pl_wire.proofs.laws.one_reply_spelling.Goals as goal

pub returns : goal.returns
returns c = record { law = replies_law c.one_spelling.ensures.law }
