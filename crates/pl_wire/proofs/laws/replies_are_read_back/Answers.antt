use Rattle.pl_wire.proofs.ReplyLemmas.{reply_again}
use Rattle.pl_wire.proofs.laws.replies_are_read_back.Goals as goal

pub returns : goal.returns
returns c = record { law = reply_again c.one_spelling.ensures.law }
