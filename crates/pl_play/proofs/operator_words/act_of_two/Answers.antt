use Rattle.pl_play.specs.Admin.{bytes_of}
use Rattle.pl_play.proofs.operator_words.act_of_two.Goals as goal

-- src/operator_words.rt:85:1
pub returns-in-failover : goal.returns-in-failover
returns-in-failover c = record {
  exact = c.failover_to.ensures.exact c.args.word.now (bytes_of c.args.text) c.in-failover.is;
}
