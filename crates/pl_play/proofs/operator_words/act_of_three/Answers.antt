use Rattle.pl_play.proofs.operator_words.act_of_three.Goals as goal

-- src/operator_words.rt:86:1
pub returns-in-audit : goal.returns-in-audit
returns-in-audit c = record {
  exact = λ text. c.audit_of.ensures.exact c.args.word.now text c.in-audit.is;
}
