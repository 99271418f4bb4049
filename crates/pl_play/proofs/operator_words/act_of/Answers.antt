use Rattle.pl_play.specs.Admin.{bytes_of}
use Rattle.pl_play.proofs.Words.{single, triple}
use Rattle.pl_play.proofs.operator_words.act_of.Goals as goal

-- src/operator_words.rt:100:1
pub returns-in-len1 : goal.returns-in-len1
returns-in-len1 c = record {
  exact = rw (single c.args.words.now c.word-item.result c.in-len1.len_at_least c.in-len1.len_below c.word-item.is) (rw (← c.as_str.ensures.value) (c.act_of_one.ensures.exact (bytes_of c.args.text)));
}

-- src/operator_words.rt:115:1
pub returns-in-len3 : goal.returns-in-len3
returns-in-len3 c = record {
  exact = rw (triple c.args.words.now c.word-item-then-words-lt4.result c.first-item.result c.max-item.result c.in-len3.len_at_least c.in-len3.len_below c.word-item-then-words-lt4.is c.first-item.is c.max-item.is) (rw (← c.as_str-in-len3.ensures.value) (rw (← c.as_str-in-len3-2.ensures.value) (rw (← c.as_str-in-len3-3.ensures.value) (c.act_of_three.ensures.exact (bytes_of c.args.text)))));
}
