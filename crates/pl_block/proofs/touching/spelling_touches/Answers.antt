use Rattle.pl_block.proofs.Annotated.{asked}
use Rattle.pl_block.proofs.touching.spelling_touches.Goals as goal

pub returns : goal.returns
returns c = record {
  value = λ b is_block spelled.
      asked c.args.lo c.args.hi b c.args.spelling.now c.advance.new.self.now c.get_u16-count.new.self.now c.get_u16-count.result c.any_at.result is_block spelled c.advance.ensures.value c.get_u16-count.ensures.value c.get_u16-count.ensures.rest c.any_at.ensures.value;
}
