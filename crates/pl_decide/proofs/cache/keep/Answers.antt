use Rattle.pl_decide.proofs.Same.{put-keeps}
use Rattle.pl_decide.proofs.cache.keep.Goals as goal

pub returns-clause-only : goal.returns-clause-only
returns-clause-only c = put-keeps c.args.verdicts.now c.put.new.self c.args.key c.args.verdict c.put.result c.put.ensures.entries c.put.ensures.err
