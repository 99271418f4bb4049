use Rattle.pl_pages.proofs.Frames.{none_kept}
use Rattle.pl_pages.proofs.versions.Versions.new.Goals as goal

pub invariant_of-result : goal.invariant_of-result
invariant_of-result c = none_kept c.new.result c.new-2.result.items c.args.chunks c.new.ensures.chunks c.new.ensures.none c.new-2.ensures.items c.requires.some
