use Rattle.std.proofs.Common.{rules, arith}
use Rattle.std.proofs.lemmas.Grind.{common_steps}
use Rattle.pl_images.proofs.Putting.{put_step, puts_nothing}
use Rattle.pl_images.proofs.packing.Packing.put.Goals as goal

pub loop-alloc-preserved : goal.loop-alloc-preserved
loop-alloc-preserved c =
    let is = c.loop-alloc.invariant in
    let step = put_step c.args.self.now c.loop-alloc.self c.put_front.new.self c.args.page c.args.offset c.loop-alloc.at c.in_ok-at.field-0 c.args.bytes c.loop-alloc.bytes c.put_front.new.bytes
    c.are_pages.ensures.value c.requires.within is.began is.whole is.rest is.puts c.in_ok-at.ensures.ok in
    record { began = grind (arith, common_steps); whole = grind (arith, common_steps); rest = step.0; puts = step.1 }
