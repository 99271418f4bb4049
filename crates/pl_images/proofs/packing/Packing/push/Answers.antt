use Rattle.std.proofs.Common.{◌≡◌, ◌∙◌, ◌+◌, ◌≤◌, length, ap, sym, subst}
use Rattle.pl_block.specs.Bounds.{longest_block}
use Rattle.pl_images.specs.Packing.{PackingState, heads_of}
use Rattle.pl_images.proofs.Counting.{pushed}
use Rattle.pl_images.proofs.packing.Packing.push.Goals as goal

pub invariant_of-self-2 : goal.invariant_of-self-2
invariant_of-self-2 c =
    let s = c.self.inside in
    let heads = c.heads.ensures.value ∙ ap (λ (t : PackingState). heads_of t.partition c.args.partition) (sym c.self.view_is) in
    let room = subst (λ (t : PackingState). t.size + heads_of t.partition c.args.partition + length c.args.bytes ≤ longest_block) (sym c.self.view_is) c.requires.room in
    pushed s.first s.size c.args.page c.args.offset c.args.partition c.heads.result c.len.result c.args.bytes s.partition s.blocks.items s.records.items c.push.new.self.items
    c.self.invariant c.requires.partition heads c.len.ensures.value c.in_ok-push.ensures.items (c.ranges.page.fits, c.requires.some, c.requires.within) room
