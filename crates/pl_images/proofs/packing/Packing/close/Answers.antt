use Rattle.std.proofs.Common.{◌≡◌, ◌∙◌, ◌+◌, ◌≤◌, length, ap, sym, subst}
use Rattle.pl_block.specs.Bounds.{last_lsn}
use Rattle.pl_images.specs.Packing.{PackingState}
use Rattle.pl_images.proofs.Counting.{closed, open_block_of}
use Rattle.pl_images.proofs.packing.Packing.close.Goals as goal

pub block_of-requires : goal.block_of-requires
block_of-requires c =
    let s = c.self.inside in
    let room = subst (λ (t : PackingState). t.first + length t.blocks ≤ last_lsn) (sym c.self.view_is) c.requires.room in
    record {
      block = open_block_of s.first s.size c.len.result s.partition s.blocks.items s.records.items c.replace-records.result.items
          c.self.invariant room (c.len.ensures ∙ s.blocks.ok.0) (ap (λ v. v.items) c.replace-records.ensures.value);
    }

pub invariant_of-self-2 : goal.invariant_of-self-2
invariant_of-self-2 c =
    let s = c.self.inside in
    let room = subst (λ (t : PackingState). t.first + length t.blocks ≤ last_lsn) (sym c.self.view_is) c.requires.room in
    closed s.first s.size c.len.result s.partition s.blocks.items c.push.new.self.items c.in_ok-block_of.field-0 s.records.items c.replace-records.result.items c.replace-records.new.dest.items
    c.self.invariant room (c.len.ensures ∙ s.blocks.ok.0) (ap (λ v. v.items) c.replace-records.ensures.value) (ap (λ v. v.items) c.replace-records.ensures.after ∙ c.new.ensures.items) c.in_ok-block_of.ensures.ok c.in_ok-push.ensures.items
