use Rattle.std.proofs.Common.{[], ◌++◌, List, ℕ, set, ap, ◌∙◌}
use Rattle.pl_arena.proofs.Halves.{front_item, back_item, front_written, back_written}
use Rattle.pl_arena.proofs.chunk.copy_in.Goals as goal

pub returns-then-from-to : goal.returns-then-from-to
returns-then-from-to c =
    let parts = c.split_at_mut-front in
    let row = c.args.frames.now in
    let front = parts.result.0.now in
    let back = parts.result.1.now in
    let to = c.args.to in
    record {
      value =
          ap (λ (w : List ℕ). front ++ set back 0 w) (front_item row front back to parts.ensures.value parts.ensures.front_len c.args.from [] c.if-from-to.true)
          ∙ back_written row front back to parts.ensures.value parts.ensures.front_len _;
    }

pub returns-then-to-from : goal.returns-then-to-from
returns-then-to-from c =
    let parts = c.split_at_mut-front-then-to-from in
    let row = c.args.frames.now in
    let front = parts.result.0.now in
    let back = parts.result.1.now in
    let from = c.args.from in
    record {
      value =
          ap (λ (w : List ℕ). set front c.args.to w ++ back) (back_item row front back from parts.ensures.value parts.ensures.front_len [])
          ∙ front_written row front back from parts.ensures.value parts.ensures.front_len c.args.to _ c.if-to-from.true;
    }
