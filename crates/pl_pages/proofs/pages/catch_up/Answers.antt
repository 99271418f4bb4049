use Rattle.std.proofs.Common.{◌≡◌, ◌+◌, ◌-◌, Some, slice_get, sym, ap, ◌∙◌, arith}
use Rattle.pl_pages.proofs.Touching.{index_more}
use Rattle.pl_pages.proofs.pages.catch_up.Goals as goal

-- the next block is entered
pub loop-before-preserved : goal.loop-before-preserved
loop-before-preserved c =
    let before = c.loop-before.before in
    let index = c.loop-before.index in
    let block = c.in_ok-block.block in
    let log = c.args.log.now.hardened in
    let entered = c.loop-before.invariant.entered in
    let same : before + 1 - 1 ≡ index.entered = omega (arith, entered) in
    let here : slice_get log index.entered ≡ Some block =
    ap (slice_get log) (sym same) ∙ ap (λ state. slice_get state.hardened (before + 1 - 1)) (sym c.loop-before.invariant.log) ∙ c.in_ok-block.ensures.block in
    record {
      log = c.read.ensures.same ∙ c.loop-before.invariant.log;
      entered = c.in_ok-enter.ensures.ok.entered ∙ ap (λ n. n + 1) entered;
      index = index_more log index c.enter.new.self block c.loop-before.invariant.index here c.in_ok-enter.ensures.ok;
    }
