use Rattle.std.proofs.Common.{◌≡◌, ◌+◌, ◌-◌, Some, get_or, length, slice_get, sym, ap, subst, ◌∙◌, arith}
use Rattle.pl_pages.specs.Index.{IsAfterChanges}
use Rattle.pl_pages.specs.State.{AreVersions}
use Rattle.pl_pages.proofs.Touching.{next_listed, block_redone, later_block}
use Rattle.pl_pages.proofs.pages.bring_up.Goals as goal

pub read-requires-clause-first : goal.read-requires-clause-first
read-requires-clause-first c = (next_listed c.args.page c.args.log.now.hardened c.requires.lsns.numbered c.args.lsns.now c.requires.lsns.all c.loop-i.i (omega arith)).some

pub read-requires-clause-last : goal.read-requires-clause-last
read-requires-clause-last c =
    let listed = next_listed c.args.page c.args.log.now.hardened c.requires.lsns.numbered c.args.lsns.now c.requires.lsns.all c.loop-i.i (omega arith) in
    omega (arith, listed.last, ap (λ l. length l.hardened) c.loop-i.invariant.log)

-- the next block makes its changes
pub loop-i-preserved : goal.loop-i-preserved
loop-i-preserved c =
    let i = c.loop-i.i in
    let page = c.args.page in
    let place = c.args.place in
    let log = c.args.log.now.hardened in
    let b = get_or c.args.lsns.now i 0 in
    let vs = c.loop-i.versions.versions in
    let inv = c.loop-i.invariant in
    let block = c.in_ok-block.block in
    let listed = next_listed page log c.requires.lsns.numbered c.args.lsns.now c.requires.lsns.all i (omega arith) in
    let here : slice_get log (b - 1) ≡ Some block = ap (λ state. slice_get state.hardened (b - 1)) (sym inv.log) ∙ c.in_ok-block.ensures.block in
    record {
      log = c.read.ensures.same ∙ inv.log;
      chunks = c.redo.ensures.chunks ∙ inv.chunks;
      truth = subst (λ new. AreVersions new log) (sym c.redo.ensures.versions)
          (block_redone vs place page log i inv.truth inv.after b block here c.in_ok-block.ensures.number listed.some listed.below listed.here);
      after = subst (λ new. IsAfterChanges new place page log (i + 1)) (sym c.redo.ensures.versions)
          (later_block vs place page log i inv.truth inv.after b block here c.in_ok-block.ensures.number listed.some listed.below listed.here);
    }
