use Rattle.std.proofs.Common.{◌≡◌, ◌∙◌, ◌*◌, ◌-◌, ◌≤◌, ap₂, arith, drop, length, sym, true}
use Rattle.std.specs.Str.{bytes_eq}
use Rattle.std.proofs.lemmas.List.{length-drop, take_all}
use Rattle.pl_block.proofs.Runs.{run_passed, same_behind}
use Rattle.pl_block.proofs.same_bytes.same_bytes.Goals as goal

pub loop-run-preserved : goal.loop-run-preserved
loop-run-preserved c =
    let same = rw (c.split_at-in-loop-run.ensures.back, c.split_at-in-loop-run-2.ensures.back) at (sym c.is_same_run-in-loop-run.ensures.value ∙ c.if-not-is_same_run-2.false) in
    run_passed (c.loop-run.run * 32) _ c.args.one.now c.args.other.now _ same c.loop-run.invariant (omega arith)

pub returns : goal.returns
returns c =
    let one = c.args.one.now in
    let other = c.args.other.now in
    let at = length one - 32 in
    let run = rw (c.split_at.ensures.back, c.split_at-2.ensures.back) at (sym c.is_same_run.ensures.value ∙ c.if-not-is_same_run.false) in
    let last : bytes_eq (drop at one) (drop at other) ≡ true =
    sym (ap₂ bytes_eq (take_all 32 (drop at one) (omega (arith, length-drop at one))) (take_all 32 (drop at other) (omega (arith, length-drop at other, c.if-one-other.false)))) ∙ run in
    let behind : at ≤ c.loop-run.run * 32 = omega (arith, c.loop-run-test.false) in
    record { value = sym (same_behind at (c.loop-run.run * 32) one other last behind) ∙ c.loop-run.invariant }
