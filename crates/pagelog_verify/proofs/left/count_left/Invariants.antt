use Rattle.std.proofs.Common.{◌≡◌, ◌≤◌, take}
use Rattle.std.specs.Prelude.{count_by}
use Rattle.pagelog_verify.specs.Answer.{is_left}
use Rattle.pagelog_verify.proofs.left.count_left.Given as goal

abbrev pub invariant-loop-kept : goal.invariant-loop-kept
invariant-loop-kept l = record {
  counted : l.count ≡ count_by (is_left l.kind) (take l.kept-index l.trail);
  few : l.count ≤ l.kept-index;
}
