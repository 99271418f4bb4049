use Rattle.std.proofs.Common.{take}
use Rattle.std.specs.List.{AllByRecursion}
use Rattle.pl_wire.specs.Replies.{IsLine}
use Rattle.pl_wire.proofs.seen.each_is_line.Given as goal

abbrev pub invariant-loop-line : goal.invariant-loop-line
invariant-loop-line l = AllByRecursion IsLine (take l.line-index l.lines)
