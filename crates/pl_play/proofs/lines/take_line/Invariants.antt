use Rattle.std.proofs.Common.{◌≤◌, ◌-◌, length}
use Rattle.std.specs.Io.KnownBytes.{Consumes}
use Rattle.pl_play.specs.Lines.{longest_line, HasNoFeed}
use Rattle.pl_play.proofs.lines.take_line.Given as goal

abbrev pub invariant-loop-line : goal.invariant-loop-line
invariant-loop-line g l = record {
  taken : Consumes (g.R.Read.remaining l.fn.reader) (g.R.Read.remaining l.reader) l.line.items;
  no_feed : HasNoFeed l.line.items;
  fits : length l.line.items ≤ longest_line;
}

abbrev pub decreases-loop-line : goal.decreases-loop-line
decreases-loop-line g l = longest_line - length l.line.items
