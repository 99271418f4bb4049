use Rattle.pl_play.specs.Answering.{PlayCall}
use Rattle.pl_play.specs.Played.{moment}
use Rattle.pl_play.proofs.Turns.{Going}
use Rattle.pl_play.proofs.player.play.Given as goal

abbrev pub invariant-loop-count : goal.invariant-loop-count
invariant-loop-count g l =
    Going PlayCall (g.R.Read.remaining l.fn.reader) (g.R.Read.remaining l.reader) l.count
    (moment (g.W.Write.contents l.fn.writer) l.fn.db) (moment (g.W.Write.contents l.writer) l.db)
