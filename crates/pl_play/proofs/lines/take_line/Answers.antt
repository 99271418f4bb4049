use Rattle.std.proofs.Common.{length, Ok, Err, ap, subst, sym, ◌∙◌, arith}
use Rattle.std.proofs.lemmas.Bool.Decides.{nat_tests}
use Rattle.std.proofs.lemmas.Result.{err_from_is_err_and}
use Rattle.pl_play.specs.Lines.{TakesPiece, TakesLine}
use Rattle.pl_play.proofs.Pieces.{BeginsLong-would, Consumes-moved, HasNoFeed-moved, TakesLine-feed, TakesLine-end}
use Rattle.pl_play.proofs.lines.take_line.Goals as goal

pub returns-in_err-take_piece-clause-err : goal.returns-in_err-take_piece-clause-err
returns-in_err-take_piece-clause-err g c =
    let start = g.R.Read.remaining c.args.reader.now in
    let old = g.R.Read.remaining c.loop-line.reader in
    let new = g.R.Read.remaining c.take_piece.new.reader in
    let line = c.loop-line.line.items in
    let longer = c.take_piece.new.line.items in
    let p = err_from_is_err_and c.from_residual.result c.from_residual.ensures.1 in
    rw p.1 (λ long. BeginsLong-would start old line c.loop-line.invariant.taken c.loop-line.invariant.no_feed
    (subst (λ stop. TakesPiece old new line longer (Err stop)) (sym p.2 ∙ long) c.in_err-take_piece.ensures.value))

pub returns-in-Line-clause-some : goal.returns-in-Line-clause-some
returns-in-Line-clause-some g c =
    let start = g.R.Read.remaining c.args.reader.now in
    let old = g.R.Read.remaining c.loop-line.reader in
    let new = g.R.Read.remaining c.take_piece.new.reader in
    let line = c.loop-line.line.items in
    let longer = c.take_piece.new.line.items in
    let moves = subst (λ p. TakesPiece old new line longer (Ok p)) c.in-Line.is c.in_ok-take_piece.ensures.value in
    TakesLine-feed start new longer (Consumes-moved start old new line longer _ c.loop-line.invariant.taken moves)
    (HasNoFeed-moved start old new line longer _ c.loop-line.invariant.no_feed moves)

pub returns-in-Input-2-clause-some : goal.returns-in-Input-2-clause-some
returns-in-Input-2-clause-some g c =
    let start = g.R.Read.remaining c.args.reader.now in
    let old = g.R.Read.remaining c.loop-line.reader in
    let new = g.R.Read.remaining c.take_piece.new.reader in
    let line = c.loop-line.line.items in
    let longer = c.take_piece.new.line.items in
    let ends = subst (λ p. TakesPiece old new line longer (Ok p)) c.in-Input.is c.in_ok-take_piece.ensures.value in
    let whole = TakesLine-end start old new line c.loop-line.invariant.taken ends.0 ends.1 c.loop-line.invariant.no_feed (grind (arith, nat_tests, ap length ends.2)) in
    subst (TakesLine start new) (sym ends.2) whole
