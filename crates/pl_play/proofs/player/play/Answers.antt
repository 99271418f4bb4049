use Rattle.std.proofs.Common.{subst, sym}
use Rattle.std.proofs.lemmas.Result.{err_from_is_err_and}
use Rattle.pl_play.specs.Lines.{TakesLine}
use Rattle.pl_play.specs.Played.{Stops}
use Rattle.pl_play.proofs.Turns.{going_start, going_more, LeavesBoth-refl, known_lines, stops_before, stops_at, stops_input}
use Rattle.pl_play.proofs.player.play.Goals as goal

pub loop-count-init : goal.loop-count-init
loop-count-init g c = going_start _ _ _

pub returns-in_err-play_line-in-Ok-Some : goal.returns-in_err-play_line-in-Ok-Some
returns-in_err-play_line-in-Ok-Some g c =
    let p = err_from_is_err_and c.from_residual.result c.from_residual.ensures.1 in
    let left = g.R.Read.remaining c.loop-count.reader in
    let new = g.R.Read.remaining c.take_line.new.reader in
    let takes = rw c.in-Ok-Some.field-0-is at c.in-Ok-Some.ensures.some in
    let takes_shown = subst (TakesLine left new) (sym c.as_slice.ensures.value) takes in
    record { value = rw (p.1, p.2) (stops_at _ _ _ _ _ _ c.loop-count.invariant new _ c.as_slice.result.now _ takes_shown (c.in_err-play_line-in-Ok-Some.ensures.value (known_lines new))) }

pub returns-in-Err : goal.returns-in-Err
returns-in-Err g c =
    record { value = subst (Stops _ _ _ _) (sym c.at_line.ensures.value) (stops_input _ _ _ _ _ _ c.loop-count.invariant c.in-Err.fault c.in-Err.ensures.err) }

pub loop-count-preserved : goal.loop-count-preserved
loop-count-preserved g c =
    let left = g.R.Read.remaining c.loop-count.reader in
    let new = g.R.Read.remaining c.take_line.new.reader in
    let takes = rw c.in-Ok-Some.field-0-is at c.in-Ok-Some.ensures.some in
    let takes_shown = subst (TakesLine left new) (sym c.as_slice.ensures.value) takes in
    going_more _ _ _ _ _ _ c.loop-count.invariant new _ c.as_slice.result.now takes_shown c.in_ok-play_line-in-Ok-Some.ensures.value

pub returns : goal.returns
returns g c = record { value = stops_before _ _ _ _ _ _ c.loop-count.invariant _ _ (LeavesBoth-refl _) }
