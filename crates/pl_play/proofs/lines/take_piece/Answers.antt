use Rattle.std.proofs.Common.{◌+◌, ◌<◌, length, take, subst, arith}
use Rattle.std.specs.Io.KnownBytes.{Consumes}
use Rattle.std.specs.Io.BufRead.{FillKeeps}
use Rattle.std.proofs.BufReadLemmas.{Consumes_shown}
use Rattle.pl_play.proofs.Pieces.{WouldBeLong-shown, take-feed}
use Rattle.pl_play.proofs.lines.take_piece.Goals as goal

pub returns-then-end-len-clause-value : goal.returns-then-end-len-clause-value
returns-then-end-len-clause-value g c =
    let end = c.len_before_feed-end in
    WouldBeLong-shown _ c.in-Ok.shown.now c.args.line.now.items end.result end.ensures.fits end.ensures.none (omega arith) c.in-Ok.ensures.front

pub returns-then-end-shown-clause-value : goal.returns-then-end-shown-clause-value
returns-then-end-shown-clause-value g c =
    let shown = c.in-Ok.shown.now in
    let end = c.len_before_feed-end in
    let within : end.result < length shown = omega arith in
    let rested = c.fill_buf.follows.lender-at-none in
    let filled = subst (FillKeeps _ (g.R.Read.remaining rested) (g.R.BufRead.consumable_len rested)) c.in-Ok.is c.fill_buf.follows.holds-at-none in
    let taken = Consumes_shown _ _ _ _ shown (end.result + 1) (omega arith) c.in-Ok.ensures.front c.in-Ok.ensures.end filled.0 filled.1 c.consume.ensures.bytes in
    record {
      piece = take end.result shown;
      moved = c.in_ok-extend_from_slice.ensures.items;
      no_feed = end.ensures.none;
      taken = subst (Consumes _ _) (take-feed shown end.result within (end.ensures.found within)) taken.0;
    }
