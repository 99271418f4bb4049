use Rattle.std.proofs.Common.{sym, ap, ◌≡◌, ◌∙◌, Ok}
use Rattle.hex.specs.Hex.{decode_of}
use Rattle.pl_play.proofs.Turns.{plays_line, writes_no_read}
use Rattle.pl_play.proofs.player.play_line.Goals as goal

pub returns-clause-value : goal.returns-clause-value
returns-clause-value g c =
    let reads : decode_of c.args.line.now ≡ Ok c.as_slice.result.now = c.in-Ok.ensures.ok ∙ ap Ok (sym c.as_slice.ensures.value) in
    plays_line _ _ _ _ _ _ _ _ _ c.write_reply.result c.requires reads c.in_ok-reply.ensures.reply c.write_reply.ensures.value

pub returns-clause-never : goal.returns-clause-never
returns-clause-never g c = writes_no_read _ _ _ c.write_reply.result c.write_reply.ensures.value
