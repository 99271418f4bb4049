use Rattle.std.proofs.Common.{◌≡◌, ◌≢◌, ◌∙◌, true, false}
use Rattle.std.proofs.KnownBytes.{Keeps-refl}
use Rattle.std.proofs.lemmas.Result.{err_from_is_err_and}
use Rattle.pl_core.specs.declared.reply.Reply.TheVariants as replies
use Rattle.pl_play.proofs.Turns.{no_memory_line}
use Rattle.pl_play.proofs.replies.write_reply.Goals as goal

pub returns-then-lacks_memory : goal.returns-then-lacks_memory
returns-then-lacks_memory g c = record { value = c.write_line.ensures.value c.args.reply.now (no_memory_line c.args.reply.now (c.lacks_memory.ensures.value.0 c.if-lacks_memory.true)) }

pub returns-in_err-line : goal.returns-in_err-line
returns-in_err-line g c =
    let p = err_from_is_err_and c.from_residual.result c.from_residual.ensures.1 in
    let other : c.args.reply.now ≢ replies.NoMemory = λ same. let bad : false ≡ true = c.if-lacks_memory.ensures.value.1 same in cc in
    record { value = rw (p.1, p.2) (other, Keeps-refl _) }

pub returns : goal.returns
returns g c = record { value = c.write_line-2.ensures.value c.args.reply.now (c.as_slice.ensures.value ∙ c.in_ok-line.ensures.value) }
