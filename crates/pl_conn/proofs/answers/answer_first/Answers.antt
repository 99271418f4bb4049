use Rattle.std.proofs.Common.{ap, ◌∙◌}
use Rattle.pl_conn.specs.Gathering.{Box, gathered}
use Rattle.pl_conn.proofs.Gathered.{one_gathered, one_waits}
use Rattle.pl_conn.proofs.answers.answer_first.Goals as goal

pub returns-clause-some : goal.returns-clause-some
returns-clause-some g c =
    let waits = c.put_answer.ensures.value.waits ∙ ap (λ (b : Box). gathered b c.put_answer.ensures.value.reply) c.request_of-read.ensures.same in (
      one_gathered _ _ _ _ _ _ _ _ _ c.in_ok-body.ensures.fits c.in_ok-body.ensures.some.1 c.request_of-read.ensures.exact c.request_of-read.ensures.no_memory
          c.put_answer.ensures.value.answers c.put_answer.ensures.value.fits c.requires.room waits,
      one_waits _ _ _ waits,
    )
