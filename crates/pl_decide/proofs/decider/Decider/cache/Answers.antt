use Rattle.pl_decide.proofs.Cached.{cache-keeps, agrees-keeps}
use Rattle.pl_decide.proofs.decider.Decider.cache.Goals as goal

pub invariant_of-self : goal.invariant_of-self
invariant_of-self c =
    let verdict = c.verdict_of-verdict in
    cache-keeps c.self.inside.verdicts c.keep.new.verdicts (c.args.key, verdict.result) verdict.ensures.span c.keep.ensures.only c.keep.ensures.most c.self.invariant

pub returns : goal.returns
returns c =
    let verdict = c.verdict_of-verdict in
    record { agrees = agrees-keeps c.self.inside.verdicts.entries c.keep.new.verdicts.entries (c.args.key, verdict.result) c.args.table.now c.keep.ensures.only (rw c.self.view_is c.requires.agrees) verdict.ensures.rows }
