use Rattle.std.proofs.Common.{subst}
use Rattle.pl_table.specs.Requests.Asking.{Asked, asked_in}
use Rattle.pl_table.specs.Tables.Reach.{IsAtOne}
use Rattle.pl_decide.specs.Keys.{IsKeyOf}
use Rattle.pl_decide.proofs.Cached.{found-is}
use Rattle.pl_decide.proofs.decider.Decider.first_match.Goals as goal

pub returns-in-Some-look_up-clause-value : goal.returns-in-Some-look_up-clause-value
returns-in-Some-look_up-clause-value c =
    let verdict = c.in-Some-look_up.verdict in
    let key = subst (IsKeyOf c.in-Some.key) c.asking-asking.ensures.value c.in-Some.ensures.some in
    let at = subst (λ (a : Asked). IsAtOne verdict.lsns a.lsn) c.asking-asking.ensures.value (c.is_at.ensures.exact.0 c.if-is_at.true) in
    found-is c.args.self.now c.args.table.now (asked_in c.args.request.now) c.in-Some.key verdict c.requires.agrees key at c.in-Some-look_up.ensures.found
