use Rattle.std.proofs.Common.{subst}
use Rattle.pl_table.specs.Requests.Asking.{asked_in}
use Rattle.pl_decide.specs.Keys.{IsKeyOf}
use Rattle.pl_decide.proofs.Cached.{end-is}
use Rattle.pl_decide.proofs.decider.Decider.allowed_through.Goals as goal

pub returns : goal.returns
returns c =
    let key = subst (IsKeyOf c.in_ok-key.key) c.asking.ensures.value c.in_ok-key.ensures.some in
    record { exact = end-is c.args.self.now c.args.table.now (asked_in c.args.request.now) c.in_ok-lsn_read.field-0 c.in_ok-key.key c.in_ok-look_at.field-0 c.requires.agrees key (rw c.act.ensures.value at c.in_ok-lsn_read.ensures.some) (rw (← c.self.view_is) c.in_ok-look_at.ensures.found) }
