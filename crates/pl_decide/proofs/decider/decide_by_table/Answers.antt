use Rattle.std.proofs.Common.{◌≡◌, Bool, true, false, Some, sym, ap, ◌∙◌}
use Rattle.pl_table.specs.Requests.Asking.{asked_in}
use Rattle.pl_table.specs.Tables.FirstMatch.{first_match_from}
use Rattle.pl_decide.proofs.Rows.{rows-none, rows-allow, rows-deny}
use Rattle.pl_decide.proofs.decider.decide_by_table.Goals as goal

pub returns-in-None : goal.returns-in-None
returns-in-None c =
    record { value = c.denial.ensures.value ∙ sym (rows-none c.args.request.now c.args.table.now c.args.epochs c.args.view (sym c.requires.found ∙ c.in-None.is)) }

pub returns-then-allows : goal.returns-then-allows
returns-then-allows c =
    let q = c.args.request.now in
    let found : first_match_from 1 c.args.table.now.rows (asked_in q) ≡ Some (c.in-Some.row, true) = sym c.requires.found ∙ c.in-Some.is ∙ ap (λ (a : Bool). Some (c.in-Some.row, a)) c.if-allows.true in
    record { value = rw c.act.ensures.value at (c.decide_by_log.ensures.value q.head) ∙ sym (rows-allow q c.args.table.now c.args.epochs c.args.view c.in-Some.row found) }

pub returns-else-allows : goal.returns-else-allows
returns-else-allows c =
    let q = c.args.request.now in
    let found : first_match_from 1 c.args.table.now.rows (asked_in q) ≡ Some (c.in-Some.row, false) = sym c.requires.found ∙ c.in-Some.is ∙ ap (λ (a : Bool). Some (c.in-Some.row, a)) c.if-allows.false in
    record { value = c.denial-else-allows.ensures.value ∙ sym (rows-deny q c.args.table.now c.args.epochs c.args.view c.in-Some.row found) }
