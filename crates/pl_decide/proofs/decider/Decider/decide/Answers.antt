use Rattle.std.proofs.Common.{◌≡◌, false, ap, sym, ◌∙◌}
use Rattle.pl_table.specs.declared.requests.head.Head.{Head}
use Rattle.pl_decide.specs.Asked.{is_known}
use Rattle.pl_decide.specs.WrittenOrder.{order_of, decision}
use Rattle.pl_decide.proofs.FirstDenial.{unknown-denied, first-of}
use Rattle.pl_decide.proofs.decider.Decider.decide.Goals as goal

pub returns-else-known-clause-first : goal.returns-else-known-clause-first
returns-else-known-clause-first c =
    let q = c.args.request.now in
    let stranger : is_known c.args.table.now q.head ≡ false = ap (λ (head : Head). is_known c.args.table.now head) (sym c.head.ensures.value) ∙ sym c.known.ensures.value ∙ c.if-known.false in
    let is : c.denial.result ≡ decision q c.args.table.now c.args.epochs.now c.args.view.now = c.denial.ensures.value ∙ sym (unknown-denied q c.args.table.now c.args.epochs.now c.args.view.now stranger) in
    first-of c.denial.result (order_of c.args.table.now) q c.args.table.now c.args.epochs.now c.args.view.now is
