use Rattle.pl_decide.specs.WrittenOrder.{order_of}
use Rattle.pl_decide.proofs.FirstDenial.{allowed-of, first-of}
use Rattle.pl_decide.proofs.decider.Decider.decide_known.Goals as goal

pub returns-clause-allowed : goal.returns-clause-allowed
returns-clause-allowed c = allowed-of c.decide_by_head.result (order_of c.args.table.now) c.args.request.now c.args.table.now c.args.epochs.now c.args.view.now c.decide_by_head.ensures.value

pub returns-clause-first : goal.returns-clause-first
returns-clause-first c = first-of c.decide_by_head.result (order_of c.args.table.now) c.args.request.now c.args.table.now c.args.epochs.now c.args.view.now c.decide_by_head.ensures.value
