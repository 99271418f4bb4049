use Rattle.std.proofs.Common.{ap, ◌∙◌}
use Rattle.pl_core.specs.History.{History}
use Rattle.pl_desk.specs.declared.rule.Terms.{Terms}
use Rattle.pl_desk.specs.Passes.{origin_of}
use Rattle.pl_desk.proofs.Dealing.{fresh_of}
use Rattle.pl_desk.proofs.desk.Desk.new.Goals as goal

pub returns-clause-terms : goal.returns-clause-terms
returns-clause-terms c =
    let made : History → Terms = λ h. record { seats = c.args.seats; turns = c.args.turns; opening = h } in
    c.in_ok-table.ensures.terms ∙ ap made c.in_ok-boxed.ensures.ok

pub returns-clause-passes : goal.returns-clause-passes
returns-clause-passes c = c.deal_all-passes.ensures.passes

pub returns-clause-of : goal.returns-clause-of
returns-clause-of c =
    let shared = c.in_ok-table.table.shared in
    fresh_of (origin_of shared.table_id shared.key) c.args.seats c.deal_all-passes.result.items c.deal_all-passes.ensures.passes
