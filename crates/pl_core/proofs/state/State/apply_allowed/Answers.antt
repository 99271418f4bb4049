use Rattle.std.proofs.Common.{refl, sym, ap, ◌∙◌, arith}
use Rattle.pl_audit.specs.Audit.{lines_of as audit_lines}
use Rattle.pl_log.specs.State.{LogState}
use Rattle.pl_log.specs.Change.{offered as offered_log}
use Rattle.pl_table.specs.declared.requests.act.Act.TheVariants as acts
use Rattle.pl_table.specs.Tables.TableText.{table_reading}
use Rattle.pl_core.specs.declared.reply.Answer.TheVariants as answers
use Rattle.pl_core.specs.declared.reply.Reply.TheVariants as replies
use Rattle.pl_core.specs.declared.state.Outcome.{Outcome}
use Rattle.pl_core.specs.declared.state.State.{State}
use Rattle.pl_core.specs.History.{failed_over}
use Rattle.pl_core.specs.Transition.{state_after, with_unseen}
use Rattle.pl_core.proofs.Unseen.{applied, applied_plain, none_moved, pages_as_before, all_as_before, same_pages}
use Rattle.pl_core.proofs.Reading.{read_changes_nothing, read_follows}
use Rattle.pl_core.proofs.Seen.{seen_same, moved_so}
use Rattle.pl_core.proofs.state.State.apply_allowed.Goals as goal

pub returns-in-Write-clause-ok : goal.returns-in-Write-clause-ok
returns-in-Write-clause-ok c =
    applied_plain c.args.self.now c.write.new.self c.args.by c.args.act (acts.Write c.in-Write.copy c.in-Write.block) (audit_lines c.args.audit.now.entries) c.done.result replies.Done c.args.page.now c.in-Write.is c.done.ensures.value refl
    c.write.ensures.rest
    c.write.ensures.pages
    refl

pub returns-in_ok-offer-in-Offer-clause-ok : goal.returns-in_ok-offer-in-Offer-clause-ok
returns-in_ok-offer-in-Offer-clause-ok c =
    applied_plain c.args.self.now (record c.args.self.now { log = c.offer.new.self }) c.args.by c.args.act (acts.Offer c.in-Offer.block) (audit_lines c.args.audit.now.entries) c.done-in-Offer.result replies.Done c.args.page.now c.in-Offer.is c.done-in-Offer.ensures.value refl
    (ap (λ (l : LogState). record c.args.self.now { log = l }) (moved_so c.offer.new.self (offered_log c.args.self.now.log c.in-Offer.block) c.args.self.now.log.in_broker c.in_ok-offer-in-Offer.ensures.ok))
    (same_pages c.args.self.now c.args.self.now c.requires.can.fits refl)
    refl

pub returns-in_ok-report-in-Report-clause-ok : goal.returns-in_ok-report-in-Report-clause-ok
returns-in_ok-report-in-Report-clause-ok c =
    applied_plain c.args.self.now c.report.new.self c.args.by c.args.act (acts.Report c.in-Report.lsn) (audit_lines c.args.audit.now.entries) c.done-in-Report.result replies.Done c.args.page.now c.in-Report.is c.done-in-Report.ensures.value refl
    c.in_ok-report-in-Report.ensures.ok
    c.report.ensures.pages
    refl

pub returns-in_ok-get-in-Get-clause-ok : goal.returns-in_ok-get-in-Get-clause-ok
returns-in_ok-get-in-Get-clause-ok c =
    let answer = c.in_ok-get-in-Get.field-0 in
    applied c.args.self.now c.get.new.self c.args.by c.args.act (acts.Get c.in-Get.number c.in-Get.lsn c.in-Get.exact) (audit_lines c.args.audit.now.entries) c.given.result answer c.args.page.now c.get.new.page c.in-Get.is
    (ap (λ (d : Outcome). d.answer) c.given.ensures.value) (ap (λ (d : Outcome). d.table) c.given.ensures.value)
    (none_moved c.args.self.now c.get.new.self c.get.ensures.rest) c.get.ensures.pages c.in_ok-get-in-Get.ensures.reply c.in_ok-get-in-Get.ensures.page

pub returns-in_ok-pull-in-Pull-clause-ok : goal.returns-in_ok-pull-in-Pull-clause-ok
returns-in_ok-pull-in-Pull-clause-ok c =
    applied_plain c.args.self.now c.pull.new.self c.args.by c.args.act (acts.Pull c.in-Pull.lo c.in-Pull.hi c.in-Pull.lsn c.in-Pull.max) (audit_lines c.args.audit.now.entries) c.plain.result c.in_ok-pull-in-Pull.field-0 c.args.page.now c.in-Pull.is c.plain.ensures.value refl
    (all_as_before c.args.self.now c.pull.new.self c.pull.ensures.same)
    (same_pages c.args.self.now c.pull.new.self c.requires.can.fits (ap (λ (s : State). s.pages) c.pull.ensures.same))
    c.in_ok-pull-in-Pull.ensures.reply

pub returns-in_ok-advance-in-Advance-clause-ok : goal.returns-in_ok-advance-in-Advance-clause-ok
returns-in_ok-advance-in-Advance-clause-ok c =
    applied_plain c.args.self.now c.advance.new.self c.args.by c.args.act (acts.Advance c.in-Advance.partition c.in-Advance.steps) (audit_lines c.args.audit.now.entries) c.done-in-Advance.result replies.Done c.args.page.now c.in-Advance.is c.done-in-Advance.ensures.value refl
    (none_moved c.args.self.now c.advance.new.self c.advance.ensures.rest)
    c.in_ok-advance-in-Advance.ensures.ok
    refl

pub returns-in-Status-clause-ok : goal.returns-in-Status-clause-ok
returns-in-Status-clause-ok c =
    applied_plain c.args.self.now c.args.self.now c.args.by c.args.act (acts.Status) (audit_lines c.args.audit.now.entries) c.plain-in-Status.result c.status.result c.args.page.now c.in-Status.is c.plain-in-Status.ensures.value refl
    refl
    (same_pages c.args.self.now c.args.self.now c.requires.can.fits refl)
    c.status.ensures.value

pub returns-in_ok-fail_over-in-Failover-clause-ok : goal.returns-in_ok-fail_over-in-Failover-clause-ok
returns-in_ok-fail_over-in-Failover-clause-ok c =
    applied_plain c.args.self.now c.fail_over.new.self c.args.by c.args.act (acts.Failover c.in-Failover.primary) (audit_lines c.args.audit.now.entries) c.done-in-Failover.result replies.Done c.args.page.now c.in-Failover.is c.done-in-Failover.ensures.value refl
    (pages_as_before (state_after (failed_over c.in-Failover.primary) c.args.self.now c.args.by) c.fail_over.new.self c.args.self.now.pages c.in_ok-fail_over-in-Failover.ensures.ok)
    (same_pages c.args.self.now c.fail_over.new.self c.requires.can.fits (ap (λ (s : State). s.pages) c.in_ok-fail_over-in-Failover.ensures.ok))
    refl

pub returns-in-SetTable-clause-ok : goal.returns-in-SetTable-clause-ok
returns-in-SetTable-clause-ok c =
    applied c.args.self.now c.args.self.now c.args.by c.args.act (acts.SetTable c.in-SetTable.text) (audit_lines c.args.audit.now.entries) c.set_table.result (answers.Whole replies.Done) c.args.page.now c.args.page.now c.in-SetTable.is c.set_table.ensures.answer c.set_table.ensures.table
    (ap (λ (k : State). with_unseen k c.args.self.now.pages c.args.self.now.log.in_broker) (sym (read_changes_nothing (table_reading c.in-SetTable.text) c.args.self.now c.args.by)))
    (read_follows (table_reading c.in-SetTable.text) c.args.self.now c.requires.can.fits) refl (refl, omega arith)

pub returns-in_ok-list-in-Audit-clause-ok : goal.returns-in_ok-list-in-Audit-clause-ok
returns-in_ok-list-in-Audit-clause-ok c =
    applied_plain c.args.self.now c.args.self.now c.args.by c.args.act (acts.Audit c.in-Audit.first c.in-Audit.max) (audit_lines c.args.audit.now.entries) c.plain-in-Audit.result (replies.Entries c.new-lines.result) c.args.page.now c.in-Audit.is c.plain-in-Audit.ensures.value refl
    refl
    (same_pages c.args.self.now c.args.self.now c.requires.can.fits refl)
    (ap replies.Entries (c.new-lines.ensures.value ∙ c.in_ok-list-in-Audit.ensures.ok))

pub returns-in_ok-tidy-in-Tidy-clause-ok : goal.returns-in_ok-tidy-in-Tidy-clause-ok
returns-in_ok-tidy-in-Tidy-clause-ok c =
    applied_plain c.args.self.now (record c.args.self.now { log = c.tidy.new.self }) c.args.by c.args.act (acts.Tidy) (audit_lines c.args.audit.now.entries) c.done-in-Tidy.result replies.Done c.args.page.now c.in-Tidy.is c.done-in-Tidy.ensures.value refl
    (ap (λ (l : LogState). record c.args.self.now { log = l }) (seen_same c.tidy.new.self c.args.self.now.log c.tidy.ensures.same.same))
    (same_pages c.args.self.now c.args.self.now c.requires.can.fits refl)
    refl
