-- The rules of the written order: what each denies, where it is found, and what its denial
-- reports. What the rules of section C look at is given as a view of the log.
use Rattle.std.specs.Prelude.{ℕ, ◌+◌, Bool, not, ◌&&◌, ◌==◌, nat_lt, nat_le, is_some, is_none, is_ok}
use Rattle.std.specs.Option.{option_map_or}
use Rattle.pl_block.specs.Bounds.{window}
use Rattle.pl_table.specs.declared.requests.op.Op.TheVariants as ops
use Rattle.pl_table.specs.declared.requests.op.Role.TheVariants as roles
use Rattle.pl_table.specs.declared.requests.act.Act.{Act}
use Rattle.pl_table.specs.declared.tables.verdict.Section.{Section}
use Rattle.pl_table.specs.declared.tables.verdict.Section.TheVariants as sections
use Rattle.pl_table.specs.declared.tables.verdict.Verdict.{Verdict}
use Rattle.pl_table.specs.declared.tables.verdict.Verdict.TheVariants as verdicts
use Rattle.pl_table.specs.Requests.Ops.{same_op, same_role, has_op}
use Rattle.pl_table.specs.Requests.Request.{Query, op_of}
use Rattle.pl_table.specs.Tables.Table.{WrittenTable, token_of}
use Rattle.pl_table.specs.Tables.TableText.{table_reading}
use Rattle.pl_decide.specs.declared.rule.Rule.{Rule}
use Rattle.pl_decide.specs.declared.rule.Rule.TheVariants as rules
use Rattle.pl_decide.specs.declared.view.Epochs.{Epochs}
use Rattle.pl_decide.specs.declared.view.View.{View}
use Rattle.pl_table.specs.Requests.Acts.{number_of, block_of}
use Rattle.pl_table.specs.Requests.Asking.{asked_in}
use Rattle.pl_decide.specs.Asked.{is_some_and, is_known, none_matches, denies_first, reads_the_log, copy_of, primary_named, text_in_act, fault_code, last_epoch}

-- a rule denies a request
abbrev pub stands_against : Rule → Query → WrittenTable → Epochs → View → Bool
stands_against rules.UnknownPrincipal q t e v = not (is_known t q.head)
stands_against rules.OlderEpoch q t e v = nat_lt q.head.epoch e.epoch
stands_against rules.NewerEpoch q t e v = nat_lt e.epoch q.head.epoch
stands_against rules.OtherPrimary q t e v =
    same_role q.head.role roles.Primary && not (q.head.principal == e.primary)
stands_against rules.RoleLacksOperation q t e v = not (has_op q.head.role (op_of q.act))
stands_against (rules.TableRow row) q t e v = denies_first row t.rows (asked_in q)
stands_against rules.NoRowMatches q t e v = none_matches t.rows (asked_in q)
stands_against rules.AboveTheEnd q t e v =
    reads_the_log (op_of q.act) && is_some_and (number_of q.act) (λ lsn. nat_lt v.hard lsn)
stands_against rules.HardenedAlready q t e v =
    is_some_and (block_of q.act) (λ block. nat_le block.lsn v.hard)
stands_against rules.AboveTheWindow q t e v =
    is_some_and (block_of q.act) (λ block. nat_lt (v.hard + window) block.lsn)
stands_against rules.OtherContent q t e v = is_some (block_of q.act) && not v.agrees
stands_against rules.NoSuchCopy q t e v = is_some_and (copy_of q.act) (λ copy. nat_le v.copies copy)
stands_against rules.BelowQuorum q t e v = same_op (op_of q.act) ops.Report && not v.can_harden
stands_against rules.NoTable q t e v =
    is_some_and (text_in_act q.act) (λ text. not (is_ok (table_reading text)))
stands_against rules.UnlistedPrimary q t e v =
    is_some_and (primary_named q.act) (λ id. is_none (token_of id t.principals))
stands_against rules.LastEpoch q t e v = same_op (op_of q.act) ops.Failover && e.epoch == last_epoch

-- the section of a rule, and its number there
abbrev pub rule_place : Rule → Section × ℕ
rule_place rules.UnknownPrincipal = (sections.A, 1)
rule_place rules.OlderEpoch = (sections.A, 2)
rule_place rules.NewerEpoch = (sections.A, 3)
rule_place rules.OtherPrimary = (sections.A, 4)
rule_place rules.RoleLacksOperation = (sections.A, 5)
rule_place (rules.TableRow row) = (sections.B, row)
rule_place rules.NoRowMatches = (sections.B, 0)
rule_place rules.AboveTheEnd = (sections.C, 1)
rule_place rules.HardenedAlready = (sections.C, 2)
rule_place rules.AboveTheWindow = (sections.C, 3)
rule_place rules.OtherContent = (sections.C, 4)
rule_place rules.NoSuchCopy = (sections.C, 5)
rule_place rules.BelowQuorum = (sections.C, 6)
rule_place rules.NoTable = (sections.C, 7)
rule_place rules.UnlistedPrimary = (sections.C, 8)
rule_place rules.LastEpoch = (sections.C, 9)

-- the value that the denial of a rule reports: the epoch, the hardened end, a fault, or nothing
abbrev pub value_of : Rule → Act → Epochs → View → ℕ
value_of rules.UnknownPrincipal act e v = 0
value_of rules.OlderEpoch act e v = e.epoch
value_of rules.NewerEpoch act e v = e.epoch
value_of rules.OtherPrimary act e v = 0
value_of rules.RoleLacksOperation act e v = 0
value_of (rules.TableRow row) act e v = 0
value_of rules.NoRowMatches act e v = 0
value_of rules.AboveTheEnd act e v = v.hard
value_of rules.HardenedAlready act e v = v.hard
value_of rules.AboveTheWindow act e v = v.hard
value_of rules.OtherContent act e v = 0
value_of rules.NoSuchCopy act e v = 0
value_of rules.BelowQuorum act e v = v.hard
value_of rules.NoTable act e v =
    option_map_or (λ text. fault_code (table_reading text)) (text_in_act act) 0
value_of rules.UnlistedPrimary act e v = 0
value_of rules.LastEpoch act e v = 0

-- the denial of a rule
abbrev pub denial : Rule → Act → Epochs → View → Verdict
denial rule act e v = verdicts.Denied (rule_place rule).0 (rule_place rule).1 (value_of rule act e v)
