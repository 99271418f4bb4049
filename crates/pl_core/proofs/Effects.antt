-- What is known of the effect of a request that is allowed.
use Rattle.std.proofs.Common.{◌≡◌, true, Result, Ok, Err, refl, sym, subst}
use Rattle.pl_block.specs.Spelling.{IsBlock}
use Rattle.pl_table.specs.declared.tables.fault.TableFault.{TableFault}
use Rattle.pl_table.specs.declared.requests.act.Act.{Act}
use Rattle.pl_table.specs.declared.requests.act.Act.TheVariants as acts
use Rattle.pl_table.specs.declared.tables.verdict.Verdict.{Verdict}
use Rattle.pl_table.specs.declared.tables.verdict.Verdict.TheVariants as verdicts
use Rattle.pl_table.specs.Requests.Request.{Query, FitsActFields, IsRequest}
use Rattle.pl_table.specs.Tables.Table.{WrittenTable}
use Rattle.pl_table.specs.Tables.TableText.{table_reading}
use Rattle.pl_decide.specs.Laws.{MayWrite, MayOffer, MayFailOver, MayBeServed}
use Rattle.pl_core.specs.History.{Effect, wrote, offered, hardened, advanced, failed_over, set, nothing, Entry, History, effect_of_reading, effect_of_act, effect_of}
use Rattle.pl_core.specs.Epoch.{table_of}
use Rattle.pl_core.specs.Verdict.{can_harden, epochs_of, view_of, verdict_of}
use Rattle.pl_core.specs.Legal.{IsLegalEntry}
use Rattle.pl_core.specs.Transition.{OrderLaws}

-- what the written order has seen to, and that what is brought is a block
abbrev pub MayDo : Effect → History → Type 0
MayDo (wrote copy block) h = MayWrite copy block (view_of (acts.Write copy block) h) × IsBlock block
MayDo (offered block) h = MayOffer block (view_of (acts.Offer block) h) × IsBlock block
MayDo (hardened to) h = can_harden (acts.Report to) h ≡ true
MayDo (advanced partition steps) h = Unit {0}
MayDo (failed_over primary) h = MayFailOver primary (table_of h) (epochs_of h)
MayDo (set table) h = Unit {0}
MayDo nothing h = Unit {0}

reading_may : (r : Result WrittenTable TableFault) (h : History) → MayDo (effect_of_reading r) h
reading_may (Ok t) h = tt
reading_may (Err f) h = tt

act_may : (act : Act) (h : History) → FitsActFields act → MayBeServed act (table_of h) (epochs_of h) (view_of act h) → MayDo (effect_of_act act) h
act_may (acts.Write copy block) h fits able = (able, fits.1)
act_may (acts.Offer block) h fits able = (able, fits)
act_may (acts.Report lsn) h fits able = able
act_may (acts.Failover primary) h fits able = able
act_may (acts.SetTable text) h fits able = reading_may (table_reading text) h
act_may act h fits able = tt

-- by the verdict: a denied request does nothing
pub may_do : OrderLaws → (q : Query) (v : Verdict) (h : History) → IsRequest q → v ≡ verdict_of q h → MayDo (effect_of v q.act) h
may_do order q verdicts.Allowed h range is = act_may q.act h range.fields (order.served q (table_of h) (epochs_of h) (view_of q.act h) (sym is)).act
may_do order q (verdicts.Denied s row value) h range is = tt

-- so of each legal entry
pub legal_may : OrderLaws → (h : History) (e : Entry) → IsLegalEntry h e → MayDo e.effect h
legal_may order h e legal =
    let q = legal.query in
    subst (λ (x : Entry). MayDo x.effect h) (sym legal.is) (may_do order q (verdict_of q h) h legal.in_range refl)
