-- The state after an act is what its effect leaves, but for what is not seen.
use Rattle.std.proofs.Common.{◌≡◌, ℕ, List, None, refl, sym, ap, subst, ◌∙◌, arith}
use Rattle.std.specs.Global.{Vec}
use Rattle.pl_audit.specs.declared.line.Line.{Line}
use Rattle.pl_pages.specs.State.{PagesState, FitsLog, applied_at}
use Rattle.pl_table.specs.declared.requests.act.Act.{Act}
use Rattle.pl_table.specs.declared.tables.verdict.Verdict.TheVariants as verdicts
use Rattle.pl_core.specs.declared.reply.Answer.{Answer}
use Rattle.pl_core.specs.declared.reply.Answer.TheVariants as answers
use Rattle.pl_core.specs.declared.reply.Reply.{Reply}
use Rattle.pl_core.specs.declared.state.ByTable.{ByTable}
use Rattle.pl_core.specs.declared.state.Outcome.{Outcome}
use Rattle.pl_core.specs.declared.state.State.{State}
use Rattle.pl_core.specs.History.{effect_of_act}
use Rattle.pl_core.specs.Appending.{AppendsTo, reply_in}
use Rattle.pl_core.specs.Epoch.{table_set}
use Rattle.pl_core.specs.Transition.{state_after, with_unseen, PagesFollow, applied_then, reply_to, IsApplied}

-- an act that is known was applied
pub applied : (state after : State) (by : ByTable) (act known : Act) (lines : List Line) (done : Outcome) (answer : Answer) (before now : Vec ℕ) → act ≡ known → done.answer ≡ answer → done.table ≡ table_set (effect_of_act known)
    → after ≡ with_unseen (state_after (effect_of_act known) state by) after.pages after.log.in_broker → PagesFollow state (λ p. applied_then (effect_of_act known) state p) after.pages
    → reply_in answer before.items now.items ≡ reply_to known state by lines → AppendsTo answer before now → IsApplied verdicts.Allowed act state by lines done before now after
applied state after by act known lines done answer before now is answer_is table after_is follow reply page =
    subst (λ (a : Act). IsApplied verdicts.Allowed a state by lines done before now after) (sym is) (record {
      state_is = after_is;
      pages_follow = follow;
      reply_is = ap (λ (x : Answer). reply_in x before.items now.items) answer_is ∙ reply;
      page = subst (λ (x : Answer). AppendsTo x before now) (sym answer_is) page;
      table_is = table;
    })

-- so was one that is answered no page, and sets no table
pub applied_plain : (state after : State) (by : ByTable) (act known : Act) (lines : List Line) (done : Outcome) (reply : Reply) (page : Vec ℕ) → act ≡ known → done ≡ record { answer = answers.Whole reply; table = None } → None ≡ table_set (effect_of_act known)
    → after ≡ with_unseen (state_after (effect_of_act known) state by) after.pages after.log.in_broker → PagesFollow state (λ p. applied_then (effect_of_act known) state p) after.pages
    → reply ≡ reply_to known state by lines → IsApplied verdicts.Allowed act state by lines done page page after
applied_plain state after by act known lines done reply page is done_is none after_is follow told =
    applied state after by act known lines done (answers.Whole reply) page page is (ap (λ (d : Outcome). d.answer) done_is) (ap (λ (d : Outcome). d.table) done_is ∙ none) after_is follow told (refl, omega arith)

-- no block has moved
pub none_moved : (state after : State) → after ≡ with_unseen state after.pages state.log.in_broker → after ≡ with_unseen state after.pages after.log.in_broker
none_moved state after e = e ∙ ap (λ (k : ℕ). with_unseen state after.pages k) (ap (λ (x : State). x.log.in_broker) (sym e))

-- the state of pages is as it was
pub pages_as_before : (state after : State) (pages : PagesState) → after ≡ with_unseen state pages after.log.in_broker → after ≡ with_unseen state after.pages after.log.in_broker
pages_as_before state after pages e = e ∙ ap (λ (p : PagesState). with_unseen state p after.log.in_broker) (ap (λ (x : State). x.pages) (sym e))

-- nothing has changed
pub all_as_before : (state after : State) → after ≡ state → after ≡ with_unseen state after.pages after.log.in_broker
all_as_before state after e = subst (λ (x : State). x ≡ with_unseen state x.pages x.log.in_broker) (sym e) refl

-- pages that are as before follow
pub same_pages : (state after : State) → FitsLog state.pages state.log.hardened → after.pages ≡ state.pages → PagesFollow state (λ p. applied_at state.pages p) after.pages
same_pages state after fits same = subst (λ (pages : PagesState). PagesFollow state (λ p. applied_at state.pages p) pages) (sym same) (record { fits = fits; applied_are = λ p. refl; chunks = refl })
