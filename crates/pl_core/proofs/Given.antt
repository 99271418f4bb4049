-- The pages that gets are answered.
use Rattle.std.proofs.Common.{◌≡◌, ℕ, ◌≤◌, Bool, List, ◌++◌, take, sym, ap, ◌∙◌, arith}
use Rattle.pl_block.specs.Block.{Content}
use Rattle.pl_pages.specs.Page.{page_of}
use Rattle.pl_pages.specs.Laws.{PagesStay}
use Rattle.pl_table.specs.declared.requests.head.Head.{Head}
use Rattle.pl_table.specs.declared.requests.act.Act.TheVariants as acts
use Rattle.pl_table.specs.declared.tables.verdict.Verdict.TheVariants as verdicts
use Rattle.pl_table.specs.Requests.Request.{Query}
use Rattle.pl_core.specs.declared.reply.Reply.TheVariants as replies
use Rattle.pl_core.specs.History.{Start, History}
use Rattle.pl_core.specs.Epoch.{table_of}
use Rattle.pl_core.specs.Log.{hardened_after, hardened_log, hard_of}
use Rattle.pl_core.specs.Verdict.{epochs_of, view_of, verdict_of}
use Rattle.pl_core.specs.Laws.{PagesAreReplays, GetsAreRepeatable}
use Rattle.pl_core.specs.Transition.{OrderLaws}
use Rattle.pl_core.proofs.Joining.{grown_log}
use Rattle.pl_core.proofs.Replies.{answered_page}

same_at : (m n : ℕ) (xs ys : List ℕ) → replies.Page m xs ≡ replies.Page n ys → m ≡ n
same_at m n xs ys e = cc

same_bytes : (m n : ℕ) (xs ys : List ℕ) → replies.Page m xs ≡ replies.Page n ys → xs ≡ ys
same_bytes m n xs ys e = cc

-- an allowed get is of the log
allowed_within : OrderLaws → (head : Head) (page lsn : ℕ) (exact : Bool) (h : History) → verdict_of (record { head = head; act = acts.Get page lsn exact }) h ≡ verdicts.Allowed → lsn ≤ hard_of h
allowed_within order head page lsn exact h allowed =
    let q : Query = record { head = head; act = acts.Get page lsn exact } in
    (order.served q (table_of h) (epochs_of h) (view_of q.act h) allowed).act

pub are_replays : OrderLaws → PagesAreReplays
are_replays order h head page lsn exact at bytes may =
    let q : Query = record { head = head; act = acts.Get page lsn exact } in
    let serves = answered_page h q at bytes may in
    let here : at ≡ serves.at = same_at _ _ _ _ serves.is in
    let within = allowed_within order head page serves.at exact h serves.allowed in
    let from = serves.from in
    record {
      from = omega (arith, here, from);
      to = omega (arith, here, within);
      exactly = λ is. here ∙ serves.exactly is;
      bytes_are = same_bytes _ _ _ _ serves.is ∙ ap (λ (n : ℕ). page_of page (take n (hardened_log h))) (sym here);
    }

pub are_repeatable : OrderLaws → PagesStay → GetsAreRepeatable
are_repeatable order stay h later added one two page lsn again at exact other bytes same from_one grew first second =
    let log = hardened_log h in
    let before = are_replays order h one page lsn exact at bytes first in
    let after = are_replays order later two page again other at same second in
    let more = grown_log later.start added h.entries in
    let whole : hardened_log later ≡ log ++ more.0 = ap (hardened_after later.start) grew ∙ more.1 ∙ ap (λ (l : List Content). l ++ more.0) (ap (λ (s : Start). hardened_after s h.entries) from_one) in
    after.bytes_are
    ∙ ap (λ (l : List Content). page_of page (take at l)) whole
    ∙ stay page at log more.0 before.to
    ∙ sym before.bytes_are
