-- How far a request goes: the greatest LSN up to which no row denies it.
use Rattle.std.specs.Prelude.{◌≡◌, ℕ, ◌≤◌, IfSome}
use Rattle.pl_decide.specs.Asked.{request_at}
use Rattle.pl_table.specs.declared.tables.verdict.Verdict.TheVariants as verdicts
use Rattle.pl_table.specs.Requests.Request.{Query}
use Rattle.pl_table.specs.Requests.Acts.{number_of}
use Rattle.pl_core.specs.History.{History}
use Rattle.pl_core.specs.Verdict.{verdict_of}

-- no row denies the request asked at each LSN from its own up to k
abbrev pub IsAllowedTo : History → Query → ℕ → Type 0
IsAllowedTo h q k = (n : ℕ) → IfSome (number_of q.act) (λ own. own ≤ n) → n ≤ k
    → verdict_of (request_at q n) h ≡ verdicts.Allowed

-- the request goes as far as this: it is the greatest LSN up to which no row denies it
pub record IsReach (h : History) (q : Query) (reach : ℕ) : Type 0 where
  pub own : IfSome (number_of q.act) (λ own. own ≤ reach)
  pub allowed : IsAllowedTo h q reach
  pub greatest : (k : ℕ) → IsAllowedTo h q k → k ≤ reach
