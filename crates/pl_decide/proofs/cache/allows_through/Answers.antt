use Rattle.std.proofs.Common.{◌≡◌, ℕ, ◌≤◌, nat_le, Some, refl, subst, arith}
use Rattle.pl_table.specs.Requests.Asking.{Asked, asked_at}
use Rattle.pl_table.specs.Tables.FirstMatch.{rows_allow}
use Rattle.pl_decide.specs.Keys.{asked_with}
use Rattle.pl_decide.proofs.AllowedThrough.{tells_end}
use Rattle.pl_decide.proofs.cache.allows_through.Goals as goal

pub returns-then-allows : goal.returns-then-allows
returns-then-allows c =
    let rows = c.args.table.now.rows in
    let exact = subst (λ (a : Asked). (lsn : ℕ) → lsn ≤ 18446744073709551615 → rows_allow rows (asked_at a lsn) ≡ nat_le lsn c.reach_of.result) c.asking-asking.ensures.value c.reach_of.ensures.exact in
    record { exact = tells_end rows (asked_with c.args.key (Some 0)) c.reach_of.result c.args.end _ refl (omega (arith, c.reach_of.ensures.within)) c.ranges.end.fits (λ lsn lt. exact lsn (omega (arith, lt))) }
