-- How far the rows allow what is asked with a key.
use Rattle.std.proofs.Common.{◌≡◌, ℕ, ◌≤◌, ◌<◌, ◌^◌, nat_le, Bool, true, ◌==◌, List, Option, Some, None, option_map, sym, ap, ◌∙◌, arith, min}
use Rattle.std.specs.Prelude.{IfSome, IsTrue, ◌↔◌}
use Rattle.std.specs.Cmp.{unsigned_Decides}
use Rattle.std.proofs.lemmas.Bool.Decides.{nat_tests}
use Rattle.pl_table.specs.declared.tables.reach.LsnRange.{LsnRange}
use Rattle.pl_table.specs.declared.tables.row.Row.{Row}
use Rattle.pl_table.specs.Requests.Asking.{Asked, asked_at}
use Rattle.pl_table.specs.Tables.FirstMatch.{found_allows, rows_allow}
use Rattle.pl_table.specs.Laws.{LowerLsnsAreAllowed}
use Rattle.pl_table.specs.Tables.Reach.{AreAlike}
use Rattle.pl_decide.specs.declared.key.VerdictKey.{VerdictKey}
use Rattle.pl_decide.specs.Keys.{IsKeyOf, asked_with}
use Rattle.pl_decide.specs.Agreement.{IsAllowedThrough}

-- at another LSN the same is asked as with its key there
same_at : (a : Asked) (key : VerdictKey) (own lsn : ℕ) → IsKeyOf key a → a.lsn ≡ Some own → asked_at a lsn ≡ asked_with key (Some lsn)
same_at a key own lsn is some = ap (λ (b : Asked). asked_at b lsn) (sym is) ∙ ap (λ (l : Option ℕ). asked_with key (option_map (λ o. lsn) l)) some

-- so as far as the rows allow the one they allow the other
pub keyed_through : (rows : List Row) (a : Asked) (own : ℕ) (key : VerdictKey) (end : ℕ) → IsKeyOf key a → a.lsn ≡ Some own → IsAllowedThrough rows a end → IsAllowedThrough rows (asked_with key (Some 0)) end
keyed_through rows a own key end is some through lsn lt = ap (rows_allow rows) (sym (same_at a key own lsn is some)) ∙ through lsn lt

pub own_through : (rows : List Row) (a : Asked) (own : ℕ) (key : VerdictKey) (end : Option ℕ) → IsKeyOf key a → a.lsn ≡ Some own → IfSome end (IsAllowedThrough rows (asked_with key (Some 0))) → IfSome end (IsAllowedThrough rows a)
own_through rows a own key None is some through = tt
own_through rows a own key (Some end) is some through = λ lsn lt. ap (rows_allow rows) (same_at a key own lsn is some) ∙ through lsn lt

-- up to an LSN that is hardened, the lesser of the two
pub cut_at : (lsn end hard : ℕ) → lsn ≤ hard → nat_le lsn end ≡ nat_le lsn (min end hard)
cut_at lsn end hard le = grind (arith, nat_tests)

-- ---- the end that a walk finds

le_itself : (n : ℕ) → nat_le n n ≡ true
le_itself n = grind (arith, nat_tests)

le_both : (m n : ℕ) → nat_le m n ≡ true → nat_le n m ≡ true → m ≡ n
le_both m n up down = grind (arith, nat_tests)

-- is the only one
pub tells_end : (rows : List Row) (a : Asked) (reach end : ℕ) (same : Bool) → same ≡ (reach == end) → reach < 2 ^ 64 → end < 2 ^ 64 → IsAllowedThrough rows a reach → IsTrue same ↔ IsAllowedThrough rows a end
tells_end rows a reach end same is fits end_fits found = (
  λ yes lsn lt. found lsn lt ∙ ap (nat_le lsn) ((unsigned_Decides reach end).0 (sym is ∙ yes)),
  λ through. is ∙ (unsigned_Decides reach end).1 (le_both reach end
      (sym (through reach fits) ∙ found reach fits ∙ le_itself reach)
      (sym (found end end_fits) ∙ through end end_fits ∙ le_itself end)),
)

-- it is the greatest LSN if that is one of those at which they allow alike
pub to_the_last : (rows : List Row) (a : Asked) (lsns : LsnRange) (last : ℕ) → LowerLsnsAreAllowed → rows_allow rows a ≡ true → lsns.from ≤ lsns.to → AreAlike rows a lsns → last ≤ lsns.to → (lsn : ℕ) → lsn ≤ last → rows_allow rows (asked_at a lsn) ≡ nat_le lsn last
to_the_last rows a lsns last lower allowed order alike le lsn below =
    let at_to : rows_allow rows (asked_at a lsns.to) ≡ true = ap found_allows (alike lsns.to order (omega arith)) ∙ allowed in
    let here : nat_le lsn last ≡ true = grind (arith, nat_tests) in
    lower rows a lsns.to lsn (omega (arith, below, le)) at_to ∙ sym here
