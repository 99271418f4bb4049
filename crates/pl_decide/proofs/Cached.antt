-- Cached verdicts: what a look-up and a put leave of them.
use Rattle.std.proofs.Common.{◌≡◌, ℕ, ◌⊎◌, List, [], ◌∷◌, Some, Contains, All, sym, ap, subst, ◌∙◌, inl, inr, arith}
use Rattle.std.specs.Prelude.{IfSome}
use Rattle.std.proofs.lemmas.List.Elements.{All-contains, All-contains_itself, All-nil, All-cons, Contains-append_right}
use Rattle.lru.specs.LruCache.{LruCache}
use Rattle.pl_table.specs.declared.tables.row.Row.{Row}
use Rattle.pl_table.specs.Requests.Asking.{Asked}
use Rattle.pl_table.specs.Tables.Table.{WrittenTable}
use Rattle.pl_table.specs.Tables.FirstMatch.{first_match_from}
use Rattle.pl_table.specs.Tables.Reach.{IsAtOne}
use Rattle.pl_decide.specs.declared.key.VerdictKey.{VerdictKey}
use Rattle.pl_decide.specs.declared.row_verdict.RowVerdict.{RowVerdict}
use Rattle.pl_decide.specs.Keys.{CachedVerdict, IsKeyOf}
use Rattle.pl_decide.specs.Agreement.{most_cached, IsAllowedThrough, IsOfRows, IsSpan, AgreesWith, IsCache}
use Rattle.pl_decide.proofs.AllowedThrough.{own_through}

abbrev pub Cache : Type 0
Cache = LruCache VerdictKey RowVerdict

-- what holds of each member
all_of : {X : Type 0} (P : X → Type 0) (xs : List X) → ((x : X) → Contains xs x → P x) → All P xs
all_of P xs each k d lt = each _ (All-contains_itself xs k d lt)

-- ---- no verdict is cached

pub agrees-none : (t : WrittenTable) → AgreesWith [] t
unfolding AgreesWith
agrees-none t = All-nil (IsOfRows t.rows)

pub cache-none : (c : Cache) → c.cap ≡ most_cached → c.entries ≡ [] → IsCache c
cache-none c most none = record { most = most; each = subst (All IsSpan) (sym none) (All-nil IsSpan) }

-- ---- a look-up: each verdict was there

abbrev pub Stays : List CachedVerdict → List CachedVerdict → Type 0
Stays was now = (e : CachedVerdict) → Contains now e → Contains was e

pub agrees-stays : (was now : List CachedVerdict) (t : WrittenTable) → Stays was now → AgreesWith was t → AgreesWith now t
unfolding AgreesWith
agrees-stays was now t stays agrees = all_of (IsOfRows t.rows) now (λ e there. All-contains (IsOfRows t.rows) was e agrees (stays e there))

pub cache-stays : (was now : Cache) → Stays was.entries now.entries → now.cap ≡ was.cap → IsCache was → IsCache now
cache-stays was now stays cap cache = record {
  most = cap ∙ cache.most;
  each = all_of IsSpan now.entries (λ e there. All-contains IsSpan was.entries e cache.each (stays e there));
}

-- what is found is the verdict of the rows
pub found-is : (verdicts : List CachedVerdict) (t : WrittenTable) (a : Asked) (key : VerdictKey) (verdict : RowVerdict) → AgreesWith verdicts t → IsKeyOf key a → IsAtOne verdict.lsns a.lsn → Contains verdicts (key, verdict) → verdict.found ≡ first_match_from 1 t.rows a
unfolding AgreesWith
found-is verdicts t a key verdict agrees is at there = sym ((All-contains (IsOfRows t.rows) verdicts (key, verdict) agrees there).found a.lsn at) ∙ ap (first_match_from 1 t.rows) is

-- so is how far they allow what is asked
pub end-is : (verdicts : List CachedVerdict) (t : WrittenTable) (a : Asked) (own : ℕ) (key : VerdictKey) (verdict : RowVerdict) → AgreesWith verdicts t → IsKeyOf key a → a.lsn ≡ Some own → Contains verdicts (key, verdict) → IfSome verdict.allowed_through (IsAllowedThrough t.rows a)
unfolding AgreesWith
end-is verdicts t a own key verdict agrees is some there = own_through t.rows a own key verdict.allowed_through is some (All-contains (IsOfRows t.rows) verdicts (key, verdict) agrees there).end

-- ---- a put: each verdict was there, or is the new one

abbrev pub Keeps : List CachedVerdict → List CachedVerdict → CachedVerdict → Type 0
Keeps was now new = (e : CachedVerdict) → Contains now e → Contains was e ⊎ (e ≡ new)

either : {X : Type 0} (P : X → Type 0) (was : List X) (e new : X) → All P was → P new → Contains was e ⊎ (e ≡ new) → P e
either P was e new all p (inl there) = All-contains P was e all there
either P was e new all p (inr same) = subst P (sym same) p

pub agrees-keeps : (was now : List CachedVerdict) (new : CachedVerdict) (t : WrittenTable) → Keeps was now new → AgreesWith was t → IsOfRows t.rows new → AgreesWith now t
unfolding AgreesWith
agrees-keeps was now new t keeps agrees of = all_of (IsOfRows t.rows) now (λ e there. either (IsOfRows t.rows) was e new agrees of (keeps e there))

pub cache-keeps : (was now : Cache) (new : CachedVerdict) → IsSpan new → Keeps was.entries now.entries new → now.cap ≡ was.cap → IsCache was → IsCache now
cache-keeps was now new span keeps cap cache = record {
  most = cap ∙ cache.most;
  each = all_of IsSpan now.entries (λ e there. either IsSpan was.entries e new cache.each span (keeps e there));
}

-- ---- a loop over the verdicts

-- if all of them agree, the next one does
pub next-agrees : (rows : List Row) (verdicts was now : List CachedVerdict) (e : CachedVerdict) → was ≡ e ∷ now → Stays verdicts was → All (IsOfRows rows) verdicts → IsOfRows rows e
next-agrees rows verdicts was now e turn stays all = All-contains (IsOfRows rows) verdicts e all (stays e (subst (λ (es : List CachedVerdict). Contains es e) (sym turn) (All-contains_itself (e ∷ now) 0 e (omega arith))))

-- if none is left, all of them agree
pub none-left : (rows : List Row) (verdicts was : List CachedVerdict) → was ≡ [] → (All (IsOfRows rows) was → All (IsOfRows rows) verdicts) → All (IsOfRows rows) verdicts
none-left rows verdicts was none before = before (subst (All (IsOfRows rows)) (sym none) (All-nil (IsOfRows rows)))

-- the next of them agrees, and it goes on with the others
pub passed-on : (rows : List Row) (verdicts was now : List CachedVerdict) (e : CachedVerdict) → was ≡ e ∷ now → IsOfRows rows e → Stays verdicts was × (All (IsOfRows rows) was → All (IsOfRows rows) verdicts) → Stays verdicts now × (All (IsOfRows rows) now → All (IsOfRows rows) verdicts)
passed-on rows verdicts was now e turn of before = (
  λ d there. before.0 d (subst (λ (es : List CachedVerdict). Contains es d) (sym turn) (Contains-append_right (e ∷ []) now d there)),
  λ all. before.1 (subst (All (IsOfRows rows)) (sym turn) (All-cons (IsOfRows rows) e now of all)),
)
