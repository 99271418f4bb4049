-- Keys that compare as equal are one.
use Rattle.std.proofs.Common.{◌≡◌, ℕ, ◌+◌, Bool, true, false, ◌&&◌, ◌==◌, List, [], ◌∷◌, length, map, get_or, Option, Some, None, Contains, refl, sym, ap, subst, ◌∙◌, inl, inr}
use Rattle.std.specs.Prelude.{IfSome, ◌⊎◌, Result, Ok, Err, OnOk, OnErr, ◌↔◌, IsTrue}
use Rattle.std.specs.Bool.{beq}
use Rattle.std.specs.List.{range_with_len}
use Rattle.pl_table.specs.contracts.requests.op.OpPartialEq.TheImpl as op_eq
use Rattle.pl_table.specs.contracts.requests.op.RolePartialEq.TheImpl as role_eq
use Rattle.pl_table.specs.declared.requests.op.Op.{Op}
use Rattle.pl_table.specs.declared.requests.op.Role.{Role}
use Rattle.pl_table.specs.declared.requests.op.Role.TheVariants as roles
use Rattle.pl_table.specs.Requests.Ops.{role_of_number, op_of_number, all_ops}
use Rattle.lru.specs.LruCache.{LruCache, lru_cache, put_entries}
use Rattle.std.specs.Option.{option_eq}
use Rattle.std.specs.Map.{lookup}
use Rattle.std.specs.Cmp.{unsigned_Decides, booleans_Decides}
use Rattle.lru.proofs.CallerLemmas.{Contains-lookup, Contains-put_entries}
use Rattle.pl_decide.specs.declared.key.VerdictKey.{VerdictKey}
use Rattle.pl_decide.specs.declared.row_verdict.RowVerdict.{RowVerdict}
use Rattle.pl_decide.specs.Keys.{CachedVerdict}
use Rattle.pl_decide.proofs.Acts.{op_placed}

got : {A : Type 0} (x y : A) → Some x ≡ Some y → x ≡ y
got x y e = cc

-- values whose numbers are equal are one, if each is found by its number
by_number : {A : Type 0} (number : A → ℕ) (back : ℕ → Option A) → ((x : A) → back (number x) ≡ Some x) → (a b : A) → (number a == number b) ≡ true → a ≡ b
by_number number back found a b h = got a b (sym (found a) ∙ ap back ((unsigned_Decides (number a) (number b)).0 h) ∙ found b)

role_placed : (place : Role → ℕ) → map place (roles.Primary ∷ roles.Secondary ∷ roles.PageServer ∷ roles.Operator ∷ []) ≡ range_with_len 0 4 → (x : Role) → role_of_number (place x + 1) ≡ Some x
role_placed place are roles.Primary = ap (λ (l : List ℕ). role_of_number (get_or l 0 0 + 1)) are
role_placed place are roles.Secondary = ap (λ (l : List ℕ). role_of_number (get_or l 1 0 + 1)) are
role_placed place are roles.PageServer = ap (λ (l : List ℕ). role_of_number (get_or l 2 0 + 1)) are
role_placed place are roles.Operator = ap (λ (l : List ℕ). role_of_number (get_or l 3 0 + 1)) are

role_by : (place : Role → ℕ) → map place (roles.Primary ∷ roles.Secondary ∷ roles.PageServer ∷ roles.Operator ∷ []) ≡ range_with_len 0 4 → (a b : Role) → (place a == place b) ≡ true → a ≡ b
role_by place are = by_number place (λ n. role_of_number (n + 1)) (role_placed place are)

role_same : (a b : Role) → (role_eq.eq-value).it a b ≡ true → a ≡ b
role_same = role_by _ refl

op_by : (place : Op → ℕ) → map place all_ops ≡ range_with_len 0 (length all_ops) → (a b : Op) → (place a == place b) ≡ true → a ≡ b
op_by place are = by_number place (λ n. op_of_number (n + 1)) (op_placed place are)

op_same : (a b : Op) → (op_eq.eq-value).it a b ≡ true → a ≡ b
op_same = op_by _ refl

-- the test of keys
abbrev pub same_key : VerdictKey → VerdictKey → Bool
same_key a b = (a.principal == b.principal) && ((role_eq.eq-value).it a.role b.role && ((op_eq.eq-value).it a.op b.op && option_eq (λ x y. x == y) a.partition b.partition))

both : (a b : Bool) → (a && b) ≡ true → (a ≡ true) × (b ≡ true)
both true b h = (refl, h)
both false b h = absurd cc

same_option : (a b : Option ℕ) → option_eq (λ x y. x == y) a b ≡ true → a ≡ b
same_option None None h = refl
same_option None (Some y) h = absurd cc
same_option (Some x) None h = absurd cc
same_option (Some x) (Some y) h = ap Some ((unsigned_Decides x y).0 h)

key-of : (a b : VerdictKey) → a.principal ≡ b.principal → a.role ≡ b.role → a.op ≡ b.op → a.partition ≡ b.partition → a ≡ b
key-of a b p r o t =
    ap (λ (n : ℕ). record { principal = n; role = a.role; op = a.op; partition = a.partition }) p
    ∙ ap (λ (n : Role). record { principal = b.principal; role = n; op = a.op; partition = a.partition }) r
    ∙ ap (λ (n : Op). record { principal = b.principal; role = b.role; op = n; partition = a.partition }) o
    ∙ ap (λ (n : Option ℕ). record { principal = b.principal; role = b.role; op = b.op; partition = n }) t

pub key-same : (a b : VerdictKey) → same_key a b ≡ true → a ≡ b
key-same a b h =
    let first = both (a.principal == b.principal) _ h in
    let second = both ((role_eq.eq-value).it a.role b.role) _ first.1 in
    let third = both ((op_eq.eq-value).it a.op b.op) _ second.1 in
    key-of a b ((unsigned_Decides a.principal b.principal).0 first.0) (role_same a.role b.role second.0) (op_same a.op b.op third.0) (same_option a.partition b.partition third.1)

-- what is found under a key is cached under that key
pub found-under : (verdicts : List CachedVerdict) (key : VerdictKey) (found : Option RowVerdict) → found ≡ lookup (same_key key) verdicts → IfSome found (λ v. Contains verdicts (key, v))
found-under verdicts key None is = tt
found-under verdicts key (Some v) is =
    let there = Contains-lookup (same_key key) verdicts v (sym is) in
    subst (λ (k : VerdictKey). Contains verdicts (k, v)) (sym (key-same key there.0 there.2)) there.1

-- each verdict after a put was there, or is the one that was put
put-entries : (was : LruCache VerdictKey RowVerdict) (key : VerdictKey) (verdict : RowVerdict) (e : CachedVerdict) → Contains (put_entries same_key was key verdict) e → Contains was.entries e ⊎ (e ≡ (key, verdict))
put-entries was key verdict e there = elim (Contains-put_entries same_key was key verdict e there) [
  | inl before ↦ inl before
  | inr new ↦ inr (elim new.1 [
    | inl same ↦ ap (λ (k : VerdictKey). (k, e.1)) same ∙ ap (λ (v : RowVerdict). (key, v)) new.0
    | inr held ↦ ap (λ (k : VerdictKey). (k, e.1)) (sym (key-same key e.0 held.2)) ∙ ap (λ (v : RowVerdict). (key, v)) new.0
  ])
]

-- also if the put was refused
pub put-keeps : {A B : Type 0} (was now : LruCache VerdictKey RowVerdict) (key : VerdictKey) (verdict : RowVerdict) (r : Result A B) → OnOk r (now ≡ lru_cache (put_entries same_key was key verdict) was.cap) → OnErr r (now ≡ was) → (e : CachedVerdict) → Contains now.entries e → Contains was.entries e ⊎ (e ≡ (key, verdict))
put-keeps was now key verdict (Ok a) ok err e there = put-entries was key verdict e (subst (λ (k : LruCache VerdictKey RowVerdict). Contains k.entries e) ok there)
put-keeps was now key verdict (Err b) ok err e there = inl (subst (λ (k : LruCache VerdictKey RowVerdict). Contains k.entries e) err there)

-- ---- what was found, compared

abbrev pub same_found : Option (ℕ × Bool) → Option (ℕ × Bool) → Bool
same_found = option_eq (λ x y. (x.0 == y.0) && beq x.1 y.1)

found-same : (a b : Option (ℕ × Bool)) → same_found a b ≡ true → a ≡ b
found-same None None h = refl
found-same None (Some y) h = absurd cc
found-same (Some x) None h = absurd cc
found-same (Some x) (Some y) h =
    let parts = both (x.0 == y.0) _ h in
    ap (λ (n : ℕ). Some (n, x.1)) ((unsigned_Decides x.0 y.0).0 parts.0) ∙ ap (λ (b : Bool). Some (y.0, b)) ((booleans_Decides x.1 y.1).0 parts.1)

same-itself : (a : Option (ℕ × Bool)) → same_found a a ≡ true
same-itself None = refl
same-itself (Some x) = rw ((unsigned_Decides x.0 x.0).1 refl, (booleans_Decides x.1 x.1).1 refl) refl

-- the comparison reports whether this is found
pub tells-found : (x first found : Option (ℕ × Bool)) (r : Bool) → r ≡ same_found x found → x ≡ first → IsTrue r ↔ (first ≡ found)
tells-found x first found r is same = (
  λ yes. sym same ∙ found-same x found (sym is ∙ yes),
  λ e. is ∙ ap (λ (v : Option (ℕ × Bool)). same_found v found) (same ∙ e) ∙ same-itself found,
)
