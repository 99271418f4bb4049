-- Which token is listed for an id: none or one.
use Rattle.std.proofs.Common.{◌≡◌, ℕ, List, [], ◌∷◌, All, Some, Option, eqb, false, refl, sym, ap, ◌∙◌, map, ◌↔◌, IsSome, Contains, is_some, arith}
use Rattle.std.specs.Cmp.{nat_eq_equiv}
use Rattle.std.specs.List.{IsDistinct, AllByRecursion, list_any}
use Rattle.std.proofs.lemmas.Bool.{eq-eqb, eqb-true}
use Rattle.std.proofs.lemmas.Bool.Decides.{nat_tests}
use Rattle.std.proofs.lemmas.Map.Views.{Contains-from_any, list_any-from_Contains}
use Rattle.std.proofs.lemmas.List.Elements.{All-from_recursion}
use Rattle.pl_table.specs.declared.tables.table.Principal.{Principal}
use Rattle.pl_table.specs.Tables.Table.{token_of}

-- what is found in a list is found with a principal of another id in front of it
others : (id : ℕ) (p : Principal) (found : Option (List ℕ)) (ps : List Principal) → AllByRecursion (λ n. eqb p.id n ≡ false) (map (λ q. q.id) ps) → AllByRecursion (λ q. q.id ≡ id → found ≡ Some q.token) ps → AllByRecursion (λ q. q.id ≡ id → (eqb p.id id ≡ false) × (found ≡ Some q.token)) ps
others id p found [] apart tells = tt
others id p found (q ∷ qs) apart tells = (λ e. (ap (λ (n : ℕ). eqb p.id n) (sym e) ∙ apart.0, tells.0 e), others id p found qs apart.1 tells.1)

after : (id : ℕ) (p : Principal) (ps qs : List Principal) → AllByRecursion (λ q. q.id ≡ id → (eqb p.id id ≡ false) × (token_of id ps ≡ Some q.token)) qs → AllByRecursion (λ q. q.id ≡ id → token_of id (p ∷ ps) ≡ Some q.token) qs
after id p ps [] h = tt
after id p ps (q ∷ qs) h = (λ e. let both = h.0 e in rw both.0 both.1, after id p ps qs h.1)

each_told : (id : ℕ) (ps : List Principal) → IsDistinct eqb (map (λ p. p.id) ps) → AllByRecursion (λ p. p.id ≡ id → token_of id ps ≡ Some p.token) ps
unfolding IsDistinct
each_told id [] apart = tt
each_told id (p ∷ ps) apart =
    (λ e. rw (eq-eqb p.id id e) refl, after id p ps ps (others id p (token_of id ps) ps apart.0 (each_told id ps apart.1)))

pub token_of-only : (id : ℕ) (ps : List Principal) → IsDistinct eqb (map (λ p. p.id) ps) → All (λ p. p.id ≡ id → token_of id ps ≡ Some p.token) ps
token_of-only id ps apart = All-from_recursion (λ p. p.id ≡ id → token_of id ps ≡ Some p.token) ps (each_told id ps apart)

-- a token is found if a test finds the id
is_some-token_of : (id : ℕ) (ps : List Principal) → is_some (token_of id ps) ≡ list_any (eqb id) (map (λ p. p.id) ps)
is_some-token_of id [] = refl
is_some-token_of id (p ∷ ps) = grind (arith, nat_tests, is_some-token_of id ps)

-- a token is found for the ids that are listed
pub IsSome-token_of : (id : ℕ) (ps : List Principal) → IsSome (token_of id ps) ↔ Contains (map (λ p. p.id) ps) id
IsSome-token_of id ps = (
  λ h. Contains-from_any eqb-true id (map (λ p. p.id) ps) (sym (is_some-token_of id ps) ∙ h),
  λ h. is_some-token_of id ps ∙ list_any-from_Contains nat_eq_equiv id (map (λ p. p.id) ps) h,
)
