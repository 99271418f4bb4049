-- A call at one of several desks.
use Rattle.std.proofs.Common.{◌≡◌, ℕ, List, set, Option, Some, refl, sym, subst}
use Rattle.std.specs.Prelude.{slice_get}
use Rattle.pl_table.specs.Requests.Request.{Query}
use Rattle.pl_core.specs.declared.reply.Reply.{Reply}
use Rattle.pl_desk.specs.Passes.{Knowledge, IsSamePass, WasCalled}
use Rattle.pl_conn.specs.Desks.{CalledWith, DesksCall}

at_database : (passes : List Knowledge) (request : Query) (reply : Reply) (p q : Knowledge) → slice_get passes request.head.database ≡ Some p → IsSamePass p q → WasCalled p request reply q
    → DesksCall passes request reply (set passes request.head.database q)
at_database passes request reply p q is same was =
    subst (λ (o : Option Knowledge). CalledWith o passes request reply (set passes request.head.database q)) (sym is) (q, refl, same, was)

-- the pass of the database was called
pub called : (before passes : List Knowledge) (k : ℕ) (request : Query) (reply : Reply) (p q : Knowledge) → passes ≡ before → k ≡ request.head.database
    → slice_get passes k ≡ Some p → IsSamePass p q → WasCalled p request reply q
    → DesksCall before request reply (set passes k q)
called before passes k request reply p q list place is same was =
    subst (λ (ps : List Knowledge). DesksCall ps request reply (set passes k q)) list
    (subst (λ (j : ℕ). DesksCall passes request reply (set passes j q)) (sym place)
    (at_database passes request reply p q (subst (λ (j : ℕ). slice_get passes j ≡ Some p) place is) same was))
