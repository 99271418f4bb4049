-- How the logic stores what contracts see of an arena.
use Rattle.std.specs.Prelude.{ℕ, List, refl}
use Rattle.std.specs.Ordering.{nat_cmp}
use Rattle.std.specs.FinMap as maps
use Rattle.std.specs.Coded.{Coded, code_by, coded×, coded_ℕ, coded_list}
use Rattle.pl_arena.specs.Arena.{Arena}

abbrev pub arena_code : Coded Arena
arena_code =
    code_by (ℕ × maps.FinMap nat_cmp (List ℕ)) (coded× coded_ℕ (maps.code coded_ℕ (coded_list coded_ℕ)))
    (λ a. (a.max_chunks, a.out))
    (λ p. record { max_chunks = p.0; out = p.1 })
    (λ _. refl)
