-- The codes by which proofs distinguish states of pages: a record is coded as the tuple of its fields.
use Rattle.std.specs.Prelude.{ℕ, List, refl}
use Rattle.std.specs.Coded.{Coded, code_by, coded×, coded_ℕ, coded_list}
use Rattle.std.specs.Ordering.{nat_cmp}
use Rattle.std.specs.FinMap as maps
use Rattle.pl_pages.specs.State.{Version, PagesState}
use Rattle.pl_pages.specs.Kept.{VersionsState}
use Rattle.pl_pages.specs.Index.{IndexState}

-- of a version
abbrev pub version_code : Coded Version
version_code =
    code_by (ℕ × (ℕ × List ℕ)) (coded× coded_ℕ (coded× coded_ℕ (coded_list coded_ℕ)))
    (λ v. (v.page, (v.lsn, v.bytes))) (λ p. record { page = p.0; lsn = p.1.0; bytes = p.1.1 }) (λ _. refl)

-- of what is kept of pages
abbrev pub pages_code : Coded PagesState
pages_code =
    code_by (List ℕ × (ℕ × (maps.FinMap nat_cmp (List ℕ) × (List Version × ℕ))))
    (coded× (coded_list coded_ℕ) (coded× coded_ℕ (coded× (maps.code coded_ℕ (coded_list coded_ℕ)) (coded× (coded_list version_code) coded_ℕ))))
    (λ s. (s.applied, (s.indexed, (s.index, (s.versions, s.chunks)))))
    (λ p. record { applied = p.0; indexed = p.1.0; index = p.1.1.0; versions = p.1.1.1.0; chunks = p.1.1.1.1 })
    (λ _. refl)

-- of the versions that are kept
abbrev pub versions_code : Coded VersionsState
versions_code =
    code_by (List Version × ℕ) (coded× (coded_list version_code) coded_ℕ)
    (λ s. (s.versions, s.chunks)) (λ p. record { versions = p.0; chunks = p.1 }) (λ _. refl)

-- of the index
abbrev pub index_code : Coded IndexState
index_code =
    code_by (ℕ × maps.FinMap nat_cmp (List ℕ)) (coded× coded_ℕ (maps.code coded_ℕ (coded_list coded_ℕ)))
    (λ s. (s.entered, s.lsns)) (λ p. record { entered = p.0; lsns = p.1 }) (λ _. refl)
