-- How far the rows that were seen allow a request.
use Rattle.std.proofs.Common.{◌≡◌, ℕ, ◌≤◌, ◌<◌, nat_le, Bool, true, false, List, ◌∷◌, length, Some, IsSome, refl, sym, ap, ◌∙◌, inl, inr, arith, get_or}
use Rattle.std.proofs.lemmas.Bool.{cases_lt}
use Rattle.std.proofs.lemmas.Bool.Decides.{nat_tests}
use Rattle.std.proofs.lemmas.Option.{slice_get_within}
use Rattle.pl_table.specs.declared.tables.row.Row.{Row}
use Rattle.pl_table.specs.Requests.Asking.{Asked, asked_at}
use Rattle.pl_table.specs.Tables.Row.{is_about, row_matches}
use Rattle.pl_table.specs.Tables.FirstMatch.{found_allows, rows_allow}
use Rattle.pl_table.specs.Tables.Index.{can_match, places_from}
use Rattle.pl_table.specs.Tables.Reach.{any_ends, matches_at, Narrows}
use Rattle.pl_table.proofs.Listed.{IsLeft, IsLeft-next, IsLeft-none, listed-next, found-next, missed-next}
use Rattle.pl_table.proofs.Ends.{with_number, own_asked, none_asked, row_at, lower_lsns, no_ends}

-- Up to low the rows allow the request, above high they do not; the places of the list decide the LSNs between.
pub record IsReached (rows : List Row) (q : Asked) (most low high : ℕ) (list : List ℕ) : Type 0 where
  pub order : (low ≤ high) × (high ≤ most)
  pub allowed : (n : ℕ) → n ≤ low → rows_allow rows (asked_at q n) ≡ true
  pub denied : (n : ℕ) → high < n → n ≤ most → rows_allow rows (asked_at q n) ≡ false
  pub left : (n : ℕ) → low < n → n ≤ high → IsLeft rows (asked_at q n) list

-- an allowed request is allowed at 0
allowed_at_zero : (rows : List Row) (q : Asked) (n : ℕ) → n ≤ 0 → rows_allow rows q ≡ true → rows_allow rows (asked_at q n) ≡ true
allowed_at_zero rows q n le h =
    with_number q.lsn (rows_allow rows (asked_at q n) ≡ true)
    (λ none. rw (none_asked q n none) h)
    (λ own some. lower_lsns rows q own n (omega arith) (rw (own_asked q own some) h))

all_left : (rows : List Row) (q : Asked) (list : List ℕ) (n : ℕ) → list ≡ places_from 0 (can_match q) rows → IsLeft rows (asked_at q n) list
all_left rows q list n are = (0, are, refl)

pub reached-start : (rows : List Row) (q : Asked) (most : ℕ) (list : List ℕ) → rows_allow rows q ≡ true → list ≡ places_from 0 (can_match q) rows → IsReached rows q most 0 most list
reached-start rows q most list h are = record {
  order = (omega arith, omega arith);
  allowed = λ n le. allowed_at_zero rows q n le h;
  denied = λ n gt le. absurd (omega arith);
  left = λ n gt le. all_left rows q list n are;
}

-- the next row of the list is there, and can match: one of the LSNs between shows it
pub record IsHere (rows : List Row) (q : Asked) (p : ℕ) : Type 0 where
  pub within : p < length rows
  pub listed : (row : Row) → row ≡ get_or rows p row → can_match q row ≡ true

below : (low high : ℕ) → ¬ (low ≡ high) → low ≤ high → low < high
below low high apart le = elim (cases_lt low high) [
  | inl lt ↦ lt
  | inr ge ↦ absurd (apart (omega arith))
]

pub reached-here : (rows : List Row) (q : Asked) (most low high : ℕ) (list : List ℕ) (p : ℕ) (ps : List ℕ) → IsReached rows q most low high list → ¬ (low ≡ high) → list ≡ p ∷ ps → IsHere rows q p
reached-here rows q most low high list p ps reached apart is =
    let lt = below low high apart reached.order.0 in
    let next = IsLeft-next rows (asked_at q high) list p ps is (reached.left high lt (omega arith)) in
    record {
      within = slice_get_within rows p next.row next.here;
      listed = λ row e. listed-next rows (asked_at q high) p ps row next e;
    }

misses : (row : Row) (q : Asked) (n : ℕ) → is_about row q ≡ false → row_matches row (asked_at q n) ≡ false
misses row q n e = rw e refl

-- a row that is not about the request decides nothing
pub reached-missed : (rows : List Row) (q : Asked) (most low high : ℕ) (list : List ℕ) (p : ℕ) (ps : List ℕ) (row : Row) → IsReached rows q most low high list → list ≡ p ∷ ps → row ≡ get_or rows p row → is_about row q ≡ false → IsReached rows q most low high ps
reached-missed rows q most low high list p ps row reached is here e = record {
  order = reached.order;
  allowed = reached.allowed;
  denied = reached.denied;
  left = λ n gt le. missed-next rows (asked_at q n) p ps row (IsLeft-next rows (asked_at q n) list p ps is (reached.left n gt le)) here (misses row q n e);
}

-- the next row decides one of the LSNs between, if it matches there
found_here : (rows : List Row) (q : Asked) (list : List ℕ) (p : ℕ) (ps : List ℕ) (row : Row) (own n : ℕ) (b : Bool) → q.lsn ≡ Some own → IsLeft rows (asked_at q n) list → list ≡ p ∷ ps → row ≡ get_or rows p row → is_about row q ≡ true → matches_at row n ≡ true → row.allows ≡ b → rows_allow rows (asked_at q n) ≡ b
found_here rows q list p ps row own n b some left is here about matches allows =
    let next = IsLeft-next rows (asked_at q n) list p ps is left in
    let found = found-next rows (asked_at q n) p ps row next here (row_at row q own n some ∙ rw (about, matches) refl) in
    ap found_allows (sym found) ∙ allows

-- a row that is about the request
pub reached-after : (rows : List Row) (q : Asked) (most low high : ℕ) (list : List ℕ) (p : ℕ) (ps : List ℕ) (row : Row) (own new_low new_high : ℕ) → q.lsn ≡ Some own → IsReached rows q most low high list → list ≡ p ∷ ps → row ≡ get_or rows p row → is_about row q ≡ true → Narrows row low high new_low new_high → IsReached rows q most new_low new_high ps
reached-after rows q most low high list p ps row own new_low new_high some reached is here about after = record {
  order = (after.order.1, omega (arith, after.order, reached.order));
  allowed = λ n le. elim (cases_lt low n) [
    | inl lt ↦
        let at = after.allowed n lt le in
        found_here rows q list p ps row own n true some (reached.left n lt (omega (arith, after.order))) is here about at.1 at.0
    | inr low_le ↦ reached.allowed n low_le
  ];
  denied = λ n gt le. elim (cases_lt high n) [
    | inl lt ↦ reached.denied n lt le
    | inr high_le ↦
        let at = after.denied n gt high_le in
        found_here rows q list p ps row own n false some (reached.left n (omega (arith, after.order)) high_le) is here about at.1 at.0
  ];
  left = λ n gt le.
      let next = IsLeft-next rows (asked_at q n) list p ps is (reached.left n (omega (arith, after.order)) (omega (arith, after.order))) in
      missed-next rows (asked_at q n) p ps row next here (row_at row q own n some ∙ rw (about, after.between n gt le) refl);
}

pub reached-about : (rows : List Row) (q : Asked) (most low high : ℕ) (list : List ℕ) (p : ℕ) (ps : List ℕ) (row : Row) (new_low new_high : ℕ) → IsSome q.lsn → IsReached rows q most low high list → list ≡ p ∷ ps → row ≡ get_or rows p row → is_about row q ≡ true → Narrows row low high new_low new_high → IsReached rows q most new_low new_high ps
reached-about rows q most low high list p ps row new_low new_high names reached is here about after =
    with_number q.lsn (IsReached rows q most new_low new_high ps)
    (λ none. absurd (let clash : false ≡ true = rw none at names in cc))
    (λ own some. reached-after rows q most low high list p ps row own new_low new_high some reached is here about after)

-- if nothing is left between, low is how far the rows allow
pub reached-end : (rows : List Row) (q : Asked) (most low high : ℕ) (list : List ℕ) → IsReached rows q most low high list → ((n : ℕ) → low < n → n ≤ high → length list ≡ 0) → (lsn : ℕ) → lsn ≤ most → rows_allow rows (asked_at q lsn) ≡ nat_le lsn low
reached-end rows q most low high list reached none lsn le =
    elim (cases_lt low lsn) [
      | inl lt ↦
          let above : nat_le lsn low ≡ false = grind (arith, nat_tests) in
          elim (cases_lt high lsn) [
            | inl past ↦ reached.denied lsn past le ∙ sym above
            | inr upto ↦ ap found_allows (IsLeft-none rows (asked_at q lsn) list (none lsn lt upto) (reached.left lsn lt upto)) ∙ sym above
          ]
      | inr upto ↦
          let below : nat_le lsn low ≡ true = grind (arith, nat_tests) in
          reached.allowed lsn upto ∙ sym below
    ]

-- if no row ends, the rows allow the request at each LSN
pub reached-no_ends : (rows : List Row) (q : Asked) (most : ℕ) (has : Bool) → has ≡ any_ends rows → has ≡ false → rows_allow rows q ≡ true → (lsn : ℕ) → lsn ≤ most → rows_allow rows (asked_at q lsn) ≡ nat_le lsn most
reached-no_ends rows q most has is none h lsn le =
    let below : nat_le lsn most ≡ true = grind (arith, nat_tests) in
    ap found_allows (no_ends 1 rows q lsn (sym is ∙ none)) ∙ h ∙ sym below
