-- Dealing passes out, a desk at a time.
use Rattle.std.proofs.Common.{◌≡◌, ℕ, zero, suc, false, ◌+◌, ◌<◌, ◌≤◌, List, [], ◌∷◌, ◌++◌, map, length, get_or, set, Some, append_assoc, refl, sym, ap, subst, ◌∙◌, arith}
use Rattle.std.specs.Prelude.{◌==◌, slice_get, slice_index_or, replicate}
use Rattle.std.specs.List.{All, AllByRecursion, range_with_len, remove}
use Rattle.std.proofs.lemmas.List.{map-append, length-map, length-append, length-set}
use Rattle.std.proofs.lemmas.List.Elements.{All-from_recursion}
use Rattle.pl_core.specs.History.{History}
use Rattle.pl_desk.specs.declared.rule.Terms.{Terms}
use Rattle.pl_desk.specs.Passes.{Knowledge, DeskOrigin, IsOf, fresh, fresh_passes}
use Rattle.pl_conn.specs.Desks.{ArePassesOf, dealt_into, terms_of_each, fresh_at, all_fresh}

-- the last item is dealt to the list at its place
pub dealt_into-last : (items : List Knowledge) (lists : List (List Knowledge)) (item : Knowledge) (d : List Knowledge) → length items < length lists
    → dealt_into items (set lists (length items) (get_or lists (length items) d ++ item ∷ [])) ≡ dealt_into (items ++ item ∷ []) lists
dealt_into-last [] [] item d less = absurd (omega (arith, less))
dealt_into-last [] (list ∷ lists) item d less = refl
dealt_into-last (x ∷ xs) [] item d less = absurd (omega (arith, less))
dealt_into-last (x ∷ xs) (list ∷ lists) item d less = ap (λ (ls : List (List Knowledge)). (list ++ x ∷ []) ∷ ls) (dealt_into-last xs lists item d (omega (arith, less)))

-- the last pass is dealt, and the others are left
pub deal_last : (items left : List Knowledge) (lists : List (List Knowledge)) (item : Knowledge) (k : ℕ) (list new : List Knowledge) → items ≡ left ++ item ∷ [] → k ≡ length left → length items ≤ length lists → list ≡ get_or lists k list → new ≡ list ++ item ∷ []
    → (dealt_into left (set lists k new) ≡ dealt_into items lists) × (length left ≤ length (set lists k new))
deal_last items left lists item k list new are place room was pushed =
    let size : length (left ++ item ∷ []) ≡ length left + 1 = length-append left (item ∷ []) in
    let total : length items ≡ length (left ++ item ∷ []) = ap length are in
    let same : length (set lists k new) ≡ length lists = length-set lists k new in
    let value : new ≡ get_or lists (length left) list ++ item ∷ [] = pushed ∙ ap (λ (l : List Knowledge). l ++ item ∷ []) (was ∙ ap (λ (j : ℕ). get_or lists j list) place) in (
      (λ i. dealt_into left (set lists (place i) (value i))) ∙ dealt_into-last left lists item list (omega (arith, size, total, room)) ∙ ap (λ (xs : List Knowledge). dealt_into xs lists) (sym are),
      omega (arith, size, total, room, same),
    )

fresh_more : (desks : List DeskOrigin) (desk : DeskOrigin) (a n : ℕ)
    → dealt_into (map (fresh desk) (range_with_len a n)) (map (fresh_at desks) (range_with_len a n)) ≡ map (fresh_at (desks ++ desk ∷ [])) (range_with_len a n)
fresh_more desks desk a zero = refl
fresh_more desks desk a (suc n) =
    let one : fresh_at desks a ++ fresh desk a ∷ [] ≡ fresh_at (desks ++ desk ∷ []) a = sym (map-append (λ d. fresh d a) desks (desk ∷ [])) in
    λ i. one i ∷ fresh_more desks desk (a + 1) n i

-- the passes of one desk more are dealt to those who have the passes of the others
pub all_fresh-more : (desks : List DeskOrigin) (desk : DeskOrigin) (seats : ℕ) → dealt_into (map (fresh desk) (range_with_len 1 seats)) (all_fresh desks seats) ≡ all_fresh (desks ++ desk ∷ []) seats
all_fresh-more desks desk seats = fresh_more desks desk 1 seats

none_fresh : (a n : ℕ) → replicate n [] ≡ map (fresh_at []) (range_with_len a n)
none_fresh a zero = refl
none_fresh a (suc n) = ap (λ (ls : List (List Knowledge)). [] ∷ ls) (none_fresh (a + 1) n)

-- a desk more, and its passes dealt out
abbrev pub IsPut : (desks new : List DeskOrigin) → DeskOrigin → List Knowledge → (all dealt_out : List (List Knowledge)) → Type 0
IsPut desks new desk passes all dealt_out = (new ≡ desks ++ desk ∷ []) × (dealt_out ≡ dealt_into passes all)

-- the same, if a desk and the passes of all desks were added
pub all_fresh-put : (desks new : List DeskOrigin) (desk : DeskOrigin) (seats : ℕ) (passes : List Knowledge) (all dealt_out : List (List Knowledge)) → IsPut desks new desk passes all dealt_out
    → passes ≡ fresh_passes desk seats → all ≡ all_fresh desks seats → dealt_out ≡ all_fresh new seats
all_fresh-put desks new desk seats passes all dealt_out put are so_far =
    put.1 ∙ (λ i. dealt_into (are i) (so_far i)) ∙ all_fresh-more desks desk seats ∙ ap (λ (ds : List DeskOrigin). all_fresh ds seats) (sym put.0)

-- what the desks are made with then
pub terms-put : (desks new : List DeskOrigin) (desk : DeskOrigin) (terms : Terms) (passes : List Knowledge) (all dealt_out : List (List Knowledge)) → IsPut desks new desk passes all dealt_out
    → desk.terms ≡ terms → map (λ d. d.terms) new ≡ map (λ d. d.terms) desks ++ terms ∷ []
terms-put desks new desk terms passes all dealt_out put are =
    ap (λ (ds : List DeskOrigin). map (λ d. d.terms) ds) put.0 ∙ map-append (λ d. d.terms) desks (desk ∷ []) ∙ ap (λ (t : Terms). map (λ (d : DeskOrigin). d.terms) desks ++ t ∷ []) are

-- with no desk, nobody has a pass
pub all_fresh-none : (seats : ℕ) → replicate seats [] ≡ all_fresh [] seats
all_fresh-none seats = none_fresh 1 seats

fresh_is_of : (desks : List DeskOrigin) (n i : ℕ) (desk : DeskOrigin) (pass : Knowledge) → slice_get desks i ≡ Some desk → slice_get (fresh_at desks n) i ≡ Some pass → IsOf desk pass
fresh_is_of [] n i desk pass at there = absurd (cc)
fresh_is_of (d ∷ ds) n zero desk pass at there =
    let same : d ≡ desk = cc in
    let is : fresh d n ≡ pass = cc in
    subst (IsOf desk) is (subst (λ (e : DeskOrigin). IsOf e (fresh d n)) same (refl, refl))
fresh_is_of (d ∷ ds) n (suc i) desk pass at there = fresh_is_of ds n i desk pass at there

are_of : (desks : List DeskOrigin) (a n : ℕ) → AllByRecursion (ArePassesOf desks) (map (fresh_at desks) (range_with_len a n))
are_of desks a zero = tt
are_of desks a (suc n) = (record { count = length-map desks (λ d. fresh d a); each = fresh_is_of desks a }, are_of desks (a + 1) n)

-- the passes that were dealt are of the desks
pub all_fresh-of : (desks : List DeskOrigin) (seats : ℕ) (all : List (List Knowledge)) → all ≡ all_fresh desks seats → All (ArePassesOf desks) all
all_fresh-of desks seats all are = subst (All (ArePassesOf desks)) (sym are) (All-from_recursion (ArePassesOf desks) (all_fresh desks seats) (are_of desks 1 seats))

-- there are as many passes to deal as there are lists
pub deals_all : (desks : List DeskOrigin) (desk : DeskOrigin) (seats : ℕ) (items : List Knowledge) (lists : List (List Knowledge)) → items ≡ map (fresh desk) (range_with_len 1 seats) → lists ≡ all_fresh desks seats → length items ≤ length lists
deals_all desks desk seats items lists are all =
    let first : length items ≡ length (range_with_len 1 seats) = ap length are ∙ length-map (range_with_len 1 seats) (fresh desk) in
    let second : length lists ≡ length (range_with_len 1 seats) = ap length all ∙ length-map (range_with_len 1 seats) (fresh_at desks) in
    omega (arith, first, second)

pub some_left : (n : ℕ) → (n == 0) ≡ false → 0 < n
some_left zero test = absurd (cc)
some_left (suc n) test = omega arith

-- a database that is taken from those that are left
pub taken : (left rest : List History) (db : History) → 0 < length left → db ≡ slice_index_or left 0 db → rest ≡ remove left 0 → left ≡ db ∷ rest
taken [] rest db some first is = absurd (omega (arith, some))
taken (d ∷ ds) rest db some first is = λ i. sym first i ∷ sym is i

-- with a desk more, and a database less
pub terms_more : (seats turns : ℕ) (desks new : List DeskOrigin) (left rest : List History) (db : History) (all : List Terms)
    → map (λ d. d.terms) new ≡ map (λ d. d.terms) desks ++ record { seats = seats; turns = turns; opening = db } ∷ [] → left ≡ db ∷ rest
    → map (λ d. d.terms) desks ++ terms_of_each seats turns left ≡ all
    → map (λ d. d.terms) new ++ terms_of_each seats turns rest ≡ all
terms_more seats turns desks new left rest db all front is so_far =
    let t : Terms = record { seats = seats; turns = turns; opening = db } in
    ap (λ (ts : List Terms). ts ++ terms_of_each seats turns rest) front
    ∙ append_assoc (map (λ d. d.terms) desks) (t ∷ []) (terms_of_each seats turns rest)
    ∙ ap (λ (hs : List History). map (λ d. d.terms) desks ++ terms_of_each seats turns hs) (sym is)
    ∙ so_far
