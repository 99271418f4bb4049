-- Dealing out one more pass, opening a desk and closing it.
use Rattle.std.proofs.Common.{◌≡◌, ◌≢◌, ℕ, zero, suc, ◌+◌, ◌-◌, ◌<◌, ◌≤◌, List, [], ◌∷◌, ◌++◌, map, length, get_or, set, Option, Some, refl, sym, ap, subst, ◌∙◌, arith}
use Rattle.std.proofs.lemmas.List.{length-set, length-append, map-append}
use Rattle.std.proofs.lemmas.List.Elements.{All-from_recursion}
use Rattle.std.specs.List.{All, AllByRecursion, range_with_len}
use mathlib.Core.Option as maybe
use lib.ListN.{get_elem?}
use Rattle.atomic_table.specs.Table.{opening, Splits, Seen, Final}
use Rattle.atomic_table.proofs.Lists.{at_longer}
use Rattle.pl_core.specs.History.{History}
use Rattle.pl_core.specs.Legal.{IsLegal}
use Rattle.pl_desk.specs.declared.rule.Terms.{Terms}
use Rattle.pl_desk.specs.declared.rule.Stage.{Stage}
use Rattle.pl_desk.specs.declared.rule.Stage.TheVariants.{Idle, Gone}
use Rattle.pl_desk.specs.declared.rule.View.{View}
use Rattle.pl_desk.specs.Growth.{GoesOn}
use Rattle.pl_desk.specs.Rule.{total, asks_at, holds_at, HasTicket, Stands, GoesOnFrom, IsAhead, IsView, AreApart, DeskInvariant, first_view}
use Rattle.pl_desk.specs.Steps.{dealing, dealt}
use Rattle.pl_desk.specs.Passes.{Knowledge, DeskOrigin, IsOf, fresh, fresh_passes}
use Rattle.pl_desk.proofs.Histories.{goes_on-refl, goes_on-more, own-new, own-between}
use Rattle.pl_desk.proofs.Views.{total-set, total-end, total-part, Each, Pairs, each-set, each-end, pairs-set, pairs-end, apart-turned}
use Rattle.pl_desk.proofs.Updates.{NobodyInTurn, IsViewBy, nobody-before}
use Rattle.pl_desk.proofs.Drawing.{idle-live}

idle-none : (st : Stage) (t : ℕ) → st ≡ Idle → HasTicket st t → ⊥
idle-none st t idle has = subst (λ (x : Stage). HasTicket x t) idle has

-- the new pass has no entries, in the history or in what it has seen
dealt-ahead : (terms : Terms) (n : ℕ) (now : History) (v : View) → v.terms ≡ terms → GoesOn n terms.opening now → GoesOnFrom v.terms v.seen → IsAhead v.terms v.number v.seen now → IsAhead v.terms (n + 1) v.seen now
dealt-ahead terms n now v of onward sound ahead =
    let from : GoesOn n v.terms.opening now = subst (λ (t : Terms). GoesOn n t.opening now) (sym of) onward in
    let now-own = own-new n (n + 1) v.terms.opening now from (omega arith) in
    let seen-own = own-between v.terms.seats v.terms.seats (n + 1) v.terms.opening v.seen now sound.onward ahead.onward now-own in
    record { sound = ahead.sound; onward = ahead.onward; own = now-own ∙ sym seen-own }

pub deals : (terms : Terms) (id : ℕ) (v : View) → v.stage ≡ Idle → 0 < v.dealt → v.dealt < v.terms.seats → Splits (DeskInvariant terms) id v (dealing v) (dealt v)
deals terms id v idle some few s r at =
    let n = length s.views in
    let live = idle-live v.stage idle in
    let mine = r.views id v at live in
    let first = mine.dealt some in
    let left = dealing v in
    let right = dealt v in
    let before = set s.views id left in
    let vs = before ++ right ∷ [] in
    let size : n + 1 ≡ length vs = let sizes = length-append before (right ∷ []) in let same = length-set s.views id left in omega (arith, sizes, same) in
    let own : IsViewBy terms s.words (n + 1) r.now left = record {
      of = mine.of;
      sound = mine.sound;
      ahead = mine.ahead;
      some = mine.some;
      number = omega (arith, mine.number);
      drawn = mine.drawn;
      dealt = λ _. (omega (arith, first.0), first.1);
      stage = subst (Stands (get_or s.words 1 0) (get_or s.words 2 0) r.now left) (sym idle) tt;
    } in
    let new : IsViewBy terms s.words (n + 1) r.now right = record {
      of = mine.of;
      sound = mine.sound;
      ahead = subst (λ (k : ℕ). IsAhead v.terms k v.seen r.now) (ap (λ (k : ℕ). k + 1) (sym first.0)) (dealt-ahead terms n r.now v mine.of r.onward mine.sound mine.ahead);
      some = omega arith;
      number = omega (arith, first.0);
      drawn = mine.drawn;
      dealt = λ more. absurd (omega (arith, more));
      stage = subst (Stands (get_or s.words 1 0) (get_or s.words 2 0) r.now right) (sym idle) tt;
    } in
    let others : (j : ℕ) (u : View) → j ≢ id → get_elem? s.views j ≡ maybe.some u → u.stage ≢ Gone → IsViewBy terms s.words (n + 1) r.now u =
    λ j u away there living.
    let is = r.views j u there living in
    let apart = r.apart id j v u (λ e. away (sym e)) at there live living in
    record {
      of = is.of;
      sound = is.sound;
      ahead = is.ahead;
      some = is.some;
      number = omega (arith, is.number);
      drawn = is.drawn;
      dealt = λ more. absurd (apart.numbers (first.1 ∙ sym (is.dealt more).1));
      stage = is.stage;
    } in
    let each : Each (IsViewBy terms s.words (n + 1) r.now) vs =
    each-end (IsViewBy terms s.words (n + 1) r.now) before right new (each-set (IsViewBy terms s.words (n + 1) r.now) s.views id left (λ _. own) others) in
    let beside : Each (AreApart right) before =
    each-set (AreApart right) s.views id left
    (λ _. record { numbers = λ e. (let number = mine.number in omega (arith, e, number, first.0)); tickets = λ t has. absurd (idle-none v.stage t idle has) })
    (λ j u away there living. let is = r.views j u there living in
    record { numbers = λ e. (let number = is.number in omega (arith, e, number, first.0)); tickets = λ t has. absurd (idle-none v.stage t idle has) }) in
    let pairs : Pairs AreApart before =
    pairs-set AreApart apart-turned s.views id left (λ _ j u away there living. let apart = r.apart id j v u (λ e. away (sym e)) at there live living in
    record { numbers = apart.numbers; tickets = apart.tickets }) r.apart in
    let asks : total asks_at vs ≡ total asks_at s.views =
    let sum = total-set asks_at s.views id v left at in let end = total-end asks_at before right in let none = ap asks_at idle in omega (arith, sum, end, none) in
    let holds : total holds_at vs ≡ total holds_at s.views =
    let sum = total-set holds_at s.views id v left at in let end = total-end holds_at before right in let none = ap holds_at idle in omega (arith, sum, end, none) in
    record {
      now = r.now;
      words = r.words;
      slots = r.slots;
      bound = r.bound;
      legal = r.legal;
      onward = subst (λ (m : ℕ). GoesOn m terms.opening r.now) size (goes_on-more n (n + 1) terms.opening r.now (omega arith) r.onward);
      counted = r.counted;
      seats = let seats = ap (λ (t : Terms). t.seats) mine.of in omega (arith, size, first.0, few, seats);
      room = let room = r.room in omega (arith, room, asks, size);
      tickets = r.tickets ∙ ap (λ (k : ℕ). get_or s.words 2 0 + k) (sym holds);
      views = subst (λ (m : ℕ). Each (IsViewBy terms s.words m r.now) vs) size each;
      apart = pairs-end AreApart apart-turned before right beside pairs;
      home = λ none. r.home (nobody-before s.views id v left at (λ t h turn. let clash = sym idle ∙ turn in cc) (λ j u t h there. none j u t h (at_longer before (right ∷ []) j u there)));
    }

-- the view of the first pass, which has dealt passes up to this number
abbrev pub dealer : Terms → ℕ → View
dealer terms number = record (first_view terms) { dealt = number }

range-end : (a n j : ℕ) → a + n ≡ j → range_with_len a (suc n) ≡ range_with_len a n ++ j ∷ []
range-end a zero j e = let same : a ≡ j = omega arith in ap (λ (k : ℕ). k ∷ []) same
range-end a (suc n) j e = ap (λ (ks : List ℕ). a ∷ ks) (range-end (a + 1) n j (omega arith))

-- the passes that the first one has dealt, with one more
pub dealt-end : (desk : DeskOrigin) (number : ℕ) → 1 ≤ number
    → map (fresh desk) (range_with_len 2 (number + 1 - 1)) ≡ map (fresh desk) (range_with_len 2 (number - 1)) ++ fresh desk (number + 1) ∷ []
dealt-end desk zero le = absurd (omega arith)
dealt-end desk (suc n) le =
    let size : suc n + 1 - 1 ≡ suc n = omega arith in
    let before : suc n - 1 ≡ n = omega arith in
    ap (λ (k : ℕ). map (fresh desk) (range_with_len 2 k)) size ∙ ap (map (fresh desk)) (range-end 2 n (suc n + 1) (omega arith))
    ∙ map-append (fresh desk) (range_with_len 2 n) ((suc n + 1) ∷ []) ∙ ap (λ (k : ℕ). map (fresh desk) (range_with_len 2 k) ++ fresh desk (suc n + 1) ∷ []) (sym before)

-- passes that are made by a desk are of it
of_desk : (desk : DeskOrigin) (a n : ℕ) → AllByRecursion (IsOf desk) (map (fresh desk) (range_with_len a n))
of_desk desk a zero = tt
of_desk desk a (suc n) = ((refl, refl), of_desk desk (a + 1) n)

pub fresh_of : (desk : DeskOrigin) (n : ℕ) (ps : List Knowledge) → ps ≡ fresh_passes desk n → All (IsOf desk) ps
fresh_of desk n ps are = subst (All (IsOf desk)) (sym are) (All-from_recursion (IsOf desk) (fresh_passes desk n) (of_desk desk 1 n))

-- ---- opening

-- the rule at the start, of a legal history with as many entries as word 0 counts
pub opens : (terms : Terms) (count : ℕ) → 1 ≤ terms.seats → 1 ≤ terms.turns → terms.turns + terms.seats < 18446744073709551616 → IsLegal terms.opening → count ≡ length terms.opening.entries
    → DeskInvariant terms (opening (count ∷ 0 ∷ 0 ∷ []) (Some terms.opening ∷ []) (first_view terms))
opens terms count seats turns bound legal counted = record {
  now = terms.opening;
  words = refl;
  slots = refl;
  bound = bound;
  legal = legal;
  onward = goes_on-refl 1 terms.opening;
  counted = counted;
  seats = seats;
  room = omega (arith, turns);
  tickets = refl;
  views = λ j v at live. one j v at;
  apart = λ i j v w away at there. absurd (away (only i v at ∙ sym (only j w there)));
  home = λ none. refl;
}
  where
    sound : GoesOnFrom terms terms.opening
    sound = record { legal = legal; onward = goes_on-refl terms.seats terms.opening }

    first : IsView terms 1 0 0 terms.opening (first_view terms)
    first = record {
      of = refl;
      sound = sound;
      ahead = record { sound = sound; onward = goes_on-refl terms.seats terms.opening; own = refl };
      some = omega arith;
      number = omega arith;
      drawn = omega arith;
      dealt = λ _. (refl, refl);
      stage = tt;
    }

    one : (j : ℕ) (v : View) → get_elem? (first_view terms ∷ []) j ≡ maybe.some v → IsView terms 1 0 0 terms.opening v
    one zero v at = subst (IsView terms 1 0 0 terms.opening) (maybe.some-injective (first_view terms) v at) first
    one (suc j) v at = absurd (maybe.some-ne-none v (sym at))

    only : (j : ℕ) (v : View) → get_elem? (first_view terms ∷ []) j ≡ maybe.some v → j ≡ 0
    only zero v at = refl
    only (suc j) v at = absurd (maybe.some-ne-none v (sym at))

-- ---- closing

-- if no ticket is held, the slot has a history that goes on from what the pass has seen
pub closes : (terms : Terms) (id : ℕ) (v : View) (ws : List ℕ) (xs : List (Option History)) (ticket : ℕ) → v.stage ≡ Idle
    → get_elem? ws 1 ≡ maybe.some ticket → get_elem? ws 2 ≡ maybe.some ticket → Final (Seen (DeskInvariant terms) id v) ws xs
    → (h : History) × (get_elem? xs 0 ≡ maybe.some (Some h)) × IsAhead v.terms v.number v.seen h
closes terms id v ws xs ticket idle next serving final =
    let s = final.0 in
    let r = final.1.0 in
    let at = final.1.1 in
    let words = final.2 in
    let one : get_or s.words 1 0 ≡ ticket = ap (λ (l : List ℕ). get_or l 1 0) words ∙ get_or-of ws 1 ticket next in
    let two : get_or s.words 2 0 ≡ ticket = ap (λ (l : List ℕ). get_or l 2 0) words ∙ get_or-of ws 2 ticket serving in
    let tickets = r.tickets in
    let nobody : NobodyInTurn s.views = λ j u t h there turn. (let part = total-part holds_at s.views j u there in let held = ap holds_at turn in omega (arith, part, held, one, two, tickets)) in
    let mine = r.views id v at (idle-live v.stage idle) in
    (r.now, final.4 0 (Some r.now) (r.home nobody), mine.ahead)
  where
    get_or-of : (l : List ℕ) (i x : ℕ) → get_elem? l i ≡ maybe.some x → get_or l i 0 ≡ x
    get_or-of [] i x at = absurd (maybe.some-ne-none x (sym at))
    get_or-of (y ∷ ys) zero x at = maybe.some-injective y x at
    get_or-of (y ∷ ys) (suc i) x at = get_or-of ys i x at
