-- A turn: finding that it has come, counting an entry, and giving it on.
use Rattle.std.proofs.Common.{◌≡◌, ◌≢◌, ℕ, zero, suc, ◌+◌, ◌%◌, ◌<◌, ◌≤◌, List, [], ◌∷◌, length, get_or, set, Option, Some, refl, sym, ap, subst, ◌∙◌, inl, inr, arith}
use Rattle.std.proofs.lemmas.Bool.{cases_eq}
use Rattle.std.proofs.lemmas.List.{length-set, get_or-set_same, get_or-set_other}
use mathlib.Core.Option as maybe
use lib.ListN.{get_elem?}
use Rattle.atomic_table.specs.Table.{keeps, takes, gives, put_back, Allows}
use Rattle.atomic_table.proofs.Lists.{set_here, set_again}
use Rattle.pl_core.specs.History.{Entry, History, grown}
use Rattle.pl_core.specs.Legal.{IsLegal}
use Rattle.pl_desk.specs.declared.rule.Terms.{Terms}
use Rattle.pl_desk.specs.declared.rule.Stage.{Stage}
use Rattle.pl_desk.specs.declared.rule.Stage.TheVariants.{Waiting, InTurn, Gone}
use Rattle.pl_desk.specs.declared.rule.View.{View}
use Rattle.pl_desk.specs.Growth.{GoesOn, own_entries}
use Rattle.pl_desk.specs.Rule.{asks_at, holds_at, HasTicket, Stands, GoesOnFrom, IsAhead, AreApart, DeskInvariant}
use Rattle.pl_desk.specs.Steps.{HeldSlot, at_stage, ticket_of, looks_then, counted, counts_then, found_or, turn_passed, serves_then}
use Rattle.pl_desk.proofs.Histories.{goes_on-refl, goes_on-trans, goes_on-more, goes_on-grown, own-without}
use Rattle.pl_desk.proofs.Views.{total-part}
use Rattle.pl_desk.proofs.Updates.{Table, NobodyInTurn, update, view-on}
use Rattle.pl_desk.proofs.Drawing.{no_step, loaded}

waiting-live : (st : Stage) (t : ℕ) → st ≡ Waiting t → st ≢ Gone
waiting-live st t is gone = let clash = sym is ∙ gone in cc

in_turn-live : (st : Stage) (t : ℕ) (h : History) → st ≡ InTurn t h → st ≢ Gone
in_turn-live st t h is gone = let clash = sym is ∙ gone in cc

-- a place of a list is inside it
inside : (vs : List View) (i : ℕ) (v : View) → get_elem? vs i ≡ maybe.some v → i < length vs
inside [] i v at = absurd (maybe.some-ne-none v (sym at))
inside (x ∷ xs) zero v at = omega arith
inside (x ∷ xs) (suc i) v at = let rest = inside xs i v at in omega (arith, rest)

-- ---- the turn has come

-- if a waiting pass has the ticket that is served, nobody has the turn
nobody-in-turn : (terms : Terms) (s : Table) (r : DeskInvariant terms s) (id : ℕ) (v : View) → get_elem? s.views id ≡ maybe.some v → v.stage ≡ Waiting (get_or s.words 2 0) → NobodyInTurn s.views
nobody-in-turn terms s r id v at waits j u t h there turn =
    let t' = get_or s.words 2 0 in
    let theirs : HasTicket u.stage t' = subst (λ (st : Stage). HasTicket st t') (sym turn)
    (let stands = subst (Stands (get_or s.words 1 0) t' r.now u) turn (r.views j u there (in_turn-live u.stage t h turn)).stage in stands.0) in
    let mine : HasTicket v.stage t' = subst (λ (st : Stage). HasTicket st t') (sym waits) refl in
    elim (cases_eq id j) [
      | inl same ↦
          let both : v ≡ u = maybe.some-injective v u (sym at ∙ ap (get_elem? s.views) same ∙ there) in
          let clash = sym waits ∙ ap (λ (x : View). x.stage) both ∙ turn in
          cc
      | inr away ↦ (r.apart id j v u away at there (waiting-live v.stage t' waits) (in_turn-live u.stage t h turn)).tickets t' mine theirs
    ]

-- the view that has the turn, and the slot that it has taken
looks-at : (terms : Terms) (s : Table) (r : DeskInvariant terms s) (id : ℕ) (v : View) → get_elem? s.views id ≡ maybe.some v → v.stage ≡ Waiting (get_or s.words 2 0)
    → DeskInvariant terms record { words = s.words; homes = set s.homes 0 maybe.none; views = set s.views id (at_stage (InTurn (get_or s.words 2 0) r.now) v) }
looks-at terms s r id v at waits =
    let t = get_or s.words 2 0 in
    let w = at_stage (InTurn t r.now) v in
    let live = waiting-live v.stage t waits in
    let mine = r.views id v at live in
    let asked = ap asks_at waits in
    let held = ap holds_at waits in
    let stands = subst (Stands (get_or s.words 1 0) t r.now v) waits mine.stage in
    update terms s r id v w s.words (set s.homes 0 maybe.none) r.now at live (record {
      words = r.words;
      slots = length-set s.homes 0 maybe.none ∙ r.slots;
      legal = r.legal;
      onward = r.onward;
      counted = r.counted;
      room = λ k sum. let room = r.room in omega (arith, sum, asked, room);
      tickets = λ k sum. let tickets = r.tickets in omega (arith, sum, held, tickets);
      mine = λ _. record {
        of = mine.of;
        sound = mine.sound;
        ahead = mine.ahead;
        some = mine.some;
        number = mine.number;
        drawn = mine.drawn;
        dealt = mine.dealt;
        stage = (refl, stands.1, refl);
      };
      others = λ u apart is. is;
      apart = λ _ u apart is. record {
        numbers = apart.numbers;
        tickets = λ x has theirs. apart.tickets x (subst (λ (st : Stage). HasTicket st x) (sym waits) has) theirs;
      };
      home = λ none. absurd (none id w t r.now (set_here s.views id w (inside s.views id v at)) refl);
    })

pub looks : (terms : Terms) (slots id : ℕ) (me : HeldSlot) (t : ℕ) → me.0.stage ≡ Waiting t → Allows (DeskInvariant terms) slots id me 2 (λ n. n) (looks_then no_step me)
looks terms slots id me t waits s r size at small =
    let serving = get_or s.words 2 0 in
    let ticket : ticket_of me.0.stage ≡ t = ap ticket_of waits in
    elim (cases_eq serving t) [
      | inl mine ↦
          let waits' : me.0.stage ≡ Waiting serving = waits ∙ ap Waiting (sym mine) in
          let nobody = nobody-in-turn terms s r id me.0 at waits' in
          let own = r.views id me.0 at (waiting-live me.0.stage t waits) in (
            at_stage (InTurn serving r.now) me.0,
            takes 0 (Some r.now),
            r.home nobody,
            loaded terms s 2 (set s.homes 0 maybe.none) (set s.views id (at_stage (InTurn serving r.now) me.0)) (looks-at terms s r id me.0 at waits'),
            (
              (λ other. absurd (other (mine ∙ sym ticket))),
              (λ same. (r.now, (λ i. (at_stage (InTurn (same i) r.now) me.0, (0, Some r.now) ∷ me.1)), own.ahead)),
            ),
          )
      | inr other ↦ (
        me.0,
        keeps,
        tt,
        loaded terms s 2 s.homes (set s.views id me.0) (subst (λ (vs : List View). DeskInvariant terms record { words = s.words; homes = s.homes; views = vs }) (sym (set_again s.views id me.0 at)) r),
        ((λ _. refl), (λ same. absurd (other (same ∙ ticket)))),
      )
    ]

-- ---- an entry is counted

-- a history with one entry more, which is of the pass k
counted-ahead : (terms : Terms) (n k : ℕ) (now g : History) (e : Entry) (u : View) → GoesOn n terms.opening now → n ≤ terms.seats → 1 ≤ k → k ≤ n
    → e.line.pass ≡ k → g ≡ grown now e → IsLegal g → u.terms ≡ terms → k ≢ u.number → IsAhead u.terms u.number u.seen now → IsAhead u.terms u.number u.seen g
counted-ahead terms n k now g e u onward few some most own is legal of apart ahead =
    let seats = ap (λ (t : Terms). t.seats) of in
    let step : GoesOn u.terms.seats now g = subst (GoesOn u.terms.seats now) (sym is) (goes_on-grown u.terms.seats now e (omega (arith, own, some)) (omega (arith, own, most, few, seats))) in
    record {
      sound = record { legal = legal; onward = goes_on-trans u.terms.seats u.terms.opening now g ahead.sound.onward step };
      onward = goes_on-trans u.terms.seats u.seen now g ahead.onward step;
      own = ap (λ (h : History). own_entries h u.number) is ∙ own-without u.number now e (λ same. apart (sym own ∙ same)) ∙ ahead.own;
    }

-- no view but that of the turn has the turn
other-turn : (next serving : ℕ) (now : History) (v u : View) (t : ℕ) (h x : History) (y : ℕ) → v.stage ≡ InTurn t h → Stands next serving now v v.stage → Stands next serving now u u.stage
    → AreApart v u → u.stage ≡ InTurn y x → ⊥
other-turn next serving now v u t h x y turn mine theirs apart is =
    let one = subst (Stands next serving now v) turn mine in
    let two = subst (Stands next serving now u) is theirs in
    apart.tickets serving (subst (λ (st : Stage). HasTicket st serving) (sym turn) one.0) (subst (λ (st : Stage). HasTicket st serving) (sym is) two.0)

counts-at : (terms : Terms) (s : Table) (r : DeskInvariant terms s) (id : ℕ) (v : View) (ws : List ℕ) (t : ℕ) (h g : History) (e : Entry)
    → get_elem? s.views id ≡ maybe.some v → v.stage ≡ InTurn t h → e.line.pass ≡ v.number → g ≡ grown h e → IsLegal g
    → length ws ≡ 3 → get_or ws 0 0 ≡ get_or s.words 0 0 + 1 → get_or ws 1 0 ≡ get_or s.words 1 0 → get_or ws 2 0 ≡ get_or s.words 2 0
    → DeskInvariant terms record { words = ws; homes = s.homes; views = set s.views id (counted g v) }
counts-at terms s r id v ws t h g e at turn own is legal size zeroth first second =
    let live = in_turn-live v.stage t h turn in
    let mine = r.views id v at live in
    let w = counted g v in
    let n = length s.views in
    let asked = ap asks_at turn in
    let held = ap holds_at turn in
    let stands = subst (Stands (get_or s.words 1 0) (get_or s.words 2 0) r.now v) turn mine.stage in
    let is' : g ≡ grown r.now e = is ∙ ap (λ (x : History). grown x e) stands.2 in
    let seats = ap (λ (x : Terms). x.seats) mine.of in
    let number = mine.number in
    let few = r.seats in
    let step : GoesOn n r.now g = subst (GoesOn n r.now) (sym is') (goes_on-grown n r.now e (omega (arith, own, mine.some)) (omega (arith, own, number))) in
    let step' : GoesOn v.terms.seats r.now g = goes_on-more n v.terms.seats r.now g (omega (arith, few, seats)) step in
    let sound : GoesOnFrom v.terms g = record { legal = legal; onward = goes_on-trans v.terms.seats v.terms.opening r.now g mine.ahead.sound.onward step' } in
    update terms s r id v w ws s.homes g at live (record {
      words = size;
      slots = r.slots;
      legal = legal;
      onward = goes_on-trans n terms.opening r.now g r.onward step;
      counted = let before = r.counted in let longer = ap (λ (x : History). length x.entries) is' in omega (arith, zeroth, before, longer);
      room = λ k sum. let room = r.room in omega (arith, sum, asked, first, room);
      tickets = λ k sum. let tickets = r.tickets in omega (arith, sum, held, first, second, tickets);
      mine = λ _. record {
        of = mine.of;
        sound = sound;
        ahead = record { sound = sound; onward = goes_on-refl v.terms.seats g; own = refl };
        some = mine.some;
        number = mine.number;
        drawn = omega (arith, mine.drawn, first);
        dealt = mine.dealt;
        stage = (let same = ap ticket_of turn in same ∙ stands.0 ∙ sym second, (let same = ap ticket_of turn in omega (arith, same, stands.1, first)), refl);
      };
      others = λ u apart theirs. view-on terms n (get_or s.words 1 0) (get_or s.words 2 0) (get_or ws 1 0) (get_or ws 2 0) r.now g u
          (omega (arith, first)) (λ x has le. omega (arith, le, second))
          (λ y x has. absurd (other-turn (get_or s.words 1 0) (get_or s.words 2 0) r.now v u t h x y turn mine.stage theirs.stage apart has))
          (counted-ahead terms n v.number r.now g e u r.onward few mine.some number own is' legal theirs.of apart.numbers) theirs;
      apart = λ _ u apart theirs. record {
        numbers = apart.numbers;
        tickets = λ x has other. apart.tickets x (subst (λ (st : Stage). HasTicket st x) (sym turn) (sym (ap ticket_of turn) ∙ has)) other;
      };
      home = λ none. absurd (none id w (ticket_of v.stage) g (set_here s.views id w (inside s.views id v at)) refl);
    })

pub counts : (terms : Terms) (slots id : ℕ) (me : HeldSlot) (t : ℕ) (h g : History) (e : Entry) → me.0.stage ≡ InTurn t h → e.line.pass ≡ me.0.number → g ≡ grown h e
    → IsLegal g → length g.entries < 18446744073709551616 → Allows (DeskInvariant terms) slots id me 0 (λ n. (n + 1) % 18446744073709551616) (counts_then g no_step me)
counts terms slots id me t h g e turn own is legal fits s r size at small =
    let found = get_or s.words 0 0 in
    let new = (found + 1) % 18446744073709551616 in
    let ws = set s.words 0 new in
    let mine = r.views id me.0 at (in_turn-live me.0.stage t h turn) in
    let stands = subst (Stands (get_or s.words 1 0) (get_or s.words 2 0) r.now me.0) turn mine.stage in
    let longer = ap (λ (x : History). length x.entries) is in
    let same = ap (λ (x : History). length x.entries) stands.2 in
    let before = r.counted in
    let whole : new ≡ found + 1 = omega (arith, longer, same, fits, before) in (
      counted g me.0,
      keeps,
      tt,
      counts-at terms s r id me.0 ws t h g e at turn own is legal
          (length-set s.words 0 new ∙ r.words)
          (get_or-set_same s.words 0 new 0 (omega (arith, r.words)) ∙ whole)
          (get_or-set_other s.words 0 1 new 0 (λ c. omega arith))
          (get_or-set_other s.words 0 2 new 0 (λ c. omega arith)),
      refl,
    )

-- ---- the turn is given on

serves-at : (terms : Terms) (s : Table) (r : DeskInvariant terms s) (id : ℕ) (v : View) (ws : List ℕ) (t : ℕ) (h : History)
    → get_elem? s.views id ≡ maybe.some v → v.stage ≡ InTurn t h
    → length ws ≡ 3 → get_or ws 0 0 ≡ get_or s.words 0 0 → get_or ws 1 0 ≡ get_or s.words 1 0 → get_or ws 2 0 ≡ get_or s.words 2 0 + 1
    → DeskInvariant terms record { words = ws; homes = set s.homes 0 (maybe.some (Some h)); views = set s.views id (turn_passed v) }
serves-at terms s r id v ws t h at turn size zeroth first second =
    let live = in_turn-live v.stage t h turn in
    let mine = r.views id v at live in
    let w = turn_passed v in
    let n = length s.views in
    let asked = ap asks_at turn in
    let held = ap holds_at turn in
    let stands = subst (Stands (get_or s.words 1 0) (get_or s.words 2 0) r.now v) turn mine.stage in
    let seen : w.seen ≡ r.now = ap (found_or v.seen) turn ∙ stands.2 in
    let ahead : IsAhead v.terms v.number w.seen r.now = subst (λ (x : History). IsAhead v.terms v.number x r.now) (sym seen)
    (record { sound = mine.ahead.sound; onward = goes_on-refl v.terms.seats r.now; own = refl }) in
    update terms s r id v w ws (set s.homes 0 (maybe.some (Some h))) r.now at live (record {
      words = size;
      slots = length-set s.homes 0 (maybe.some (Some h)) ∙ r.slots;
      legal = r.legal;
      onward = r.onward;
      counted = zeroth ∙ r.counted;
      room = λ k sum. let room = r.room in omega (arith, sum, asked, first, room);
      tickets = λ k sum. let tickets = r.tickets in omega (arith, sum, held, first, second, tickets);
      mine = λ _. record {
        of = mine.of;
        sound = subst (GoesOnFrom v.terms) (sym seen) mine.ahead.sound;
        ahead = ahead;
        some = mine.some;
        number = mine.number;
        drawn = omega (arith, mine.drawn, first);
        dealt = mine.dealt;
        stage = tt;
      };
      others = λ u apart theirs. view-on terms n (get_or s.words 1 0) (get_or s.words 2 0) (get_or ws 1 0) (get_or ws 2 0) r.now r.now u
          (omega (arith, first))
          (λ x has le. elim (cases_eq x (get_or s.words 2 0)) [
            | inl same ↦ absurd (apart.tickets x (subst (λ (st : Stage). HasTicket st x) (sym turn) (stands.0 ∙ sym same)) has)
            | inr other ↦ omega (arith, le, other, second)
          ])
          (λ y x has. absurd (other-turn (get_or s.words 1 0) (get_or s.words 2 0) r.now v u t h x y turn mine.stage theirs.stage apart has))
          (λ same. same) theirs;
      apart = λ _ u apart theirs. record { numbers = apart.numbers; tickets = λ x has other. absurd has };
      home = λ none. set_here s.homes 0 (maybe.some (Some h)) (omega (arith, r.slots)) ∙ ap (λ (x : History). maybe.some (maybe.some (Some x))) stands.2;
    })

pub serves : (terms : Terms) (slots id : ℕ) (me : HeldSlot) (t : ℕ) (h : History) → me.0.stage ≡ InTurn t h → me.1 ≡ (0, Some h) ∷ []
    → Allows (DeskInvariant terms) slots id me 2 (λ n. (n + 1) % 18446744073709551616) (serves_then no_step me)
serves terms slots id me t h turn has s r size at small =
    let serving = get_or s.words 2 0 in
    let new = (serving + 1) % 18446744073709551616 in
    let ws = set s.words 2 new in
    let held = ap holds_at turn in
    let part = total-part holds_at s.views id me.0 at in
    let tickets = r.tickets in
    let room = r.room in
    let seats = r.seats in
    let bound = r.bound in
    let whole : new ≡ serving + 1 = omega (arith, held, part, tickets, room, seats, bound) in
    let after = turn_passed me.0 in (
      after,
      gives,
      tt,
      subst (λ (c : List (ℕ × Option History)). DeskInvariant terms record { words = ws; homes = put_back s.homes c; views = set s.views id after }) (sym has)
          (serves-at terms s r id me.0 ws t h at turn
          (length-set s.words 2 new ∙ r.words)
          (get_or-set_other s.words 2 0 new 0 (λ c. omega arith))
          (get_or-set_other s.words 2 1 new 0 (λ c. omega arith))
          (get_or-set_same s.words 2 new 0 (omega (arith, r.words)) ∙ whole)),
      refl,
    )
