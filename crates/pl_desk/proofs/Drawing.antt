-- Reading the ticket word, and taking a ticket.
use Rattle.std.proofs.Common.{◌≡◌, ◌≢◌, ℕ, ◌+◌, ◌%◌, ◌<◌, ltb, cond, List, length, get_or, set, Option, refl, sym, ap, subst, ◌∙◌, inl, inr, arith, ◌⊎◌}
use Rattle.std.proofs.lemmas.Bool.{cases_lt, lt-ltb, le-ltb}
use Rattle.std.proofs.lemmas.List.{length-set, set-get_or, get_or-set_same, get_or-set_other}
use mathlib.Core.Option as maybe
use lib.ListN.{get_elem?}
use Rattle.atomic_table.specs.Table.{Step, keeps, Allows}
use Rattle.pl_core.specs.History.{History}
use Rattle.pl_desk.specs.declared.rule.Terms.{Terms}
use Rattle.pl_desk.specs.declared.rule.Stage.{Stage}
use Rattle.pl_desk.specs.declared.rule.Stage.TheVariants.{Idle, Asking, Waiting, Gone}
use Rattle.pl_desk.specs.declared.rule.View.{View}
use Rattle.pl_desk.specs.Rule.{asks_at, holds_at, HasTicket, DeskInvariant}
use Rattle.pl_desk.specs.Steps.{HeldSlot, asked, asks_then, draws_then, at_stage}
use Rattle.pl_desk.proofs.Views.{asks-few, total-spare}
use Rattle.pl_desk.proofs.Updates.{Table, Homes, update, nobody-before, view-on, ticket-held}

pub idle-live : (st : Stage) → st ≡ Idle → st ≢ Gone
idle-live st is gone = let clash = sym is ∙ gone in cc

asking-live : (st : Stage) → st ≡ Asking → st ≢ Gone
asking-live st is gone = let clash = sym is ∙ gone in cc

-- the view that has read the word, at a stage that it may be at then
asks-at : (terms : Terms) (s : Table) (r : DeskInvariant terms s) (id : ℕ) (v : View) (st : Stage)
    → get_elem? s.views id ≡ maybe.some v → v.stage ≡ Idle
    → (st ≡ Idle) ⊎ ((st ≡ Asking) × (get_or s.words 1 0 < terms.turns))
    → DeskInvariant terms record { words = s.words; homes = s.homes; views = set s.views id (record v { drawn = get_or s.words 1 0; stage = st }) }
asks-at terms s r id v st at idle may =
    let mine = r.views id v at (idle-live v.stage idle) in
    let spare = total-spare asks_at asks-few s.views id v at (ap asks_at idle) in
    let is_idle = ap asks_at idle in
    let holds_none = ap holds_at idle in
    update terms s r id v (record v { drawn = get_or s.words 1 0; stage = st }) s.words s.homes r.now at (idle-live v.stage idle) (record {
      words = r.words;
      slots = r.slots;
      legal = r.legal;
      onward = r.onward;
      counted = r.counted;
      room = λ k sum. elim may [
        | inl stays ↦ let none = ap asks_at stays in let room = r.room in omega (arith, sum, is_idle, none, room)
        | inr asks ↦ let one = ap asks_at asks.0 in omega (arith, sum, is_idle, one, spare, asks.1)
      ];
      tickets = λ k sum.
          let tickets = r.tickets in
          elim may [
            | inl stays ↦ let none = ap holds_at stays in omega (arith, sum, holds_none, none, tickets)
            | inr asks ↦ let none = ap holds_at asks.0 in omega (arith, sum, holds_none, none, tickets)
          ];
      mine = λ live. record {
        of = mine.of;
        sound = mine.sound;
        ahead = mine.ahead;
        some = mine.some;
        number = mine.number;
        drawn = omega arith;
        dealt = mine.dealt;
        stage = elim may [
          | inl stays ↦ rw stays tt
          | inr asks ↦ rw (asks.0) tt
        ];
      };
      others = λ u apart is. is;
      apart = λ live u apart is. record {
        numbers = apart.numbers;
        tickets = λ t has. elim may [
          | inl stays ↦ absurd (subst (λ (x : Stage). HasTicket x t) stays has)
          | inr asks ↦ absurd (subst (λ (x : Stage). HasTicket x t) asks.0 has)
        ];
      };
      home = λ none. r.home (nobody-before s.views id v (record v { drawn = get_or s.words 1 0; stage = st }) at (λ t h turn. let clash = sym idle ∙ turn in cc) none);
    })

abbrev pub no_step : Step (Option History)
no_step = record { slots = 0; word = 0; first = 0; second = 0; said = maybe.none }

-- a load leaves the words as they are
pub loaded : (terms : Terms) (s : Table) (i : ℕ) (hs : Homes) (vs : List View) → DeskInvariant terms record { words = s.words; homes = hs; views = vs }
    → DeskInvariant terms record { words = set s.words i (get_or s.words i 0); homes = hs; views = vs }
loaded terms s i hs vs r = subst (λ (ws : List ℕ). DeskInvariant terms record { words = ws; homes = hs; views = vs }) (sym (set-get_or s.words i 0)) r

-- the stage after reading the word
asked-stage : (found turns : ℕ) → (cond (ltb found turns) Asking Idle ≡ Idle) ⊎ ((cond (ltb found turns) Asking Idle ≡ Asking) × (found < turns))
asked-stage found turns =
    elim (cases_lt found turns) [
      | inl less ↦ inr ((rw (lt-ltb found turns less) refl), less)
      | inr more ↦ inl (rw (le-ltb found turns more) refl)
    ]

pub asks : (terms : Terms) (slots id : ℕ) (me : HeldSlot) → me.0.stage ≡ Idle → Allows (DeskInvariant terms) slots id me 1 (λ n. n) (asks_then no_step me)
asks terms slots id me idle s r size at small =
    let found = get_or s.words 1 0 in
    let mine = r.views id me.0 at (idle-live me.0.stage idle) in
    let w = asked found me.0 in (
      w,
      keeps,
      tt,
      loaded terms s 1 s.homes (set s.views id w) (asks-at terms s r id me.0 w.stage at idle (
          elim (asked-stage found me.0.terms.turns) [
            | inl stays ↦ inl stays
            | inr goes ↦ let same = ap (λ (t : Terms). t.turns) mine.of in inr (goes.0, omega (arith, goes.1, same))
          ]
          )),
      (refl, mine.drawn, mine.sound),
    )

-- the view that has taken the ticket
draws-at : (terms : Terms) (s : Table) (r : DeskInvariant terms s) (id : ℕ) (v : View) (ws : List ℕ)
    → get_elem? s.views id ≡ maybe.some v → v.stage ≡ Asking
    → length ws ≡ 3 → get_or ws 0 0 ≡ get_or s.words 0 0 → get_or ws 1 0 ≡ get_or s.words 1 0 + 1 → get_or ws 2 0 ≡ get_or s.words 2 0
    → DeskInvariant terms record { words = ws; homes = s.homes; views = set s.views id (at_stage (Waiting (get_or s.words 1 0)) v) }
draws-at terms s r id v ws at asking size zeroth first second =
    let live = asking-live v.stage asking in
    let mine = r.views id v at live in
    let was = ap asks_at asking in
    let held = ap holds_at asking in
    let part = r.tickets in
    update terms s r id v (at_stage (Waiting (get_or s.words 1 0)) v) ws s.homes r.now at live (record {
      words = size;
      slots = r.slots;
      legal = r.legal;
      onward = r.onward;
      counted = zeroth ∙ r.counted;
      room = λ k sum. let room = r.room in omega (arith, sum, was, first, room);
      tickets = λ k sum. let tickets = r.tickets in omega (arith, sum, held, first, second, tickets);
      mine = λ _. record {
        of = mine.of;
        sound = mine.sound;
        ahead = mine.ahead;
        some = mine.some;
        number = mine.number;
        drawn = omega (arith, mine.drawn, first);
        dealt = mine.dealt;
        stage = (omega (arith, part, second), omega (arith, first));
      };
      others = λ u apart is. view-on terms (length s.views) (get_or s.words 1 0) (get_or s.words 2 0) (get_or ws 1 0) (get_or ws 2 0) r.now r.now u
          (omega (arith, first)) (λ t has le. omega (arith, second, le)) (λ t h turn. (sym second, refl)) (λ ahead. ahead) is;
      apart = λ _ u apart is. record {
        numbers = apart.numbers;
        tickets = λ t has theirs. let held = ticket-held (get_or s.words 1 0) (get_or s.words 2 0) r.now u u.stage t is.stage theirs in omega (arith, held, has);
      };
      home = λ none. r.home (nobody-before s.views id v (at_stage (Waiting (get_or s.words 1 0)) v) at (λ t h turn. let clash = sym asking ∙ turn in cc) none);
    })

pub draws : (terms : Terms) (slots id : ℕ) (me : HeldSlot) → me.0.stage ≡ Asking
    → Allows (DeskInvariant terms) slots id me 1 (λ n. (n + 1) % 18446744073709551616) (draws_then no_step me)
draws terms slots id me asking s r size at small =
    let next = get_or s.words 1 0 in
    let new = (next + 1) % 18446744073709551616 in
    let ws = set s.words 1 new in
    let bound = r.bound in
    let room = r.room in
    let seats = r.seats in
    let whole : new ≡ next + 1 = omega (arith, bound, room, seats) in (
      at_stage (Waiting next) me.0,
      keeps,
      tt,
      draws-at terms s r id me.0 ws at asking
          (length-set s.words 1 new ∙ r.words)
          (get_or-set_other s.words 1 0 new 0 (λ e. omega arith))
          (get_or-set_same s.words 1 new 0 (omega (arith, r.words)) ∙ whole)
          (get_or-set_other s.words 1 2 new 0 (λ e. omega arith)),
      refl,
    )
