-- Dealing out a pass, taking one in, and what is known after that.
use Rattle.std.proofs.Common.{◌≡◌, ◌≢◌, ℕ, ◌<◌, ◌≤◌, length, get_or, set, refl, sym, ap, subst, ◌∙◌, inl, inr, arith, ◌⊎◌}
use Rattle.std.proofs.lemmas.Bool.{cases_lt, lt-ltb, le-ltb}
use mathlib.Core.Option as maybe
use lib.ListN.{get_elem?}
use Rattle.atomic_table.specs.Table.{keeps, Allows, Joins}
use Rattle.atomic_table.proofs.Lists.{set_else}
use Rattle.pl_core.specs.History.{History}
use Rattle.pl_desk.specs.declared.rule.Terms.{Terms}
use Rattle.pl_desk.specs.declared.rule.Stage.{Stage}
use Rattle.pl_desk.specs.declared.rule.Stage.TheVariants.{Idle, Met, Gone}
use Rattle.pl_desk.specs.declared.rule.View.{View}
use Rattle.pl_desk.specs.Growth.{GoesOn}
use Rattle.pl_desk.specs.Rule.{asks_at, holds_at, Stands, HasBoth, GoesOnFrom, IsAhead, DeskInvariant}
use Rattle.pl_desk.specs.Steps.{HeldSlot, at_stage, longer, meeting, gone, meets_then}
use Rattle.pl_desk.proofs.Histories.{goes_on-refl, goes_on-shorter, own-between}
use Rattle.pl_desk.proofs.Updates.{Table, update, nobody-before}
use Rattle.pl_desk.proofs.Drawing.{no_step, loaded, idle-live}

-- ---- what both had seen

-- of two histories that go on to one, which is ahead of both passes, the longer has both
both-in-longer : (terms : Terms) (k l : ℕ) (a b now : History) → IsAhead terms k a now → IsAhead terms l b now → GoesOn terms.seats terms.opening a → HasBoth terms k l a b (longer a b) × (GoesOnFrom terms (longer a b) → IsAhead terms k (longer a b) now)
both-in-longer terms k l a b now first second from =
    elim (cases_lt (length a.entries) (length b.entries)) [
      | inl less ↦ rw (lt-ltb (length a.entries) (length b.entries) less) (
        record {
          left = shorter less;
          right = goes_on-refl terms.seats b;
          left_own = own-between terms.seats terms.seats k a b now (shorter less) second.onward first.own;
          right_own = refl;
        },
        λ sound. record { sound = first.sound; onward = second.onward; own = first.own ∙ sym (own-between terms.seats terms.seats k a b now (shorter less) second.onward first.own) },
      )
      | inr more ↦ rw (le-ltb (length a.entries) (length b.entries) more) (
        record {
          left = goes_on-refl terms.seats a;
          right = back more;
          left_own = refl;
          right_own = own-between terms.seats terms.seats l b a now (back more) first.onward second.own;
        },
        λ sound. first,
      )
    ]
  where
    shorter : length a.entries < length b.entries → GoesOn terms.seats a b
    shorter less = goes_on-shorter terms.seats a b now first.onward second.onward (omega (arith, less))

    back : length b.entries ≤ length a.entries → GoesOn terms.seats b a
    back more = goes_on-shorter terms.seats b a now second.onward first.onward more

longer-is : (a b : History) → (longer a b ≡ a) ⊎ (longer a b ≡ b)
longer-is a b =
    elim (cases_lt (length a.entries) (length b.entries)) [
      | inl less ↦ inr (rw (lt-ltb (length a.entries) (length b.entries) less) refl)
      | inr more ↦ inl (rw (le-ltb (length a.entries) (length b.entries) more) refl)
    ]

-- ---- the pass that takes in another

meets-first : (terms : Terms) (s : Table) (r : DeskInvariant terms s) (id : ℕ) (v : View) (other : ℕ) (w : View) → get_elem? s.views id ≡ maybe.some v → get_elem? s.views other ≡ maybe.some w
    → v.stage ≡ Idle → w.stage ≡ Idle → DeskInvariant terms record { words = s.words; homes = s.homes; views = set s.views id (meeting v w) }
meets-first terms s r id v other w at there idle idle' =
    let live = idle-live v.stage idle in
    let mine = r.views id v at live in
    let theirs = r.views other w there (idle-live w.stage idle') in
    let asked = ap asks_at idle in
    let held = ap holds_at idle in
    let ahead : IsAhead v.terms w.number w.seen r.now = subst (λ (t : Terms). IsAhead t w.number w.seen r.now) (theirs.of ∙ sym mine.of) theirs.ahead in
    let sound' : GoesOnFrom v.terms w.seen = subst (λ (t : Terms). GoesOnFrom t w.seen) (theirs.of ∙ sym mine.of) theirs.sound in
    let both = both-in-longer v.terms v.number w.number v.seen w.seen r.now mine.ahead ahead mine.sound.onward in
    let sound : GoesOnFrom v.terms (longer v.seen w.seen) = elim (longer-is v.seen w.seen) [
      | inl first ↦ subst (GoesOnFrom v.terms) (sym first) mine.sound
      | inr second ↦ subst (GoesOnFrom v.terms) (sym second) sound'
    ] in
    update terms s r id v (meeting v w) s.words s.homes r.now at live (record {
      words = r.words;
      slots = r.slots;
      legal = r.legal;
      onward = r.onward;
      counted = r.counted;
      room = λ k sum. let room = r.room in omega (arith, sum, asked, room);
      tickets = λ k sum. let tickets = r.tickets in omega (arith, sum, held, tickets);
      mine = λ _. record {
        of = mine.of;
        sound = sound;
        ahead = both.1 sound;
        some = mine.some;
        number = mine.number;
        drawn = mine.drawn;
        dealt = mine.dealt;
        stage = both.0;
      };
      others = λ u apart is. is;
      apart = λ _ u apart is. record { numbers = apart.numbers; tickets = λ t has. absurd has };
      home = λ none. r.home (nobody-before s.views id v (meeting v w) at (λ t h turn. let clash = sym idle ∙ turn in cc) none);
    })

-- the pass that was taken in is gone
meets-second : (terms : Terms) (s : Table) (r : DeskInvariant terms s) (other : ℕ) (w : View) → get_elem? s.views other ≡ maybe.some w → w.stage ≡ Idle
    → DeskInvariant terms record { words = s.words; homes = s.homes; views = set s.views other gone }
meets-second terms s r other w there idle =
    let asked = ap asks_at idle in
    let held = ap holds_at idle in
    update terms s r other w gone s.words s.homes r.now there (idle-live w.stage idle) (record {
      words = r.words;
      slots = r.slots;
      legal = r.legal;
      onward = r.onward;
      counted = r.counted;
      room = λ k sum. let room = r.room in omega (arith, sum, asked, room);
      tickets = λ k sum. let tickets = r.tickets in omega (arith, sum, held, tickets);
      mine = λ live. absurd (live refl);
      others = λ u apart is. is;
      apart = λ live. absurd (live refl);
      home = λ none. r.home (nobody-before s.views other w gone there (λ t h turn. let clash = sym idle ∙ turn in cc) none);
    })

pub joins : (terms : Terms) (id : ℕ) (v : View) (other : ℕ) (w : View) → v.stage ≡ Idle → w.stage ≡ Idle → Joins (DeskInvariant terms) id v other w (meeting v w) gone
joins terms id v other w idle idle' s r at away there =
    let before : get_elem? s.views other ≡ maybe.some w = sym (set_else s.views id other (meeting v w) away) ∙ there in
    meets-second terms (record { words = s.words; homes = s.homes; views = set s.views id (meeting v w) }) (meets-first terms s r id v other w at before idle idle') other w there idle'

-- ---- the load after it

met-live : (st : Stage) (a b : History) (l : ℕ) → st ≡ Met a b l → st ≢ Gone
met-live st a b l is none = let clash = sym is ∙ none in cc

pub meets : (terms : Terms) (slots id : ℕ) (me : HeldSlot) (a b : History) (l : ℕ) → me.0.stage ≡ Met a b l → Allows (DeskInvariant terms) slots id me 0 (λ n. n) (meets_then no_step me)
meets terms slots id me a b l met s r size at small =
    let v = me.0 in
    let live = met-live v.stage a b l met in
    let mine = r.views id v at live in
    let asked = ap asks_at met in
    let held = ap holds_at met in
    let idle = update terms s r id v (at_stage Idle v) s.words s.homes r.now at live (record {
      words = r.words;
      slots = r.slots;
      legal = r.legal;
      onward = r.onward;
      counted = r.counted;
      room = λ k sum. let room = r.room in omega (arith, sum, asked, room);
      tickets = λ k sum. let tickets = r.tickets in omega (arith, sum, held, tickets);
      mine = λ _. record {
        of = mine.of;
        sound = mine.sound;
        ahead = mine.ahead;
        some = mine.some;
        number = mine.number;
        drawn = mine.drawn;
        dealt = mine.dealt;
        stage = tt;
      };
      others = λ u apart is. is;
      apart = λ _ u apart is. record { numbers = apart.numbers; tickets = λ t has. absurd has };
      home = λ none. r.home (nobody-before s.views id v (at_stage Idle v) at (λ t h turn. let clash = sym met ∙ turn in cc) none);
    }) in (
      at_stage Idle v,
      keeps,
      tt,
      loaded terms s 0 s.homes (set s.views id (at_stage Idle v)) idle,
      (refl, mine.sound, λ x y k is. subst (Stands (get_or s.words 1 0) (get_or s.words 2 0) r.now v) is mine.stage),
    )
