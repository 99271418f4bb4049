-- The rule after the change of one view.
use Rattle.std.proofs.Common.{◌≡◌, ◌≢◌, ℕ, ◌+◌, ◌<◌, ◌≤◌, List, length, get_or, set, Option, Some, refl, sym, ap, subst, ◌∙◌, inl, inr, arith}
use Rattle.std.proofs.lemmas.List.{length-set}
use Rattle.std.proofs.lemmas.Bool.{cases_eq}
use mathlib.Core.Option as maybe
use lib.ListN.{get_elem?}
use Rattle.atomic_table.specs.Table.{State}
use Rattle.atomic_table.proofs.Lists.{set_else}
use Rattle.pl_core.specs.History.{History}
use Rattle.pl_core.specs.Legal.{IsLegal}
use Rattle.pl_desk.specs.declared.rule.Terms.{Terms}
use Rattle.pl_desk.specs.declared.rule.Stage.{Stage}
use Rattle.pl_desk.specs.declared.rule.Stage.TheVariants.{Idle, Asking, Waiting, InTurn, Met, Gone}
use Rattle.pl_desk.specs.declared.rule.View.{View}
use Rattle.pl_desk.specs.Growth.{GoesOn}
use Rattle.pl_desk.specs.Rule.{total, asks_at, holds_at, HasTicket, Stands, IsAhead, IsView, AreApart, DeskInvariant}
use Rattle.pl_desk.proofs.Views.{total-set, Each, each-set, pairs-set, apart-turned}

abbrev pub Table : Type 0
Table = State (Option History) View

abbrev pub Homes : Type 0
Homes = List (maybe.Option (Option History))

-- no view of the list has the turn
abbrev pub NobodyInTurn : List View → Type 0
NobodyInTurn vs = (j : ℕ) (v : View) (t : ℕ) (h : History) → get_elem? vs j ≡ maybe.some v → v.stage ≢ InTurn t h

-- what is so of a view, by these words
abbrev pub IsViewBy : Terms → List ℕ → ℕ → History → View → Type 0
IsViewBy terms ws n now v = IsView terms n (get_or ws 1 0) (get_or ws 2 0) now v

-- what a change of one view owes
pub record Keeps (terms : Terms) (s : Table) (r : DeskInvariant terms s) (id : ℕ) (v w : View) (ws : List ℕ) (hs : Homes) (now : History) : Type 0 where
  pub words : length ws ≡ 3
  pub slots : length hs ≡ 1
  pub legal : IsLegal now
  pub onward : GoesOn (length s.views) terms.opening now
  pub counted : get_or ws 0 0 ≡ length now.entries
  pub room : (k : ℕ) → k + asks_at v.stage ≡ total asks_at s.views + asks_at w.stage → get_or ws 1 0 + k < terms.turns + length s.views
  pub tickets : (k : ℕ) → k + holds_at v.stage ≡ total holds_at s.views + holds_at w.stage → get_or ws 1 0 ≡ get_or ws 2 0 + k
  pub mine : w.stage ≢ Gone → IsViewBy terms ws (length s.views) now w
  pub others : (u : View) → AreApart v u → IsViewBy terms s.words (length s.views) r.now u → IsViewBy terms ws (length s.views) now u
  pub apart : w.stage ≢ Gone → (u : View) → AreApart v u → IsViewBy terms s.words (length s.views) r.now u → AreApart w u
  pub home : NobodyInTurn (set s.views id w) → get_elem? hs 0 ≡ maybe.some (maybe.some (Some now))

-- the rule after the view v, at the place id, has become w
pub update : (terms : Terms) (s : Table) (r : DeskInvariant terms s) (id : ℕ) (v w : View) (ws : List ℕ) (hs : Homes) (now : History)
    → get_elem? s.views id ≡ maybe.some v → v.stage ≢ Gone → Keeps terms s r id v w ws hs now
    → DeskInvariant terms record { words = ws; homes = hs; views = set s.views id w }
update terms s r id v w ws hs now at live k =
    let vs = set s.views id w in
    let size : length s.views ≡ length vs = sym (length-set s.views id w) in
    let n = length s.views in
    let beside : (j : ℕ) (u : View) → (j ≢ id) → get_elem? s.views j ≡ maybe.some u → u.stage ≢ Gone → AreApart v u =
    λ j u away there living. r.apart id j v u (λ e. away (sym e)) at there live living in
    let each : Each (IsViewBy terms ws n now) vs =
    each-set (IsViewBy terms ws n now) s.views id w k.mine (λ j u away there living. k.others u (beside j u away there living) (r.views j u there living)) in
    record {
      now = now;
      words = k.words;
      slots = k.slots;
      bound = r.bound;
      legal = k.legal;
      onward = subst (λ (m : ℕ). GoesOn m terms.opening now) size k.onward;
      counted = k.counted;
      seats = subst (λ (m : ℕ). m ≤ terms.seats) size r.seats;
      room = subst (λ (m : ℕ). get_or ws 1 0 + total asks_at vs < terms.turns + m) size (k.room (total asks_at vs) (total-set asks_at s.views id v w at));
      tickets = k.tickets (total holds_at vs) (total-set holds_at s.views id v w at);
      views = subst (λ (m : ℕ). Each (IsViewBy terms ws m now) vs) size each;
      apart = pairs-set AreApart apart-turned s.views id w (λ living j u away there other. k.apart living u (beside j u away there other) (r.views j u there other)) r.apart;
      home = k.home;
    }

-- if a view that had no turn is changed and nobody has the turn then, nobody had it before
pub nobody-before : (vs : List View) (id : ℕ) (v w : View) → get_elem? vs id ≡ maybe.some v → ((t : ℕ) (h : History) → v.stage ≢ InTurn t h)
    → NobodyInTurn (set vs id w) → NobodyInTurn vs
nobody-before vs id v w at none nobody j u t h there =
    elim (cases_eq j id) [
      | inl here ↦ λ turn. none t h (ap (λ (x : View). x.stage) (maybe.some-injective v u (sym at ∙ ap (get_elem? vs) (sym here) ∙ there)) ∙ turn)
      | inr away ↦ nobody j u t h (set_else vs id j w away ∙ there)
    ]

-- a ticket that is held was drawn and is not served yet, or is being served
pub ticket-held : (next serving : ℕ) (now : History) (v : View) (st : Stage) (t : ℕ) → Stands next serving now v st → HasTicket st t → (serving ≤ t) × (t < next)
ticket-held next serving now v Idle t is has = absurd has
ticket-held next serving now v Asking t is has = absurd has
ticket-held next serving now v (Waiting x) t is has = (omega (arith, is.0, has), omega (arith, is.1, has))
ticket-held next serving now v (InTurn x h) t is has = (omega (arith, is.0, has), omega (arith, is.1, has))
ticket-held next serving now v (Met first second other) t is has = absurd has
ticket-held next serving now v Gone t is has = absurd has

-- what a stage says of the words and of the history still holds if tickets are drawn, those that
-- are held are not skipped, and nothing changes for who has the turn
pub stands-on : (next serving next' serving' : ℕ) (now now' : History) (v : View) (st : Stage) → next ≤ next'
    → ((t : ℕ) → HasTicket st t → serving ≤ t → serving' ≤ t) → ((t : ℕ) (h : History) → st ≡ InTurn t h → (serving ≡ serving') × (now ≡ now'))
    → Stands next serving now v st → Stands next' serving' now' v st
stands-on next serving next' serving' now now' v Idle le keeps turn is = tt
stands-on next serving next' serving' now now' v Asking le keeps turn is = tt
stands-on next serving next' serving' now now' v (Waiting t) le keeps turn is = (keeps t refl is.0, omega (arith, is.1, le))
stands-on next serving next' serving' now now' v (InTurn t h) le keeps turn is =
    let same = turn t h refl in
    (is.0 ∙ same.0, omega (arith, is.1, le), is.2 ∙ same.1)
stands-on next serving next' serving' now now' v (Met first second other) le keeps turn is = is
stands-on next serving next' serving' now now' v Gone le keeps turn is = tt

-- what is so of a view is still so, if its stage still holds and the history has gone on without it
pub view-on : (terms : Terms) (n next serving next' serving' : ℕ) (now now' : History) (v : View) → next ≤ next'
    → ((t : ℕ) → HasTicket v.stage t → serving ≤ t → serving' ≤ t) → ((t : ℕ) (h : History) → v.stage ≡ InTurn t h → (serving ≡ serving') × (now ≡ now'))
    → (IsAhead v.terms v.number v.seen now → IsAhead v.terms v.number v.seen now') → IsView terms n next serving now v → IsView terms n next' serving' now' v
view-on terms n next serving next' serving' now now' v le keeps turn ahead is = record {
  of = is.of;
  sound = is.sound;
  ahead = ahead is.ahead;
  some = is.some;
  number = is.number;
  drawn = omega (arith, is.drawn, le);
  dealt = is.dealt;
  stage = stands-on next serving next' serving' now now' v v.stage le keeps turn is.stage;
}
