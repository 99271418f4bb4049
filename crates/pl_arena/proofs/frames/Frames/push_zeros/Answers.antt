use Rattle.std.proofs.Common.{◌≡◌, ◌<◌, ◌≤◌, ◌+◌, ◌-◌, ◌++◌, ◌∷◌, ℕ, true, false, [], length, get_or, set, ltb, inl, inr, subst, sym, ap, ◌∙◌, arith, true≢false}
use Rattle.std.proofs.lemmas.Bool.{cases_lt, lt-ltb, le-ltb}
use Rattle.std.proofs.lemmas.List.{get_or_read}
use Rattle.pl_arena.specs.Arena.{zeros}
use Rattle.pl_arena.specs.Packed.{HasRoom, IsPacked, flat}
use Rattle.pl_arena.proofs.Rows.{Row, packed_grown, packed_pushed, flat_grown, flat_whole, each_small}
use Rattle.pl_arena.proofs.frames.Frames.push_zeros.Goals as goal
use Rattle.pl_arena.proofs.frames.Frames.push_zeros.Goals.{After-new, else-count-gt0-via-then-count-gt0+else-has_room, else-count-gt0-via-else-count-gt0}

roomy : (x : Row) → ltb (length x) 64 ≡ true → length x < 64
roomy x e =
    elim (cases_lt (length x) 64) [
      | inl lt ↦ lt
      | inr ge ↦ absurd (true≢false (sym e ∙ le-ltb (length x) 64 ge))
    ]

full : (x : Row) → ltb (length x) 64 ≡ false → 64 ≤ length x
full x e =
    elim (cases_lt (length x) 64) [
      | inl lt ↦ absurd (true≢false (sym (lt-ltb (length x) 64 lt) ∙ e))
      | inr ge ↦ ge
    ]

-- the last chunk has room
pub invariant_of-self : goal.invariant_of-self
invariant_of-self c =
    let chunks = c.self.inside.chunks.items in
    let n = c.len-count.result - 1 in
    let last : n + 1 ≡ length chunks = omega (arith, c.if-count-gt0.true, c.len-count.ensures, c.self.inside.chunks.ok.0) in
    let seen = get_or_read chunks n _ (omega (arith, last)) c.index.ensures [] in
    let here = get_or_read chunks n _ (omega (arith, last)) c.index_mut.ensures.value [] in
    let room = subst (λ (x : Row). length x < 64) seen (roomy c.index.result.now (sym c.has_room.ensures.value ∙ c.if-has_room.true)) in
    subst (λ (x : Row). IsPacked (set chunks n x)) (sym (c.push_zeros.ensures.value ∙ ap (λ (x : Row). x ++ zeros ∷ []) here)) (packed_grown zeros chunks n last room c.self.invariant)

pub returns-then-has_room-clause-ok : goal.returns-then-has_room-clause-ok
returns-then-has_room-clause-ok c =
    let chunks = c.self.inside.chunks.items in
    let n = c.len-count.result - 1 in
    let last : n + 1 ≡ length chunks = omega (arith, c.if-count-gt0.true, c.len-count.ensures, c.self.inside.chunks.ok.0) in
    let here = get_or_read chunks n _ (omega (arith, last)) c.index_mut.ensures.value [] in
    ap (λ (x : Row). flat (set chunks n x)) (c.push_zeros.ensures.value ∙ ap (λ (x : Row). x ++ zeros ∷ []) here)
    ∙ flat_grown zeros chunks n last
    ∙ ap (λ (x : Row). x ++ zeros ∷ []) c.self.view_is

-- if a chunk is made, the last has 64 frames
whole : (c : After-new) (n : ℕ) → n + 1 ≡ length c.self.inside.chunks.items → length (get_or c.self.inside.chunks.items n []) ≡ 64
whole c n e =
    let chunks = c.self.inside.chunks.items in
    elim c.else-count-gt0.branch [
      | else-count-gt0-via-then-count-gt0+else-has_room w ↦
          let same : c.len-count.result - 1 ≡ n = omega (arith, e, c.len-count.ensures, c.self.inside.chunks.ok.0) in
          let seen = get_or_read chunks (c.len-count.result - 1) _ (omega (arith, same, e)) w.index.ensures [] in
          let past = full w.index.result.now (sym w.has_room.ensures.value ∙ w.if-has_room.false) in
          let at = seen ∙ ap (λ (k : ℕ). get_or chunks k []) same in
          omega (arith, subst (λ (x : Row). 64 ≤ length x) at past, each_small chunks n c.self.invariant)
      | else-count-gt0-via-else-count-gt0 w ↦ absurd (omega (arith, e, w.if-count-gt0.false, c.len-count.ensures, c.self.inside.chunks.ok.0))
    ]

-- a chunk more
pub invariant_of-self-2 : goal.invariant_of-self-2
invariant_of-self-2 c =
    let chunks = c.self.inside.chunks.items in
    let new = c.push_zeros-2.new.self in
    let made : new ≡ zeros ∷ [] = c.push_zeros-2.ensures.value ∙ ap (λ (x : Row). x ++ zeros ∷ []) c.in_ok-chunk.ensures.none in
    let long : length new ≡ 1 = ap length made in
    subst IsPacked (sym c.in_ok-push.ensures.items) (packed_pushed chunks new (omega (arith, long)) (whole (goal.at.invariant_of-self-2 c).After-new) c.self.invariant)

-- so it was needed
no_room : (c : After-new) → HasRoom c.args.self.now → ⊥
no_room c room = omega (arith, room, ap length c.self.view_is, flat_whole c.self.inside.chunks.items (whole c) c.self.invariant)

pub returns-in_err-chunk-clause-succeeds : goal.returns-in_err-chunk-clause-succeeds
returns-in_err-chunk-clause-succeeds c room = absurd (no_room (goal.at.returns-in_err-chunk-clause-succeeds c).After-new room)

pub returns-in_err-push-clause-succeeds : goal.returns-in_err-push-clause-succeeds
returns-in_err-push-clause-succeeds c room = absurd (no_room (goal.at.returns-in_err-push-clause-succeeds c).After-new room)
