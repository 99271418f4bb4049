use Rattle.std.proofs.Common.{◌≡◌, ℕ, ◌-◌, ◌<◌, length, set, true, None, refl, subst, sym, ap, ◌∙◌, arith}
use Rattle.pl_arena.specs.Arena.{Arena, IsFull, frame_bytes, with_frame, zeros, capacity}
use Rattle.pl_arena.specs.Free.{links, link, IsArena}
use Rattle.pl_arena.proofs.Keeping.{first_given, first_within, first_fresh, not_full, taken_kept, taken_is, place_fresh, place_not_full, extended_kept, extended_is, now_out, ok_is_no_fault, of_fault, full_only, full}
use Rattle.pl_arena.proofs.arena.VersionArena.take.Goals as goal

-- the frame that was given back last
pub get-requires : goal.get-requires
get-requires c =
    let a = c.self.inside in
    record { within = omega (arith, (first_given a.frames a.out.items a.free a.max_chunks c.self.invariant c.if-self-gt0.true zeros).0, c.self.invariant.memory) }

pub index_mut-requires : goal.index_mut-requires
index_mut-requires c =
    let a = c.self.inside in
    omega (arith, (first_given a.frames a.out.items a.free a.max_chunks c.self.invariant c.if-self-gt0.true zeros).0, a.out.ok.0)

pub get_mut-requires : goal.get_mut-requires
get_mut-requires c =
    let a = c.self.inside in
    record { within = omega (arith, (first_given a.frames a.out.items a.free a.max_chunks c.self.invariant c.if-self-gt0.true zeros).0, c.self.invariant.memory) }

pub invariant_of-self : goal.invariant_of-self
invariant_of-self c =
    let a = c.self.inside in
    let next : links a.frames (a.free - 1) ≡ c.link_of-self-inside.result = sym (c.link_of-self-inside.ensures.value ∙ ap link c.get.ensures.value) in
    subst (λ (k : ℕ). IsArena (set a.frames (a.free - 1) c.clear.new.frame) (set a.out.items (a.free - 1) true) k a.max_chunks) next (taken_kept a.frames a.out.items a.free a.max_chunks c.self.invariant c.if-self-gt0.true c.clear.new.frame)

pub returns-then-self-gt0-clause-within : goal.returns-then-self-gt0-clause-within
returns-then-self-gt0-clause-within c =
    let a = c.self.inside in
    subst (λ (s : Arena). a.free - 1 < capacity s) c.self.view_is (first_within a.frames a.out.items a.free a.max_chunks c.self.invariant c.if-self-gt0.true zeros)

pub returns-then-self-gt0-clause-fresh : goal.returns-then-self-gt0-clause-fresh
returns-then-self-gt0-clause-fresh c =
    let a = c.self.inside in
    subst (λ (s : Arena). frame_bytes s (a.free - 1) ≡ None) c.self.view_is (first_fresh a.frames a.out.items a.free a.max_chunks c.self.invariant c.if-self-gt0.true zeros)

pub returns-then-self-gt0-clause-taken : goal.returns-then-self-gt0-clause-taken
returns-then-self-gt0-clause-taken c =
    let a = c.self.inside in
    taken_is a.frames a.out.items a.free a.max_chunks c.self.invariant c.if-self-gt0.true c.clear.new.frame
    ∙ (λ j. with_frame (c.self.view_is j) (a.free - 1) (c.clear.ensures.value j))

pub returns-then-self-gt0-clause-out : goal.returns-then-self-gt0-clause-out
returns-then-self-gt0-clause-out c =
    let a = c.self.inside in
    now_out _ _ (a.free - 1) _ (taken_is a.frames a.out.items a.free a.max_chunks c.self.invariant c.if-self-gt0.true c.clear.new.frame)

pub returns-then-self-gt0-clause-full : goal.returns-then-self-gt0-clause-full
returns-then-self-gt0-clause-full c =
    let a = c.self.inside in (
      (λ e. absurd (ok_is_no_fault _ _ e)),
      (λ f. absurd (not_full a.frames a.out.items a.free a.max_chunks c.self.invariant c.if-self-gt0.true zeros (subst IsFull (sym c.self.view_is) f))),
    )

-- no frame is free: each that there may be is out, or memory was refused
pub returns-in-Err-clause-full : goal.returns-in-Err-clause-full
returns-in-Err-clause-full c =
    let a = c.self.inside in
    let none : a.free ≡ 0 = omega (arith, c.if-self-gt0.false) in (
      (λ e. subst IsFull c.self.view_is (full a.frames a.out.items a.max_chunks (subst (λ (k : ℕ). IsArena a.frames a.out.items k a.max_chunks) none c.self.invariant)
          (c.in-Err.ensures.full.0 (of_fault c.in-Err.fault e)))),
      (λ f. of_fault c.in-Err.fault (c.in-Err.ensures.full.1 (full_only a.frames a.out.items a.free a.max_chunks c.self.invariant (length a.out.items) refl (subst IsFull (sym c.self.view_is) f)))),
    )

-- a frame that was never out
pub invariant_of-self-2 : goal.invariant_of-self-2
invariant_of-self-2 c =
    let a = c.self.inside in
    extended_kept a.frames a.out.items a.free a.max_chunks c.self.invariant c.in-Ok.number c.in-Ok.ensures.ok.number_is (λ e. ok_is_no_fault _ _ (c.in-Ok.ensures.full.1 (sym c.in-Ok.ensures.ok.number_is ∙ e)))
    zeros c.push_frame.new.frames c.in-Ok.ensures.ok.frame c.push_frame.new.out.items c.in-Ok.ensures.ok.flag

pub returns-clause-fresh : goal.returns-clause-fresh
returns-clause-fresh c =
    let a = c.self.inside in
    subst (λ (s : Arena). frame_bytes s c.in-Ok.number ≡ None) c.self.view_is
    (place_fresh a.frames a.out.items a.free a.max_chunks c.self.invariant c.in-Ok.number c.in-Ok.ensures.ok.number_is (λ e. ok_is_no_fault _ _ (c.in-Ok.ensures.full.1 (sym c.in-Ok.ensures.ok.number_is ∙ e))))

pub returns-clause-taken : goal.returns-clause-taken
returns-clause-taken c =
    let a = c.self.inside in
    extended_is a.frames a.out.items a.free a.max_chunks c.self.invariant c.in-Ok.number c.in-Ok.ensures.ok.number_is (λ e. ok_is_no_fault _ _ (c.in-Ok.ensures.full.1 (sym c.in-Ok.ensures.ok.number_is ∙ e)))
    zeros c.push_frame.new.frames c.in-Ok.ensures.ok.frame c.push_frame.new.out.items c.in-Ok.ensures.ok.flag
    ∙ ap (λ (s : Arena). with_frame s c.in-Ok.number zeros) c.self.view_is

pub returns-clause-out : goal.returns-clause-out
returns-clause-out c =
    let a = c.self.inside in
    now_out _ _ c.in-Ok.number _
    (extended_is a.frames a.out.items a.free a.max_chunks c.self.invariant c.in-Ok.number c.in-Ok.ensures.ok.number_is (λ e. ok_is_no_fault _ _ (c.in-Ok.ensures.full.1 (sym c.in-Ok.ensures.ok.number_is ∙ e)))
    zeros c.push_frame.new.frames c.in-Ok.ensures.ok.frame c.push_frame.new.out.items c.in-Ok.ensures.ok.flag)

pub returns-clause-full : goal.returns-clause-full
returns-clause-full c =
    let a = c.self.inside in (
      (λ e. absurd (ok_is_no_fault _ _ e)),
      (λ f. absurd (place_not_full a.frames a.out.items a.free a.max_chunks c.self.invariant c.in-Ok.number c.in-Ok.ensures.ok.number_is
          (λ e. ok_is_no_fault _ _ (c.in-Ok.ensures.full.1 (sym c.in-Ok.ensures.ok.number_is ∙ e))) (subst IsFull (sym c.self.view_is) f))),
    )
