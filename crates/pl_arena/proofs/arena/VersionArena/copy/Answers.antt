use Rattle.std.proofs.Common.{[], List, ℕ, get_or, subst, sym, ap, ◌∙◌, arith}
use Rattle.pl_arena.specs.Free.{IsArena, arena_of}
use Rattle.pl_arena.specs.Arena.{frame_bytes, IsOut, with_frame}
use Rattle.pl_arena.proofs.Keeping.{out_flag, out_within, out_bytes, written_kept, written_is, if_some}
use Rattle.pl_arena.proofs.arena.VersionArena.copy.Goals as goal

pub copy-requires-clause-from : goal.copy-requires-clause-from
copy-requires-clause-from c =
    let a = c.self.inside in
    let is = subst (IsOut c.args.self.now) (sym c.from.view_is) c.requires.from in
    omega (arith, out_within a.frames a.out.items a.max_chunks c.args.self.now c.self.view_is c.from.inside.number is, c.self.invariant.memory)

pub copy-requires-clause-to : goal.copy-requires-clause-to
copy-requires-clause-to c =
    let a = c.self.inside in
    let is = subst (IsOut c.args.self.now) (sym c.to.view_is) c.requires.to in
    omega (arith, out_within a.frames a.out.items a.max_chunks c.args.self.now c.self.view_is c.to.inside.number is, c.self.invariant.memory)

pub invariant_of-self : goal.invariant_of-self
invariant_of-self c =
    let a = c.self.inside in
    let to = c.to.inside.number in
    let is = subst (IsOut c.args.self.now) (sym c.to.view_is) c.requires.to in
    let bytes = get_or a.frames c.from.inside.number [] in
    subst (λ (fs : List (List ℕ)). IsArena fs a.out.items a.free a.max_chunks) (sym c.copy.ensures.value)
    (written_kept a.frames a.out.items a.free a.max_chunks c.self.invariant to (out_flag a.frames a.out.items a.max_chunks c.args.self.now c.self.view_is to is) bytes)

pub returns : goal.returns
returns c =
    let a = c.self.inside in
    let to = c.to.inside.number in
    let is = subst (IsOut c.args.self.now) (sym c.to.view_is) c.requires.to in
    let was = subst (IsOut c.args.self.now) (sym c.from.view_is) c.requires.from in
    let bytes = get_or a.frames c.from.inside.number [] in
    let had = ap (frame_bytes c.args.self.now) (sym c.from.view_is) ∙ out_bytes a.frames a.out.items a.max_chunks c.args.self.now c.self.view_is c.from.inside.number was in
    record {
      value = if_some _ _ bytes had
          (ap (λ (fs : List (List ℕ)). arena_of fs a.out.items a.max_chunks) c.copy.ensures.value
          ∙ written_is a.frames a.out.items a.free a.max_chunks c.self.invariant to (out_flag a.frames a.out.items a.max_chunks c.args.self.now c.self.view_is to is) bytes
          ∙ (λ j. with_frame (c.self.view_is j) (c.to.view_is j) bytes));
    }
