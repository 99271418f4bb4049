use Rattle.std.proofs.Common.{Some, length, refl, subst, sym, ap, ◌∙◌, arith}
use Rattle.pl_arena.specs.Arena.{Arena, frame_bytes, IsOut, with_frame}
use Rattle.pl_arena.proofs.Keeping.{out_flag, out_within, out_bytes, written_kept, written_is, same_bytes}
use Rattle.pl_arena.proofs.arena.VersionArena.bytes_mut.Goals as goal

pub get_mut-frame-requires : goal.get_mut-frame-requires
get_mut-frame-requires c =
    let a = c.self.inside in
    let is = subst (IsOut c.args.self.now) (sym c.id.view_is) c.requires.out in
    record { within = omega (arith, out_within a.frames a.out.items a.max_chunks c.args.self.now c.self.view_is c.id.inside.number is, c.self.invariant.memory) }

pub invariant_of-self-lent : goal.invariant_of-self-lent
invariant_of-self-lent c w =
    let a = c.self.inside in
    let is = subst (IsOut c.args.self.now) (sym c.id.view_is) c.requires.out in
    written_kept a.frames a.out.items a.free a.max_chunks c.self.invariant c.id.inside.number (out_flag a.frames a.out.items a.max_chunks c.args.self.now c.self.view_is c.id.inside.number is) w

pub returns : goal.returns
returns c =
    let a = c.self.inside in
    let id = c.id.inside.number in
    let is = subst (IsOut c.args.self.now) (sym c.id.view_is) c.requires.out in
    let out = out_flag a.frames a.out.items a.max_chunks c.args.self.now c.self.view_is id is in
    let had = ap (frame_bytes c.args.self.now) (sym c.id.view_is) ∙ out_bytes a.frames a.out.items a.max_chunks c.args.self.now c.self.view_is id is in (
      (refl, λ w. written_is a.frames a.out.items a.free a.max_chunks c.self.invariant id out w ∙ (λ j. with_frame (c.self.view_is j) (c.id.view_is j) w)),
      record {
        writes_back = tt;
        value = had ∙ ap Some (sym (c.as_mut_slice.ensures.value ∙ c.get_mut-frame.ensures.value));
        len = ap length (c.as_mut_slice.ensures.value ∙ c.get_mut-frame.ensures.value ∙ same_bytes _ _ (sym had ∙ ap (λ (s : Arena). frame_bytes s c.args.id) (sym c.self.view_is) ∙ c.bytes-bytes.ensures.value)) ∙ c.bytes-bytes.ensures.len;
      },
    )
