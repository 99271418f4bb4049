use Rattle.std.proofs.Common.{Some, subst, sym, ap, ◌∙◌, arith}
use Rattle.pl_arena.specs.Arena.{frame_bytes, IsOut}
use Rattle.pl_arena.proofs.Keeping.{out_within, out_bytes}
use Rattle.pl_arena.proofs.arena.VersionArena.bytes.Goals as goal

pub get-requires : goal.get-requires
get-requires c =
    let a = c.self.inside in
    let is = subst (IsOut c.args.self.now) (sym c.id.view_is) c.requires.out in
    record { within = omega (arith, out_within a.frames a.out.items a.max_chunks c.args.self.now c.self.view_is c.id.inside.number is, c.self.invariant.memory) }

pub returns-clause-value : goal.returns-clause-value
returns-clause-value c =
    let a = c.self.inside in
    let is = subst (IsOut c.args.self.now) (sym c.id.view_is) c.requires.out in
    ap (frame_bytes c.args.self.now) (sym c.id.view_is)
    ∙ out_bytes a.frames a.out.items a.max_chunks c.args.self.now c.self.view_is c.id.inside.number is
    ∙ ap Some (sym c.get.ensures.value)
