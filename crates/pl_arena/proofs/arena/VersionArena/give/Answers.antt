use Rattle.std.proofs.Common.{subst, sym, ◌∙◌, arith}
use Rattle.pl_arena.specs.Arena.{IsOut, without_frame}
use Rattle.pl_arena.proofs.Keeping.{out_flag, out_within, given_kept, given_is}
use Rattle.pl_arena.proofs.arena.VersionArena.give.Goals as goal

pub get_mut-requires : goal.get_mut-requires
get_mut-requires c =
    let a = c.self.inside in
    let is = subst (IsOut c.args.self.now) (sym c.id.view_is) c.requires.out in
    record { within = omega (arith, out_within a.frames a.out.items a.max_chunks c.args.self.now c.self.view_is c.id.inside.number is, c.self.invariant.memory) }

pub overflow_add-self : goal.overflow_add-self
overflow_add-self c =
    let a = c.self.inside in
    let is = subst (IsOut c.args.self.now) (sym c.id.view_is) c.requires.out in
    record { fits = omega (arith, out_within a.frames a.out.items a.max_chunks c.args.self.now c.self.view_is c.id.inside.number is, c.self.invariant.limit, c.self.invariant.few) }

pub index_mut-requires : goal.index_mut-requires
index_mut-requires c =
    let a = c.self.inside in
    let is = subst (IsOut c.args.self.now) (sym c.id.view_is) c.requires.out in
    omega (arith, out_within a.frames a.out.items a.max_chunks c.args.self.now c.self.view_is c.id.inside.number is, a.out.ok.0)

pub invariant_of-self : goal.invariant_of-self
invariant_of-self c =
    let a = c.self.inside in
    let id = c.id.inside.number in
    let is = subst (IsOut c.args.self.now) (sym c.id.view_is) c.requires.out in
    given_kept a.frames a.out.items a.free a.max_chunks c.self.invariant id (out_flag a.frames a.out.items a.max_chunks c.args.self.now c.self.view_is id is) c.set_link.new.frame c.set_link.ensures.value

pub returns : goal.returns
returns c =
    let a = c.self.inside in
    let id = c.id.inside.number in
    let is = subst (IsOut c.args.self.now) (sym c.id.view_is) c.requires.out in
    record {
      value =
          given_is a.frames a.out.items a.free a.max_chunks c.self.invariant id (out_flag a.frames a.out.items a.max_chunks c.args.self.now c.self.view_is id is) c.set_link.new.frame c.set_link.ensures.value
          ∙ (λ j. without_frame (c.self.view_is j) (c.id.view_is j));
    }
