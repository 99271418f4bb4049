use Rattle.std.proofs.Common.{◌<◌, ◌/◌, ◌%◌, [], length, get_or, subst, sym, ap, ◌∙◌, arith}
use Rattle.std.proofs.lemmas.List.{get_or_read}
use Rattle.pl_arena.specs.Packed.{flat}
use Rattle.pl_arena.proofs.Rows.{Row, at_number}
use Rattle.pl_arena.proofs.frames.Frames.get.Goals as goal

pub index-requires : goal.index-requires
index-requires c =
    let chunks = c.self.inside.chunks.items in
    let within : c.args.i < length (flat chunks) = subst (λ (r : Row). c.args.i < length r) (sym c.self.view_is) c.requires.within in
    omega (arith, (at_number chunks c.args.i c.self.invariant within).chunk, c.self.inside.chunks.ok.0)

pub get-requires : goal.get-requires
get-requires c =
    let chunks = c.self.inside.chunks.items in
    let within : c.args.i < length (flat chunks) = subst (λ (r : Row). c.args.i < length r) (sym c.self.view_is) c.requires.within in
    let there = at_number chunks c.args.i c.self.invariant within in
    let here = get_or_read chunks (c.args.i / 64) _ there.chunk c.index.ensures [] in
    record { within = subst (λ (r : Row). c.args.i % 64 < length r) (sym here) there.frame }

pub returns : goal.returns
returns c =
    let chunks = c.self.inside.chunks.items in
    let i = c.args.i in
    let within : i < length (flat chunks) = subst (λ (r : Row). i < length r) (sym c.self.view_is) c.requires.within in
    let there = at_number chunks i c.self.invariant within in
    let here = get_or_read chunks (i / 64) _ there.chunk c.index.ensures [] in
    record {
      value =
          c.get.ensures.value
          ∙ ap (λ (r : Row). get_or r (i % 64) []) here
          ∙ sym there.value
          ∙ ap (λ (r : Row). get_or r i []) c.self.view_is;
    }
