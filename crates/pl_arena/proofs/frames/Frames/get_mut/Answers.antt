use Rattle.std.proofs.Common.{◌<◌, ◌/◌, ◌%◌, [], length, get_or, set, length-set, refl, subst, sym, ap, ◌∙◌, arith}
use Rattle.std.proofs.lemmas.List.{get_or_read}
use Rattle.pl_arena.specs.Packed.{flat}
use Rattle.pl_arena.proofs.Rows.{Row, at_number, packed_set}
use Rattle.pl_arena.proofs.frames.Frames.get_mut.Goals as goal

pub index_mut-chunk-requires : goal.index_mut-chunk-requires
index_mut-chunk-requires c =
    let chunks = c.self.inside.chunks.items in
    let within : c.args.i < length (flat chunks) = subst (λ (r : Row). c.args.i < length r) (sym c.self.view_is) c.requires.within in
    omega (arith, (at_number chunks c.args.i c.self.invariant within).chunk, c.self.inside.chunks.ok.0)

pub get_mut-requires : goal.get_mut-requires
get_mut-requires c =
    let chunks = c.self.inside.chunks.items in
    let within : c.args.i < length (flat chunks) = subst (λ (r : Row). c.args.i < length r) (sym c.self.view_is) c.requires.within in
    let there = at_number chunks c.args.i c.self.invariant within in
    let here = get_or_read chunks (c.args.i / 64) _ there.chunk c.index_mut-chunk.ensures.value [] in
    record { within = subst (λ (r : Row). c.args.i % 64 < length r) (sym here) there.frame }

pub invariant_of-self-lent : goal.invariant_of-self-lent
invariant_of-self-lent c w =
    let chunks = c.self.inside.chunks.items in
    let i = c.args.i in
    let within : i < length (flat chunks) = subst (λ (r : Row). i < length r) (sym c.self.view_is) c.requires.within in
    let there = at_number chunks i c.self.invariant within in
    let here = get_or_read chunks (i / 64) _ there.chunk c.index_mut-chunk.ensures.value [] in
    packed_set chunks (i / 64) (set c.index_mut-chunk.result.now (i % 64) w) (length-set c.index_mut-chunk.result.now (i % 64) w ∙ ap length here) c.self.invariant

pub returns : goal.returns
returns c =
    let chunks = c.self.inside.chunks.items in
    let i = c.args.i in
    let within : i < length (flat chunks) = subst (λ (r : Row). i < length r) (sym c.self.view_is) c.requires.within in
    let there = at_number chunks i c.self.invariant within in
    let here = get_or_read chunks (i / 64) _ there.chunk c.index_mut-chunk.ensures.value [] in (
      (
        refl,
        λ w. ap (λ (r : Row). flat (set chunks (i / 64) (set r (i % 64) w))) here ∙ there.written w ∙ ap (λ (r : Row). set r i w) c.self.view_is,
      ),
      record {
        writes_back = tt;
        value =
            c.get_mut.ensures.value
            ∙ ap (λ (r : Row). get_or r (i % 64) []) here
            ∙ sym there.value
            ∙ ap (λ (r : Row). get_or r i []) c.self.view_is;
      },
    )
