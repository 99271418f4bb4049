use Rattle.std.proofs.Common.{◌≡◌, ◌<◌, [], ◌++◌, length, get_or, set, sym, ap, ◌∙◌, arith}
use Rattle.std.proofs.lemmas.List.{get_or_read}
use Rattle.pl_arena.proofs.Rows.{Row}
use Rattle.pl_arena.proofs.Halves.{front_item, back_item, front_written, back_written}
use Rattle.pl_arena.proofs.frames.copy_among.Goals as goal

pub returns-then-a-b-2 : goal.returns-then-a-b-2
returns-then-a-b-2 c =
    let parts = c.split_at_mut-front in
    let row = c.args.chunks.now in
    let front = parts.result.0.now in
    let back = parts.result.1.now in
    let a = c.args.a in
    let b = c.args.b in
    let x = c.index-front-a.result in
    let y = c.index-back-0.result in
    let in_front : a < length front = omega (arith, c.if-a-b-2.true, parts.ensures.front_len) in
    let in_back : 0 < length back = omega (arith, c.requires.to.0, parts.ensures.back_len) in
    let source : get_or front a x ≡ get_or row a [] =
    sym c.index-front-a.is ∙ get_or_read front a x in_front c.index-front-a.is [] ∙ front_item row front back b parts.ensures.value parts.ensures.front_len a [] c.if-a-b-2.true in
    let target : get_or back 0 y ≡ get_or row b [] =
    sym c.index-back-0.is ∙ get_or_read back 0 y in_back c.index-back-0.is [] ∙ back_item row front back b parts.ensures.value parts.ensures.front_len [] in
    record {
      value =
          (λ k. front ++ set back 0 (set (target k) c.args.j ((c.get-source.ensures.value ∙ ap (λ (r : Row). get_or r c.args.i []) source) k)))
          ∙ back_written row front back b parts.ensures.value parts.ensures.front_len _;
    }

pub returns-else-a-b-2 : goal.returns-else-a-b-2
returns-else-a-b-2 c =
    let parts = c.split_at_mut-front-else-a-b-2 in
    let row = c.args.chunks.now in
    let front = parts.result.0.now in
    let back = parts.result.1.now in
    let a = c.args.a in
    let b = c.args.b in
    let x = c.index-back-0-else-a-b-2.result in
    let y = c.index-front-b.result in
    let before : b < a = omega (arith, c.if-a-b.false, c.if-a-b-2.false) in
    let in_front : b < length front = omega (arith, before, parts.ensures.front_len) in
    let in_back : 0 < length back = omega (arith, c.requires.from.0, parts.ensures.back_len) in
    let source : get_or back 0 x ≡ get_or row a [] =
    sym c.index-back-0-else-a-b-2.is ∙ get_or_read back 0 x in_back c.index-back-0-else-a-b-2.is [] ∙ back_item row front back a parts.ensures.value parts.ensures.front_len [] in
    let target : get_or front b y ≡ get_or row b [] =
    sym c.index-front-b.is ∙ get_or_read front b y in_front c.index-front-b.is [] ∙ front_item row front back a parts.ensures.value parts.ensures.front_len b [] before in
    record {
      value =
          (λ k. set front b (set (target k) c.args.j ((c.get-source-else-a-b-2.ensures.value ∙ ap (λ (r : Row). get_or r c.args.i []) source) k)) ++ back)
          ∙ front_written row front back a parts.ensures.value parts.ensures.front_len b _ before;
    }
