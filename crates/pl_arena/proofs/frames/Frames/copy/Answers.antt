use Rattle.std.proofs.Common.{◌≡◌, ℕ, ◌<◌, ◌/◌, ◌%◌, [], List, length, get_or, set, length-set, subst, sym, ap, ◌∙◌}
use Rattle.std.proofs.lemmas.List.{with_items_is}
use Rattle.pl_arena.specs.Packed.{IsPacked, flat, with_copied_frame}
use Rattle.pl_arena.proofs.Rows.{Row, IsAt, at_number, packed_set}
use Rattle.pl_arena.proofs.frames.Frames.copy.Goals as goal

pub copy_among-requires-clause-from : goal.copy_among-requires-clause-from
copy_among-requires-clause-from c =
    let chunks = c.self.inside.chunks.items in
    let there = at_number chunks c.args.from c.self.invariant (subst (λ (r : Row). c.args.from < length r) (sym c.self.view_is) c.requires.from) in
    subst (λ (l : List Row). (c.args.from / 64 < length l) × (c.args.from % 64 < length (get_or l (c.args.from / 64) []))) (sym c.deref_mut.ensures.value) (there.chunk, there.frame)

pub copy_among-requires-clause-to : goal.copy_among-requires-clause-to
copy_among-requires-clause-to c =
    let chunks = c.self.inside.chunks.items in
    let there = at_number chunks c.args.to c.self.invariant (subst (λ (r : Row). c.args.to < length r) (sym c.self.view_is) c.requires.to) in
    subst (λ (l : List Row). (c.args.to / 64 < length l) × (c.args.to % 64 < length (get_or l (c.args.to / 64) []))) (sym c.deref_mut.ensures.value) (there.chunk, there.frame)

-- the chunks, with one of them written
module _ (chunks new : List Row) (from to : ℕ) where
  abbrev Copied : Type 0
  Copied = new ≡ with_copied_frame chunks (from / 64) (from % 64) (to / 64) (to % 64)

  as_many : Copied → length new ≡ length chunks
  as_many e = ap length e ∙ length-set chunks (to / 64) _

  kept : Copied → IsPacked chunks → IsPacked new
  kept e all = subst IsPacked (sym e) (packed_set chunks (to / 64) _ (length-set (get_or chunks (to / 64) []) (to % 64) _) all)

  copied : Copied → IsAt chunks (from / 64) (from % 64) from → IsAt chunks (to / 64) (to % 64) to → flat new ≡ set (flat chunks) to (get_or (flat chunks) from [])
  copied e source target = ap flat e ∙ target.written _ ∙ ap (set (flat chunks) to) (sym source.value)

pub invariant_of-self : goal.invariant_of-self
invariant_of-self c =
    let v = c.self.inside.chunks in
    let e = subst (λ (l : List Row). Copied l c.copy_among.new.chunks c.args.from c.args.to) c.deref_mut.ensures.value c.copy_among.ensures.value in
    let same = with_items_is v c.copy_among.new.chunks (as_many v.items c.copy_among.new.chunks c.args.from c.args.to e ∙ sym v.ok.0) in
    subst IsPacked (sym same) (kept v.items c.copy_among.new.chunks c.args.from c.args.to e c.self.invariant)

pub returns : goal.returns
returns c =
    let v = c.self.inside.chunks in
    let from = c.args.from in
    let to = c.args.to in
    let e = subst (λ (l : List Row). Copied l c.copy_among.new.chunks from to) c.deref_mut.ensures.value c.copy_among.ensures.value in
    let same = with_items_is v c.copy_among.new.chunks (as_many v.items c.copy_among.new.chunks from to e ∙ sym v.ok.0) in
    let source = at_number v.items from c.self.invariant (subst (λ (r : Row). from < length r) (sym c.self.view_is) c.requires.from) in
    let target = at_number v.items to c.self.invariant (subst (λ (r : Row). to < length r) (sym c.self.view_is) c.requires.to) in
    record { value = ap flat same ∙ copied v.items c.copy_among.new.chunks from to e source target ∙ (λ k. set (c.self.view_is k) to (get_or (c.self.view_is k) from [])) }
