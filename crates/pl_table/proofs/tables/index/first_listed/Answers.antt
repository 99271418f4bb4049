use Rattle.std.proofs.Common.{sym, ◌∙◌}
use Rattle.std.proofs.lemmas.Option.{slice_get_within}
use Rattle.pl_table.specs.Requests.Asking.{asked_by}
use Rattle.pl_table.proofs.Listed.{IsLeft-next, IsLeft-none, listed-next, found-next, missed-next}
use Rattle.pl_table.proofs.tables.index.first_listed.Goals as goal

pub bounds-rows-from : goal.bounds-rows-from
bounds-rows-from c =
    let next = IsLeft-next c.args.rows.now (asked_by c.args.asking.now) c.loop-place.left.now c.in-Some.place.now c.in-Some.others.now c.in-Some.ensures.cases.0 c.loop-place.invariant in
    rw c.from.ensures (slice_get_within c.args.rows.now c.in-Some.place.now next.row next.here)

pub matches_listed-requires : goal.matches_listed-requires
matches_listed-requires c =
    let next = IsLeft-next c.args.rows.now (asked_by c.args.asking.now) c.loop-place.left.now c.in-Some.place.now c.in-Some.others.now c.in-Some.ensures.cases.0 c.loop-place.invariant in
    record { listed = listed-next c.args.rows.now (asked_by c.args.asking.now) c.in-Some.place.now c.in-Some.others.now c.index-rows-from.result next (rw c.from.ensures at c.index-rows-from.is) }

pub returns-then-matches_listed : goal.returns-then-matches_listed
returns-then-matches_listed c =
    let next = IsLeft-next c.args.rows.now (asked_by c.args.asking.now) c.loop-place.left.now c.in-Some.place.now c.in-Some.others.now c.in-Some.ensures.cases.0 c.loop-place.invariant in
    let found = found-next c.args.rows.now (asked_by c.args.asking.now) c.in-Some.place.now c.in-Some.others.now c.index-rows-from.result next (rw c.from.ensures at c.index-rows-from.is) (sym c.matches_listed.ensures.value ∙ c.if-matches_listed.true) in
    record { value = rw c.from-then-matches_listed.ensures found }

pub loop-place-preserved : goal.loop-place-preserved
loop-place-preserved c =
    let next = IsLeft-next c.args.rows.now (asked_by c.args.asking.now) c.loop-place.left.now c.in-Some.place.now c.in-Some.others.now c.in-Some.ensures.cases.0 c.loop-place.invariant in
    missed-next c.args.rows.now (asked_by c.args.asking.now) c.in-Some.place.now c.in-Some.others.now c.index-rows-from.result next (rw c.from.ensures at c.index-rows-from.is) (sym c.matches_listed.ensures.value ∙ c.if-matches_listed.false)

pub returns : goal.returns
returns c = record { value = sym (IsLeft-none c.args.rows.now (asked_by c.args.asking.now) c.loop-place.left.now c.in_default.ensures.cases c.loop-place.invariant) }
