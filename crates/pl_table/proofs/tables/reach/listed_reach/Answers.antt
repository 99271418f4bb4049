use Rattle.pl_table.specs.Requests.Asking.{asked_by}
use Rattle.pl_table.proofs.Reached.{reached-start, reached-here, reached-missed, reached-about, reached-end}
use Rattle.std.proofs.Common.{sym, ◌∙◌}
use Rattle.pl_table.proofs.tables.reach.listed_reach.Goals as goal

pub loop-place-init : goal.loop-place-init
loop-place-init c = reached-start c.args.rows.now (asked_by c.args.asking.now) c.args.most c.args.list.now c.requires.allowed c.requires.listed

pub bounds-rows-from : goal.bounds-rows-from
bounds-rows-from c =
    let here = reached-here c.args.rows.now (asked_by c.args.asking.now) c.args.most c.loop-place.reach.low c.loop-place.reach.high c.loop-place.rest.now c.in-Some.place.now c.in-Some.others.now c.loop-place.invariant c.if-reach.false c.in-Some.ensures.cases.0 in
    rw c.from.ensures here.within

pub is_about-requires : goal.is_about-requires
is_about-requires c =
    let here = reached-here c.args.rows.now (asked_by c.args.asking.now) c.args.most c.loop-place.reach.low c.loop-place.reach.high c.loop-place.rest.now c.in-Some.place.now c.in-Some.others.now c.loop-place.invariant c.if-reach.false c.in-Some.ensures.cases.0 in
    record { listed = here.listed c.index-rows-from.result (rw c.from.ensures at c.index-rows-from.is) }

pub loop-place-preserved-then-is_about : goal.loop-place-preserved-then-is_about
loop-place-preserved-then-is_about c =
    reached-about c.args.rows.now (asked_by c.args.asking.now) c.args.most c.loop-place.reach.low c.loop-place.reach.high c.loop-place.rest.now c.in-Some.place.now c.in-Some.others.now c.index-rows-from.result c.after-reach.result.low c.after-reach.result.high c.requires.number c.loop-place.invariant c.in-Some.ensures.cases.0 (rw c.from.ensures at c.index-rows-from.is) (sym c.is_about.ensures.value ∙ c.if-is_about.true) c.after-reach.ensures.after

pub loop-place-preserved : goal.loop-place-preserved
loop-place-preserved c =
    reached-missed c.args.rows.now (asked_by c.args.asking.now) c.args.most c.loop-place.reach.low c.loop-place.reach.high c.loop-place.rest.now c.in-Some.place.now c.in-Some.others.now c.index-rows-from.result c.loop-place.invariant c.in-Some.ensures.cases.0 (rw c.from.ensures at c.index-rows-from.is) (sym c.is_about.ensures.value ∙ c.if-is_about.false)

pub returns-clause-exact : goal.returns-clause-exact
returns-clause-exact c =
    reached-end c.args.rows.now (asked_by c.args.asking.now) c.args.most c.loop-place.reach.low c.loop-place.reach.high c.loop-place.rest.now c.loop-place.invariant (λ n gt le. c.in_default.ensures.cases)
