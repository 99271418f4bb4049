use Rattle.std.proofs.Common.{refl, sym, subst, ◌∙◌, arith}
use Rattle.std.proofs.lemmas.Bool.{false≢true}
use Rattle.pl_pages.specs.Index.{IsAfterChanges, count_before}
use Rattle.pl_pages.specs.Replay.{IsTrueAfter}
use Rattle.pl_pages.proofs.Touching.{rising, counted, rise, after_at}
use Rattle.pl_pages.proofs.pages.show.Goals as goal

pub count_up_to-to-requires : goal.count_up_to-to-requires
count_up_to-to-requires c = record { rising = rising c.args.page c.args.log.now.hardened c.requires.versions.numbered c.args.lsns.now c.requires.lsns }

pub count_up_to-requires : goal.count_up_to-requires
count_up_to-requires c = record { rising = rising c.args.page c.args.log.now.hardened c.requires.versions.numbered c.args.lsns.now c.requires.lsns }

pub count_up_to-from-requires : goal.count_up_to-from-requires
count_up_to-from-requires c = record { rising = rising c.args.page c.args.log.now.hardened c.requires.versions.numbered c.args.lsns.now c.requires.lsns }

pub returns-then-count_up_to-to-clause-after : goal.returns-then-count_up_to-to-clause-after
returns-then-count_up_to-to-clause-after c =
    let page = c.args.page in
    let log = c.args.log.now.hardened in
    let found = c.in-Some.found in
    let from = c.count_up_to.ensures in
    let to = c.count_up_to-to.ensures in
    let one = counted page log c.requires.versions.numbered c.args.lsns.now c.requires.lsns _ found.lsn (omega (arith, c.in-Some.ensures.below, c.requires.image.1)) from.within from.below from.above in
    let other = counted page log c.requires.versions.numbered c.args.lsns.now c.requires.lsns _ c.args.lsn c.requires.image.1 to.within to.below to.above in
    after_at c.args.versions.now.versions found.place page page found.lsn _ log c.in-Some.ensures.at refl (one ∙ c.if-count_up_to-to.true ∙ sym other)

pub returns-in_err-begun-clause-succeeds : goal.returns-in_err-begun-clause-succeeds
returns-in_err-begun-clause-succeeds c some none =
    let to = c.count_up_to-to.ensures in
    let other = counted c.args.page c.args.log.now.hardened c.requires.versions.numbered c.args.lsns.now c.requires.lsns _ c.args.lsn c.requires.image.1 to.within to.below to.above in
    absurd (false≢true (c.in_err-begun.ensures.succeeds (c.image_after.ensures.none (sym other ∙ none)) some))

pub bring_up-requires-clause-after : goal.bring_up-requires-clause-after
bring_up-requires-clause-after c =
    let page = c.args.page in
    let log = c.args.log.now.hardened in
    let begun = c.in_ok-begun.begun in
    let from = c.count_up_to-from.ensures in
    let one = counted page log c.requires.versions.numbered c.args.lsns.now c.requires.lsns _ begun.lsn (omega (arith, c.in_ok-begun.ensures.begun.below, c.requires.image.1)) from.within from.below from.above in
    subst (λ l. IsTrueAfter c.begin.new.versions.versions begun.place page l.hardened c.count_up_to-from.result) (sym c.in_ok-begun.ensures.kept.log_is)
    (record { truth = c.in_ok-begun.ensures.kept.truth; after = after_at c.begin.new.versions.versions begun.place page page begun.lsn _ log c.in_ok-begun.ensures.begun.at refl one })

pub bring_up-requires-clause-range : goal.bring_up-requires-clause-range
bring_up-requires-clause-range c =
    let page = c.args.page in
    let log = c.args.log.now.hardened in
    let begun = c.in_ok-begun.begun in
    let from = c.count_up_to-from.ensures in
    let to = c.count_up_to-to.ensures in
    let one = counted page log c.requires.versions.numbered c.args.lsns.now c.requires.lsns _ begun.lsn (omega (arith, c.in_ok-begun.ensures.begun.below, c.requires.image.1)) from.within from.below from.above in
    let other = counted page log c.requires.versions.numbered c.args.lsns.now c.requires.lsns _ c.args.lsn c.requires.image.1 to.within to.below to.above in
    (omega (arith, one, other, rise page log begun.lsn c.args.lsn c.in_ok-begun.ensures.begun.below c.requires.image.1), to.within)

pub returns-in_err-bring_up-clause-succeeds : goal.returns-in_err-bring_up-clause-succeeds
returns-in_err-bring_up-clause-succeeds c some none =
    let page = c.args.page in
    let log = c.args.log.now.hardened in
    let begun = c.in_ok-begun.begun in
    let from = c.count_up_to-from.ensures in
    let to = c.count_up_to-to.ensures in
    let one = counted page log c.requires.versions.numbered c.args.lsns.now c.requires.lsns _ begun.lsn (omega (arith, c.in_ok-begun.ensures.begun.below, c.requires.image.1)) from.within from.below from.above in
    let other = counted page log c.requires.versions.numbered c.args.lsns.now c.requires.lsns _ c.args.lsn c.requires.image.1 to.within to.below to.above in
    absurd (false≢true (c.in_err-bring_up.ensures.succeeds (omega (arith, one, other, none, rise page log begun.lsn c.args.lsn c.in_ok-begun.ensures.begun.below c.requires.image.1))))

pub returns-clause-after : goal.returns-clause-after
returns-clause-after c =
    let page = c.args.page in
    let log = c.args.log.now.hardened in
    let place = c.in_ok-begun.begun.place in
    let to = c.count_up_to-to.ensures in
    let other = counted page log c.requires.versions.numbered c.args.lsns.now c.requires.lsns _ c.args.lsn c.requires.image.1 to.within to.below to.above in
    subst (λ v. IsAfterChanges v.versions place page log (count_before page log c.args.lsn)) (sym c.enter.ensures.same)
    (subst (λ k. IsAfterChanges c.bring_up.new.versions.versions place page log k) (sym other)
    (subst (λ l. IsAfterChanges c.bring_up.new.versions.versions place page l.hardened c.count_up_to-to.result) c.in_ok-begun.ensures.kept.log_is c.in_ok-bring_up.ensures.after))
