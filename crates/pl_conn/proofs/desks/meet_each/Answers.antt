use Rattle.std.proofs.Common.{◌≡◌, length, get_or, ◌∙◌}
use Rattle.std.proofs.lemmas.Option.{slice_get-get_or}
use Rattle.pl_conn.proofs.Meeting.{meeting_start, meeting_of, meeting_last}
use Rattle.pl_conn.proofs.desks.meet_each.Goals as goal

pub loop-other-init : goal.loop-other-init
loop-other-init c = meeting_start c.args.desks.now c.args.passes.now c.args.others.items c.requires.of c.requires.others

pub meet-requires-clause-of : goal.meet-requires-clause-of
meet-requires-clause-of c =
    let place : c.len-place.result ≡ length c.pop.new.self.items = c.len-place.ensures ∙ c.pop.new.self.ok.0 in
    let of = meeting_of c.args.desks.now c.args.passes.now c.args.others.items c.loop-other.passes c.loop-other.others.items c.pop.new.self.items c.len-place.result c.index-desks-place.result c.in-Some.other
    c.requires.others c.loop-other.invariant c.in-Some.ensures.items place c.index-desks-place.is in
    of.2 (get_or c.loop-other.passes c.len-place.result c.index-passes-place.result) (slice_get-get_or c.loop-other.passes c.len-place.result c.index-passes-place.result of.0)

pub meet-requires-clause-other : goal.meet-requires-clause-other
meet-requires-clause-other c =
    let place : c.len-place.result ≡ length c.pop.new.self.items = c.len-place.ensures ∙ c.pop.new.self.ok.0 in
    let of = meeting_of c.args.desks.now c.args.passes.now c.args.others.items c.loop-other.passes c.loop-other.others.items c.pop.new.self.items c.len-place.result c.index-desks-place.result c.in-Some.other
    c.requires.others c.loop-other.invariant c.in-Some.ensures.items place c.index-desks-place.is in
    of.1

pub loop-other-preserved : goal.loop-other-preserved
loop-other-preserved c =
    let place : c.len-place.result ≡ length c.pop.new.self.items = c.len-place.ensures ∙ c.pop.new.self.ok.0 in
    let of = meeting_of c.args.desks.now c.args.passes.now c.args.others.items c.loop-other.passes c.loop-other.others.items c.pop.new.self.items c.len-place.result c.index-desks-place.result c.in-Some.other
    c.requires.others c.loop-other.invariant c.in-Some.ensures.items place c.index-desks-place.is in
    meeting_last c.args.desks.now c.args.passes.now c.args.others.items c.loop-other.passes c.loop-other.others.items c.pop.new.self.items c.len-place.result (get_or c.loop-other.passes c.len-place.result c.index-passes-place.result) c.in-Some.other c.meet.new.pass
    c.loop-other.invariant c.in-Some.ensures.items place (slice_get-get_or c.loop-other.passes c.len-place.result c.index-passes-place.result of.0) c.meet.ensures.same c.meet.ensures.met
