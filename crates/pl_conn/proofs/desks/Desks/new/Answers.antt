use Rattle.std.proofs.Common.{ℕ, ◌<◌, List, ◌++◌, map, length, sym, ap, subst, ◌∙◌}
use Rattle.pl_desk.specs.Passes.{DeskOrigin}
use Rattle.pl_conn.specs.Desks.{terms_of_each, all_fresh}
use Rattle.pl_conn.proofs.Dealing.{all_fresh-none, all_fresh-of, terms_more, taken, some_left}
use Rattle.pl_conn.proofs.desks.Desks.new.Goals as goal

pub loop-alloc-init : goal.loop-alloc-init
loop-alloc-init g c = record {
  terms = ap (λ (ds : List DeskOrigin). map (λ d. d.terms) ds ++ terms_of_each c.args.seats c.args.turns c.args.dbs.items) c.in_ok-desks.ensures.items;
  fresh = c.in_ok-all.ensures ∙ all_fresh-none c.args.seats ∙ ap (λ (ds : List DeskOrigin). all_fresh ds c.args.seats) (sym c.in_ok-desks.ensures.items);
}

pub loop-alloc-preserved : goal.loop-alloc-preserved
loop-alloc-preserved g c =
    let left = c.loop-alloc.left in
    let some : 0 < length left.items = subst (λ (n : ℕ). 0 < n) left.ok.0 (some_left left.len (sym c.is_empty.ensures ∙ c.loop-alloc-test.true)) in
    let first = taken left.items c.remove.new.self.items c.remove.result some c.remove.ensures.value c.remove.ensures.items in
    record {
      terms = terms_more c.args.seats c.args.turns c.loop-alloc.desks.items c.open_one.new.desks.items left.items c.remove.new.self.items c.remove.result (terms_of_each c.args.seats c.args.turns c.args.dbs.items) c.in_ok-open_one.ensures.terms first c.loop-alloc.invariant.terms;
      fresh = c.in_ok-open_one.ensures.dealt;
    }

pub returns-clause-of : goal.returns-clause-of
returns-clause-of g c = all_fresh-of c.loop-alloc.desks.items c.args.seats c.loop-alloc.all.items c.loop-alloc.invariant.fresh
