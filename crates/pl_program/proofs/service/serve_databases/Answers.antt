use Rattle.std.proofs.Common.{◌≡◌, ◌+◌, ◌∷◌, ◌++◌, [], length, Some, sym, subst, ◌∙◌, arith}
use Rattle.std.proofs.lemmas.List.FromFn.{map-range_with_len_more}
use Rattle.pl_conn.specs.Desks.{ArePassesOf, DesksCall, all_fresh, fresh_at}
use Rattle.pl_conn.specs.Serving.{ServesConnections}
use Rattle.pl_program.specs.Pager.{HasPaged}
use Rattle.pl_program.proofs.Rounds.{ends_of}
use Rattle.pl_program.proofs.service.serve_databases.Goals as goal
use Rattle.pl_program.proofs.service.serve_databases.Goals.{in-Some, in-None}

pub returns-in-Some-serve_over-clause-serves : goal.returns-in-Some-serve_over-clause-serves
returns-in-Some-serve_over-clause-serves g c =
    let desks = c.in_ok-desks.desks in
    let workers = c.args.workers in
    let last = fresh_at desks (workers + 1) in
    let all : all_fresh desks (workers + 1) ≡ all_fresh desks workers ++ last ∷ [] =
    map-range_with_len_more (fresh_at desks) 1 workers (workers + 1) (omega arith) in
    let ends = ends_of c.take_last-last.new.passes.items (all_fresh desks workers) c.take_last-last.result last
    (sym c.take_last-last.ensures.value ∙ c.in_ok-desks.ensures.passes ∙ all) in
    let left = c.in-Some-serve_over.left in
    record {
      desks = desks;
      made = c.in_ok-desks.ensures.terms;
      serves = subst (λ accepted. ServesConnections DesksCall (ArePassesOf desks) (all_fresh desks workers) c.args.terms.now.connections accepted c.meet.result.stop left.connections.passes.items) (sym c.meet.ensures.same.0)
          (subst (λ stop. ServesConnections DesksCall (ArePassesOf desks) (all_fresh desks workers) c.args.terms.now.connections left.connections.accepted stop left.connections.passes.items) (sym c.meet.ensures.same.2)
          (subst (λ given. ServesConnections DesksCall (ArePassesOf desks) given c.args.terms.now.connections left.connections.accepted left.connections.stop left.connections.passes.items) ends.fronts c.in-Some-serve_over.ensures.serves));
      paged = elim c.match-pager.branch [
        | in-Some w ↦
            let has = rw w.paging-is at c.in-Some-serve_over.ensures.paged in
            let count : c.len-databases.result ≡ length c.args.dbs.items = omega (arith, c.len-databases.ensures, c.args.dbs.ok.0) in
            rw w.in-Some.is (subst (λ n. HasPaged (Some w.in-Some.server) n last left.pager) count (subst (λ p. HasPaged (Some w.in-Some.server) c.len-databases.result p left.pager) ends.lasts has.0))
        | in-None w ↦ rw w.in-None.is (rw w.paging-is at c.in-Some-serve_over.ensures.paged)
      ];
      passes = left.connections.passes.items;
      left = left.pager;
      meets = c.meet.ensures.met;
    }

pub meet-requires-clause-pager : goal.meet-requires-clause-pager
meet-requires-clause-pager g c =
    let left = c.in-Some-serve_over.left in
    elim c.match-pager.branch [
      | in-Some w ↦
          let has = rw w.paging-is at c.in-Some-serve_over.ensures.paged in
          has.1
      | in-None w ↦
          let none = rw w.paging-is at c.in-Some-serve_over.ensures.paged in
          rw none tt
    ]

pub meet-requires-clause-own : goal.meet-requires-clause-own
meet-requires-clause-own g c = c.in-Some-serve_over.ensures.serves.own
