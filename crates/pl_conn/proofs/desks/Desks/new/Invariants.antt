use Rattle.std.proofs.Common.{◌≡◌, ◌++◌, map, vec_len}
use Rattle.pl_conn.specs.Desks.{terms_of_each, all_fresh}
use Rattle.pl_conn.proofs.desks.Desks.new.Given as goal

-- what the desks so far are made with, and those of the databases that are left; all passes are fresh
abbrev pub invariant-loop-alloc : goal.invariant-loop-alloc
invariant-loop-alloc g l = record {
  terms : map (λ desk. desk.terms) l.desks.items ++ terms_of_each l.seats l.turns l.left.items ≡ terms_of_each l.seats l.turns l.fn.dbs.items;
  fresh : l.all.items ≡ all_fresh l.desks.items l.seats;
}

abbrev pub decreases-loop-alloc : goal.decreases-loop-alloc
decreases-loop-alloc g l = vec_len l.left
