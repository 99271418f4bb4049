use Rattle.std.proofs.Common.{◌≡◌, Ok, vec_len}
use Rattle.std.specs.List.{All}
use Rattle.pl_play.specs.Start.{start_of}
use Rattle.pl_program.proofs.opening.databases_of.Given as goal

-- this many databases so far, each as it is begun
abbrev pub invariant-loop : goal.invariant-loop
invariant-loop l = (vec_len l.dbs ≡ l.counter)
    × All (λ db. start_of l.text l.primary l.audit ≡ Ok db) l.dbs.items
