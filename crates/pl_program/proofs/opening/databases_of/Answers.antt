use Rattle.std.proofs.lemmas.Grind.{common_steps}
use Rattle.std.proofs.Common.{◌≡◌, ap, sym, subst, ◌∙◌, ℕ, Ok, List, ◌+◌, arith}
use Rattle.std.proofs.lemmas.List.Elements.{All-push}
use Rattle.std.specs.List.{All}
use Rattle.pl_core.specs.History.{History}
use Rattle.pl_play.specs.Start.{start_of}
use Rattle.pl_program.proofs.opening.databases_of.Goals as goal

pub loop-preserved : goal.loop-preserved
loop-preserved c = (
  c.in-Ok.ensures.len ∙ ap (λ (n : ℕ). n + 1) c.loop.invariant.0,
  subst (λ (dbs : List History). All (λ db. start_of c.args.text.now c.args.primary c.args.audit ≡ Ok db) dbs) (sym c.in-Ok.ensures.items)
      (All-push (λ db. start_of c.args.text.now c.args.primary c.args.audit ≡ Ok db) c.loop.dbs.items c.in_ok-db.db c.loop.invariant.1 c.in_ok-db.ensures.ok),
)

pub loop-init : goal.loop-init
loop-init c = grind (arith, common_steps)

pub returns-clause-count : goal.returns-clause-count
returns-clause-count c = grind (arith, common_steps)
