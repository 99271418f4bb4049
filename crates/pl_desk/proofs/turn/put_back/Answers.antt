use Rattle.std.proofs.Common.{◌≡◌, ℕ, List, [], ◌∷◌, Option, Some, ap, ◌∙◌}
use Rattle.atomic_table.specs.Table.{rest}
use Rattle.pl_core.specs.History.{History}
use Rattle.pl_desk.specs.Steps.{HeldSlot}
use Rattle.pl_desk.proofs.turn.put_back.Goals as goal

pub returns-clause-turn : goal.returns-clause-turn
returns-clause-turn c =
    let db : History = c.args.db in
    let is = c.exchange.ensures.3 in
    let empty : rest c.args.seat.now.me.1 ≡ [] = ap rest c.requires.out.1 in (
      c.requires.turn.0,
      db,
      ap (λ (m : HeldSlot). m.0.stage) is ∙ c.requires.turn.1,
      ap (λ (m : HeldSlot). m.1) is ∙ ap (λ (xs : List (ℕ × Option History)). (0, Some db) ∷ xs) empty,
    )
