use Rattle.std.proofs.Common.{ℕ, List, ◌∷◌, Option, Some, sym, ap, ◌∙◌}
use Rattle.atomic_table.specs.Table.{rest}
use Rattle.pl_core.specs.History.{History}
use Rattle.pl_desk.proofs.turn.take_out.Goals as goal

pub exchange-requires : goal.exchange-requires
exchange-requires c =
    let h = c.requires.turn.0 in
    let is = c.requires.turn.1 in
    (c.requires.shared, (Some h, is ∙ ap (λ (xs : List (ℕ × Option History)). (0, Some h) ∷ xs) (sym (ap rest is))))
