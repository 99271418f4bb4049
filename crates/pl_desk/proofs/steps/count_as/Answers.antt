use Rattle.std.proofs.Common.{rules, ◌+◌, ◌%◌, subst}
use Rattle.atomic_table.specs.Table.{Allows}
use Rattle.pl_core.specs.History.{History}
use Rattle.pl_desk.specs.Rule.{DeskInvariant, terms_of}
use Rattle.pl_desk.specs.Steps.{counts_then}
use Rattle.pl_desk.proofs.Drawing.{no_step}
use Rattle.pl_desk.proofs.Turning.{counts}
use Rattle.pl_desk.proofs.steps.count_as.Goals as goal

pub fetch_add-requires : goal.fetch_add-requires
fetch_add-requires g c =
    let adds = c.requires.turn.3 in
    let shared = c.args.shared.now in
    let seat = c.args.seat.now in
    let rule = DeskInvariant (terms_of shared.key) in
    let allowed = counts _ shared.table_id.slots seat.id seat.me _ _ _ adds.entry c.requires.turn.2 adds.own adds.grown adds.legal adds.fits in
    (search rules, search rules, subst (λ (h : History). Allows rule shared.table_id.slots seat.id seat.me 0 (λ n. (n + 1) % 18446744073709551616) (counts_then h no_step seat.me)) c.requires.told allowed)
