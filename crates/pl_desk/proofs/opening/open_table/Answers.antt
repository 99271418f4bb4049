use Rattle.std.proofs.Common.{◌≡◌, ◌+◌, ◌<◌, List, [], ◌∷◌, ◌++◌, length, Option, Some, sym, ap, subst, ◌∙◌, arith}
use Rattle.atomic_table.specs.Table.{opening}
use Rattle.pl_core.specs.History.{History}
use Rattle.pl_core.specs.Legal.{IsLegal}
use Rattle.pl_desk.specs.Rule.{DeskInvariant, first_view, terms_of}
use Rattle.pl_desk.proofs.Dealing.{opens}
use Rattle.pl_desk.proofs.opening.open_table.Goals as goal

pub new-requires : goal.new-requires
new-requires c =
    let terms = terms_of (record { seats = c.args.seats; turns = c.args.turns; db = c.of.result }) in
    let is : terms.opening ≡ c.args.db = c.of.ensures in
    let slots : c.push.new.self.items ≡ Some terms.opening ∷ [] =
    c.in_default.ensures.items ∙ ap (λ (xs : List (Option History)). xs ++ Some c.args.db ∷ []) c.new-slots.ensures.items
    ∙ ap (λ (h : History). Some h ∷ []) (sym is) in
    let bound : c.args.turns + c.args.seats < 18446744073709551616 = omega (arith, c.requires.turns.1, c.ranges.seats.fits) in
    subst (λ (xs : List (Option History)). DeskInvariant terms (opening (c.audit_len.result ∷ 0 ∷ 0 ∷ []) xs (first_view terms))) (sym slots)
    (opens terms c.audit_len.result c.requires.seats c.requires.turns.0 bound (subst IsLegal (sym is) c.audit_len.ensures.legal)
    (c.audit_len.ensures.value ∙ ap (λ (h : History). length h.entries) (sym is)))
