use Rattle.std.proofs.Common.{refl, ap, ◌∙◌, ◌++◌, ◌∷◌, []}
use Rattle.pl_pages.proofs.Frames.{taken_with, taken_kept, taken_true, taken_stay}
use Rattle.pl_pages.proofs.versions.Versions.add_place.Goals as goal

pub invariant_of-self-in-Ok : goal.invariant_of-self-in-Ok
invariant_of-self-in-Ok c =
    let v = c.self.inside in
    taken_kept v.arena v.kept.items v.oldest c.self.invariant c.args.self.now c.self.view_is (taken_with c.in-Ok.frame) c.in-Ok.ensures.fresh refl _ _
    c.in-Ok.ensures.taken (c.in_ok-push-in-Ok.ensures.items ∙ ap (λ ks. ks ++ taken_with c.in-Ok.frame ∷ []) c.reserve.ensures.items)

pub returns-in_ok-push-in-Ok-clause-truth : goal.returns-in_ok-push-in-Ok-clause-truth
returns-in_ok-push-in-Ok-clause-truth c =
    let v = c.self.inside in
    taken_true v.arena v.kept.items v.oldest c.self.invariant c.args.self.now c.self.view_is (taken_with c.in-Ok.frame) c.in-Ok.ensures.fresh refl _ _
    c.in-Ok.ensures.taken (c.in_ok-push-in-Ok.ensures.items ∙ ap (λ ks. ks ++ taken_with c.in-Ok.frame ∷ []) c.reserve.ensures.items)

pub returns-in_ok-push-in-Ok-clause-stay : goal.returns-in_ok-push-in-Ok-clause-stay
returns-in_ok-push-in-Ok-clause-stay c =
    let v = c.self.inside in
    taken_stay v.arena v.kept.items v.oldest c.self.invariant c.args.self.now c.self.view_is (taken_with c.in-Ok.frame) c.in-Ok.ensures.fresh refl _ _
    c.in-Ok.ensures.taken (c.in_ok-push-in-Ok.ensures.items ∙ ap (λ ks. ks ++ taken_with c.in-Ok.frame ∷ []) c.reserve.ensures.items)
