use Rattle.std.proofs.lemmas.Grind.{common_steps}
use Rattle.std.proofs.Common.{◌≡◌, ℕ, [], ◌∷◌, ◌++◌, List, reverse, refl, sym, ap, subst, ◌∙◌, append_assoc, arith}
use Rattle.std.specs.List.{All}
use Rattle.std.proofs.lemmas.List.{append-nil, nil_from_length, reverse-append}
use Rattle.std.proofs.lemmas.List.Elements.{All-append, All-from_recursion}
use Rattle.pl_table.specs.Requests.Request.{Query}
use Rattle.pl_core.specs.declared.reply.Reply.{Reply}
use Rattle.pl_core.specs.Reply.{FitsReply}
use Rattle.pl_core.specs.Run.{IsRun}
use Rattle.pl_core.proofs.db.Db.run.Goals as goal

pub returns-clause-run : goal.returns-clause-run
returns-clause-run c =
    let h = c.loop-pass_no.self in
    let empty = rw c.in_default.is at c.pop.ensures.cases in
    let none : c.loop-pass_no.left.items ≡ [] = nil_from_length c.loop-pass_no.left.items (sym c.loop-pass_no.left.ok.0 ∙ empty.0) in
    let done : IsRun h (reverse c.loop-pass_no.left.items) [] h = subst (λ (qs : List (ℕ × Query)). IsRun h (reverse qs) [] h) (sym none) refl in
    subst (λ (rs : List Reply). IsRun c.args.self.now c.args.requests.items rs h) (append-nil c.loop-pass_no.replies.items) (c.loop-pass_no.invariant.goes_on [] h done)

pub returns-clause-fits : goal.returns-clause-fits
returns-clause-fits c = c.loop-pass_no.invariant.fits

pub loop-pass_no-preserved : goal.loop-pass_no-preserved
loop-pass_no-preserved c =
    let known = c.loop-pass_no.invariant in
    let q : ℕ × Query = (c.in-Some.pass_no, c.in-Some.request) in
    let r = c.step-reply.result in
    let popped : c.loop-pass_no.left.items ≡ c.pop.new.self.items ++ q ∷ [] = rw c.in-Some.is at c.pop.ensures.items in
    let first : reverse c.loop-pass_no.left.items ≡ q ∷ reverse c.pop.new.self.items = ap (λ (qs : List (ℕ × Query)). reverse qs) popped ∙ reverse-append c.pop.new.self.items (q ∷ []) in
    let pushed : c.push.new.self.items ≡ c.loop-pass_no.replies.items ++ r ∷ [] = rw c.unwrap.ensures at c.push.ensures.items in
    record {
      goes_on = λ rs after run.
          let more = known.goes_on (r ∷ rs) after (subst (λ (qs : List (ℕ × Query)). IsRun c.loop-pass_no.self qs (r ∷ rs) after) (sym first) (c.step-reply.new.self, c.step-reply.ensures.step, run)) in
          subst (λ (l : List Reply). IsRun c.args.self.now c.args.requests.items l after) (sym (ap (λ (l : List Reply). l ++ rs) pushed ∙ append_assoc c.loop-pass_no.replies.items (r ∷ []) rs)) more;
      fits = subst (λ (l : List Reply). All FitsReply l) (sym pushed) (All-append FitsReply c.loop-pass_no.replies.items (r ∷ []) known.fits (All-from_recursion FitsReply (r ∷ []) (c.step-reply.ensures.step.fits, tt)));
      room =
          let left = rw c.in-Some.is at c.pop.ensures.cases in
          let held = rw c.unwrap.ensures at c.push.ensures.len in
          omega (arith, left, held, c.push.ensures.capacity, known.room);
    }

pub loop-pass_no-init : goal.loop-pass_no-init
loop-pass_no-init c = grind (arith, common_steps)
