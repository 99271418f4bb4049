use Rattle.std.proofs.Common.{◌≡◌, true, false, sym, ◌∙◌}
use Rattle.pl_decide.proofs.Keyed.{at-ends}
use Rattle.pl_decide.proofs.cache.is_found_at.Goals as goal

pub returns-then-finds : goal.returns-then-finds
returns-then-finds c =
    let both = at-ends c.args.table.now.rows c.args.key c.args.verdict.lsns c.args.verdict.found c.args.verdict.allowed_through c.requires.span in
    let first = rw c.ends-first.ensures.first at c.finds.ensures.exact in
    let last = rw c.ends-first.ensures.last at c.finds-then-finds.ensures.exact in
    record { exact = (λ yes. both.1 (first.0 c.if-finds.true, last.0 yes), λ of. last.1 (both.0 of).1) }

pub returns-else-finds : goal.returns-else-finds
returns-else-finds c =
    let both = at-ends c.args.table.now.rows c.args.key c.args.verdict.lsns c.args.verdict.found c.args.verdict.allowed_through c.requires.span in
    let first = rw c.ends-first.ensures.first at c.finds.ensures.exact in
    record { exact = (λ yes. absurd (let clash : true ≡ false = sym yes ∙ c.if-finds.false in cc), λ of. first.1 (both.0 of).0) }
