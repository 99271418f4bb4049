use Rattle.std.proofs.Common.{◌≡◌, true, false, sym, ◌∙◌}
use Rattle.pl_decide.proofs.cache.is_of_rows.Goals as goal

pub returns-then-is_found_at : goal.returns-then-is_found_at
returns-then-is_found_at c = record { exact = (λ yes. record { found = c.is_found_at.ensures.exact.0 c.if-is_found_at.true; end = c.has_end.ensures.exact.0 yes }, λ of. c.has_end.ensures.exact.1 of.end) }

pub returns-else-is_found_at : goal.returns-else-is_found_at
returns-else-is_found_at c = record { exact = (λ yes. absurd (let clash : true ≡ false = sym yes ∙ c.if-is_found_at.false in cc), λ of. c.is_found_at.ensures.exact.1 of.found) }
