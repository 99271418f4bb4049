use Rattle.std.proofs.Common.{refl}
use mathlib.Core.Bool.{false≢true}
use Rattle.pl_decide.proofs.Cached.{passed-on, next-agrees, none-left}
use Rattle.pl_decide.proofs.cache.are_of_rows.Goals as goal

pub returns-then-not-is_of_rows : goal.returns-then-not-is_of_rows
returns-then-not-is_of_rows c = record {
  exact = (
    λ agree. absurd (false≢true agree),
    λ all. c.if-not-is_of_rows.ensures.exact.1 (next-agrees c.args.table.now.rows c.args.verdicts.now.entries c.loop-key.key-iterator c.next.new.self (c.in-Some.key.now, c.in-Some.verdict.now) c.in-Some.ensures.steps c.loop-key.invariant.0 all),
  );
}

pub loop-key-preserved : goal.loop-key-preserved
loop-key-preserved c = passed-on c.args.table.now.rows c.args.verdicts.now.entries c.loop-key.key-iterator c.next.new.self (c.in-Some.key.now, c.in-Some.verdict.now) c.in-Some.ensures.steps (c.is_of_rows.ensures.exact.0 c.if-not-is_of_rows.false) c.loop-key.invariant

pub returns : goal.returns
returns c = record { exact = (λ agree. none-left c.args.table.now.rows c.args.verdicts.now.entries c.loop-key.key-iterator c.in-None.ensures.steps.0 c.loop-key.invariant.1, λ all. refl) }
