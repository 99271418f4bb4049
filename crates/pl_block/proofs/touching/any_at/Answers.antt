use Rattle.std.proofs.Common.{inl, inr}
use Rattle.pl_block.proofs.Annotated.{any_cut, any_found, any_passed, any_done}
use Rattle.pl_block.proofs.touching.any_at.Goals.{else-lo-partition-via-then-lo-partition+else-partition-hi, else-lo-partition-via-else-lo-partition}
use Rattle.pl_block.proofs.touching.any_at.Goals as goal

pub returns-then-rest-lt2 : goal.returns-then-rest-lt2
returns-then-rest-lt2 c = record { value = any_cut c.args.lo c.args.hi c.args.count c.loop.counter c.loop.rest.now _ c.loop-test.true c.if-rest-lt2.true c.loop.invariant }

pub returns-then-partition-hi : goal.returns-then-partition-hi
returns-then-partition-hi c = record { value = any_found c.args.lo c.args.hi c.args.count c.loop.counter c.loop.rest.now c.get_u16-partition.result _ c.loop-test.true c.if-rest-lt2.false c.get_u16-partition.ensures.value c.if-lo-partition.true c.if-partition-hi.true c.loop.invariant }

pub loop-preserved : goal.loop-preserved
loop-preserved c = elim c.else-lo-partition.branch [
  | else-lo-partition-via-then-lo-partition+else-partition-hi w ↦ any_passed c.args.lo c.args.hi c.args.count c.loop.counter c.loop.rest.now c.get_u16-partition.result c.get_u16-partition.new.self.now _ c.loop-test.true c.if-rest-lt2.false c.get_u16-partition.ensures.value c.get_u16-partition.ensures.rest (inr w.if-partition-hi.false) c.loop.invariant
  | else-lo-partition-via-else-lo-partition w ↦ any_passed c.args.lo c.args.hi c.args.count c.loop.counter c.loop.rest.now c.get_u16-partition.result c.get_u16-partition.new.self.now _ c.loop-test.true c.if-rest-lt2.false c.get_u16-partition.ensures.value c.get_u16-partition.ensures.rest (inl w.if-lo-partition.false) c.loop.invariant
]

pub returns : goal.returns
returns c = record { value = any_done c.args.lo c.args.hi c.args.count c.loop.counter c.loop.rest.now _ c.loop-test.false c.loop.invariant }
