use Rattle.std.proofs.Common.{refl, sym}
use Rattle.pl_decide.proofs.log_rules.decide_by_log.Goals as goal

pub returns-in-Write : goal.returns-in-Write
returns-in-Write c = record { value = λ head. rw c.in-Write.is (c.decide_block.ensures.write head c.args.table.now c.args.epochs c.in-Write.block c.in-Write.copy (sym c.lsn.ensures.value) refl) }

pub returns-in-Offer : goal.returns-in-Offer
returns-in-Offer c = record { value = λ head. rw c.in-Offer.is (c.decide_block-in-Offer.ensures.offer head c.args.table.now c.args.epochs c.in-Offer.block (sym c.lsn-in-Offer.ensures.value) refl) }

pub returns-in-Failover : goal.returns-in-Failover
returns-in-Failover c = record { value = λ head. rw c.in-Failover.is (c.decide_failover.ensures.value head c.args.view) }
