use Rattle.std.proofs.Common.{◌≡◌, ◌-◌, ◌≤◌, [], map, vec_len, vec_capacity}
use Rattle.std.specs.List.{range_with_len}
use Rattle.pl_desk.specs.Rule.{terms_of}
use Rattle.pl_desk.specs.Passes.{fresh, origin_of}
use Rattle.pl_desk.proofs.Dealing.{dealer}
use Rattle.pl_desk.proofs.opening.deal_all.Given as goal

-- the passes from 2 on, up to the number, have been dealt
abbrev pub invariant-loop-number : goal.invariant-loop-number
invariant-loop-number l = record {
  some : 1 ≤ l.number;
  few : l.number ≤ l.seats;
  same : l.first.table_id ≡ l.fn.first.table_id;
  first : l.first.me ≡ (dealer (terms_of l.shared.key) l.number, []);
  passes : l.passes.items ≡ map (fresh (origin_of l.shared.table_id l.shared.key)) (range_with_len 2 (l.number - 1));
  size : vec_len l.passes ≡ l.number - 1;
  room : l.seats ≤ vec_capacity l.passes;
}

abbrev pub decreases-loop-number : goal.decreases-loop-number
decreases-loop-number l = l.seats - l.number
