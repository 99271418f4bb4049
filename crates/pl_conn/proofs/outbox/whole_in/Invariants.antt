use Rattle.std.proofs.Common.{◌≡◌, ◌+◌, drop}
use Rattle.pl_conn.specs.Gathering.{whole_in}
use Rattle.pl_conn.proofs.outbox.whole_in.Given as goal

-- this many are whole, and this many bytes are left for the others
abbrev pub invariant-loop-len : goal.invariant-loop-len
invariant-loop-len l = (l.whole ≡ l.len-index) × (whole_in l.lens l.bytes ≡ l.whole + whole_in (drop l.len-index l.lens) l.left)
