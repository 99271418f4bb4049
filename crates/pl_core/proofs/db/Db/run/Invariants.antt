use Rattle.std.proofs.Common.{◌+◌, ◌≤◌, ◌++◌, List, reverse, vec_len, vec_capacity}
use Rattle.pl_core.specs.declared.reply.Reply.{Reply}
use Rattle.pl_core.specs.History.{History}
use Rattle.std.specs.List.{All}
use Rattle.pl_core.specs.Reply.{FitsReply}
use Rattle.pl_core.specs.Run.{IsRun}
use Rattle.pl_core.proofs.db.Db.run.Given as goal

-- what is left goes on with the run
abbrev pub invariant-loop-pass_no : goal.invariant-loop-pass_no
invariant-loop-pass_no l = record {
  goes_on : (rs : List Reply) (after : History) → IsRun l.self (reverse l.left.items) rs after → IsRun l.fn.self l.fn.requests.items (l.replies.items ++ rs) after;
  fits : All FitsReply l.replies.items;
  room : vec_len l.replies + vec_len l.left ≤ vec_capacity l.replies;
}

abbrev pub decreases-loop-pass_no : goal.decreases-loop-pass_no
decreases-loop-pass_no l = vec_len l.left
