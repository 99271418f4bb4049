use Rattle.pl_core.proofs.Replies.{full_lists, unknown_principals, no_memory_same, own_replies}
use Rattle.pl_core.proofs.laws.replies_tell_their_cause.Goals as goal

pub returns : goal.returns
returns c = let known = c.unknown_principals_come_first.ensures.known in record { full = full_lists known; unknown = unknown_principals known; no_memory = no_memory_same known; never = own_replies known }
