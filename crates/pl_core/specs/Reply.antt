-- Which replies can be written.
use Rattle.std.specs.Prelude.{◌≡◌, ◌≤◌, length}
use Rattle.pl_block.specs.Bounds.{page_size}
use Rattle.pl_core.specs.declared.reply.Reply.{Reply}
use Rattle.pl_core.specs.declared.reply.Reply.TheVariants as replies

-- at most 16 blocks are served, a page has 8192 bytes, at most 1024 lines are reported, and a code
-- is 1 to 15
abbrev pub FitsReply : Reply → Type 0
FitsReply replies.Done = Unit {0}
FitsReply (replies.Blocks next blocks) = length blocks ≤ 16
FitsReply (replies.Page at bytes) = length bytes ≡ page_size
FitsReply (replies.Entries lines) = length lines ≤ 1024
FitsReply (replies.Status epoch primary hard pending landing) = Unit {0}
FitsReply (replies.Denied section row value) = Unit {0}
FitsReply replies.NoMemory = Unit {0}
FitsReply replies.AuditFull = Unit {0}
FitsReply replies.Spent = Unit {0}
FitsReply replies.NoDatabase = Unit {0}
FitsReply (replies.Malformed code) = (1 ≤ code) × (code ≤ 15)
