-- Replies of which a page's bytes were appended to a buffer.
use Rattle.std.specs.Prelude.{◌≡◌, ℕ, ◌≤◌, List, ◌++◌, drop, length, vec_capacity}
use Rattle.std.specs.Global.{Vec}
use Rattle.pl_core.specs.declared.reply.Answer.{Answer}
use Rattle.pl_core.specs.declared.reply.Answer.TheVariants as answers
use Rattle.pl_core.specs.declared.reply.Reply.{Reply}
use Rattle.pl_core.specs.declared.reply.Reply.TheVariants as replies

-- the reply, if the buffer had these bytes before, and has these now: a page's bytes are those that came after them
abbrev pub reply_in : Answer → List ℕ → List ℕ → Reply
reply_in (answers.Whole reply) before now = reply
reply_in (answers.Page at) before now = replies.Page at (drop (length before) now)

-- the buffer keeps its bytes, and only a page's come after them
abbrev pub AppendsPage : Answer → List ℕ → List ℕ → Type 0
AppendsPage (answers.Whole reply) before now = now ≡ before
AppendsPage (answers.Page at) before now = now ≡ before ++ drop (length before) now

-- the same of a vector, which has as much memory as before, or more
abbrev pub AppendsTo : Answer → Vec ℕ → Vec ℕ → Type 0
AppendsTo answer before now = AppendsPage answer before.items now.items × (vec_capacity before ≤ vec_capacity now)
