-- The calls of one caller, who holds the databases.
use Rattle.std.specs.Prelude.{◌≡◌, ℕ, ◌≤◌, List, length, slice_get, slice_set, Option, Some, None}
use Rattle.pl_table.specs.Requests.Request.{Query}
use Rattle.pl_core.specs.History.{History}
use Rattle.pl_core.specs.Step.{IsStep}
use Rattle.pl_core.specs.declared.reply.Reply.{Reply}
use Rattle.pl_core.specs.declared.reply.Reply.TheVariants as replies

-- the histories of databases, numbered from 0, and the number under which they are asked
pub record HeldDatabases : Type 0 where
  pub dbs : List History
  pub number : ℕ

-- there are 1 to 16 databases
pub record HasDatabases (pass : HeldDatabases) : Type 0 where
  pub some : 1 ≤ length pass.dbs
  pub few : length pass.dbs ≤ 16

-- The call, if this is the history of the database that is named. The reply is that of one step, and
-- the other databases stay; if there is no database of that number, NoDatabase, and all stays.
abbrev pub SoloCallAt : Option History → HeldDatabases → Query → Reply → HeldDatabases → Type 0
SoloCallAt None before q reply after = (reply ≡ replies.NoDatabase) × (after ≡ before)
SoloCallAt (Some found) before q reply after =
    (now : History) × IsStep before.number q found reply now
    × (after.dbs ≡ slice_set before.dbs q.head.database now) × (after.number ≡ before.number)

-- a call of one caller
abbrev pub SoloCall : HeldDatabases → Query → Reply → HeldDatabases → Type 0
SoloCall before q reply after = SoloCallAt (slice_get before.dbs q.head.database) before q reply after
