-- How a page server materialises a partition: advances at the epoch that it knows, one a round.
use Rattle.std.specs.Prelude.{◌≡◌, ◌==◌, ◌≤◌, ◌+◌, ◌^◌, ◌&&◌, ◌||◌, nat_lt, ℕ, Bool, true, false, IsTrue, List, [], ◌∷◌, length, drop, count_by, Option, Some, None, is_some, unwrap_or, if◌then◌else◌}
use Rattle.std.specs.List.{AllByRecursion}
use Rattle.pl_table.specs.declared.requests.op.Role.TheVariants as roles
use Rattle.pl_table.specs.declared.requests.act.Act.TheVariants as acts
use Rattle.pl_table.specs.declared.tables.verdict.Section.{Section}
use Rattle.pl_table.specs.declared.tables.verdict.Section.TheVariants as sections
use Rattle.pl_table.specs.Requests.Request.{Query}
use Rattle.pl_core.specs.declared.reply.Reply.{Reply}
use Rattle.pl_core.specs.declared.reply.Reply.TheVariants as replies
use Rattle.pl_wire.specs.Answering.{Calls}
use Rattle.pl_conn.specs.declared.page_server.Worked.{Worked}

-- the request of a round: an advance of the partition by 16 blocks, as page server at this epoch
abbrev pub advance_at : ℕ → List ℕ → ℕ → ℕ → ℕ → Query
advance_at principal token database partition epoch = record {
  head = record {
    principal = principal;
    token = token;
    role = roles.PageServer;
    database = database;
    epoch = epoch;
  };
  act = acts.Advance partition 16;
}

abbrev pub is_done : Reply → Bool
is_done replies.Done = true
is_done _ = false

-- an older epoch is denied by row A2
abbrev pub is_older_epoch : Section → ℕ → Bool
is_older_epoch sections.A row = row == 2
is_older_epoch _ row = false

-- the current epoch, if the reply is a denial for an older one and the epoch is below 2^32
abbrev pub reported_epoch : Reply → Option ℕ
reported_epoch (replies.Denied section row now) =
    if is_older_epoch section row && nat_lt now (2 ^ 32) then Some now else None
reported_epoch _ = None

-- whether another round may follow: the partition was advanced, or the current epoch is reported
abbrev pub goes_on : Reply → Bool
goes_on reply = is_done reply || is_some (reported_epoch reply)

-- the epoch that was reported last in replies with the newest first; 1 if none was
abbrev pub last_reported_epoch : List Reply → ℕ
last_reported_epoch [] = 1
last_reported_epoch (reply ∷ earlier) = unwrap_or (reported_epoch reply) (last_reported_epoch earlier)

-- calls with these replies, the newest first, lead from one pass to the other; each call makes the
-- request at the epoch that had been reported before it
abbrev pub Asks : {P : Type 0} → Calls P → (ℕ → Query) → P → List Reply → P → Type 0
Asks calls request before [] after = after ≡ before
Asks calls request before (reply ∷ earlier) after =
    (now : _) × Asks calls request before earlier now × calls now (request (last_reported_epoch earlier)) reply after

-- At most this many calls are made. Only the last reply may be one after which no round follows, and
-- fewer calls are made only after such a reply. The replies of Done are counted, and the epoch is the
-- one that was reported last.
pub record Works {P : Type 0} (calls : Calls P) (request : ℕ → Query) (rounds : ℕ) (before : P) (worked : Worked) (after : P) : Type 0 where
  pub replies : List Reply
  pub asks : Asks calls request before replies after
  pub most : length replies ≤ rounds
  pub onward : AllByRecursion (λ reply. IsTrue (goes_on reply)) (drop 1 replies)
  pub ended : AllByRecursion (λ reply. IsTrue (goes_on reply)) replies → length replies ≡ rounds
  pub done : worked.done ≡ count_by is_done replies
  pub epoch : worked.epoch ≡ last_reported_epoch replies

-- one round: its call, what is known after it, and whether another may follow
pub record Round {P : Type 0} (calls : Calls P) (request : ℕ → Query) (before : P) (old new : Worked) (more : Bool) (after : P) : Type 0 where
  pub reply : Reply
  pub call : calls before (request old.epoch) reply after
  pub done : new.done ≡ old.done + (if is_done reply then 1 else 0)
  pub epoch : new.epoch ≡ unwrap_or (reported_epoch reply) old.epoch
  pub onward : more ≡ goes_on reply
