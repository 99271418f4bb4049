-- How far each partition is applied, and the LSN that a get is answered at.
use Rattle.std.specs.Prelude.{ℕ, ◌+◌, ◌/◌, ◌==◌, Bool, not, ◌||◌, min, List, [], ◌∷◌, if◌then◌else◌}
use Rattle.pl_pages.specs.State.{chosen}
use Rattle.pl_table.specs.Requests.Asking.{asked_in, asked_at}
use Rattle.pl_table.specs.Tables.FirstMatch.{rows_allow}
use Rattle.pl_table.specs.Requests.Request.{Query}
use Rattle.pl_core.specs.History.{Effect, wrote, offered, hardened, advanced, failed_over, set, nothing, Entry, Start, History}
use Rattle.pl_core.specs.Epoch.{table_of}
use Rattle.pl_core.specs.Log.{hard_of}

-- The applied LSN of a partition after an effect, if this many blocks are hardened. An advance of the
-- partition makes it the smaller of the hardened end and what it was plus the steps.
abbrev pub applied_by : Effect → ℕ → ℕ → ℕ → ℕ
applied_by (wrote copy block) hard partition before = before
applied_by (offered block) hard partition before = before
applied_by (hardened to) hard partition before = before
applied_by (advanced other steps) hard partition before =
    if other == partition then min hard (before + steps) else before
applied_by (failed_over primary) hard partition before = before
applied_by (set table) hard partition before = before
applied_by nothing hard partition before = before

-- the applied LSN of a partition after these entries: 0 if there are none
abbrev pub applied_after : Start → List Entry → ℕ → ℕ
applied_after start [] partition = 0
applied_after start (e ∷ es) partition =
    let hard = hard_of (record { start = start; entries = es }) in
    applied_by e.effect hard partition (applied_after start es partition)

-- the LSN that a partition is applied to
abbrev pub applied_of : History → ℕ → ℕ
applied_of h partition = applied_after h.start h.entries partition

-- The LSN that a get of the page is answered at: the applied one if that is not below its own, the
-- get is not exact, and the rows of the table in force allow the request at it; else its own.
abbrev pub choice_of : History → Query → ℕ → ℕ → Bool → ℕ
choice_of h q page lsn exact =
    let applied = applied_of h (page / 65536) in
    chosen applied lsn (exact || not (rows_allow (table_of h).rows (asked_at (asked_in q) applied)))
