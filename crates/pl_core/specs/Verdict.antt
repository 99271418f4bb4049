-- The verdict on a request, asked of the whole history.
use Rattle.std.specs.Prelude.{◌+◌, ◌-◌, Bool, true}
use Rattle.std.specs.List.{list_all, range_with_len}
use Rattle.pl_block.specs.Block.{is_open_to}
use Rattle.pl_table.specs.declared.requests.act.Act.{Act}
use Rattle.pl_table.specs.declared.requests.act.Act.TheVariants as acts
use Rattle.pl_table.specs.declared.tables.verdict.Verdict.{Verdict}
use Rattle.pl_table.specs.Requests.Request.{Query}
use Rattle.pl_decide.specs.declared.view.Epochs.{Epochs}
use Rattle.pl_decide.specs.declared.view.View.{View}
use Rattle.pl_decide.specs.WrittenOrder.{decision}
use Rattle.pl_core.specs.History.{History}
use Rattle.pl_core.specs.Epoch.{epoch_of, primary_of, table_of}
use Rattle.pl_core.specs.Log.{copies_of, content_at, has_quorum, hard_of}

-- the block of a write or an offer is the content of its LSN in this epoch, or the first
abbrev pub agrees : Act → History → Bool
agrees (acts.Write copy block) h = is_open_to block (content_at h block.lsn)
agrees (acts.Offer block) h = is_open_to block (content_at h block.lsn)
agrees (acts.Report lsn) h = true
agrees (acts.Get page lsn exact) h = true
agrees (acts.Pull lo hi lsn max) h = true
agrees (acts.Advance partition steps) h = true
agrees acts.Status h = true
agrees (acts.Failover primary) h = true
agrees (acts.SetTable text) h = true
agrees (acts.Audit first max) h = true
agrees acts.Tidy h = true

-- each LSN above the hardened ones up to a report's is in a quorum of copies in this epoch
abbrev pub can_harden : Act → History → Bool
can_harden (acts.Write copy block) h = true
can_harden (acts.Offer block) h = true
can_harden (acts.Report lsn) h =
    list_all (has_quorum h) (range_with_len (hard_of h + 1) (lsn - hard_of h))
can_harden (acts.Get page lsn exact) h = true
can_harden (acts.Pull lo hi lsn max) h = true
can_harden (acts.Advance partition steps) h = true
can_harden acts.Status h = true
can_harden (acts.Failover primary) h = true
can_harden (acts.SetTable text) h = true
can_harden (acts.Audit first max) h = true
can_harden acts.Tidy h = true

-- the epoch and its primary
abbrev pub epochs_of : History → Epochs
epochs_of h = record { epoch = epoch_of h; primary = primary_of h }

-- what the rows of section C look at
abbrev pub view_of : Act → History → View
view_of act h = record {
  hard = hard_of h;
  agrees = agrees act h;
  copies = copies_of h;
  can_harden = can_harden act h;
}

-- the decision of the written order, by the table in force
abbrev pub verdict_of : Query → History → Verdict
verdict_of q h = decision q (table_of h) (epochs_of h) (view_of q.act h)
