-- What `play` does with a body: its calls are steps of the database.
use Rattle.std.specs.Prelude.{◌≡◌, ◌⊎◌, ℕ, List, slice_index, Some}
use Rattle.pl_table.specs.Requests.Request.{Query}
use Rattle.pl_table.specs.Requests.Ops.{op_of_number}
use Rattle.pl_table.specs.declared.requests.op.Op.TheVariants as ops
use Rattle.pl_core.specs.declared.reply.Reply.{Reply}
use Rattle.pl_core.specs.History.{History}
use Rattle.pl_core.specs.Step.{IsStep}

-- the pass under which `play` hands in each request
abbrev pub own_pass : ℕ
own_pass = 1

-- a call: a step of the database under this pass
abbrev pub PlayCall : History → Query → Reply → History → Type 0
PlayCall before q reply after = IsStep own_pass q before reply after

-- the body's operation is a write, an offer or a set_table: what its block or text is made of is
-- copied
abbrev pub IsCopied : List ℕ → Type 0
IsCopied body =
    let op = op_of_number (slice_index body 29) in
    (op ≡ Some ops.Write) ⊎ ((op ≡ Some ops.Offer) ⊎ (op ≡ Some ops.SetTable))
