-- How the program ends: the text on standard error, and the exit status.
use Rattle.std.specs.Prelude.{ℕ, List, [], ◌∷◌, ◌++◌, Result, Ok, Err, codes, string_bytes}
use Rattle.pl_command.specs.declared.command_line.CommandFault.TheVariants as commands
use Rattle.pl_play.specs.FaultText.{fault_text, start_fault_text}
use Rattle.pl_program.specs.declared.run_fault.RunFault.{RunFault}
use Rattle.pl_program.specs.declared.run_fault.RunFault.TheVariants as runs
use Rattle.pl_core.specs.declared.reply.Reply.{Reply}
use Rattle.pl_core.specs.declared.reply.Reply.TheVariants as replies
use Rattle.pl_program.specs.declared.ending.Failure.{Failure}
use Rattle.pl_program.specs.declared.ending.Failure.TheVariants as failures
use Rattle.pl_program.specs.declared.ending.Ending.{Ending}
use Rattle.pl_program.specs.declared.ending.Ending.TheVariants as endings

-- the text of a fault of `serve` or `ask`, after its first word
abbrev pub run_fault_text : RunFault → List ℕ
run_fault_text runs.Words = codes "words"
run_fault_text runs.Address = codes "address"
run_fault_text runs.Read = codes "read"
run_fault_text runs.Write = codes "write"
run_fault_text runs.Reply = codes "reply"
run_fault_text runs.Threads = codes "threads"
run_fault_text runs.NoMemory = codes "no memory"

-- a fault as a line
abbrev pub fault_line : List ℕ → List ℕ
fault_line text = codes "fault: " ++ (text ++ 10 ∷ [])

-- the text of a failure: the argument parser's own, or a line
abbrev pub failure_text : Failure → List ℕ
failure_text (failures.Command (commands.Usage text)) = string_bytes text
failure_text (failures.Command commands.NoMemory) = fault_line (codes "no memory")
failure_text (failures.Start fault) = fault_line (start_fault_text fault)
failure_text (failures.Play fault) = fault_line (fault_text fault)
failure_text (failures.Run fault) = fault_line (run_fault_text fault)

-- the exit status of a failure: a usage error has its own
abbrev pub failure_status : Failure → ℕ
failure_status (failures.Command (commands.Usage text)) = 2
failure_status (failures.Command commands.NoMemory) = 1
failure_status (failures.Start fault) = 1
failure_status (failures.Play fault) = 1
failure_status (failures.Run fault) = 1

-- how a run ends
abbrev pub ending_of : Result Ending Failure → Ending
ending_of (Ok ending) = ending
ending_of (Err failure) = endings.Failed failure

-- how `ask` ends at its reply: all is done if that is Done, Status or Entries
abbrev pub ending_of_reply : Reply → Ending
ending_of_reply replies.Done = endings.Done
ending_of_reply (replies.Entries lines) = endings.Done
ending_of_reply (replies.Status epoch primary hard pending landing) = endings.Done
ending_of_reply _ = endings.Refused

-- the text on standard error: nothing but of a failure
abbrev pub ending_text : Ending → List ℕ
ending_text endings.Done = []
ending_text endings.Refused = []
ending_text (endings.Failed failure) = failure_text failure

-- the exit status: 0 if all is done
abbrev pub ending_status : Ending → ℕ
ending_status endings.Done = 0
ending_status endings.Refused = 1
ending_status (endings.Failed failure) = failure_status failure
