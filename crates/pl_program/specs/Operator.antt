-- One request of an operator and the reply to it, over a connection.
use Rattle.std.specs.Prelude.{◌≡◌, ◌⊎◌, ℕ, List, Option, Result, Err}
use Rattle.std.specs.Io.KnownBytes.{Appends, Consumes}
use Rattle.pl_block.specs.declared.fault.Failed.TheVariants as bodies
use Rattle.pl_core.specs.declared.reply.Reply.{Reply}
use Rattle.pl_table.specs.Requests.Request.{Query}
use Rattle.pl_wire.specs.declared.frame_reading.FrameFault.TheVariants as frames
use Rattle.pl_wire.specs.declared.frame_reading.ReplyFault.{ReplyFault}
use Rattle.pl_wire.specs.declared.frame_reading.ReplyFault.TheVariants as replies
use Rattle.pl_wire.specs.declared.frame_writing.WriteFault.{WriteFault}
use Rattle.pl_wire.specs.declared.frame_writing.WriteFault.TheVariants as writes
use Rattle.pl_wire.specs.FrameReading.{StopsReply}
use Rattle.pl_wire.specs.FrameWriting.{WritesText, reply_frame, request_frame}
use Rattle.pl_wire.specs.Replies.{IsReply}
use Rattle.pl_play.specs.declared.operator_words.AdminFault.{AdminFault}
use Rattle.pl_play.specs.declared.operator_words.AdminFault.TheVariants as admins
use Rattle.pl_program.specs.declared.run_fault.RunFault.{RunFault}
use Rattle.pl_program.specs.declared.run_fault.RunFault.TheVariants as faults

-- why the words gave no request
abbrev pub fault_of_words : AdminFault → RunFault
fault_of_words admins.Words = faults.Words
fault_of_words admins.NoMemory = faults.NoMemory

-- why the request was not written
abbrev pub fault_of_write : WriteFault → RunFault
fault_of_write writes.Io = faults.Write
fault_of_write writes.NoMemory = faults.NoMemory

-- why no reply was read: a read failed, memory ran out, or what came is none
abbrev pub fault_of_reply : ReplyFault → RunFault
fault_of_reply replies.Ended = faults.Reply
fault_of_reply (replies.Frame frames.Short) = faults.Reply
fault_of_reply (replies.Frame frames.TooLong) = faults.Reply
fault_of_reply (replies.Frame frames.Io) = faults.Read
fault_of_reply (replies.Frame frames.NoMemory) = faults.NoMemory
fault_of_reply (replies.Body (bodies.Malformed fault)) = faults.Reply
fault_of_reply (replies.Body bodies.NoMemory) = faults.NoMemory

-- what a connection has left to be read, and what was written to it
pub record ConnectionEnds : Type 0 where
  pub input : Option (List ℕ)
  pub output : Option (List ℕ)

abbrev pub ends : Option (List ℕ) → Option (List ℕ) → ConnectionEnds
ends input output = record { input = input; output = output }

-- the request's frame was written, and then the reply's was read
pub record Exchanged (request : Query) (before after : ConnectionEnds) (reply : Reply) : Type 0 where
  pub wrote : Appends before.output after.output (request_frame request)
  pub read : Consumes before.input after.input (reply_frame reply)
  pub is_reply : IsReply reply

-- the request was not written whole, and nothing was read
pub record StopsWriting (request : Query) (before after : ConnectionEnds) (fault : RunFault) : Type 0 where
  pub cause : WriteFault
  pub fault_is : fault ≡ fault_of_write cause
  pub wrote : WritesText {T = Unit {0}} before.output after.output (request_frame request) (Err cause)
  pub input : after.input ≡ before.input

-- the request was written, and no reply was read
pub record StopsReading (request : Query) (before after : ConnectionEnds) (fault : RunFault) : Type 0 where
  pub cause : ReplyFault
  pub fault_is : fault ≡ fault_of_reply cause
  pub wrote : Appends before.output after.output (request_frame request)
  pub read : StopsReply before.input after.input cause

abbrev pub StopsExchange : Query → ConnectionEnds → ConnectionEnds → RunFault → Type 0
StopsExchange request before after fault =
    StopsWriting request before after fault ⊎ StopsReading request before after fault
