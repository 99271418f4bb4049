-- What is written, and how much of it if the writer stops.
use Rattle.std.specs.Prelude.{ℕ, ◌<◌, List, ◌∷◌, ◌++◌, length, take, Option, Result, Ok, Err}
use Rattle.std.specs.Int.{w32, w64, to_be_bytes}
use Rattle.std.specs.Io.KnownBytes.{Appends, Keeps}
use Rattle.pl_core.specs.declared.reply.Reply.{Reply}
use Rattle.pl_table.specs.Requests.Request.{Query}
use Rattle.pl_wire.specs.declared.frame_writing.WriteFault.{WriteFault}
use Rattle.pl_wire.specs.declared.frame_writing.WriteFault.TheVariants as faults
use Rattle.pl_wire.specs.Frames.{frame}
use Rattle.pl_wire.specs.Replies.{reply_spelling}
use Rattle.pl_wire.specs.Spelling.{request_spelling}

-- the frame of a reply
abbrev pub reply_frame : Reply → List ℕ
reply_frame reply = frame (reply_spelling reply)

-- the frame of a page at an LSN, before the bytes of the page
abbrev pub page_head : ℕ → List ℕ
page_head at = to_be_bytes w32 8201 ++ (2 ∷ to_be_bytes w64 at)

-- the most bytes of the frame of a reply
abbrev pub largest_reply_frame : ℕ
largest_reply_frame = 524367

-- the frame of a request
abbrev pub request_frame : Query → List ℕ
request_frame request = frame (request_spelling request)

-- the text was written; or a part that is not the whole, if the writer stopped; or nothing, out of memory
abbrev pub WritesText : {T : Type 0} → Option (List ℕ) → Option (List ℕ) → List ℕ → Result T WriteFault → Type 0
WritesText old new text (Ok done) = Appends old new text
WritesText old new text (Err faults.Io) = (k : ℕ) × (k < length text) × Appends old new (take k text)
WritesText old new text (Err faults.NoMemory) = Keeps old new
