-- What was read of a frame, and why there is no more of it.
use Rattle.std.specs.Prelude.{◌≡◌, ℕ, ◌+◌, ◌^◌, ◌<◌, ◌≤◌, ◌⊎◌, List, [], ◌++◌, length, take, Option, Err}
use Rattle.std.specs.Int.{w32, to_be_bytes, from_be_bytes}
use Rattle.std.specs.Io.KnownBytes.{Consumes, IsAtEnd}
use Rattle.pl_block.specs.declared.fault.Failed.{Failed}
use Rattle.pl_block.specs.declared.fault.Failed.TheVariants.{Malformed, NoMemory}
use Rattle.pl_wire.specs.declared.fault.WireFault.{WireFault}
use Rattle.pl_wire.specs.declared.frame_reading.FrameFault.{FrameFault}
use Rattle.pl_wire.specs.declared.frame_reading.FrameFault.TheVariants as faults
use Rattle.pl_wire.specs.declared.frame_reading.ReplyFault.{ReplyFault}
use Rattle.pl_wire.specs.declared.frame_reading.ReplyFault.TheVariants.{Ended, Frame, Body}
use Rattle.pl_wire.specs.Frames.{frame, longest_reply}
use Rattle.pl_wire.specs.ReplyReading.{reply_reading, ReplyMayLackMemory}

-- a beginning of a frame that is not whole: less than a length, or a length within the limit and less than its body
abbrev pub IsCut : ℕ → List ℕ → Type 0
IsCut limit bytes = (length bytes < 4) ⊎ ((len : ℕ) × (part : List ℕ) × (len ≤ limit) × (length part < len) × (bytes ≡ to_be_bytes w32 len ++ part))

-- the length that some bytes begin with, of four bytes or more
abbrev pub length_at : List ℕ → ℕ
length_at bytes = from_be_bytes w32 (take 4 bytes)

-- The bytes do not begin with a whole frame within the limit: they are less than a length, or the length is above the limit,
-- or its body is not all there.
abbrev pub LacksFrame : ℕ → List ℕ → Type 0
LacksFrame limit bytes = (length bytes < 4) ⊎ ((limit < length_at bytes) ⊎ (length bytes < 4 + length_at bytes))

-- More bytes after these make no other frame of them: the length is there, and is above the limit, or its body is all there.
abbrev pub IsDecided : ℕ → List ℕ → Type 0
IsDecided limit bytes = (4 ≤ length bytes) × ((limit < length_at bytes) ⊎ (4 + length_at bytes ≤ length bytes))

-- a length above the limit was read, and nothing after it
abbrev pub ReadsTooLong : ℕ → Option (List ℕ) → Option (List ℕ) → Type 0
ReadsTooLong limit old new = (len : ℕ) × (limit < len) × (len < 2 ^ 32) × Consumes old new (to_be_bytes w32 len)

-- why no length was read, and what was read instead
abbrev pub StopsHead : ℕ → Option (List ℕ) → Option (List ℕ) → FrameFault → Type 0
StopsHead limit old new faults.Short = (bytes : List ℕ) × (0 < length bytes) × (length bytes < 4) × Consumes old new bytes × IsAtEnd new
StopsHead limit old new faults.TooLong = ReadsTooLong limit old new
StopsHead limit old new faults.Io = (bytes : List ℕ) × (length bytes < 4) × Consumes old new bytes
StopsHead limit old new faults.NoMemory = ⊥

-- why a body of this length was not read, and what was read of it
abbrev pub CutsBody : ℕ → Option (List ℕ) → Option (List ℕ) → FrameFault → Type 0
CutsBody len old new faults.Short = (part : List ℕ) × (length part < len) × Consumes old new part × IsAtEnd new
CutsBody len old new faults.TooLong = ⊥
CutsBody len old new faults.Io = (part : List ℕ) × (length part < len) × Consumes old new part
CutsBody len old new faults.NoMemory = (0 < len) × Consumes old new []

-- why no frame was read, and what was read of it: out of memory, a length and nothing after it
abbrev pub StopsFrame : ℕ → Option (List ℕ) → Option (List ℕ) → FrameFault → Type 0
StopsFrame limit old new faults.Short = (bytes : List ℕ) × (0 < length bytes) × IsCut limit bytes × Consumes old new bytes × IsAtEnd new
StopsFrame limit old new faults.TooLong = ReadsTooLong limit old new
StopsFrame limit old new faults.Io = (bytes : List ℕ) × IsCut limit bytes × Consumes old new bytes
StopsFrame limit old new faults.NoMemory = (len : ℕ) × (0 < len) × (len ≤ limit) × Consumes old new (to_be_bytes w32 len)

-- a whole frame was read, whose body reads as no reply; or the reply asks for memory
abbrev pub ReadsNoReply : List ℕ → Failed WireFault → Type 0
ReadsNoReply body (Malformed fault) = reply_reading body ≡ Err fault
ReadsNoReply body NoMemory = ReplyMayLackMemory body

-- why no reply was read, and what was read instead
abbrev pub StopsReply : Option (List ℕ) → Option (List ℕ) → ReplyFault → Type 0
StopsReply old new Ended = Consumes old new [] × IsAtEnd new
StopsReply old new (Frame fault) = StopsFrame longest_reply old new fault
StopsReply old new (Body fault) = (body : List ℕ) × (length body ≤ longest_reply) × Consumes old new (frame body) × ReadsNoReply body fault
