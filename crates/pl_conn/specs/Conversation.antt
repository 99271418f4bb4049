-- What a connection's output is.
use Rattle.std.specs.Prelude.{◌≡◌, ℕ, ◌+◌, ◌-◌, ◌^◌, ◌<◌, ◌≤◌, ◌⊎◌, List, [], ◌∷◌, ◌++◌, length, take, Option, Result, Ok, Err}
use Rattle.std.specs.Int.{w32, to_be_bytes}
use Rattle.std.specs.Io.KnownBytes.{Appends, Consumes, IsAtEnd}
use Rattle.std.specs.List.{AllByRecursion, flat_map}
use Rattle.pl_core.specs.declared.reply.Reply.{Reply}
use Rattle.pl_core.specs.Reply.{FitsReply}
use Rattle.pl_wire.specs.Answering.{Answered, AnswersBody, Calls}
use Rattle.pl_wire.specs.FrameReading.{IsCut, length_at}
use Rattle.pl_wire.specs.Frames.{frames_of, longest_request}
use Rattle.pl_wire.specs.FrameWriting.{reply_frame}
use Rattle.pl_wire.specs.declared.frame_reading.FrameFault.{FrameFault}
use Rattle.pl_wire.specs.declared.frame_reading.FrameFault.TheVariants as frame_faults
use Rattle.pl_conn.specs.declared.cause.Cause.{Cause}
use Rattle.pl_conn.specs.declared.cause.Cause.TheVariants as causes
use Rattle.pl_conn.specs.declared.cause.ConnFault.{ConnFault}

-- the frames of replies, one after the other
abbrev pub replies_text : List Reply → List ℕ
replies_text replies = flat_map reply_frame replies

-- what a reader has left, what a writer holds, and a pass
pub record Scene (P : Type 0) : Type 0 where
  pub input : Option (List ℕ)
  pub output : Option (List ℕ)
  pub pass : P

abbrev pub scene : {P : Type 0} → Option (List ℕ) → Option (List ℕ) → P → Scene P
scene input output pass = record { input = input; output = output; pass = pass }

-- A conversation: the bodies of the frames that were read, the replies that were written whole, those that
-- were not, and the bytes that were read and written after the last whole one.
pub record Talk : Type 0 where
  pub bodies : List (List ℕ)
  pub whole : List Reply
  pub others : List Reply
  pub part : List ℕ
  pub cut : List ℕ

-- that this was the conversation
pub record Talks {P : Type 0} (calls : Calls P) (before after : Scene P) (talk : Talk) : Type 0 where
  pub short : AllByRecursion (λ body. length body ≤ longest_request) talk.bodies
  pub read : Consumes before.input after.input (frames_of talk.bodies ++ talk.part)
  pub chain : Answered (AnswersBody calls) before.pass talk.bodies (talk.whole ++ talk.others) after.pass
  pub fits : AllByRecursion FitsReply (talk.whole ++ talk.others)
  pub written : Appends before.output after.output (replies_text talk.whole ++ talk.cut)

-- all replies are written
abbrev pub IsReported : Talk → Type 0
IsReported talk = (talk.others ≡ []) × (talk.cut ≡ [])

-- the length of a frame that is too long
abbrev pub IsTooLongFrame : List ℕ → Type 0
IsTooLongFrame bytes = (len : ℕ) × (longest_request < len) × (len < 2 ^ 32) × (bytes ≡ to_be_bytes w32 len)

-- less than a whole frame, and nothing after a length that is too long
abbrev pub StopsThere : List ℕ → Type 0
StopsThere bytes = IsCut longest_request bytes ⊎ IsTooLongFrame bytes

-- they begin with the length of a frame that is too long
abbrev pub IsTooLong : List ℕ → Type 0
IsTooLong bytes = (4 ≤ length bytes) × (longest_request < length_at bytes)

-- these replies may wait together: the frames of all but the last take less than 256 KiB
abbrev pub MayWait : List Reply → Type 0
MayWait replies = length (replies_text (take (length replies - 1) replies)) < 262144

-- some reply is not written whole, though a beginning of it may be; it and those after it waited together
abbrev pub IsToldInPart : Talk → Type 0
IsToldInPart talk = (next : Reply) × (more : List Reply) × (k : ℕ) × (talk.others ≡ next ∷ more)
    × (k < length (reply_frame next)) × (talk.cut ≡ take k (reply_frame next)) × MayWait talk.others

-- Why it is over: that all replies are written, or some are not; what was read after the last frame that was answered; and
-- what the reader has left. But for a failed write no frame that was read whole is without its reply.
abbrev pub Ends : Cause → Type 0 → Type 0 → List ℕ → Option (List ℕ) → Type 0
Ends causes.Short reported lost part left = reported × (0 < length part) × IsCut longest_request part × IsAtEnd left
Ends causes.TooLong reported lost part left = reported × IsTooLong part
Ends causes.Read reported lost part left = reported × IsCut longest_request part
Ends causes.Write reported lost part left = lost
Ends causes.NoMemory reported lost part left = reported × IsCut longest_request part

-- All frames that were read are answered, and this is their number; or some, and then a fault. Part says more of what was read
-- after the last frame that was answered.
abbrev pub Concludes : {P : Type 0} → (List ℕ → Type 0) → Calls P → Scene P → Scene P → Result ℕ ConnFault → Type 0
Concludes Part calls before after (Ok count) = (talk : Talk) × Talks calls before after talk × (length talk.whole ≡ count)
    × IsReported talk × (talk.part ≡ [])
Concludes Part calls before after (Err fault) = (talk : Talk) × Talks calls before after talk × (length talk.whole ≡ fault.answered)
    × Ends fault.cause (IsReported talk) (IsToldInPart talk) talk.part after.input × Part talk.part

-- all frames of the input are answered, or 2^32 of them; or some, and then a fault
abbrev pub Converses : {P : Type 0} → Calls P → Scene P → Scene P → Result ℕ ConnFault → Type 0
Converses calls before after (Ok count) = Concludes StopsThere calls before after (Ok count) × (count ≤ 2 ^ 32) × (count < 2 ^ 32 → IsAtEnd after.input)
Converses calls before after (Err fault) = Concludes StopsThere calls before after (Err fault)

-- why a conversation ends if a frame was not read
abbrev pub cause_of : FrameFault → Cause
cause_of frame_faults.Short = causes.Short
cause_of frame_faults.TooLong = causes.TooLong
cause_of frame_faults.Io = causes.Read
cause_of frame_faults.NoMemory = causes.NoMemory
