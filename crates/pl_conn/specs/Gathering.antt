-- Replies that were given and are not yet written.
use Rattle.std.specs.Prelude.{◌≡◌, ℕ, zero, suc, ◌+◌, ◌-◌, ◌<◌, ◌≤◌, Bool, true, false, List, [], ◌∷◌, ◌++◌, length, map, Option, Result, Ok, Err, nat_lt, if◌then◌else◌}
use Rattle.std.specs.Io.KnownBytes.{Consumes, IsAtEnd}
use Rattle.std.specs.List.{AllByRecursion}
use Rattle.pl_core.specs.declared.reply.Reply.{Reply}
use Rattle.pl_core.specs.Reply.{FitsReply}
use Rattle.pl_block.specs.declared.fault.Failed.{Failed}
use Rattle.pl_table.specs.Requests.Request.{Query}
use Rattle.pl_wire.specs.Answering.{Answered, AnswersBody, AnswersRead, Calls}
use Rattle.pl_wire.specs.FrameReading.{StopsFrame}
use Rattle.pl_wire.specs.Frames.{frames_of, longest_request}
use Rattle.pl_wire.specs.FrameWriting.{largest_reply_frame, reply_frame}
use Rattle.pl_wire.specs.declared.fault.WireFault.{WireFault}
use Rattle.pl_wire.specs.declared.frame_reading.FrameFault.{FrameFault}
use Rattle.pl_conn.specs.Conversation.{Converses, MayWait, Scene, Talk, Talks, cause_of, replies_text}
use Rattle.pl_conn.specs.declared.cause.Cause.{Cause}
use Rattle.pl_conn.specs.declared.cause.ConnFault.{ConnFault}

-- the frames that wait to be written, and the length of each
pub record Box : Type 0 where
  pub text : List ℕ
  pub lens : List ℕ

-- nothing waits
abbrev pub emptied : Box
emptied = record { text = []; lens = [] }

-- the most bytes of replies that wait, and one more: less than 256 KiB, and one reply
abbrev pub waiting_limit : ℕ
waiting_limit = 262144 + largest_reply_frame

-- one reply more may wait: the frames that wait are few, and take less than 256 KiB
abbrev pub MayGather : Box → Type 0
MayGather box = (length box.text < 262144) × (length box.lens < 4096)

-- one reply more waits
abbrev pub gathered : Box → Reply → Box
gathered box reply = record { text = box.text ++ reply_frame reply; lens = box.lens ++ length (reply_frame reply) ∷ [] }

-- a body is answered, by what was read of it, and its reply waits after the others
pub record GathersAnswer {P : Type 0} (calls : Calls P) (read : Result Query (Failed WireFault)) (before : P) (box : Box) (after : P) (left : Box) : Type 0 where
  pub reply : Reply
  pub answers : AnswersRead calls read before reply after
  pub fits : FitsReply reply
  pub waits : left ≡ gathered box reply

-- how many frames of these lengths are whole within this many bytes
abbrev pub whole_in : List ℕ → ℕ → ℕ
whole_in [] bytes = 0
whole_in (len ∷ lens) bytes = if nat_lt bytes len then 0 else suc (whole_in lens (bytes - len))

-- these replies wait
pub record HoldsReplies (box : Box) (replies : List Reply) : Type 0 where
  pub text : box.text ≡ replies_text replies
  pub lens : box.lens ≡ map (λ reply. length (reply_frame reply)) replies
  pub few : MayWait replies

-- The bytes are frames, which are answered, in order, a chain of calls; their replies wait after those that waited.
pub record Gathers {P : Type 0} (calls : Calls P) (before : P) (bytes : List ℕ) (box : Box) (after : P) (left : Box) : Type 0 where
  pub bodies : List (List ℕ)
  pub replies : List Reply
  pub short : AllByRecursion (λ body. length body ≤ longest_request) bodies
  pub fits : AllByRecursion FitsReply replies
  pub read : bytes ≡ frames_of bodies
  pub chain : Answered (AnswersBody calls) before bodies replies after
  pub waits : (front : List Reply) → HoldsReplies box front → HoldsReplies left (front ++ replies)

-- the bytes are one frame, which is answered, and one reply more waits
abbrev pub GathersOne : {P : Type 0} → Calls P → P → List ℕ → Box → P → Box → Type 0
GathersOne calls before bytes box after left = Gathers calls before bytes box after left × (length left.lens ≡ length box.lens + 1)

-- the next frame is answered, and its reply waits; or the input is at its end; or there is no frame
abbrev pub TakesFrame : {P : Type 0} → Calls P → Option (List ℕ) → P → Box → Option (List ℕ) → P → Box → Result Bool Cause → Type 0
TakesFrame calls input before box rest after left (Ok true) = (bytes : List ℕ) × Consumes input rest bytes × Gathers calls before bytes box after left
TakesFrame calls input before box rest after left (Ok false) = (after ≡ before) × Consumes input rest [] × IsAtEnd rest
TakesFrame calls input before box rest after left (Err cause) = (after ≡ before)
    × ((fault : FrameFault) × (cause ≡ cause_of fault) × StopsFrame longest_request input rest fault)

-- a conversation of which nothing waits
abbrev pub reported_talk : List (List ℕ) → List Reply → Talk
reported_talk bodies replies = record { bodies = bodies; whole = replies; others = []; part = []; cut = [] }

-- so far each frame that was read has its reply, all replies are written, and this is their number
pub record Told {P : Type 0} (calls : Calls P) (before now : Scene P) (count : ℕ) : Type 0 where
  pub bodies : List (List ℕ)
  pub replies : List Reply
  pub talks : Talks calls before now (reported_talk bodies replies)
  pub number : length replies ≡ count

-- one turn of a conversation that waits for its reader and its writer: some frames are answered, or the input is at its end
abbrev pub Turns : {P : Type 0} → Calls P → Scene P → Scene P → Result ℕ ConnFault → Type 0
Turns calls before after (Ok count) = Told calls before after count × (count ≡ 0 → IsAtEnd after.input)
Turns calls before after (Err fault) = Converses calls before after (Err fault)
