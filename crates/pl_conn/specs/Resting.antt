-- A conversation that rests between its turns.
use Rattle.std.specs.Prelude.{◌≡◌, ℕ, ⊤, ◌+◌, ◌<◌, ◌≤◌, ◌⊎◌, List, [], ◌∷◌, ◌++◌, length, take, Option, Result, Ok, Err}
use Rattle.std.specs.Io.KnownBytes.{Appends, Consumes, IsAtEnd}
use Rattle.std.specs.List.{AllByRecursion}
use Rattle.pl_core.specs.declared.reply.Reply.{Reply}
use Rattle.pl_core.specs.Reply.{FitsReply}
use Rattle.pl_wire.specs.Answering.{Answered, AnswersBody, Calls}
use Rattle.pl_wire.specs.FrameReading.{IsCut}
use Rattle.pl_wire.specs.Frames.{frame, frames_of, longest_request}
use Rattle.pl_conn.specs.Conversation.{Concludes, Ends, MayWait, Scene, replies_text}
use Rattle.pl_conn.specs.Serving.{Reaches}
use Rattle.pl_conn.specs.declared.cause.Cause.{Cause}
use Rattle.pl_conn.specs.declared.conversation.Rest.{Rest}
use Rattle.pl_conn.specs.declared.conversation.Rest.TheVariants as rests

-- what a conversation keeps while it rests: bytes that were read and not taken, and replies that are not written
pub record Middle : Type 0 where
  pub unread : List ℕ
  pub waiting : List ℕ

abbrev pub middle : List ℕ → List ℕ → Middle
middle unread waiting = record { unread = unread; waiting = waiting }

-- Frames are answered, in order, a chain of calls: their bytes are taken from the front of what is unread, and their
-- replies are put after those that wait.
pub record Replies {P : Type 0} (calls : Calls P) (before : P) (old : Middle) (after : P) (new : Middle) : Type 0 where
  pub bodies : List (List ℕ)
  pub replies : List Reply
  pub short : AllByRecursion (λ body. length body ≤ longest_request) bodies
  pub fits : AllByRecursion FitsReply replies
  pub read : old.unread ≡ frames_of bodies ++ new.unread
  pub chain : Answered (AnswersBody calls) before bodies replies after
  pub told : new.waiting ≡ old.waiting ++ replies_text replies

-- What waits is of replies that may wait together, the last of these.
pub record WaitsOf (replies : List Reply) (waiting : List ℕ) : Type 0 where
  pub front : List Reply
  pub last : List Reply
  pub parts : replies ≡ front ++ last
  pub few : MayWait last
  pub within : length waiting ≤ length (replies_text last)

-- While replies wait, nothing is heard or answered. Once all that waited is said, what waits is of the last replies.
abbrev pub WaitsFirst : Middle → List ℕ → List ℕ → List Reply → Middle → Type 0
WaitsFirst old heard said replies new = ((heard ≡ []) × (replies ≡ []) × (length new.waiting ≤ length old.waiting))
    ⊎ ((more : List ℕ) × (said ≡ old.waiting ++ more) × WaitsOf replies new.waiting)

-- THE THEOREM of a conversation that rests. Bytes are heard after those that were unread, frames are answered, and
-- bytes are said, from the front of those that wait; these are said before more is heard or answered.
pub record Resumes {P : Type 0} (calls : Calls P) (before : Scene P) (old : Middle) (after : Scene P) (new : Middle) : Type 0 where
  pub heard : List ℕ
  pub said : List ℕ
  pub input : Consumes before.input after.input heard
  pub output : Appends before.output after.output said
  pub replies : Replies calls before.pass (middle (old.unread ++ heard) old.waiting) after.pass (middle new.unread (said ++ new.waiting))
  pub waits : WaitsFirst old heard said replies.replies new

-- bytes are read after those that are there
abbrev pub Hears : Option (List ℕ) → List ℕ → Option (List ℕ) → List ℕ → Type 0
Hears old before new after = (heard : List ℕ) × Consumes old new heard × (after ≡ before ++ heard)

-- bytes that wait are written, from the front
abbrev pub Tells : Option (List ℕ) → Middle → Option (List ℕ) → Middle → Type 0
Tells old before new after = (said : List ℕ) × Appends old new said × (before.waiting ≡ said ++ after.waiting) × (after.unread ≡ before.unread)

-- two turns, one after the other, are as one
abbrev pub TurnsJoin : {P : Type 0} → Calls P → Type 0
TurnsJoin {P} calls = (before between after : Scene P) (first second third : Middle)
    → Resumes calls before first between second → Resumes calls between second after third → Resumes calls before first after third

-- frames are answered, and bytes of the replies are written, from the front
pub record Speaks {P : Type 0} (calls : Calls P) (before : P) (old : Option (List ℕ)) (bytes : List ℕ) (after : P) (new : Option (List ℕ)) (left : Middle) : Type 0 where
  pub said : List ℕ
  pub output : Appends old new said
  pub replies : Replies calls before (middle bytes []) after (middle left.unread (said ++ left.waiting))
  pub waits : WaitsOf replies.replies left.waiting

-- the bytes begin with a whole frame
abbrev pub HasFrame : List ℕ → Type 0
HasFrame bytes = (body : List ℕ) × (length body ≤ longest_request) × (4 + length body ≤ length bytes) × (take (4 + length body) bytes ≡ frame body)

-- How a turn ends. If another is due at once, it heard a byte at least, or answered a frame. If it is over by a fault,
-- what is lost is the last that it would have kept.
abbrev pub Rests : {P : Type 0} → Calls P → Scene P → Middle → Scene P → Middle → Result Rest Cause → Type 0
Rests calls before old after new (Ok rests.Again) = (turn : Resumes calls before old after new) × (0 < length turn.heard + length turn.replies.bodies) × (new.waiting ≡ [])
Rests calls before old after new (Ok rests.Input) = Resumes calls before old after new × (new.waiting ≡ []) × IsCut longest_request new.unread
Rests calls before old after new (Ok rests.Output) = Resumes calls before old after new × (0 < length new.waiting)
Rests calls before old after new (Ok rests.Over) = Resumes calls before old after new × (new ≡ middle [] []) × IsAtEnd after.input
Rests calls before old after new (Err cause) = (lost : Middle) × Resumes calls before old after lost
    × Ends cause (lost.waiting ≡ []) (0 < length lost.waiting) lost.unread after.input

-- turns, one after the other, that came to these
abbrev pub Goes : {P : Type 0} → Calls P → Scene P → Middle → List Rest → Scene P → Middle → Type 0
Goes calls before old [] after new = (after ≡ before) × (new ≡ old)
Goes calls before old (rest ∷ more) after new = (now : Scene _) × (kept : Middle) × Rests calls before old now kept (Ok rest) × Goes calls now kept more after new

-- what a conversation came to, if its last turn came to this: as `converse` says, but that more may be read after a length
-- that is too long, and that no frames are too many
abbrev pub Came : {P : Type 0} → Calls P → Scene P → Scene P → Result Rest Cause → Type 0
Came calls before after (Ok rests.Again) = ⊤
Came calls before after (Ok rests.Input) = ⊤
Came calls before after (Ok rests.Output) = ⊤
Came calls before after (Ok rests.Over) = (count : ℕ) × Concludes (λ part. ⊤) calls before after (Ok count) × IsAtEnd after.input
Came calls before after (Err cause) = (count : ℕ) × Concludes (λ part. ⊤) calls before after (Err (record { cause = cause; answered = count }))

-- from the beginning to the end, turns are a conversation, however its input and its output are cut
abbrev pub TurnsAreAConversation : {P : Type 0} → Calls P → Type 0
TurnsAreAConversation {P} calls = (before now after : Scene P) (rests : List Rest) (kept new : Middle) (end : Result Rest Cause)
    → Goes calls before (middle [] []) rests now kept → Rests calls now kept after new end → Came calls before after end

-- Between two turns of a conversation others may call the gate with the same pass, as the other connections of a worker do. Its
-- reader and its writer stay.
abbrev pub OthersCall : {P : Type 0} → Calls P → Scene P → Scene P → Type 0
OthersCall calls before after = (after.input ≡ before.input) × (after.output ≡ before.output) × Reaches calls before.pass after.pass

-- turns, one after the other, that came to these, with calls of others before each
abbrev pub GoesAmong : {P : Type 0} → Calls P → Scene P → Middle → List Rest → Scene P → Middle → Type 0
GoesAmong calls before old [] after new = (after ≡ before) × (new ≡ old)
GoesAmong calls before old (rest ∷ more) after new = (then : Scene _) × (now : Scene _) × (kept : Middle)
    × OthersCall calls before then × Rests calls then old now kept (Ok rest) × GoesAmong calls now kept more after new

-- some calls of others, and then this one
abbrev pub among : {P : Type 0} → Calls P → Calls P
among {P} calls before request reply after = (then : P) × Reaches calls before then × calls then request reply after

-- the scene with another pass
abbrev pub with_pass : {P : Type 0} → Scene P → P → Scene P
with_pass s pass = record s { pass = pass }

-- Turns among calls of others are as one turn in which each call may come after some of others. The last of those may come after it.
abbrev pub TurnsJoinAmongOthers : {P : Type 0} → Calls P → Type 0
TurnsJoinAmongOthers {P} calls = (before now : Scene P) (old kept : Middle) (rests : List Rest) → GoesAmong calls before old rests now kept
    → (left : P) × Reaches calls left now.pass × Resumes (among calls) before old (with_pass now left) kept

-- from the beginning to the end, turns among calls of others are a conversation, in which each call may come after some of others
abbrev pub TurnsAmongOthers : {P : Type 0} → Calls P → Type 0
TurnsAmongOthers {P} calls = (before now then after : Scene P) (rests : List Rest) (kept new : Middle) (end : Result Rest Cause)
    → GoesAmong calls before (middle [] []) rests now kept → OthersCall calls now then → Rests calls then kept after new end
    → (left : P) × Reaches calls left after.pass × Came (among calls) before (with_pass after left) end
