-- What `play` did: lines answered one after the other, and how that ended.
use Rattle.std.specs.Prelude.{◌≡◌, ◌≢◌, ℕ, ◌+◌, ◌<◌, ◌≤◌, ◌⊎◌, List, [], ◌∷◌, ◌++◌, length, map, take, ⊤, Option, Some, None, Result, Ok, Err}
use Rattle.std.specs.List.{AllByRecursion, flat_map}
use Rattle.std.specs.Io.KnownBytes.{Keeps, Appends}
use Rattle.hex.specs.Hex.{decode_of}
use Rattle.pl_core.specs.declared.reply.Reply.{Reply}
use Rattle.pl_core.specs.declared.reply.Reply.TheVariants as replies
use Rattle.pl_wire.specs.Answering.{Answered, AnswersAsRead, Calls}
use Rattle.pl_wire.specs.Replies.{reply_spelling}
use Rattle.pl_play.specs.Lines.{text_lines, longest_line, IsLong, OnFirst}
use Rattle.pl_play.specs.Text.{line_text, IsNoText}
use Rattle.pl_play.specs.declared.fault.PlayFault.{PlayFault}
use Rattle.pl_play.specs.declared.fault.PlayFault.TheVariants as faults

-- the line that a reply is written as
abbrev pub reply_line : Reply → List ℕ
reply_line reply = line_text (reply_spelling reply)

-- the body that a line spells is answered by a reply
pub record AnswersLine {S : Type 0} (calls : Calls S) (before : S) (line : List ℕ) (reply : Reply) (after : S)
    : Type 0 where
  pub body : List ℕ
  pub fits : length line ≤ longest_line
  pub reads : decode_of line ≡ Ok body
  pub answers : AnswersAsRead calls before body reply after

-- these are the lines of the input, if its bytes are known
abbrev pub HasLines : Option (List ℕ) → List (List ℕ) → Type 0
HasLines None lines = ⊤
HasLines (Some text) lines = text_lines text ≡ lines

-- what the writer holds, if that is known, and the state of what answers
pub record Moment (S : Type 0) : Type 0 where
  pub output : Option (List ℕ)
  pub state : S

-- this output, and this state
abbrev pub moment : {S : Type 0} → Option (List ℕ) → S → Moment S
moment output state = record { output = output; state = state }

-- This many lines of the input are answered, in order, and these are not: the bodies that they spell have their
-- replies, a chain of calls. All replies are written, each as a line, and nothing else.
pub record AnswersFirst {S : Type 0} (calls : Calls S) (input : Option (List ℕ)) (count : ℕ)
    (unanswered : List (List ℕ)) (before after : Moment S) : Type 0 where
  pub answered : List (List ℕ)
  pub bodies : List (List ℕ)
  pub replies : List Reply
  pub lines : HasLines input (answered ++ unanswered)
  pub counted : length answered ≡ count
  pub fit : AllByRecursion (λ line. length line ≤ longest_line) answered
  pub read : map decode_of answered ≡ map Ok bodies
  pub chain : Answered (AnswersAsRead calls) before.state bodies replies after.state
  pub written : Appends before.output after.output (flat_map reply_line replies)

-- nothing is written, and the state is the same
pub record LeavesBoth {S : Type 0} (before after : Moment S) : Type 0 where
  pub output : Keeps before.output after.output
  pub state : after.state ≡ before.state

-- a line is short enough, and spells no body
pub record RefusesText (line : List ℕ) : Type 0 where
  pub fits : length line ≤ longest_line
  pub no_text : IsNoText line

-- the line is answered, and its answer is written
pub record WritesAnswer {S : Type 0} (calls : Calls S) (line : List ℕ) (before after : Moment S)
    : Type 0 where
  pub reply : Reply
  pub answers : AnswersLine calls before.state line reply after.state
  pub written : Appends before.output after.output (reply_line reply)

-- the line is answered, and a beginning of its answer is written, but not the whole
pub record WritesPart {S : Type 0} (calls : Calls S) (line : List ℕ) (before after : Moment S)
    : Type 0 where
  pub reply : Reply
  pub count : ℕ
  pub answers : AnswersLine calls before.state line reply after.state
  pub partly : count < length (reply_line reply)
  pub written : Appends before.output after.output (take count (reply_line reply))

-- the line is answered, and nothing of its answer is written: never an answer that memory ran out
pub record LosesAnswer {S : Type 0} (calls : Calls S) (line : List ℕ) (before after : Moment S)
    : Type 0 where
  pub reply : Reply
  pub answers : AnswersLine calls before.state line reply after.state
  pub other : reply ≢ replies.NoMemory
  pub output : Keeps before.output after.output

-- how a fault ends it at the line of this number, the first of those that are not answered
abbrev pub StopsAt : {S : Type 0} → Calls S → ℕ → List (List ℕ) → Moment S → Moment S
    → PlayFault → Type 0
StopsAt calls number lines before after (faults.Text k) =
    (k ≡ number) × OnFirst lines RefusesText × LeavesBoth before after
StopsAt calls number lines before after (faults.Long k) =
    (k ≡ number) × OnFirst lines IsLong × LeavesBoth before after
StopsAt calls number lines before after faults.Read = LeavesBoth before after
StopsAt calls number lines before after faults.Write =
    OnFirst lines (λ line. WritesPart calls line before after)
StopsAt calls number lines before after faults.NoMemory =
    LeavesBoth before after ⊎ OnFirst lines (λ line. LosesAnswer calls line before after)

-- lines are answered, and then a fault ends it
pub record Stops {S : Type 0} (calls : Calls S) (input : Option (List ℕ)) (before after : Moment S)
    (fault : PlayFault) : Type 0 where
  pub count : ℕ
  pub unanswered : List (List ℕ)
  pub now : Moment S
  pub first : AnswersFirst calls input count unanswered before now
  pub stop : StopsAt calls (count + 1) unanswered now after fault

-- all lines of the input are answered, and this is their number; or some of them, until a fault
abbrev pub Played : {S : Type 0} → Calls S → Option (List ℕ) → Moment S → Moment S
    → Result ℕ PlayFault → Type 0
Played calls input before after (Ok count) = AnswersFirst calls input count [] before after
Played calls input before after (Err fault) = Stops calls input before after fault

-- one line is answered, or a fault ends it there
abbrev pub PlaysLine : {S : Type 0} → Calls S → ℕ → List ℕ → Moment S → Moment S
    → Result (Unit {0}) PlayFault → Type 0
PlaysLine calls number line before after (Ok _) = WritesAnswer calls line before after
PlaysLine calls number line before after (Err fault) =
    (others : List (List ℕ)) → StopsAt calls number (line ∷ others) before after fault

-- a reply's line is written; or a fault cuts it or loses it, but never one that memory ran out
abbrev pub WritesReply : Reply → Option (List ℕ) → Option (List ℕ) → Result (Unit {0}) PlayFault
    → Type 0
WritesReply reply before after (Ok _) = Appends before after (reply_line reply)
WritesReply reply before after (Err faults.Write) =
    (count : ℕ) × (count < length (reply_line reply))
    × Appends before after (take count (reply_line reply))
WritesReply reply before after (Err faults.NoMemory) = (reply ≢ replies.NoMemory) × Keeps before after
WritesReply reply before after (Err faults.Read) = ⊥
WritesReply reply before after (Err (faults.Text number)) = ⊥
WritesReply reply before after (Err (faults.Long number)) = ⊥
