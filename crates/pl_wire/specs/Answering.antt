-- What answers to bodies are: calls of the requests that they spell, or faults.
use Rattle.std.specs.Prelude.{◌≡◌, ℕ, ◌⊎◌, List, [], ◌∷◌, ◌++◌, Result, Ok, Err}
use Rattle.pl_block.specs.declared.fault.Failed.{Failed}
use Rattle.pl_block.specs.declared.fault.Failed.TheVariants.{Malformed, NoMemory}
use Rattle.pl_table.specs.Requests.Request.{Query}
use Rattle.pl_core.specs.declared.reply.Reply.{Reply}
use Rattle.pl_core.specs.declared.reply.Reply.TheVariants as replies
use Rattle.pl_core.specs.Reply.{FitsReply}
use Rattle.pl_wire.specs.Codes.{body_fault_code}
use Rattle.pl_wire.specs.FrameWriting.{reply_frame}
use Rattle.pl_wire.specs.Reading.{request_reading, MayLackMemory}
use Rattle.pl_wire.specs.declared.fault.WireFault.{WireFault}

-- which calls there may be: the state before, the request, the reply, and the state after
abbrev pub Calls : Type 0 → Type 1
Calls P = P → Query → Reply → P → Type 0

-- how a body may be answered: the state before, the body, the reply, and the state after
abbrev pub Answers : Type 0 → Type 1
Answers P = P → List ℕ → Reply → P → Type 0

-- what was read as a request is called; for any other body the code of its fault is replied, without a call
abbrev pub AnswersReading : {P : Type 0} → Calls P → Result Query WireFault → P → Reply → P → Type 0
AnswersReading calls (Ok request) before reply after = calls before request reply after
AnswersReading calls (Err fault) before reply after = (reply ≡ replies.Malformed (body_fault_code fault)) × (after ≡ before)

-- what a decoder read of a body is answered: a request is called; a fault, or that there was no memory, is replied without a call
abbrev pub AnswersRead : {P : Type 0} → Calls P → Result Query (Failed WireFault) → P → Reply → P → Type 0
AnswersRead calls (Ok request) before reply after = calls before request reply after
AnswersRead calls (Err (Malformed fault)) before reply after = (reply ≡ replies.Malformed (body_fault_code fault)) × (after ≡ before)
AnswersRead calls (Err NoMemory) before reply after = (reply ≡ replies.NoMemory) × (after ≡ before)

-- the reply to a body that is no request, or that found no memory
abbrev pub refusal : Failed WireFault → Reply
refusal (Malformed fault) = replies.Malformed (body_fault_code fault)
refusal NoMemory = replies.NoMemory

-- a body is answered, by what was read of it, and the frame of the reply comes after these bytes
pub record PutsAnswer {P : Type 0} (calls : Calls P) (read : Result Query (Failed WireFault)) (before : P) (old : List ℕ) (after : P) (new : List ℕ) : Type 0 where
  pub reply : Reply
  pub answers : AnswersRead calls read before reply after
  pub fits : FitsReply reply
  pub frame : new ≡ old ++ reply_frame reply

-- a body is answered as what it reads as
abbrev pub AnswersAsRead : {P : Type 0} → Calls P → P → List ℕ → Reply → P → Type 0
AnswersAsRead calls before body reply after = AnswersReading calls (request_reading body) before reply after

-- a body that asks for memory finds none: there is no call
abbrev pub LacksMemory : {P : Type 0} → P → List ℕ → Reply → P → Type 0
LacksMemory before body reply after = MayLackMemory body × (reply ≡ replies.NoMemory) × (after ≡ before)

-- the reply to a body, even if there is no memory for what it keeps
abbrev pub AnswersBody : {P : Type 0} → Calls P → P → List ℕ → Reply → P → Type 0
AnswersBody calls before body reply after = AnswersAsRead calls before body reply after ⊎ LacksMemory before body reply after

-- each body is answered by its reply, and each answer begins with the state that the one before it left
abbrev pub Answered : {P : Type 0} → Answers P → P → List (List ℕ) → List Reply → P → Type 0
Answered answers before [] [] after = after ≡ before
Answered answers before [] (reply ∷ replies) after = ⊥
Answered answers before (body ∷ bodies) [] after = ⊥
Answered answers before (body ∷ bodies) (reply ∷ replies) after =
    (now : _) × answers before body reply now × Answered answers now bodies replies after
