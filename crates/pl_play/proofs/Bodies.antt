-- The reply to what a decoder read of a body, if there was memory for it.
use Rattle.std.proofs.Common.{◌≡◌, ◌≢◌, ℕ, List, Ok, refl, subst, sym}
use Rattle.pl_block.specs.Faults.{Fails}
use Rattle.pl_block.specs.declared.fault.Failed.{Failed}
use Rattle.pl_block.specs.declared.fault.Failed.TheVariants.{Malformed, NoMemory}
use Rattle.pl_table.specs.Requests.Request.{Query}
use Rattle.pl_core.specs.declared.reply.Reply.{Reply}
use Rattle.pl_wire.specs.Answering.{AnswersAsRead, AnswersReading, Calls, refusal}
use Rattle.pl_wire.specs.Reading.{request_reading}
use Rattle.pl_wire.specs.declared.fault.WireFault.{WireFault}

-- a call of the request that a body reads as is a reply to the body
pub called_as_read : {P : Type 0} (calls : Calls P) (body : List ℕ) (request : Query) (before after : P) (reply : Reply)
    → request_reading body ≡ Ok request → calls before request reply after → AnswersAsRead calls before body reply after
called_as_read calls body request before after reply exact call =
    subst (λ read. AnswersReading calls read before reply after) (sym exact) call

-- so is the refusal of the fault that a body has
pub refused_as_read : {P : Type 0} (calls : Calls P) (body : List ℕ) (fault : Failed WireFault) (before : P) (reply : Reply)
    → Fails fault (request_reading body) → fault ≢ NoMemory → reply ≡ refusal fault → AnswersAsRead calls before body reply before
refused_as_read calls body (Malformed fault) before reply exact has_room is =
    subst (λ read. AnswersReading calls read before reply before) (sym exact) (is, refl)
refused_as_read calls body NoMemory before reply exact has_room is = absurd (has_room refl)
