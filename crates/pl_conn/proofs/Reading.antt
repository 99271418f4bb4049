-- Bytes that are taken where they lie; what a body spells, and the reply to it.
use Rattle.std.proofs.Common.{◌≡◌, ◌≤◌, ℕ, ◌==◌, Bool, true, false, List, [], ◌++◌, length, take, drop, Option, None, Some, Result, Ok, Err, if◌then◌else◌, refl, subst, sym, ap, ◌∙◌, inl, inr, arith}
use Rattle.std.specs.Io.BufRead.{DropsConsumable}
use Rattle.std.specs.Io.KnownBytes.{Consumes, prepend_known}
use Rattle.std.proofs.lemmas.List.{take-append-drop, take-append-le}
use Rattle.pl_block.specs.Faults.{Returns}
use Rattle.pl_block.specs.declared.fault.Failed.{Failed}
use Rattle.pl_block.specs.declared.fault.Failed.TheVariants.{Malformed, NoMemory}
use Rattle.pl_table.specs.Requests.Request.{Query}
use Rattle.pl_core.specs.declared.reply.Reply.{Reply}
use Rattle.pl_wire.specs.Answering.{AnswersBody, AnswersRead, AnswersReading, Calls}
use Rattle.pl_wire.specs.Reading.{MayLackMemory, request_reading}
use Rattle.pl_wire.specs.declared.fault.WireFault.{WireFault}

-- a reply to what was read of a body is a reply to the body
pub answers_body : {P : Type 0} (calls : Calls P) (body : List ℕ) (read : Result Query (Failed WireFault)) (before after : P) (reply : Reply)
    → Returns read (request_reading body) → (read ≡ Err NoMemory → MayLackMemory body)
    → AnswersRead calls read before reply after → AnswersBody calls before body reply after
answers_body calls body (Ok request) before after reply exact lacks answers =
    inl (subst (λ r. AnswersReading calls r before reply after) (sym exact) answers)
answers_body calls body (Err (Malformed fault)) before after reply exact lacks answers =
    inl (subst (λ r. AnswersReading calls r before reply after) (sym exact) answers)
answers_body calls body (Err NoMemory) before after reply exact lacks answers = inr (lacks refl, answers.0, answers.1)

-- bytes of a buffer before the known ones are taken
takes_known : (known new : Option (List ℕ)) (buffer : List ℕ) (count : ℕ) → count ≤ length buffer
    → DropsConsumable (prepend_known buffer known) new (Some (length buffer)) count → Consumes (prepend_known buffer known) new (take count buffer)
takes_known None new buffer count few drops = tt
takes_known (Some xs) new buffer count few drops = subst (λ (left : Option (List ℕ)). Consumes (Some (buffer ++ xs)) left (take count buffer)) (sym (drops few))
    (sym (take-append-drop count (buffer ++ xs)) ∙ ap (λ (l : List ℕ). l ++ drop count (buffer ++ xs)) (take-append-le count buffer xs few))

-- bytes of a reader's buffer are taken; none are known if it has no room
pub takes_buffered : (has_no_room : Bool) (known new : Option (List ℕ)) (buffer : List ℕ) (count : ℕ) → count ≤ length buffer
    → DropsConsumable (if has_no_room then None else prepend_known buffer known) new (Some (length buffer)) count
    → Consumes (if has_no_room then None else prepend_known buffer known) new (take count buffer)
takes_buffered true known new buffer count few drops = tt
takes_buffered false known new buffer count few drops = takes_known known new buffer count few drops
