-- Reading a request, with the fault of the least code.
use Rattle.std.specs.Prelude.{◌≡◌, ◌≤◌, ◌⊎◌, ℕ, ◌==◌, Bool, false, true, List, [], ◌∷◌, length, take, drop, slice_index, Option, Some, None, IsSome, IfOk, Result, Ok, Err, nat_lt, if◌then◌else◌}
use Rattle.std.specs.Option.{ok_or}
use Rattle.std.specs.Int.{Width, w16, w32, w64, byte_len, from_be_bytes}
use Rattle.pl_block.specs.Block.{Content}
use Rattle.pl_block.specs.Faults.{◌>>=◌, Returns}
use Rattle.pl_block.specs.Reading.{block_reading}
use Rattle.pl_block.specs.declared.fault.Failed.{Failed}
use Rattle.pl_block.specs.declared.fault.Failed.TheVariants.{NoMemory}
use Rattle.pl_block.specs.declared.fault.Fault.{Fault}
use Rattle.pl_table.specs.declared.requests.head.Head.{Head}
use Rattle.pl_table.specs.declared.requests.op.Op.{Op}
use Rattle.pl_table.specs.declared.requests.op.Op.TheVariants as ops
use Rattle.pl_table.specs.declared.requests.op.Role.{Role}
use Rattle.pl_table.specs.declared.requests.act.Act.{Act}
use Rattle.pl_table.specs.declared.requests.act.Act.TheVariants.{Write, Offer, Report, Get, Pull, Advance, Status, Failover, SetTable, Audit, Tidy}
use Rattle.pl_table.specs.Requests.Ops.{role_of_number, op_of_number}
use Rattle.pl_table.specs.Requests.Request.{IsRequest, Query, is_in_range}
use Rattle.pl_wire.specs.Spelling.{request_spelling}
use Rattle.pl_wire.specs.declared.fault.WireFault.{WireFault}
use Rattle.pl_wire.specs.declared.fault.WireFault.TheVariants.{TooShort, UnknownRole, UnknownKind, EndsInField, BytesAfterEnd, OutOfRange, Block}

-- the number of this width at a place
abbrev pub number_in : Width → ℕ → List ℕ → ℕ
number_in w at bytes = from_be_bytes w (take (byte_len w) (drop at bytes))

-- the head that a body begins with
abbrev pub head_in : Role → List ℕ → Head
head_in role body = record { principal = number_in w32 0 body; token = take 16 (drop 4 body); role = role; database = number_in w32 21 body; epoch = number_in w32 25 body }

-- the value, if there are this many bytes, no fewer and no more
abbrev pub sized : {X : Type 0} → ℕ → List ℕ → X → Result X WireFault
sized size bytes x = if nat_lt (length bytes) size then Err EndsInField else if nat_lt size (length bytes) then Err BytesAfterEnd else Ok x

-- the block, or its fault as a body's
abbrev pub block_or_fault : Result Content Fault → Result Content WireFault
block_or_fault (Ok block) = Ok block
block_or_fault (Err fault) = Err (Block fault)

-- a copy, and then a block to the end
abbrev pub write_reading : List ℕ → Result Act WireFault
write_reading [] = Err EndsInField
write_reading (copy ∷ bytes) = block_or_fault (block_reading bytes) >>= λ block. Ok (Write copy block)

-- a block to the end
abbrev pub offer_reading : List ℕ → Result Act WireFault
offer_reading bytes = block_or_fault (block_reading bytes) >>= λ block. Ok (Offer block)

-- an LSN, and no more
abbrev pub report_reading : List ℕ → Result Act WireFault
report_reading bytes = sized 8 bytes (Report (number_in w64 0 bytes))

-- the flag that has a number
abbrev pub flag_of_number : ℕ → Option Bool
flag_of_number n = if n == 0 then Some false else if n == 1 then Some true else None

-- page, LSN and flag, and no more; a flag that is none is out of range
abbrev pub get_reading : List ℕ → Result Act WireFault
get_reading bytes = do
  flag ← sized 13 bytes (flag_of_number (slice_index bytes 12))
  exact ← ok_or flag OutOfRange
  Ok (Get (number_in w32 0 bytes) (number_in w64 4 bytes) exact)

-- partitions from and to, LSN and count, and no more
abbrev pub pull_reading : List ℕ → Result Act WireFault
pull_reading bytes = sized 14 bytes (Pull (number_in w16 0 bytes) (number_in w16 2 bytes) (number_in w64 4 bytes) (number_in w16 12 bytes))

-- partition and steps, and no more
abbrev pub advance_reading : List ℕ → Result Act WireFault
advance_reading bytes = sized 4 bytes (Advance (number_in w16 0 bytes) (number_in w16 2 bytes))

-- a principal, and no more
abbrev pub failover_reading : List ℕ → Result Act WireFault
failover_reading bytes = sized 4 bytes (Failover (number_in w32 0 bytes))

-- the number of an entry and a count, and no more
abbrev pub audit_reading : List ℕ → Result Act WireFault
audit_reading bytes = sized 10 bytes (Audit (number_in w64 0 bytes) (number_in w16 8 bytes))

-- the arguments of an operation; a text goes to the end, whether it is a table's or not
abbrev pub act_reading : Op → List ℕ → Result Act WireFault
act_reading ops.Write bytes = write_reading bytes
act_reading ops.Offer bytes = offer_reading bytes
act_reading ops.Report bytes = report_reading bytes
act_reading ops.Get bytes = get_reading bytes
act_reading ops.Pull bytes = pull_reading bytes
act_reading ops.Advance bytes = advance_reading bytes
act_reading ops.Status bytes = sized 0 bytes Status
act_reading ops.Failover bytes = failover_reading bytes
act_reading ops.SetTable bytes = Ok (SetTable bytes)
act_reading ops.Audit bytes = audit_reading bytes
act_reading ops.Tidy bytes = sized 0 bytes Tidy

-- a request of a head and an act, if the act is in its ranges
abbrev pub ranged : Head → Act → Result Query WireFault
ranged head act = if is_in_range act then Ok (record { head = head; act = act }) else Err OutOfRange

-- the head and the operation that a body begins with
unfoldable pub opening_reading : List ℕ → Result (Head × Op) WireFault
opening_reading body = if nat_lt (length body) 30 then Err TooShort else do
  role ← ok_or (role_of_number (slice_index body 20)) UnknownRole
  op ← ok_or (op_of_number (slice_index body 29)) UnknownKind
  Ok (head_in role body, op)

-- all of the bytes: a request, or the fault of the least code
unfoldable pub request_reading : List ℕ → Result Query WireFault
request_reading body = do
  opening ← opening_reading body
  act ← act_reading opening.1 (drop 30 body)
  ranged opening.0 act

-- an operation whose arguments are kept, and so ask for memory: a write with a copy, an offer, or a set_table
abbrev pub AsksMemory : Op → List ℕ → Type 0
AsksMemory op arguments = ((op ≡ ops.Write) × (1 ≤ length arguments)) ⊎ ((op ≡ ops.Offer) ⊎ (op ≡ ops.SetTable))

-- a body for which memory may run out: after a head whose role is known, an operation that asks for it
pub record MayLackMemory (body : List ℕ) : Type 0 where
  pub op : Op
  pub long : 30 ≤ length body
  pub role : IsSome (role_of_number (slice_index body 20))
  pub known : op_of_number (slice_index body 29) ≡ Some op
  pub asks : AsksMemory op (drop 30 body)

-- what a call returns of a body: what is read is a request, and the bytes are its spelling; bytes that spell a request are read as
-- that request, unless memory runs out; it is what the bytes read as, or out of memory; and memory runs out only for a body that asks for it
pub record ReadsRequest (body : List ℕ) (result : Result Query (Failed WireFault)) : Type 0 where
  pub found : IfOk result (λ q. IsRequest q × (body ≡ request_spelling q))
  pub only : (q : Query) → IsRequest q → body ≡ request_spelling q → Returns result (Ok q)
  pub exact : Returns result (request_reading body)
  pub no_memory : result ≡ Err NoMemory → MayLackMemory body
