-- Reading a block from left to right, with the first fault that is met.
use Rattle.std.specs.Prelude.{ℕ, zero, suc, ◌+◌, ◌||◌, List, [], ◌∷◌, length, take, drop, Result, Ok, Err, nat_eq, nat_lt, ◌==◌, if◌then◌else◌}
use Rattle.std.specs.Cmp.Lexicographic.{pointwise}
use Rattle.std.specs.Int.{Width, w16, w32, w64, byte_len, from_be_bytes}
use Rattle.pl_block.specs.Bounds.{last_lsn, longest_block, page_size}
use Rattle.pl_block.specs.declared.fault.Fault.{Fault}
use Rattle.pl_block.specs.declared.fault.Fault.TheVariants.{EndsInField, NumberOutOfRange, PartitionNotAbove, UnknownKind, EmptyPut, PutPastPage, BytesAfterEnd, WrongAnnotations, TooLong}
use Rattle.pl_block.specs.declared.record.Record.{Record}
use Rattle.pl_block.specs.declared.record.Record.TheVariants.{Put, Zero}
use Rattle.pl_block.specs.Block.{Content, touched}
use Rattle.pl_block.specs.Faults.{◌>>=◌}

-- a number of this many bytes
abbrev pub number_at : Width → List ℕ → Result (ℕ × List ℕ) Fault
number_at w bytes = if nat_lt (length bytes) (byte_len w) then Err EndsInField else Ok (from_be_bytes w (take (byte_len w) bytes), drop (byte_len w) bytes)

-- the fault of a block's LSN, if any: it is 1 to last_lsn
abbrev pub lsn_fault : ℕ → Result (Unit {0}) Fault
lsn_fault lsn = if lsn == 0 || nat_lt last_lsn lsn then Err NumberOutOfRange else Ok tt

-- the fault of a Put of this many bytes at an offset, if any: it has bytes, and they end within its page
abbrev pub put_fault : ℕ → ℕ → Result (Unit {0}) Fault
put_fault offset len = if len == 0 then Err EmptyPut else if nat_lt page_size (offset + len) then Err PutPastPage else Ok tt

-- the fault of this many bytes of a block, if any: they are at most longest_block
abbrev pub len_fault : ℕ → Result (Unit {0}) Fault
len_fault len = if nat_lt longest_block len then Err TooLong else Ok tt

-- the block's LSN
unfoldable pub lsn_at : List ℕ → Result (ℕ × List ℕ) Fault
lsn_at bytes = number_at w64 bytes >>= λ lsn. lsn_fault lsn.0 >>= λ _. Ok lsn

-- this many partitions, the first at least low, each above the one before
unfoldable pub rising_at : ℕ → ℕ → List ℕ → Result (List ℕ × List ℕ) Fault
rising_at zero low bytes = Ok ([], bytes)
rising_at (suc n) low bytes = do
  first ← number_at w16 bytes
  if nat_lt first.0 low then Err PartitionNotAbove else (rising_at n (first.0 + 1) first.1 >>= λ others. Ok (first.0 ∷ others.0, others.1))

-- a count, and that many partitions
unfoldable pub annotations_at : List ℕ → Result (List ℕ × List ℕ) Fault
annotations_at bytes = do
  count ← number_at w16 bytes
  rising_at count.0 0 count.1

-- page, offset and length, which are tested, and then that many bytes
unfoldable pub put_at : List ℕ → Result (Record × List ℕ) Fault
put_at bytes = do
  page ← number_at w32 bytes
  offset ← number_at w16 page.1
  len ← number_at w16 offset.1
  put_fault offset.0 len.0 >>= λ _. if nat_lt (length len.1) len.0 then Err EndsInField else Ok (Put page.0 offset.0 (take len.0 len.1), drop len.0 len.1)

-- page
unfoldable pub zero_at : List ℕ → Result (Record × List ℕ) Fault
zero_at bytes = do
  page ← number_at w32 bytes
  Ok (Zero page.0, page.1)

-- a kind, and what the kind has
unfoldable pub record_at : List ℕ → Result (Record × List ℕ) Fault
record_at [] = Err EndsInField
record_at (kind ∷ rest) = if kind == 1 then put_at rest else if kind == 2 then zero_at rest else Err UnknownKind

-- this many records
unfoldable pub records_at : ℕ → List ℕ → Result (List Record × List ℕ) Fault
records_at zero bytes = Ok ([], bytes)
records_at (suc n) bytes = do
  first ← record_at bytes
  others ← records_at n first.1
  Ok (first.0 ∷ others.0, others.1)

-- the fault of annotations, if any: they are the partitions that the records touch
abbrev pub annotations_fault : List ℕ → List Record → Result (Unit {0}) Fault
annotations_fault partitions records = if pointwise nat_eq partitions (touched records) then Ok tt else Err WrongAnnotations

-- all of the bytes: a block, or the fault that is met first
unfoldable pub block_reading : List ℕ → Result Content Fault
block_reading bytes = len_fault (length bytes) >>= λ _. do
  lsn ← lsn_at bytes
  partitions ← annotations_at lsn.1
  count ← number_at w16 partitions.1
  records ← records_at count.0 count.1
  if nat_lt 0 (length records.1) then Err BytesAfterEnd else (annotations_fault partitions.0 records.0 >>= λ _. Ok (record { lsn = lsn.0; records = records.0 }))
