-- Reading one after the other, as a loop does: what is read so far, before what is still read.
use Rattle.std.proofs.Common.{◌≡◌, ℕ, suc, ◌-◌, ◌+◌, ◌≤◌, ◌<◌, List, [], ◌∷◌, ◌++◌, length, take, drop, Result, Ok, Err, true, false, ltb, refl, sym, ◌∙◌, append_assoc, arith}
use Rattle.std.specs.Int.{w16, from_be_bytes}
use Rattle.std.proofs.lemmas.Bool.{lt-ltb, le-ltb}
use Rattle.std.proofs.lemmas.List.{append-nil}
use Rattle.pl_block.specs.declared.fault.Fault.{Fault}
use Rattle.pl_block.specs.declared.fault.Fault.TheVariants.{EndsInField, PartitionNotAbove}
use Rattle.pl_block.specs.declared.fault.Failed.{Failed}
use Rattle.pl_block.specs.declared.fault.Failed.TheVariants as faults
use Rattle.pl_block.specs.declared.record.Record.{Record}
use Rattle.pl_block.specs.Faults.{◌>>=◌, Fails}
use Rattle.pl_block.specs.Reading.{number_at, rising_at, record_at, records_at}

-- what was read before, and what is still read
abbrev pub with_front : {X : Type 0} → List X → Result (List X × List ℕ) Fault → Result (List X × List ℕ) Fault
with_front front read = read >>= λ x. Ok (front ++ x.0, x.1)

-- one more that was read
regroup : {X : Type 0} (front : List X) (first : X) (read : Result (List X × List ℕ) Fault) → with_front front (read >>= λ x. Ok (first ∷ x.0, x.1)) ≡ with_front (front ++ first ∷ []) read
regroup front first (Ok x) = let regrouped : front ++ (first ∷ x.0) ≡ (front ++ first ∷ []) ++ x.0 = simp append_assoc in rw regrouped refl
regroup front first (Err f) = refl

-- a number whose bytes are there
pub number_is : (bytes : List ℕ) (n : ℕ) (after : List ℕ) → 2 ≤ length bytes → n ≡ from_be_bytes w16 (take 2 bytes) → after ≡ drop 2 bytes → number_at w16 bytes ≡ Ok (n, after)
number_is bytes n after long value rest = let whole : ltb (length bytes) 2 ≡ false = le-ltb _ _ long in rw (whole, value, rest) refl

-- ---- partitions

-- too few bytes are a fault of the whole list
pub rising_cut : (front : List ℕ) (count i low : ℕ) (bytes : List ℕ) (total : Result (List ℕ × List ℕ) Fault) → i < count → length bytes < 2 → with_front front (rising_at (count - i) low bytes) ≡ total → total ≡ Err EndsInField
unfolding rising_at
rising_cut front count i low bytes total lt short so_far =
    let more : count - i ≡ suc (count - (i + 1)) = omega arith in
    let cut : ltb (length bytes) 2 ≡ true = lt-ltb _ _ short in
    let one : with_front front (rising_at (count - i) low bytes) ≡ Err EndsInField = rw (more, cut) refl in
    sym so_far ∙ one

-- so is a partition that is not above
pub rising_falls : (front : List ℕ) (count i low : ℕ) (bytes : List ℕ) (first : ℕ) (after : List ℕ) (total : Result (List ℕ × List ℕ) Fault) → i < count → number_at w16 bytes ≡ Ok (first, after) → first < low
    → with_front front (rising_at (count - i) low bytes) ≡ total → total ≡ Err PartitionNotAbove
unfolding rising_at
rising_falls front count i low bytes first after total lt read falls so_far =
    let more : count - i ≡ suc (count - (i + 1)) = omega arith in
    let below : ltb first low ≡ true = lt-ltb _ _ falls in
    let one : with_front front (rising_at (count - i) low bytes) ≡ Err PartitionNotAbove = rw (more, read, below) refl in
    sym so_far ∙ one

pub rising_goes_on : (front : List ℕ) (count i low : ℕ) (bytes : List ℕ) (first : ℕ) (after : List ℕ) (total : Result (List ℕ × List ℕ) Fault) → i < count → number_at w16 bytes ≡ Ok (first, after) → low ≤ first
    → with_front front (rising_at (count - i) low bytes) ≡ total → with_front (front ++ first ∷ []) (rising_at (count - (i + 1)) (first + 1) after) ≡ total
unfolding rising_at
rising_goes_on front count i low bytes first after total lt read above so_far =
    let more : count - i ≡ suc (count - (i + 1)) = omega arith in
    let rises : ltb first low ≡ false = le-ltb _ _ above in
    let one : with_front front (rising_at (count - i) low bytes) ≡ with_front (front ++ first ∷ []) (rising_at (count - (i + 1)) (first + 1) after) = rw (more, read, rises) (regroup front first (rising_at (count - (i + 1)) (first + 1) after)) in
    sym one ∙ so_far

pub rising_is_done : (front : List ℕ) (count i low : ℕ) (bytes : List ℕ) (total : Result (List ℕ × List ℕ) Fault) → count ≤ i → with_front front (rising_at (count - i) low bytes) ≡ total → total ≡ Ok (front, bytes)
unfolding rising_at
rising_is_done front count i low bytes total le so_far =
    let none : count - i ≡ 0 = omega arith in
    let one : with_front front (rising_at (count - i) low bytes) ≡ Ok (front, bytes) = rw none (rw append-nil refl) in
    sym so_far ∙ one

-- ---- records

pub records_go_on : (front : List Record) (count i : ℕ) (bytes : List ℕ) (first : Record) (after : List ℕ) (total : Result (List Record × List ℕ) Fault) → i < count → record_at bytes ≡ Ok (first, after)
    → with_front front (records_at (count - i) bytes) ≡ total → with_front (front ++ first ∷ []) (records_at (count - (i + 1)) after) ≡ total
unfolding records_at
records_go_on front count i bytes first after total lt read so_far =
    let more : count - i ≡ suc (count - (i + 1)) = omega arith in
    let one : with_front front (records_at (count - i) bytes) ≡ with_front (front ++ first ∷ []) (records_at (count - (i + 1)) after) = rw (more, read) (regroup front first (records_at (count - (i + 1)) after)) in
    sym one ∙ so_far

-- the fault of a record is the fault of all
pub records_end : (e : Failed Fault) (front : List Record) (count i : ℕ) (bytes : List ℕ) (total : Result (List Record × List ℕ) Fault) → i < count → Fails e (record_at bytes)
    → with_front front (records_at (count - i) bytes) ≡ total → Fails e total
unfolding records_at
records_end faults.NoMemory front count i bytes total lt fails so_far = tt
records_end (faults.Malformed f) front count i bytes total lt fails so_far =
    let more : count - i ≡ suc (count - (i + 1)) = omega arith in
    let one : with_front front (records_at (count - i) bytes) ≡ Err f = rw (more, fails) refl in
    sym so_far ∙ one

pub records_are_done : (front : List Record) (count i : ℕ) (bytes : List ℕ) (total : Result (List Record × List ℕ) Fault) → count ≤ i → with_front front (records_at (count - i) bytes) ≡ total → total ≡ Ok (front, bytes)
unfolding records_at
records_are_done front count i bytes total le so_far =
    let none : count - i ≡ 0 = omega arith in
    let one : with_front front (records_at (count - i) bytes) ≡ Ok (front, bytes) = rw none (rw append-nil refl) in
    sym so_far ∙ one
