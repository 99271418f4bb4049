-- The first fault of a number and records, as tests that are made one after the other find it.
use Rattle.std.proofs.Common.{◌≡◌, ℕ, ◌+◌, ◌*◌, ◌<◌, ◌≤◌, true, false, ltb, List, [], ◌∷◌, ◌++◌, length, get_or, take, drop, Result, Ok, Err, refl, sym, ap, subst, ◌∙◌, inl, inr}
use Rattle.std.specs.List.{flat_map, AllByRecursion}
use Rattle.std.proofs.lemmas.Bool.{cases_lt, lt-ltb, le-ltb, ltb-false}
use Rattle.std.proofs.lemmas.List.{at_drop_more, at_drop_all, take_more}
use Rattle.pl_block.specs.declared.fault.Fault.{Fault}
use Rattle.pl_block.specs.declared.fault.Fault.TheVariants.{TooLong}
use Rattle.pl_block.specs.declared.fault.Failed.{Failed}
use Rattle.pl_block.specs.declared.record.Record.{Record}
use Rattle.pl_block.specs.Bounds.{last_lsn}
use Rattle.pl_block.specs.Block.{Content, touched, IsRecord}
use Rattle.pl_block.specs.Spelling.{record_spelling, block_spelling, IsBlock}
use Rattle.pl_block.specs.Faults.{◌>>=◌, Returns}
use Rattle.pl_block.specs.Reading.{lsn_fault, len_fault}
use Rattle.pl_block.specs.Making.{record_fault, records_fault, block_made}
use Rattle.pl_block.specs.declared.record.Record.TheVariants.{Put, Zero}
use Rattle.pl_block.proofs.Fields.{bind_ok, guard_ok}
use Rattle.pl_block.proofs.Records.{put_fault-none}
use Rattle.pl_block.proofs.Spellings.{length-counted, lsn_fault-ok, lsn_fault-none}

-- the record at a place, and those after it
records_fault-drop : (records : List Record) (i : ℕ) (entry : Record) → i < length records → entry ≡ get_or records i entry → records_fault (drop i records) ≡ (record_fault entry >>= λ _. records_fault (drop (i + 1) records))
unfolding records_fault
records_fault-drop records i entry lt is = at_drop_more records_fault records i entry lt ∙ ap (λ (r : Record). record_fault r >>= λ _. records_fault (drop (i + 1) records)) (sym is)

-- the faults of the records, by that of the record at a place
records_fault-by : (records : List Record) (i : ℕ) (entry : Record) (r : Result (Unit {0}) Fault) → i < length records → entry ≡ get_or records i entry → r ≡ record_fault entry → records_fault (drop i records) ≡ records_fault records → records_fault records ≡ (r >>= λ _. records_fault (drop (i + 1) records))
records_fault-by records i entry r lt is tested so_far =
    sym so_far ∙ records_fault-drop records i entry lt is ∙ ap (λ (x : Result (Unit {0}) Fault). x >>= λ _. records_fault (drop (i + 1) records)) (sym tested)

pub records_fail : (records : List Record) (i : ℕ) (entry : Record) (fault : Fault) → i < length records → entry ≡ get_or records i entry → Err fault ≡ record_fault entry → records_fault (drop i records) ≡ records_fault records → Err fault ≡ records_fault records
records_fail records i entry fault lt is tested so_far = sym (records_fault-by records i entry (Err fault) lt is tested so_far)

pub records_pass : (records : List Record) (i : ℕ) (entry : Record) (u : Unit {0}) → i < length records → entry ≡ get_or records i entry → Ok u ≡ record_fault entry → records_fault (drop i records) ≡ records_fault records → records_fault (drop (i + 1) records) ≡ records_fault records
records_pass records i entry u lt is tested so_far = sym (records_fault-by records i entry (Ok u) lt is tested so_far)

pub records_are_sound : (records : List Record) (i : ℕ) → length records ≤ i → records_fault (drop i records) ≡ records_fault records → Ok tt ≡ records_fault records
unfolding records_fault
records_are_sound records i le so_far = sym (at_drop_all records_fault records i le) ∙ so_far

AllByRecursion-push : {X : Type 0} (P : X → Type 0) (xs : List X) (x : X) → AllByRecursion P xs → P x → AllByRecursion P (xs ++ x ∷ [])
AllByRecursion-push P [] x all one = (one, tt)
AllByRecursion-push P (y ∷ ys) x all one = (all.0, AllByRecursion-push P ys x all.1 one)

-- one record more that was tested
pub records_more : (records : List Record) (i : ℕ) (entry : Record) → i < length records → entry ≡ get_or records i entry → IsRecord entry → AllByRecursion IsRecord (take i records) → AllByRecursion IsRecord (take (i + 1) records)
records_more records i entry lt is one all =
    rw (take_more records i entry lt) (AllByRecursion-push IsRecord (take i records) (get_or records i entry) all (subst IsRecord is one))

-- ---- what is made

pub made_fails-length : (fault : Fault) (lsn : ℕ) (records : List Record) (u v : Unit {0}) → lsn_fault lsn ≡ Ok u → records_fault records ≡ Ok v → len_fault (length (block_spelling (record { lsn = lsn; records = records }))) ≡ Err fault → block_made lsn records ≡ Err fault
unfolding block_made
made_fails-length fault lsn records u v ranged sound fails = rw (ranged, sound, fails) refl

pub made : (lsn : ℕ) (records : List Record) (u v w : Unit {0}) → lsn_fault lsn ≡ Ok u → records_fault records ≡ Ok v → len_fault (length (block_spelling (record { lsn = lsn; records = records }))) ≡ Ok w → block_made lsn records ≡ Ok (record { lsn = lsn; records = records })
unfolding block_made
made lsn records u v w ranged sound short = rw (ranged, sound, short) refl

-- what is made has passed the tests of the number and of the records
pub made_tested : (lsn : ℕ) (records : List Record) (b : Content) → block_made lsn records ≡ Ok b → (1 ≤ lsn) × (lsn ≤ last_lsn) × (records_fault records ≡ Ok tt)
unfolding block_made
made_tested lsn records b e =
    let number = bind_ok (lsn_fault lsn) _ b e in
    let ranged = lsn_fault-ok lsn number.value number.first in
    let sound = bind_ok (records_fault records) _ b number.next in
    (ranged.0, ranged.1, sound.first)

-- ---- what is a block is made

len_fault-none : (len : ℕ) → len ≤ 32768 → len_fault len ≡ Ok tt
len_fault-none len le = let within : ltb 32768 len ≡ false = le-ltb _ _ le in rw within refl

pub len_fault-ok : (len : ℕ) (u : Unit {0}) → len_fault len ≡ Ok u → len ≤ 32768
len_fault-ok len u e = ltb-false _ _ (guard_ok (ltb 32768 len) TooLong (Ok tt) u e).0

-- a length that was counted as far as a block goes has the fault of the whole
pub len_fault-counted : (counted len : ℕ) → (counted ≤ 32768 → counted ≡ len) → (32768 < counted → 32768 < len) → len_fault counted ≡ len_fault len
len_fault-counted counted len exact long =
    elim (cases_lt 32768 counted) [
      | inl lt ↦
          let over : ltb 32768 counted ≡ true = lt-ltb _ _ lt in
          let whole : ltb 32768 len ≡ true = lt-ltb _ _ (long lt) in
          rw (over, whole) refl
      | inr le ↦ ap len_fault (exact le)
    ]

-- so has one that was counted from equal lists
pub len_fault-told : (lsn : ℕ) (records : List Record) (ps : List ℕ) (rs : List Record) (counted : ℕ) → ps ≡ touched records → rs ≡ records
    → (counted ≤ 32768 → counted ≡ 12 + 2 * length ps + length (flat_map record_spelling rs)) → (32768 < counted → 32768 < 12 + 2 * length ps + length (flat_map record_spelling rs))
    → len_fault counted ≡ len_fault (length (block_spelling (record { lsn = lsn; records = records })))
len_fault-told lsn records ps rs counted told all exact long =
    let whole = length-counted lsn records ps rs told all in
    len_fault-counted counted (length (block_spelling (record { lsn = lsn; records = records }))) (λ le. exact le ∙ sym whole) (λ lt. rw whole (long lt))

record_fault-none : (r : Record) → IsRecord r → record_fault r ≡ Ok tt
record_fault-none (Put page offset bytes) h = put_fault-none offset (length bytes) h.1 h.2
record_fault-none (Zero page) h = refl

records_fault-none : (records : List Record) → AllByRecursion IsRecord records → records_fault records ≡ Ok tt
unfolding records_fault
records_fault-none [] h = refl
records_fault-none (r ∷ rs) h = rw (record_fault-none r h.0) (records_fault-none rs h.1)

pub made_again : (b : Content) → IsBlock b → block_made b.lsn b.records ≡ Ok b
made_again b h = made b.lsn b.records tt tt tt (lsn_fault-none b.lsn h.positive h.in_range) (records_fault-none b.records h.each) (len_fault-none (length (block_spelling b)) h.short)

pub is_made : (lsn : ℕ) (records : List Record) (r : Result Content (Failed Fault)) → Returns r (block_made lsn records) → IsBlock (record { lsn = lsn; records = records }) → Returns r (Ok (record { lsn = lsn; records = records }))
is_made lsn records r given is_block = subst (λ (read : Result Content Fault). Returns r read) (made_again (record { lsn = lsn; records = records }) is_block) given
