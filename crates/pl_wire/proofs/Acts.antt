-- Arguments that are read are those of their spelling, and spelled arguments are read again; and each operation has its number.
use Rattle.std.proofs.Common.{◌≡◌, ℕ, suc, ◌+◌, ◌^◌, ◌≤◌, Bool, true, false, cond, ltb, List, [], ◌∷◌, ◌++◌, length, drop, get_or, Some, Result, Ok, Err, refl, sym, ap, subst, ◌∙◌, arith}
use Rattle.std.specs.Option.{ok_or}
use Rattle.std.specs.Int.{Width, w16, w32, w64, byte_len, to_be_bytes}
use Rattle.std.proofs.lemmas.Bool.{ltb-false}
use Rattle.std.proofs.lemmas.Bool.Decides.{nat_tests}
use Rattle.std.proofs.lemmas.List.{append-nil, length-drop, nil_from_length}
use Rattle.std.proofs.lemmas.Nat.{from_be_bytes-to_be_bytes_2, from_be_bytes-to_be_bytes_4, from_be_bytes-to_be_bytes_8}
use Rattle.pl_block.specs.Block.{Content}
use Rattle.pl_block.specs.Faults.{◌>>=◌}
use Rattle.pl_block.specs.Laws.{AreBytes, OneSpelling}
use Rattle.pl_block.specs.Reading.{block_reading}
use Rattle.pl_block.specs.declared.fault.Fault.{Fault}
use Rattle.pl_table.specs.declared.requests.op.Op.{Op}
use Rattle.pl_table.specs.declared.requests.op.Op.TheVariants as ops
use Rattle.pl_table.specs.declared.requests.act.Act.{Act}
use Rattle.pl_table.specs.declared.requests.act.Act.TheVariants.{Write, Offer, Report, Get, Pull, Advance, Status, Failover, SetTable, Audit, Tidy}
use Rattle.pl_table.specs.Requests.Ops.{op_number, op_of_number}
use Rattle.pl_table.specs.Requests.Request.{op_of, FitsActFields}
use Rattle.pl_wire.specs.declared.fault.WireFault.TheVariants.{EndsInField, BytesAfterEnd, OutOfRange}
use Rattle.pl_wire.specs.Spelling.{flag_number, act_spelling}
use Rattle.pl_wire.specs.Reading.{number_in, sized, block_or_fault, write_reading, offer_reading, report_reading, flag_of_number, get_reading, pull_reading, advance_reading, failover_reading, audit_reading, act_reading}
use Rattle.pl_wire.proofs.Numbers.{IsNumbered, told_first}
use Rattle.pl_wire.proofs.Steps.{bound, done, ok_is, ok_or-some, guard_ok}
use Rattle.pl_wire.proofs.Places.{IsWide, wide16, wide32, wide64, number_cut, number_below, byte_cut}

-- what a value of sized bytes says
sized_ok : {X : Type 0} (size : ℕ) (bytes : List ℕ) (x y : X) → sized size bytes x ≡ Ok y → (length bytes ≡ size) × (x ≡ y)
sized_ok size bytes x y e =
    let a = guard_ok (ltb (length bytes) size) EndsInField (cond (ltb size (length bytes)) (Err BytesAfterEnd) (Ok x)) y e in
    let b = guard_ok (ltb size (length bytes)) BytesAfterEnd (Ok x) y a.1 in
    (omega (arith, ltb-false _ _ a.0, ltb-false _ _ b.0), ok_is x y b.1)

-- an act, and the arguments that it was read from
pub record IsRead (op : Op) (bytes : List ℕ) (act : Act) : Type 0 where
  pub of_op : op_of act ≡ op
  pub fields : FitsActFields act
  pub spelled : bytes ≡ act_spelling act

-- ---- blocks and a text

pub block_is : (r : Result Content Fault) (b : Content) → block_or_fault r ≡ Ok b → r ≡ Ok b
block_is (Ok x) b e = cc
block_is (Err f) b e = absurd cc

write_takes : OneSpelling → (bytes : List ℕ) (act : Act) → AreBytes bytes → write_reading bytes ≡ Ok act → IsRead ops.Write bytes act
write_takes law [] act fits e = absurd cc
write_takes law (copy ∷ bytes) act fits e =
    bound (block_or_fault (block_reading bytes)) (λ block. Ok (Write copy block)) act e (λ block read made.
    let b = law.spelled bytes block (λ i. fits (suc i)) (block_is (block_reading bytes) block read) in
    subst (IsRead ops.Write (copy ∷ bytes)) (ok_is (Write copy block) act made) (record { of_op = refl; fields = (fits 0, b.0); spelled = ap (λ (t : List ℕ). copy ∷ t) b.1 }))

offer_takes : OneSpelling → (bytes : List ℕ) (act : Act) → AreBytes bytes → offer_reading bytes ≡ Ok act → IsRead ops.Offer bytes act
offer_takes law bytes act fits e =
    bound (block_or_fault (block_reading bytes)) (λ block. Ok (Offer block)) act e (λ block read made.
    let b = law.spelled bytes block fits (block_is (block_reading bytes) block read) in
    subst (IsRead ops.Offer bytes) (ok_is (Offer block) act made) (record { of_op = refl; fields = b.0; spelled = b.1 }))

set_table_takes : (bytes : List ℕ) (act : Act) → done (SetTable bytes) ≡ Ok act → IsRead ops.SetTable bytes act
set_table_takes bytes act e = subst (IsRead ops.SetTable bytes) (ok_is (SetTable bytes) act e) (record { of_op = refl; fields = tt; spelled = refl })

-- ---- arguments of one size

-- nothing comes after the last of this many bytes
nothing_after : (n : ℕ) (bytes : List ℕ) → length bytes ≡ n → drop n bytes ≡ []
nothing_after n bytes len = nil_from_length (drop n bytes) (omega (arith, length-drop n bytes))

-- the last number of this many bytes
last_number : (w : Width) (limit : ℕ) → IsWide w limit → (at : ℕ) (bytes : List ℕ) → AreBytes bytes → length bytes ≡ at + byte_len w → drop at bytes ≡ to_be_bytes w (number_in w at bytes)
last_number w limit wide at bytes fits len =
    number_cut w limit wide at bytes fits (omega (arith, len)) ∙ ap (λ (t : List ℕ). to_be_bytes w (number_in w at bytes) ++ t) (nothing_after (at + byte_len w) bytes len) ∙ append-nil (to_be_bytes w (number_in w at bytes))

-- a number before what comes after it
number_before : (w : Width) (limit : ℕ) → IsWide w limit → (at : ℕ) (bytes rest : List ℕ) → AreBytes bytes → at + byte_len w ≤ length bytes → drop (at + byte_len w) bytes ≡ rest → drop at bytes ≡ to_be_bytes w (number_in w at bytes) ++ rest
number_before w limit wide at bytes rest fits long later =
    number_cut w limit wide at bytes fits long ∙ ap (λ (t : List ℕ). to_be_bytes w (number_in w at bytes) ++ t) later

report_takes : (bytes : List ℕ) (act : Act) → AreBytes bytes → report_reading bytes ≡ Ok act → IsRead ops.Report bytes act
report_takes bytes act fits e =
    let s = sized_ok 8 bytes (Report (number_in w64 0 bytes)) act e in
    let whole = last_number w64 (2 ^ 64) wide64 0 bytes fits s.0 in
    subst (IsRead ops.Report bytes) s.1 (record { of_op = refl; fields = number_below w64 (2 ^ 64) wide64 0 bytes fits; spelled = whole })

flag_told : (n : ℕ) (flag : Bool) → flag_of_number n ≡ Some flag → n ≡ flag_number flag
flag_told n false e = grind (arith, nat_tests)
flag_told n true e = grind (arith, nat_tests)

get_takes : (bytes : List ℕ) (act : Act) → AreBytes bytes → get_reading bytes ≡ Ok act → IsRead ops.Get bytes act
get_takes bytes act fits e =
    bound (sized 13 bytes (flag_of_number (get_or bytes 12 0))) _ act e (λ flag is_sized e1.
    bound (ok_or flag OutOfRange) _ act e1 (λ exact known made.
    let s = sized_ok 13 bytes (flag_of_number (get_or bytes 12 0)) flag is_sized in
    let told : get_or bytes 12 0 ≡ flag_number exact = flag_told (get_or bytes 12 0) exact (s.1 ∙ ok_or-some flag OutOfRange exact known) in
    let three : drop 12 bytes ≡ flag_number exact ∷ [] = byte_cut 12 bytes (omega (arith, s.0)) ∙ ap (λ (n : ℕ). n ∷ drop 13 bytes) told ∙ ap (λ (t : List ℕ). flag_number exact ∷ t) (nothing_after 13 bytes s.0) in
    let two : drop 4 bytes ≡ to_be_bytes w64 (number_in w64 4 bytes) ++ (flag_number exact ∷ []) = number_before w64 (2 ^ 64) wide64 4 bytes (flag_number exact ∷ []) fits (omega (arith, s.0)) three in
    let whole = number_before w32 (2 ^ 32) wide32 0 bytes (to_be_bytes w64 (number_in w64 4 bytes) ++ (flag_number exact ∷ [])) fits (omega (arith, s.0)) two in
    subst (IsRead ops.Get bytes) (ok_is (Get (number_in w32 0 bytes) (number_in w64 4 bytes) exact) act made) (record { of_op = refl; fields = (number_below w32 (2 ^ 32) wide32 0 bytes fits, number_below w64 (2 ^ 64) wide64 4 bytes fits); spelled = whole })))

pull_takes : (bytes : List ℕ) (act : Act) → AreBytes bytes → pull_reading bytes ≡ Ok act → IsRead ops.Pull bytes act
pull_takes bytes act fits e =
    let lo = number_in w16 0 bytes in
    let hi = number_in w16 2 bytes in
    let lsn = number_in w64 4 bytes in
    let max = number_in w16 12 bytes in
    let s = sized_ok 14 bytes (Pull lo hi lsn max) act e in
    let four = last_number w16 (2 ^ 16) wide16 12 bytes fits s.0 in
    let three = number_before w64 (2 ^ 64) wide64 4 bytes (to_be_bytes w16 max) fits (omega (arith, s.0)) four in
    let two = number_before w16 (2 ^ 16) wide16 2 bytes (to_be_bytes w64 lsn ++ to_be_bytes w16 max) fits (omega (arith, s.0)) three in
    let whole = number_before w16 (2 ^ 16) wide16 0 bytes (to_be_bytes w16 hi ++ (to_be_bytes w64 lsn ++ to_be_bytes w16 max)) fits (omega (arith, s.0)) two in
    let below = λ (at : ℕ). number_below w16 (2 ^ 16) wide16 at bytes fits in
    subst (IsRead ops.Pull bytes) s.1 (record { of_op = refl; fields = (below 0, below 2, number_below w64 (2 ^ 64) wide64 4 bytes fits, below 12); spelled = whole })

advance_takes : (bytes : List ℕ) (act : Act) → AreBytes bytes → advance_reading bytes ≡ Ok act → IsRead ops.Advance bytes act
advance_takes bytes act fits e =
    let s = sized_ok 4 bytes (Advance (number_in w16 0 bytes) (number_in w16 2 bytes)) act e in
    let two = last_number w16 (2 ^ 16) wide16 2 bytes fits s.0 in
    let whole = number_before w16 (2 ^ 16) wide16 0 bytes (to_be_bytes w16 (number_in w16 2 bytes)) fits (omega (arith, s.0)) two in
    let below = λ (at : ℕ). number_below w16 (2 ^ 16) wide16 at bytes fits in
    subst (IsRead ops.Advance bytes) s.1 (record { of_op = refl; fields = (below 0, below 2); spelled = whole })

-- an act without arguments
bare_takes : (act made : Act) (bytes : List ℕ) → FitsActFields made → act_spelling made ≡ [] → sized 0 bytes made ≡ Ok act → IsRead (op_of made) bytes act
bare_takes act made bytes fields none e =
    let s = sized_ok 0 bytes made act e in
    subst (IsRead (op_of made) bytes) s.1 (record { of_op = refl; fields = fields; spelled = nil_from_length bytes s.0 ∙ sym none })

failover_takes : (bytes : List ℕ) (act : Act) → AreBytes bytes → failover_reading bytes ≡ Ok act → IsRead ops.Failover bytes act
failover_takes bytes act fits e =
    let s = sized_ok 4 bytes (Failover (number_in w32 0 bytes)) act e in
    let whole = last_number w32 (2 ^ 32) wide32 0 bytes fits s.0 in
    subst (IsRead ops.Failover bytes) s.1 (record { of_op = refl; fields = number_below w32 (2 ^ 32) wide32 0 bytes fits; spelled = whole })

audit_takes : (bytes : List ℕ) (act : Act) → AreBytes bytes → audit_reading bytes ≡ Ok act → IsRead ops.Audit bytes act
audit_takes bytes act fits e =
    let s = sized_ok 10 bytes (Audit (number_in w64 0 bytes) (number_in w16 8 bytes)) act e in
    let two = last_number w16 (2 ^ 16) wide16 8 bytes fits s.0 in
    let whole = number_before w64 (2 ^ 64) wide64 0 bytes (to_be_bytes w16 (number_in w16 8 bytes)) fits (omega (arith, s.0)) two in
    subst (IsRead ops.Audit bytes) s.1 (record { of_op = refl; fields = (number_below w64 (2 ^ 64) wide64 0 bytes fits, number_below w16 (2 ^ 16) wide16 8 bytes fits); spelled = whole })

-- ---- all operations

op_told : (n : ℕ) (op : Op) → op_of_number n ≡ Some op → n ≡ op_number op
op_told n op e = told_first op_number (ops.Write ∷ ops.Offer ∷ ops.Report ∷ ops.Get ∷ ops.Pull ∷ ops.Advance ∷ ops.Status ∷ ops.Failover ∷ ops.SetTable ∷ ops.Audit ∷ ops.Tidy ∷ []) n op e

op_found : (op : Op) → op_of_number (op_number op) ≡ Some op
op_found ops.Write = refl
op_found ops.Offer = refl
op_found ops.Report = refl
op_found ops.Get = refl
op_found ops.Pull = refl
op_found ops.Advance = refl
op_found ops.Status = refl
op_found ops.Failover = refl
op_found ops.SetTable = refl
op_found ops.Audit = refl
op_found ops.Tidy = refl

pub ops_numbered : IsNumbered op_of_number op_number
ops_numbered = record { told = op_told; found = op_found }

pub act_takes : OneSpelling → (op : Op) (bytes : List ℕ) (act : Act) → AreBytes bytes → act_reading op bytes ≡ Ok act → IsRead op bytes act
act_takes law ops.Write bytes act fits e = write_takes law bytes act fits e
act_takes law ops.Offer bytes act fits e = offer_takes law bytes act fits e
act_takes law ops.Report bytes act fits e = report_takes bytes act fits e
act_takes law ops.Get bytes act fits e = get_takes bytes act fits e
act_takes law ops.Pull bytes act fits e = pull_takes bytes act fits e
act_takes law ops.Advance bytes act fits e = advance_takes bytes act fits e
act_takes law ops.Status bytes act fits e = bare_takes act Status bytes tt refl e
act_takes law ops.Failover bytes act fits e = failover_takes bytes act fits e
act_takes law ops.SetTable bytes act fits e = set_table_takes bytes act e
act_takes law ops.Audit bytes act fits e = audit_takes bytes act fits e
act_takes law ops.Tidy bytes act fits e = bare_takes act Tidy bytes tt refl e

pub act_again : OneSpelling → (act : Act) → FitsActFields act → act_reading (op_of act) (act_spelling act) ≡ Ok act
act_again law (Write copy block) h = ap (λ (r : Result Content Fault). block_or_fault r >>= λ b. done (Write copy b)) (law.again block h.1)
act_again law (Offer block) h = ap (λ (r : Result Content Fault). block_or_fault r >>= λ b. done (Offer b)) (law.again block h)
act_again law (Report lsn) h = ap (λ (n : ℕ). done (Report n)) (from_be_bytes-to_be_bytes_8 lsn h)
act_again law (Get page lsn false) h = rw (from_be_bytes-to_be_bytes_4 page h.0, from_be_bytes-to_be_bytes_8 lsn h.1) refl
act_again law (Get page lsn true) h = rw (from_be_bytes-to_be_bytes_4 page h.0, from_be_bytes-to_be_bytes_8 lsn h.1) refl
act_again law (Pull lo hi lsn max) h = rw (from_be_bytes-to_be_bytes_2 lo h.0, from_be_bytes-to_be_bytes_2 hi h.1, from_be_bytes-to_be_bytes_8 lsn h.2, from_be_bytes-to_be_bytes_2 max h.3) refl
act_again law (Advance partition steps) h = rw (from_be_bytes-to_be_bytes_2 partition h.0, from_be_bytes-to_be_bytes_2 steps h.1) refl
act_again law Status h = refl
act_again law (Failover primary) h = ap (λ (n : ℕ). done (Failover n)) (from_be_bytes-to_be_bytes_4 primary h)
act_again law (SetTable text) h = refl
act_again law (Audit first max) h = rw (from_be_bytes-to_be_bytes_8 first h.0, from_be_bytes-to_be_bytes_2 max h.1) refl
act_again law Tidy h = refl
