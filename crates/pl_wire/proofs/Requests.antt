-- A request that is read is the one of its spelling, and a spelled request is read again.
use Rattle.std.proofs.Common.{◌≡◌, ℕ, Bool, false, cond, ltb, List, ◌∷◌, ◌≤◌, length, drop, get_or, Option, Some, Result, Ok, Err, sym, ap, subst, ◌∙◌, arith}
use Rattle.std.specs.Prelude.{IfOk}
use Rattle.std.proofs.lemmas.Bool.{ltb-false, le-ltb}
use Rattle.std.proofs.lemmas.List.{length-append}
use Rattle.std.specs.Option.{ok_or}
use Rattle.pl_block.specs.declared.fault.Failed.{Failed}
use Rattle.pl_block.specs.declared.fault.Failed.TheVariants.{NoMemory}
use Rattle.pl_block.specs.Faults.{◌>>=◌, Returns}
use Rattle.pl_block.specs.Laws.{AreBytes, OneSpelling}
use Rattle.pl_table.specs.declared.requests.head.Head.{Head}
use Rattle.pl_table.specs.declared.requests.op.Op.{Op}
use Rattle.pl_table.specs.declared.requests.op.Role.{Role}
use Rattle.pl_table.specs.declared.requests.act.Act.{Act}
use Rattle.pl_table.specs.Requests.Ops.{role_of_number, op_of_number, op_number}
use Rattle.pl_table.specs.Requests.Request.{Query, IsHead, IsRequest, is_in_range, op_of}
use Rattle.pl_wire.specs.declared.fault.WireFault.{WireFault}
use Rattle.pl_wire.specs.declared.fault.WireFault.TheVariants.{TooShort, UnknownRole, UnknownKind, OutOfRange}
use Rattle.pl_wire.specs.Laws.{OneRequestSpelling}
use Rattle.pl_wire.specs.Spelling.{act_spelling, request_spelling}
use Rattle.pl_wire.specs.Reading.{MayLackMemory, ReadsRequest, head_in, act_reading, ranged, opening_reading, request_reading}
use Rattle.pl_wire.proofs.Places.{AreBytes-drop}
use Rattle.pl_wire.proofs.Heads.{headed, headed_is, IsHead-head_in, head_takes, head_again, arguments_in, role_in, op_in}
use Rattle.pl_wire.proofs.Acts.{act_takes, act_again, ops_numbered}
use Rattle.pl_wire.proofs.Numbers.{roles_numbered}
use Rattle.pl_wire.proofs.Steps.{done, ok_is, guard_ok, guard_passed, ok_or-some, bind_ok}

-- the role of a body that was opened, and where it is
record IsOpened (body : List ℕ) (opening : Head × Op) : Type 0 where
  long : 30 ≤ length body
  role : Role
  role_is : role_of_number (get_or body 20 0) ≡ Some role
  op_is : op_of_number (get_or body 29 0) ≡ Some opening.1
  head_is : head_in role body ≡ opening.0

opening_ok : (body : List ℕ) (opening : Head × Op) → opening_reading body ≡ Ok opening → IsOpened body opening
unfolding opening_reading
opening_ok body opening e =
    let later = λ (role : Role). ok_or (op_of_number (get_or body 29 0)) UnknownKind >>= λ op. done (head_in role body, op) in
    let g = guard_ok (ltb (length body) 30) TooShort (ok_or (role_of_number (get_or body 20 0)) UnknownRole >>= later) opening e in
    let r = bind_ok (ok_or (role_of_number (get_or body 20 0)) UnknownRole) later opening g.1 in
    let o = bind_ok (ok_or (op_of_number (get_or body 29 0)) UnknownKind) (λ op. done (head_in r.value body, op)) opening r.next in
    let is = ok_is (head_in r.value body, o.value) opening o.next in
    record {
      long = ltb-false _ _ g.0;
      role = r.value;
      role_is = ok_or-some (role_of_number (get_or body 20 0)) UnknownRole r.value r.first;
      op_is = ok_or-some (op_of_number (get_or body 29 0)) UnknownKind o.value o.first ∙ ap (λ (x : Head × Op). Some x.1) is;
      head_is = ap (λ (x : Head × Op). x.0) is;
    }

pub request_takes : OneSpelling → (body : List ℕ) (q : Query) → AreBytes body → request_reading body ≡ Ok q → IsRequest q × (body ≡ request_spelling q)
unfolding request_reading
request_takes law body q fits e =
    let o = bind_ok (opening_reading body) (λ opening. act_reading opening.1 (drop 30 body) >>= λ act. ranged opening.0 act) q e in
    let a = bind_ok (act_reading o.value.1 (drop 30 body)) (λ act. ranged o.value.0 act) q o.next in
    let is = opening_ok body o.value o.first in
    let made : Query = record { head = o.value.0; act = a.value } in
    let g = guard_passed (is_in_range a.value) OutOfRange made q a.next in
    let read = act_takes law o.value.1 (drop 30 body) a.value (AreBytes-drop 30 body fits) a.first in
    let op : get_or body 29 0 ≡ op_number (op_of a.value) = ops_numbered.told (get_or body 29 0) (op_of a.value) (is.op_is ∙ ap (λ (x : Op). Some x) (sym read.of_op)) in
    let head : body ≡ headed o.value.0 (get_or body 29 0 ∷ drop 30 body) = head_takes is.role body fits is.long is.role_is ∙ ap (λ (x : Head). headed x (get_or body 29 0 ∷ drop 30 body)) is.head_is in
    let whole : body ≡ request_spelling made = head ∙ ap (λ (n : ℕ). headed o.value.0 (n ∷ drop 30 body)) op ∙ ap (λ (t : List ℕ). headed o.value.0 (op_number (op_of a.value) ∷ t)) read.spelled ∙ sym (headed_is o.value.0 (op_number (op_of a.value) ∷ act_spelling a.value)) in
    let is_made : IsRequest made = record { head = subst IsHead is.head_is (IsHead-head_in is.role body fits is.long); fields = read.fields; in_range = g.0 } in
    subst (λ (p : Query). IsRequest p × (body ≡ request_spelling p)) g.1 (is_made, whole)

-- a request as its head, its operation and its arguments
abbrev spelled_out : Query → List ℕ
spelled_out q = headed q.head (op_number (op_of q.act) ∷ act_spelling q.act)

opening_again : (q : Query) → IsRequest q → opening_reading (spelled_out q) ≡ Ok (q.head, op_of q.act)
unfolding opening_reading
opening_again q is =
    let body = spelled_out q in
    let rest : List ℕ = op_number (op_of q.act) ∷ act_spelling q.act in
    let long : ltb (length body) 30 ≡ false = le-ltb _ _ (simp length-append (omega (arith, is.head.token))) in
    let later = λ (role : Role). ok_or (op_of_number (get_or body 29 0)) UnknownKind >>= λ op. done (head_in role body, op) in
    let role : role_of_number (get_or body 20 0) ≡ Some q.head.role = ap role_of_number (role_in q.head rest is.head) ∙ roles_numbered.found q.head.role in
    let op : op_of_number (get_or body 29 0) ≡ Some (op_of q.act) = ap op_of_number (op_in q.head (op_number (op_of q.act)) (act_spelling q.act) is.head) ∙ ops_numbered.found (op_of q.act) in
    let head : head_in q.head.role body ≡ q.head = head_again q.head rest is.head in
    ap (λ (b : Bool). cond b (Err TooShort) (ok_or (role_of_number (get_or body 20 0)) UnknownRole >>= later)) long
    ∙ ap (λ (r : Option Role). ok_or r UnknownRole >>= later) role
    ∙ ap (λ (o : Option Op). ok_or o UnknownKind >>= λ op. done (head_in q.head.role body, op)) op
    ∙ ap (λ (h : Head). done (h, op_of q.act)) head

spelled_again : OneSpelling → (q : Query) → IsRequest q → request_reading (spelled_out q) ≡ Ok q
unfolding request_reading
spelled_again law q is =
    let body = spelled_out q in
    let arguments : drop 30 body ≡ act_spelling q.act = arguments_in q.head (op_number (op_of q.act)) (act_spelling q.act) is.head in
    ap (λ (r : Result (Head × Op) WireFault). r >>= λ opening. act_reading opening.1 (drop 30 body) >>= λ act. ranged opening.0 act) (opening_again q is)
    ∙ ap (λ (t : List ℕ). act_reading (op_of q.act) t >>= λ act. ranged q.head act) arguments
    ∙ ap (λ (r : Result Act WireFault). r >>= λ act. ranged q.head act) (act_again law q.act is.fields)
    ∙ ap (λ (b : Bool). cond b (done q) (Err OutOfRange)) is.in_range

pub request_again : OneSpelling → (q : Query) → IsRequest q → request_reading (request_spelling q) ≡ Ok q
request_again law q is = ap request_reading (headed_is q.head (op_number (op_of q.act) ∷ act_spelling q.act)) ∙ spelled_again law q is

pub same_requests : OneSpelling → (a b : Query) → IsRequest a → IsRequest b → request_spelling a ≡ request_spelling b → a ≡ b
same_requests law a b is_a is_b e = ok_is a b (sym (request_again law a is_a) ∙ ap request_reading e ∙ request_again law b is_b)

pub requests_law : OneSpelling → OneRequestSpelling
requests_law law = record { spelled = request_takes law; same = same_requests law }

-- ---- as a call answers

is_found : OneSpelling → (body : List ℕ) (r : Result Query (Failed WireFault)) → AreBytes body → Returns r (request_reading body) → IfOk r (λ q. IsRequest q × (body ≡ request_spelling q))
is_found law body (Ok q) fits given = request_takes law body q fits given
is_found law body (Err e) fits given = tt

is_only : OneSpelling → (body : List ℕ) (r : Result Query (Failed WireFault)) (q : Query) → Returns r (request_reading body) → IsRequest q → body ≡ request_spelling q → Returns r (Ok q)
is_only law body r q given is e = subst (λ (read : Result Query WireFault). Returns r read) (ap request_reading e ∙ request_again law q is) given

pub reads : OneSpelling → (body : List ℕ) (r : Result Query (Failed WireFault)) → AreBytes body → Returns r (request_reading body) → (r ≡ Err NoMemory → MayLackMemory body) → ReadsRequest body r
reads law body r fits given asks = record {
  found = is_found law body r fits given;
  only = λ q is e. is_only law body r q given is e;
  exact = given;
  no_memory = asks;
}
