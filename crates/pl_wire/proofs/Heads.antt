-- A head that is read is the head of its spelling, and the head of a spelling is read again.
use Rattle.std.proofs.Common.{◌≡◌, ℕ, ◌+◌, ◌^◌, ◌≤◌, List, ◌∷◌, ◌++◌, length, take, drop, get_or, Some, sym, ap, subst, ◌∙◌, append_assoc, arith}
use Rattle.std.specs.Int.{w32, from_be_bytes, to_be_bytes}
use Rattle.std.proofs.Math.Seq.{drop-append-add}
use Rattle.std.proofs.lemmas.List.{take_at, length-take, length-drop, get_or-drop}
use Rattle.std.proofs.lemmas.Nat.{from_be_bytes-to_be_bytes_4}
use Rattle.pl_block.specs.Laws.{AreBytes}
use Rattle.pl_table.specs.declared.requests.head.Head.{Head}
use Rattle.pl_table.specs.declared.requests.op.Role.{Role}
use Rattle.pl_table.specs.Requests.Ops.{role_number, role_of_number}
use Rattle.pl_table.specs.Requests.Request.{IsHead}
use Rattle.pl_wire.specs.Spelling.{head_spelling}
use Rattle.pl_wire.specs.Reading.{number_in, head_in}
use Rattle.pl_wire.proofs.Numbers.{roles_numbered}
use Rattle.pl_wire.proofs.Places.{wide32, cut, number_cut, number_below, byte_cut}

-- a head, then the rest of a body
abbrev pub headed : Head → List ℕ → List ℕ
headed h rest = to_be_bytes w32 h.principal ++ (h.token ++ (role_number h.role ∷ (to_be_bytes w32 h.database ++ (to_be_bytes w32 h.epoch ++ rest))))

-- so it is the spelling of the head, and the rest
pub headed_is : (h : Head) (rest : List ℕ) → head_spelling h ++ rest ≡ headed h rest
headed_is h rest = ap (λ (t : List ℕ). to_be_bytes w32 h.principal ++ t) (append_assoc h.token (role_number h.role ∷ (to_be_bytes w32 h.database ++ to_be_bytes w32 h.epoch)) rest)

pub IsHead-head_in : (role : Role) (body : List ℕ) → AreBytes body → 30 ≤ length body → IsHead (head_in role body)
IsHead-head_in role body fits long = record {
  principal = number_below w32 (2 ^ 32) wide32 0 body fits;
  token = omega (arith, length-take 16 (drop 4 body), length-drop 4 body);
  database = number_below w32 (2 ^ 32) wide32 21 body fits;
  epoch = number_below w32 (2 ^ 32) wide32 25 body fits;
}

-- a body is its head, spelled, and the bytes from the operation on
pub head_takes : (role : Role) (body : List ℕ) → AreBytes body → 30 ≤ length body → role_of_number (get_or body 20 0) ≡ Some role → body ≡ headed (head_in role body) (get_or body 29 0 ∷ drop 30 body)
head_takes role body fits long e =
    let p : List ℕ = to_be_bytes w32 (number_in w32 0 body) in
    let t : List ℕ = take 16 (drop 4 body) in
    let d : List ℕ = to_be_bytes w32 (number_in w32 21 body) in
    let f : List ℕ = to_be_bytes w32 (number_in w32 25 body) in
    let is_role : get_or body 20 0 ≡ role_number role = roles_numbered.told (get_or body 20 0) role e in
    let op : drop 29 body ≡ get_or body 29 0 ∷ drop 30 body = byte_cut 29 body (omega arith) in
    let epoch : drop 25 body ≡ f ++ (get_or body 29 0 ∷ drop 30 body) = number_cut w32 (2 ^ 32) wide32 25 body fits (omega arith) ∙ ap (λ (x : List ℕ). f ++ x) op in
    let database : drop 21 body ≡ d ++ (f ++ (get_or body 29 0 ∷ drop 30 body)) = number_cut w32 (2 ^ 32) wide32 21 body fits (omega arith) ∙ ap (λ (x : List ℕ). d ++ x) epoch in
    let as_role : drop 20 body ≡ role_number role ∷ (d ++ (f ++ (get_or body 29 0 ∷ drop 30 body))) = byte_cut 20 body (omega arith) ∙ ap (λ (n : ℕ). n ∷ drop 21 body) is_role ∙ ap (λ (x : List ℕ). role_number role ∷ x) database in
    let token : drop 4 body ≡ t ++ (role_number role ∷ (d ++ (f ++ (get_or body 29 0 ∷ drop 30 body)))) = cut 4 16 body ∙ ap (λ (x : List ℕ). t ++ x) as_role in
    number_cut w32 (2 ^ 32) wide32 0 body fits (omega arith) ∙ ap (λ (x : List ℕ). p ++ x) token

-- what comes after a token
after_token : (token rest : List ℕ) (n : ℕ) → length token ≡ 16 → drop (16 + n) (token ++ rest) ≡ drop n rest
after_token token rest n len = subst (λ (k : ℕ). drop (k + n) (token ++ rest) ≡ drop n rest) len (drop-append-add token rest n)

after_head : (h : Head) (rest : List ℕ) → IsHead h → drop 29 (headed h rest) ≡ rest
after_head h rest is = after_token h.token (role_number h.role ∷ (to_be_bytes w32 h.database ++ (to_be_bytes w32 h.epoch ++ rest))) 9 is.token

pub arguments_in : (h : Head) (op : ℕ) (rest : List ℕ) → IsHead h → drop 30 (headed h (op ∷ rest)) ≡ rest
arguments_in h op rest is = after_token h.token (role_number h.role ∷ (to_be_bytes w32 h.database ++ (to_be_bytes w32 h.epoch ++ (op ∷ rest)))) 10 is.token

pub role_in : (h : Head) (rest : List ℕ) → IsHead h → get_or (headed h rest) 20 0 ≡ role_number h.role
role_in h rest is =
    let later : List ℕ = role_number h.role ∷ (to_be_bytes w32 h.database ++ (to_be_bytes w32 h.epoch ++ rest)) in
    sym (get_or-drop 16 (h.token ++ later) 0 0) ∙ ap (λ (x : List ℕ). get_or x 0 0) (after_token h.token later 0 is.token)

pub op_in : (h : Head) (op : ℕ) (rest : List ℕ) → IsHead h → get_or (headed h (op ∷ rest)) 29 0 ≡ op
op_in h op rest is = sym (get_or-drop 29 (headed h (op ∷ rest)) 0 0) ∙ ap (λ (x : List ℕ). get_or x 0 0) (after_head h (op ∷ rest) is)

pub head_again : (h : Head) (rest : List ℕ) → IsHead h → head_in h.role (headed h rest) ≡ h
head_again h rest is =
    let later : List ℕ = role_number h.role ∷ (to_be_bytes w32 h.database ++ (to_be_bytes w32 h.epoch ++ rest)) in
    let principal : number_in w32 0 (headed h rest) ≡ h.principal = from_be_bytes-to_be_bytes_4 h.principal is.principal in
    let token : take 16 (drop 4 (headed h rest)) ≡ h.token = take_at h.token later 16 is.token in
    let database : number_in w32 21 (headed h rest) ≡ h.database = ap (λ (x : List ℕ). from_be_bytes w32 (take 4 x)) (after_token h.token later 1 is.token) ∙ from_be_bytes-to_be_bytes_4 h.database is.database in
    let epoch : number_in w32 25 (headed h rest) ≡ h.epoch = ap (λ (x : List ℕ). from_be_bytes w32 (take 4 x)) (after_token h.token later 5 is.token) ∙ from_be_bytes-to_be_bytes_4 h.epoch is.epoch in
    let made : ℕ → List ℕ → ℕ → ℕ → Head = λ p t d f. record { principal = p; token = t; role = h.role; database = d; epoch = f } in
    ap (λ (x : ℕ). made x (take 16 (drop 4 (headed h rest))) (number_in w32 21 (headed h rest)) (number_in w32 25 (headed h rest))) principal
    ∙ ap (λ (x : List ℕ). made h.principal x (number_in w32 21 (headed h rest)) (number_in w32 25 (headed h rest))) token
    ∙ ap (λ (x : ℕ). made h.principal h.token x (number_in w32 25 (headed h rest))) database
    ∙ ap (λ (x : ℕ). made h.principal h.token h.database x) epoch
