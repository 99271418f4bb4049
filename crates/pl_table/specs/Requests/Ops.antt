-- Roles and operations: their numbers and names, and which operations a role has.
use Rattle.std.specs.Prelude.{ℕ, Bool, ◌==◌, List, [], ◌∷◌, Option, Some, None, if◌then◌else◌, codes, find}
use Rattle.std.specs.List.{list_any}
use Rattle.std.specs.Str.{bytes_eq}
use Rattle.pl_table.specs.declared.requests.op.Role.{Role}
use Rattle.pl_table.specs.declared.requests.op.Role.TheVariants.{Primary, Secondary, PageServer, Operator}
use Rattle.pl_table.specs.declared.requests.op.Op.{Op}
use Rattle.pl_table.specs.declared.requests.op.Op.TheVariants.{Write, Offer, Report, Get, Pull, Advance, Status, Failover, SetTable, Audit, Tidy}

-- the number of a role in a request
abbrev pub role_number : Role → ℕ
role_number Primary = 1
role_number Secondary = 2
role_number PageServer = 3
role_number Operator = 4

-- the number of an operation in a request
abbrev pub op_number : Op → ℕ
op_number Write = 1
op_number Offer = 2
op_number Report = 3
op_number Get = 4
op_number Pull = 5
op_number Advance = 6
op_number Status = 7
op_number Failover = 8
op_number SetTable = 9
op_number Audit = 10
op_number Tidy = 11

-- the role that has a number
abbrev pub role_of_number : ℕ → Option Role
role_of_number n = if n == 1 then Some Primary else if n == 2 then Some Secondary else if n == 3 then Some PageServer else if n == 4 then Some Operator else None

-- the operation that has a number
abbrev pub op_of_number : ℕ → Option Op
op_of_number n = if n == 1 then Some Write else if n == 2 then Some Offer else if n == 3 then Some Report else if n == 4 then Some Get else if n == 5 then Some Pull else if n == 6 then Some Advance else if n == 7 then Some Status else if n == 8 then Some Failover else if n == 9 then Some SetTable else if n == 10 then Some Audit else if n == 11 then Some Tidy else None

-- the word for a role
abbrev pub role_name : Role → List ℕ
role_name Primary = codes "primary"
role_name Secondary = codes "secondary"
role_name PageServer = codes "page_server"
role_name Operator = codes "operator"

-- the word for an operation
abbrev pub op_name : Op → List ℕ
op_name Write = codes "write"
op_name Offer = codes "offer"
op_name Report = codes "report"
op_name Get = codes "get"
op_name Pull = codes "pull"
op_name Advance = codes "advance"
op_name Status = codes "status"
op_name Failover = codes "failover"
op_name SetTable = codes "set_table"
op_name Audit = codes "audit"
op_name Tidy = codes "tidy"

-- the role that has the name
unfoldable pub role_of_name : List ℕ → Option Role
role_of_name name = find (λ role. bytes_eq (role_name role) name) (Primary ∷ Secondary ∷ PageServer ∷ Operator ∷ [])

-- the operation that has the name
unfoldable pub op_of_name : List ℕ → Option Op
op_of_name name = find (λ op. bytes_eq (op_name op) name) (Write ∷ Offer ∷ Report ∷ Get ∷ Pull ∷ Advance ∷ Status ∷ Failover ∷ SetTable ∷ Audit ∷ Tidy ∷ [])

-- all operations, in the order of their numbers
abbrev pub all_ops : List Op
all_ops = Write ∷ Offer ∷ Report ∷ Get ∷ Pull ∷ Advance ∷ Status ∷ Failover ∷ SetTable ∷ Audit ∷ Tidy ∷ []

-- a test whether two roles are equal
abbrev pub same_role : Role → Role → Bool
same_role a b = role_number a == role_number b

-- a test whether two operations are equal
abbrev pub same_op : Op → Op → Bool
same_op a b = op_number a == op_number b

-- the operation is listed
abbrev pub lists_op : Op → List Op → Bool
lists_op op ops = list_any (λ listed. same_op listed op) ops

-- the operations that a role has
abbrev pub ops_of : Role → List Op
ops_of Primary = Write ∷ Offer ∷ Report ∷ Get ∷ Status ∷ []
ops_of Secondary = Pull ∷ Get ∷ Status ∷ []
ops_of PageServer = Pull ∷ Advance ∷ Status ∷ []
ops_of Operator = Failover ∷ SetTable ∷ Audit ∷ Tidy ∷ Status ∷ []

-- a role has the operation
abbrev pub has_op : Role → Op → Bool
has_op role op = lists_op op (ops_of role)
