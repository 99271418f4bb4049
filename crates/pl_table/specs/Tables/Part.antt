-- What the members of a principal and of a row read as, and the two numbers of a table.
use Rattle.std.specs.Prelude.{ℕ, ◌-◌, ◌^◌, ◌==◌, Bool, true, false, ◌&&◌, nat_le, pos, List, [], ◌∷◌, length, filter_map, Option, Some, None, is_some, option_map, option_and_then, if◌then◌else◌, codes}
use Rattle.std.specs.Result.{result_ok}
use Rattle.std.specs.Str.{bytes_eq}
use Rattle.std.specs.List.{list_all, list_any}
use Rattle.hex.specs.Hex.{decode_sized}
use Rattle.toml.specs.Data.{Data, string, integer, array, get}
use Rattle.pl_table.specs.declared.requests.op.Role.{Role}
use Rattle.pl_table.specs.declared.requests.op.Op.{Op}
use Rattle.pl_table.specs.declared.tables.range.PartitionRange.{PartitionRange}
use Rattle.pl_table.specs.declared.tables.row.Row.{Row}
use Rattle.pl_table.specs.declared.tables.table.Principal.{Principal}
use Rattle.pl_table.specs.declared.tables.zone.Zone.{Zone}
use Rattle.pl_table.specs.declared.tables.zone.Zone.TheVariants.{Three, Six}
use Rattle.pl_block.specs.Bounds.{last_lsn}
use Rattle.pl_table.specs.Requests.Ops.{role_of_name, op_of_name}
use Rattle.pl_table.specs.Tables.Tree.{list_of}

-- an integer from 0 to the most
unfoldable pub number_up_to : ℕ → Data → Option ℕ
number_up_to most (integer (pos n)) = if nat_le n most then Some n else None
number_up_to most _ = None

-- the sixteen bytes that a string of 32 hexadecimal digits spells
unfoldable pub token_in : Data → Option (List ℕ)
token_in (string s) = result_ok (decode_sized s 16)
token_in _ = None

-- whether the word allows: it is "allow" or "deny"
unfoldable pub verdict_in : Data → Option Bool
verdict_in (string s) = if bytes_eq s (codes "allow") then Some true else if bytes_eq s (codes "deny") then Some false else None
verdict_in _ = None

-- the role that a string names
unfoldable pub role_in : Data → Option Role
role_in (string s) = role_of_name s
role_in _ = None

-- the operation that a string names
unfoldable pub op_in : Data → Option Op
op_in (string s) = op_of_name s
op_in _ = None

-- the operations that an array names, if there is one and each names one
unfoldable pub ops_in : Data → Option (List Op)
ops_in (array ds) = if nat_le 1 (length (list_of ds)) && list_all (λ d. is_some (op_in d)) (list_of ds) then Some (filter_map op_in (list_of ds)) else None
ops_in _ = None

-- a part that may be absent: what it reads as, if it reads as anything when it is there
unfoldable pub if_there : {A : Type 0} → (Data → Option A) → Option Data → Option (Option A)
if_there read None = Some None
if_there read (Some d) = option_map Some (read d)

-- the id of a principal
unfoldable pub id_under : Data → Option ℕ
id_under p = option_and_then (number_up_to (2 ^ 32 - 1)) (get (codes "id") p)

-- the token of a principal
unfoldable pub token_under : Data → Option (List ℕ)
token_under p = option_and_then token_in (get (codes "token") p)

-- a principal, if both read
unfoldable pub principal_of : Data → Option Principal
principal_of p = option_and_then (λ id. option_map (λ token. record { id = id; token = token }) (token_under p)) (id_under p)

-- whether a row allows
unfoldable pub verdict_under : Data → Option Bool
verdict_under row = option_and_then verdict_in (get (codes "verdict") row)

-- the role of a row
unfoldable pub role_under : Data → Option (Option Role)
role_under row = if_there role_in (get (codes "role") row)

-- the operations of a row
unfoldable pub ops_under : Data → Option (Option (List Op))
ops_under row = if_there ops_in (get (codes "op") row)

-- the id that a value is, if it is the id of a principal that is listed
unfoldable pub listed_in : List Principal → Data → Option ℕ
listed_in ps d = option_and_then (λ id. if list_any (λ p. p.id == id) ps then Some id else None) (number_up_to (2 ^ 32 - 1) d)

-- the principal of a row
unfoldable pub who_under : List Principal → Data → Option (Option ℕ)
who_under ps row = if_there (listed_in ps) (get (codes "who") row)

-- the partitions between two numbers from 0 to 65535, the first at most the second
unfoldable pub range_between : Option ℕ → Option ℕ → Option PartitionRange
range_between (Some from) (Some to) = if nat_le from to then Some (record { from = from; to = to }) else None
range_between _ _ = None

-- the range of a row, whose two ends are both there or both absent
unfoldable pub range_from : Option Data → Option Data → Option (Option PartitionRange)
range_from None None = Some None
range_from (Some from) (Some to) = option_map Some (range_between (number_up_to 65535 from) (number_up_to 65535 to))
range_from _ _ = None

-- the partitions of a row
unfoldable pub range_under : Data → Option (Option PartitionRange)
range_under row = range_from (get (codes "from") row) (get (codes "to") row)

-- the LSN that a row ends at
unfoldable pub through_under : Data → Option (Option ℕ)
through_under row = if_there (number_up_to last_lsn) (get (codes "through") row)

-- the words of a row read: its verdict, its role and its operations
unfoldable pub has_words : Data → Bool
has_words row = is_some (verdict_under row) && (is_some (role_under row) && is_some (ops_under row))

-- the numbers of a row read: its principal, its range and the LSN that it ends at
unfoldable pub has_numbers : List Principal → Data → Bool
has_numbers ps row = is_some (who_under ps row) && (is_some (range_under row) && is_some (through_under row))

-- the next part, if this one reads
infixl 10 ◌>>=◌
abbrev pub ◌>>=◌ : {A B : Type 0} → Option A → (A → Option B) → Option B
o >>= f = option_and_then f o

-- a row, if each part reads
unfoldable pub row_of : List Principal → Data → Option Row
row_of ps row = do
  allows ← verdict_under row
  who ← who_under ps row
  role ← role_under row
  range ← range_under row
  through ← through_under row
  op ← ops_under row
  Some (record { allows = allows; who = who; role = role; op = op; range = range; through = through })

-- the zone with this number of copies and this quorum
abbrev pub zone_of_numbers : ℕ → ℕ → Option Zone
zone_of_numbers copies quorum = if copies == 3 && quorum == 2 then Some Three else if copies == 6 && quorum == 4 then Some Six else None

-- the zone of a table, whose two numbers are both there or both absent: three copies if they are absent
unfoldable pub zone_read : Option Data → Option Data → Option Zone
zone_read None None = Some Three
zone_read (Some copies) (Some quorum) = do
  c ← number_up_to 6 copies
  q ← number_up_to 4 quorum
  zone_of_numbers c q
zone_read _ _ = None
