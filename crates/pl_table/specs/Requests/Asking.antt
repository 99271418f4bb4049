-- What the rows of a table look at in a request, and the same at another LSN.
use Rattle.std.specs.Prelude.{ℕ, List, [], ◌∷◌, Option, option_map}
use Rattle.pl_table.specs.declared.requests.asking.Asking.{Asking}
use Rattle.pl_table.specs.declared.requests.partitions.Partitions.{Partitions}
use Rattle.pl_table.specs.declared.requests.partitions.Partitions.TheVariants.{Nowhere, One, Between, Listed}
use Rattle.pl_table.specs.declared.requests.op.Op.{Op}
use Rattle.pl_table.specs.declared.requests.op.Role.{Role}
use Rattle.pl_table.specs.Requests.Request.{Query, op_of}
use Rattle.pl_table.specs.Requests.Acts.{number_of, partitions_of, all_between}

-- who asks, in which role, for which operation, and the partitions and the LSN that are named
pub record Asked : Type 0 where
  pub principal : ℕ
  pub role : Role
  pub op : Op
  pub partitions : List ℕ
  pub lsn : Option ℕ

-- what a request asks
abbrev pub asked_in : Query → Asked
asked_in q = record { principal = q.head.principal; role = q.head.role; op = op_of q.act; partitions = partitions_of q.act; lsn = number_of q.act }

-- the same at another LSN, if it names one
abbrev pub asked_at : Asked → ℕ → Asked
asked_at a n = record { principal = a.principal; role = a.role; op = a.op; partitions = a.partitions; lsn = option_map (λ own. n) a.lsn }

-- the partitions, as a list
abbrev pub named_by : Partitions → List ℕ
named_by Nowhere = []
named_by (One partition) = partition ∷ []
named_by (Between lo hi) = all_between lo hi
named_by (Listed partitions) = partitions.now

-- what is asked, as it is borrowed
abbrev pub asked_by : Asking → Asked
asked_by a = record { principal = a.principal; role = a.role; op = a.op; partitions = named_by a.partitions; lsn = a.lsn }
