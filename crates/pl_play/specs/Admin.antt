-- What the words of an operator ask for.
use Rattle.std.specs.Prelude.{◌≡◌, ℕ, ◌^◌, ◌<◌, List, [], ◌∷◌, Option, Some, None, codes}
use Rattle.std.specs.Global.{Vec}
use Rattle.std.specs.Str.Parse.{IsNumeral, digits_value, without_leading_plus}
use Rattle.pl_table.specs.declared.requests.head.Head.{Head}
use Rattle.pl_table.specs.declared.requests.op.Role.TheVariants as roles
use Rattle.pl_table.specs.declared.requests.act.Act.{Act}
use Rattle.pl_table.specs.declared.requests.act.Act.TheVariants as acts
use Rattle.pl_play.specs.declared.operator_words.Credentials.{Credentials}

-- the words, each as its bytes
abbrev pub Words : Type 0
Words = List (List ℕ)

-- the bytes of a file, if there is one
abbrev pub bytes_of : Option (Vec ℕ) → Option (List ℕ)
bytes_of None = None
bytes_of (Some v) = Some v.items

-- a word writes the number in decimal digits, and k bits hold it
pub record IsNumberWord (k : ℕ) (word : List ℕ) (n : ℕ) : Type 0 where
  pub digits : IsNumeral 10 (without_leading_plus word)
  pub value : n ≡ digits_value 10 (without_leading_plus word)
  pub fits : n < 2 ^ k

-- `failover ID`
pub record NamesFailover (words : Words) (primary : ℕ) : Type 0 where
  pub id : List ℕ
  pub words_are : words ≡ codes "failover" ∷ id ∷ []
  pub number : IsNumberWord 32 id primary

-- `set_table FILE`, with the bytes of the file
pub record NamesSetTable (words : Words) (text : Option (List ℕ)) (bytes : List ℕ) : Type 0 where
  pub file : List ℕ
  pub words_are : words ≡ codes "set_table" ∷ file ∷ []
  pub text_is : text ≡ Some bytes

-- `audit FIRST MAX`
pub record NamesAudit (words : Words) (first max : ℕ) : Type 0 where
  pub from : List ℕ
  pub count : List ℕ
  pub words_are : words ≡ codes "audit" ∷ from ∷ count ∷ []
  pub first_is : IsNumberWord 64 from first
  pub max_is : IsNumberWord 16 count max

-- the words ask for the act; of the others none is an operator's
abbrev pub AskFor : Words → Option (List ℕ) → Act → Type 0
AskFor words text (acts.Write copy block) = ⊥
AskFor words text (acts.Offer block) = ⊥
AskFor words text (acts.Report lsn) = ⊥
AskFor words text (acts.Get page lsn exact) = ⊥
AskFor words text (acts.Pull lo hi lsn max) = ⊥
AskFor words text (acts.Advance partition steps) = ⊥
AskFor words text acts.Status = words ≡ codes "status" ∷ []
AskFor words text (acts.Failover primary) = NamesFailover words primary
AskFor words text (acts.SetTable bytes) = NamesSetTable words text bytes
AskFor words text (acts.Audit first max) = NamesAudit words first max
AskFor words text acts.Tidy = words ≡ codes "tidy" ∷ []

-- what words ask for: an act, or none if they ask for no act
abbrev pub ReadAs : Words → Option (List ℕ) → Option Act → Type 0
ReadAs words text (Some act) = AskFor words text act
ReadAs words text None = (act : Act) → AskFor words text act → ⊥

-- the head of a request with these credentials, as operator
abbrev pub operator_head : Credentials → Head
operator_head c = record {
  principal = c.principal;
  token = c.token;
  role = roles.Operator;
  database = c.database;
  epoch = c.epoch;
}
