-- Roles, sections and kinds of reply, each by its number.
use Rattle.std.proofs.Common.{◌≡◌, ℕ, Bool, true, false, cond, List, [], ◌∷◌, Option, Some, None, refl, ap, ◌∙◌}
use Rattle.std.proofs.Math.Dec.{eqb}
use Rattle.std.proofs.lemmas.Bool.{eqb-true}
use Rattle.pl_table.specs.Requests.Ops.{role_number, role_of_number}
use Rattle.pl_table.specs.Tables.Section.{section_number}
use Rattle.pl_table.specs.declared.requests.op.Role.{Role}
use Rattle.pl_table.specs.declared.requests.op.Role.TheVariants as roles
use Rattle.pl_table.specs.declared.tables.verdict.Section.{Section}
use Rattle.pl_table.specs.declared.tables.verdict.Section.TheVariants.{A, B, C}
use Rattle.pl_wire.specs.declared.kind.ReplyKind.{ReplyKind}
use Rattle.pl_wire.specs.declared.kind.ReplyKind.TheVariants as kinds
use Rattle.pl_wire.specs.Replies.{kind_number, kind_of_number}
use Rattle.pl_wire.specs.ReplyReading.{section_of_number}

-- what has a number, and the number of each
pub record IsNumbered {X : Type 0} (of_number : ℕ → Option X) (number : X → ℕ) : Type 0 where
  pub told : (n : ℕ) (x : X) → of_number n ≡ Some x → n ≡ number x
  pub found : (x : X) → of_number (number x) ≡ Some x

some_is : {X : Type 0} (y x : X) → Some y ≡ Some x → y ≡ x
some_is y x e = cc

-- the first of these that has the number
abbrev pub first : {X : Type 0} → (X → ℕ) → List X → ℕ → Option X
first number [] n = None
first number (x ∷ xs) n = cond (eqb n (number x)) (Some x) (first number xs n)

told_row : {X : Type 0} (number : X → ℕ) (x y : X) (rest : Option X) (n : ℕ) (b : Bool) → eqb n (number x) ≡ b → (rest ≡ Some y → n ≡ number y) → cond b (Some x) rest ≡ Some y → n ≡ number y
told_row number x y rest n true same below e = eqb-true n (number x) same ∙ ap number (some_is x y e)
told_row number x y rest n false other below e = below e

pub told_first : {X : Type 0} (number : X → ℕ) (xs : List X) (n : ℕ) (y : X) → first number xs n ≡ Some y → n ≡ number y
told_first number [] n y e = absurd cc
told_first number (x ∷ xs) n y e = told_row number x y (first number xs n) n (eqb n (number x)) refl (told_first number xs n y) e

role_told : (n : ℕ) (r : Role) → role_of_number n ≡ Some r → n ≡ role_number r
role_told n r e = told_first role_number (roles.Primary ∷ roles.Secondary ∷ roles.PageServer ∷ roles.Operator ∷ []) n r e

role_found : (r : Role) → role_of_number (role_number r) ≡ Some r
role_found roles.Primary = refl
role_found roles.Secondary = refl
role_found roles.PageServer = refl
role_found roles.Operator = refl

pub roles_numbered : IsNumbered role_of_number role_number
roles_numbered = record { told = role_told; found = role_found }

section_told : (n : ℕ) (s : Section) → section_of_number n ≡ Some s → n ≡ section_number s
section_told n s e = told_first section_number (A ∷ B ∷ C ∷ []) n s e

section_found : (s : Section) → section_of_number (section_number s) ≡ Some s
section_found A = refl
section_found B = refl
section_found C = refl

pub sections_numbered : IsNumbered section_of_number section_number
sections_numbered = record { told = section_told; found = section_found }

kind_told : (n : ℕ) (k : ReplyKind) → kind_of_number n ≡ Some k → n ≡ kind_number k
kind_told n k e = told_first kind_number (kinds.Done ∷ kinds.Blocks ∷ kinds.Page ∷ kinds.Entries ∷ kinds.Status ∷ kinds.Denied ∷ kinds.NoMemory ∷ kinds.AuditFull ∷ kinds.Spent ∷ kinds.NoDatabase ∷ kinds.Malformed ∷ []) n k e

kind_found : (k : ReplyKind) → kind_of_number (kind_number k) ≡ Some k
kind_found kinds.Done = refl
kind_found kinds.Blocks = refl
kind_found kinds.Page = refl
kind_found kinds.Entries = refl
kind_found kinds.Status = refl
kind_found kinds.Denied = refl
kind_found kinds.NoMemory = refl
kind_found kinds.AuditFull = refl
kind_found kinds.Spent = refl
kind_found kinds.NoDatabase = refl
kind_found kinds.Malformed = refl

pub kinds_numbered : IsNumbered kind_of_number kind_number
kinds_numbered = record { told = kind_told; found = kind_found }
