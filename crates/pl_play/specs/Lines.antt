-- The lines of a text, and what a reader has left of them, if its bytes are known.
use Rattle.std.specs.Prelude.{◌≡◌, ◌≢◌, ℕ, ◌+◌, ◌<◌, ◌==◌, if◌then◌else◌, List, [], ◌∷◌, ◌++◌, length, All, ⊤, Option, Some, None, Result, Ok, Err}
use Rattle.std.specs.Io.KnownBytes.{Keeps, Consumes, IsAtEnd}
use Rattle.pl_play.specs.declared.fault.PlayFault.{PlayFault}
use Rattle.pl_play.specs.declared.fault.PlayFault.TheVariants as faults
use Rattle.pl_play.specs.declared.lines.InputFault.{InputFault}
use Rattle.pl_play.specs.declared.lines.InputFault.TheVariants as inputs
use Rattle.pl_play.specs.declared.lines.Piece.{Piece}
use Rattle.pl_play.specs.declared.lines.Piece.TheVariants as pieces

-- how many bytes a line may have before its line feed
abbrev pub longest_line : ℕ
longest_line = 131072

-- the lines with one byte more at the front of the first
abbrev pub push_front : ℕ → List (List ℕ) → List (List ℕ)
push_front b [] = (b ∷ []) ∷ []
push_front b (line ∷ lines) = (b ∷ line) ∷ lines

-- the lines of a text: a line feed ends each, and the last needs none
abbrev pub text_lines : List ℕ → List (List ℕ)
text_lines [] = []
text_lines (b ∷ bs) = if b == 10 then [] ∷ text_lines bs else push_front b (text_lines bs)

-- known bytes have this line first, and what is left has the others
abbrev pub TakesLine : Option (List ℕ) → Option (List ℕ) → List ℕ → Type 0
TakesLine None new line = ⊤
TakesLine (Some text) None line = ⊥
TakesLine (Some text) (Some rest) line = text_lines text ≡ line ∷ text_lines rest

-- known bytes have no line
abbrev pub HasNoLine : Option (List ℕ) → Type 0
HasNoLine None = ⊤
HasNoLine (Some text) = text_lines text ≡ []

-- a line is longer than it may be
abbrev pub IsLong : List ℕ → Type 0
IsLong line = longest_line < length line

-- P holds of the first line, and there is one
abbrev pub OnFirst : List (List ℕ) → (List ℕ → Type 0) → Type 0
OnFirst [] P = ⊥
OnFirst (line ∷ lines) P = P line

-- known bytes have a first line, and it is longer than it may be
abbrev pub BeginsLong : Option (List ℕ) → Type 0
BeginsLong None = ⊤
BeginsLong (Some text) = OnFirst (text_lines text) IsLong

-- a line without its end: no byte of it is a line feed
abbrev pub HasNoFeed : List ℕ → Type 0
HasNoFeed bytes = All (λ b. b ≢ 10) bytes

-- bytes with no line feed moved from the reader's front to the end of the line,
-- and then those of the end were taken
pub record MovesBytes (old new : Option (List ℕ)) (line longer ending : List ℕ) : Type 0 where
  pub piece : List ℕ
  pub moved : longer ≡ line ++ piece
  pub no_feed : HasNoFeed piece
  pub taken : Consumes old new (piece ++ ending)

-- known bytes begin with bytes with no line feed, which would make the line longer than it may be
abbrev pub WouldBeLong : Option (List ℕ) → List ℕ → Type 0
WouldBeLong None line = ⊤
WouldBeLong (Some text) line =
    (piece : List ℕ) × (rest : List ℕ) × (text ≡ piece ++ rest) × HasNoFeed piece
    × (longest_line < length line + length piece)

-- what one look at the reader does to a line
abbrev pub TakesPiece : Option (List ℕ) → Option (List ℕ) → List ℕ → List ℕ
    → Result Piece InputFault → Type 0
TakesPiece old new line longer (Ok pieces.Shown) =
    MovesBytes old new line longer [] × (length line < length longer)
TakesPiece old new line longer (Ok pieces.Line) = MovesBytes old new line longer (10 ∷ [])
TakesPiece old new line longer (Ok pieces.Input) = IsAtEnd old × Keeps old new × (longer ≡ line)
TakesPiece old new line longer (Err inputs.Long) = WouldBeLong old line
TakesPiece old new line longer (Err inputs.Read) = ⊤
TakesPiece old new line longer (Err inputs.NoMemory) = ⊤

-- the fault of `play` if the line of this number is not taken
abbrev pub input_fault_at : InputFault → ℕ → PlayFault
input_fault_at inputs.Read number = faults.Read
input_fault_at inputs.NoMemory number = faults.NoMemory
input_fault_at inputs.Long number = faults.Long number
