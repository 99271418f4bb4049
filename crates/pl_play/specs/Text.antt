-- Lines as hexadecimal text of bodies.
use Rattle.std.specs.Prelude.{List, ℕ, [], ◌∷◌, ◌++◌, IsErr}
use Rattle.hex.specs.Hex.{decode_of, encode_lower}
use Rattle.pl_play.specs.declared.fault.PlayFault.{PlayFault}
use Rattle.pl_play.specs.declared.fault.PlayFault.TheVariants as faults
use Rattle.pl_play.specs.declared.text.HexFault.{HexFault}
use Rattle.pl_play.specs.declared.text.HexFault.TheVariants as hexes

-- the line that a body is written as, with its line feed
abbrev pub line_text : List ℕ → List ℕ
line_text body = encode_lower body ++ 10 ∷ []

-- no body is spelled by the line
abbrev pub IsNoText : List ℕ → Type 0
IsNoText line = IsErr (decode_of line)

-- the fault of `play` if the line of this number spells no body
abbrev pub hex_fault_at : HexFault → ℕ → PlayFault
hex_fault_at hexes.Text number = faults.Text number
hex_fault_at hexes.NoMemory number = faults.NoMemory
