-- Parts of a row that may be absent.
use Rattle.std.specs.Prelude.{Bool, true, Option, Some, None}

-- a part of a row passes the test, and one that is absent passes each
abbrev pub part_matches : {A : Type 0} → (A → Bool) → Option A → Bool
part_matches test None = true
part_matches test (Some part) = test part
