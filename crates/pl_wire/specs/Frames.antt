-- Frames: a length, and a body of this many bytes.
use Rattle.std.specs.Prelude.{ℕ, ◌^◌, ◌<◌, List, ◌++◌, length}
use Rattle.std.specs.List.{flat_map}
use Rattle.std.specs.Int.{w32, to_be_bytes}

-- the most bytes of a request
abbrev pub longest_request : ℕ
longest_request = 65536

-- the most bytes of a reply
abbrev pub longest_reply : ℕ
longest_reply = 1048576

-- a length in four bytes, the high one first, and this many bytes
abbrev pub frame : List ℕ → List ℕ
frame body = to_be_bytes w32 (length body) ++ body

-- a body whose length fits in the four bytes
abbrev pub IsShort : List ℕ → Type 0
IsShort body = length body < 2 ^ 32

-- the frames of the bodies, one after the other
abbrev pub frames_of : List (List ℕ) → List ℕ
frames_of bodies = flat_map frame bodies
