-- The bounds that every crate shares.
use Rattle.std.specs.Prelude.{ℕ, ◌^◌}

-- the last LSN that a block can have
abbrev pub last_lsn : ℕ
last_lsn = 2 ^ 48

-- how many LSNs above the hardened end may be written
abbrev pub window : ℕ
window = 64

-- the most bytes that a block can have
abbrev pub longest_block : ℕ
longest_block = 32768

-- the bytes of a page
abbrev pub page_size : ℕ
page_size = 8192
