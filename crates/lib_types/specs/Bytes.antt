-- Bytes, and little-endian numbers in them (gABI, ELFDATA2LSB).
use Rattle.std.specs.Prelude.{ℕ, Bool, List, ◌==◌, ◌||◌}
use Rattle.byteorder.specs.Endian.{little_from}

-- the n-byte little-endian number at an offset
abbrev pub field : List ℕ → ℕ → ℕ → ℕ
field bytes at n = little_from at n bytes

-- the byte is this one
abbrev pub is_byte : ℕ → ℕ → Bool
is_byte byte b = b == byte

-- the byte is one of these two
abbrev pub is_either : ℕ → ℕ → ℕ → Bool
is_either x y b = b == x || b == y
