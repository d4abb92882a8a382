-- Little-endian numbers, one after another (gABI, ELFDATA2LSB).
use Rattle.std.specs.Prelude.{ℕ, List}
use Rattle.std.specs.List.{flat_map}
use Rattle.byteorder.specs.Endian.{little_bytes}

-- the size of a number in bytes, and the number
abbrev pub Field : Type 0
Field = ℕ × ℕ

unfoldable pub bytes_of : List Field → List ℕ
bytes_of fields = flat_map (λ f. little_bytes f.0 f.1) fields
