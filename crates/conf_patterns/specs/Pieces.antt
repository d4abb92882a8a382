-- The parts of a pattern that the code's pieces represent.
use Rattle.std.specs.Prelude.{◌-◌, ◌==◌, ◌&&◌, ℕ, Bool, false, List, [], ◌∷◌, length, drop, nat_lt}
use Rattle.std.specs.List.{list_any, slice_index}
use Rattle.std.specs.Str.{byte}
use Rattle.conf_patterns.specs.Glob.{Part, Star, One, Byte, Set, is_close, takes}
use Rattle.conf_patterns.specs.declared.pieces.Piece.{Piece}
use Rattle.conf_patterns.specs.declared.pieces.Piece.TheVariants as piece

abbrev pub part_in : Piece → Part
part_in piece.Star = Star
part_in piece.One = One
part_in (piece.Byte b) = Byte b
part_in (piece.Set set) = Set set.now

-- the last `n` bytes contain a `]`
abbrev pub has_close : ℕ → List ℕ → Bool
has_close n bytes = list_any is_close (drop (length bytes - n) bytes)

-- the set begins with a range such as `a-z`
abbrev pub begins_with_range : List ℕ → Bool
begins_with_range set = nat_lt 2 (length set) && (slice_index set 1 == byte "-")

-- the part matches the first byte of the name
abbrev pub takes_first : Part → List ℕ → Bool
takes_first part [] = false
takes_first part (b ∷ rest) = takes part b
