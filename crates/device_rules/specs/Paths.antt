-- Paths below the root of an image, whose own name is empty.
use Rattle.std.specs.Prelude.{ℕ, Bool, true, ◌&&◌, ◌||◌, List, [], ◌∷◌, ◌==◌, nat_eq, length, drop, codes}
use Rattle.std.specs.List.{list_any, slice_split, starts_with}
use Rattle.std.specs.Str.{bytes_eq}
use Rattle.lib_types.specs.Bytes.{is_byte}

-- nothing follows, or a slash
abbrev pub ends_part : List ℕ → Bool
ends_part [] = true
ends_part (b ∷ _) = b == 47

-- the first directory is the second one or an ancestor of it: the second path is the first, or continues after it with a slash
abbrev pub is_at_or_above : List ℕ → List ℕ → Bool
is_at_or_above folder other =
    length folder == 0 || (starts_with nat_eq other folder && ends_part (drop (length folder) other))

-- the component is `..`
abbrev pub leads_up : List ℕ → Bool
leads_up component = bytes_eq component (codes "..")

-- a component of the path is `..`
abbrev pub has_up : List ℕ → Bool
has_up path = list_any leads_up (slice_split (is_byte 47) path)
