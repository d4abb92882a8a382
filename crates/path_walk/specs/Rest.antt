-- Facts that private functions state about a text that is partly read.
use Rattle.std.specs.Prelude.{◌≡◌, ℕ, List, [], filter, take, unwrap_or, Option}
use Rattle.lib_types.specs.Splits.{parts_of}
use Rattle.image_tree.specs.Paths.{is_slash, is_kept}
use Rattle.path_walk.specs.Names.{before_last}

-- the names that are left
abbrev pub names_in : Option (List ℕ) → List (List ℕ)
names_in text = filter is_kept (parts_of is_slash text)

-- the first n bytes are the bytes before the last slash
abbrev pub ends_at : List ℕ → ℕ → Type 0
ends_at place n = unwrap_or (before_last place) [] ≡ take n place
