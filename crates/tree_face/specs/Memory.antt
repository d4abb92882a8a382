-- The contents of a store in memory: pairs of a key and a content. If a key occurs twice, the first pair counts.
use Rattle.std.specs.Prelude.{ℕ, Bool, List, Option, find}
use Rattle.std.specs.List.{slice_get}
use Rattle.std.specs.Option.{option_map, option_and_then}
use Rattle.std.specs.Str.{bytes_eq}
use Rattle.tree_face.specs.Store.{Contents}

abbrev pub Pair : Type 0
Pair = List ℕ × List ℕ

abbrev pub is_under : List ℕ → Pair → Bool
is_under key pair = bytes_eq pair.0 key

-- the pair of a key
abbrev pub pair_of : List Pair → List ℕ → Option Pair
pair_of pairs key = find (is_under key) pairs

abbrev pub held_in : List Pair → Contents
held_in pairs key = option_map (λ pair. pair.1) (pair_of pairs key)

-- the pair at an index, if there is one
abbrev pub pair_at : List Pair → Option ℕ → Option Pair
pair_at pairs index = option_and_then (slice_get pairs) index
