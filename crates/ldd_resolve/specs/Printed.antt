-- The text of a listing (ldd(1)).
use Rattle.std.specs.Prelude.{ℕ, List, [], ◌∷◌, ◌++◌, flat_map, codes, Option, Some, None, if◌then◌else◌}
use Rattle.rpath_search.specs.Places.{has_slash}
use Rattle.ldd_resolve.specs.declared.kinds.Item.{Item}

-- the text after a name; if the name contains a slash and is found, it is itself the path and nothing follows
abbrev pub ending : List ℕ → Option (List ℕ) → List ℕ
ending name None = codes " => not found"
ending name (Some path) = if has_slash name then [] else codes " => " ++ path

abbrev pub line : Item → List ℕ
line i = codes "\t" ++ i.name ++ ending i.name i.path ++ codes "\n"

-- a program that loads nothing is listed like one without a dynamic section
unfoldable pub listing_text : List Item → List ℕ
listing_text [] = codes "\tstatically linked\n"
listing_text (i ∷ items) = flat_map line (i ∷ items)
