-- The text of a tree.
use Rattle.std.specs.Prelude.{◌++◌, ℕ, zero, suc, List, [], ◌∷◌, codes, if◌then◌else◌, slice_get}
use Rattle.std.specs.Option.{option_map_or}
use Rattle.ldd_resolve.specs.declared.kinds.Member.{Member}
use Rattle.ldd_resolve.specs.declared.kinds.Reply.{Reply}
use Rattle.ldd_resolve.specs.declared.kinds.Reply.TheVariants.{Known, Loads, Missing}
use Rattle.ldd_resolve.specs.declared.kinds.Scope.{Scope}
use Rattle.rpath_search.specs.Searching.{is_among}
use Rattle.rpath_search.specs.declared.parts.Part.{Part}
use Rattle.rpath_search.specs.declared.parts.Part.TheVariants as part
use Rattle.scope_tree.specs.Rows.{Row, tree_rows}

-- ---- a member

abbrev pub path_at : List Member → ℕ → List ℕ
path_at members k = option_map_or (λ m. m.path) (slice_get members k) []

abbrev pub names_at : List Member → ℕ → List (List ℕ)
names_at members k = option_map_or (λ m. m.names) (slice_get members k) []

-- the names of the member that was loaded
abbrev pub names_for : List Member → Reply → List (List ℕ)
names_for members (Loads k part) = names_at members k
names_for members Known = []
names_for members Missing = []

-- ---- a line

-- the word for a part of the search
abbrev pub how : Part → List ℕ
how part.Name = codes "path"
how part.Rpath = codes "rpath"
how part.LibraryPath = codes "library path"
how part.Runpath = codes "runpath"
how part.Cache = codes "cache"
how part.Default = codes "default"

-- The text after a name. The line of an object that was loaded before is above or below.
abbrev pub ending : List Member → List (List ℕ) → List ℕ → Reply → List ℕ
ending members seen name (Loads k part) = codes " => " ++ path_at members k ++ codes " (" ++ how part ++ codes ")"
ending members seen name Known = if is_among seen name then codes " (above)" else codes " (below)"
ending members seen name Missing = codes " => not found"

abbrev pub indent : ℕ → List ℕ
indent zero = []
indent (suc depth) = codes "    " ++ indent depth

abbrev pub row_text : List Member → List (List ℕ) → Row → List ℕ
row_text members seen row = indent row.depth ++ row.name ++ ending members seen row.name row.reply ++ codes "\n"

-- ---- the text

-- the lines, with the names of the objects whose lines are above
abbrev pub rows_text : List Member → List (List ℕ) → List Row → List ℕ
rows_text members seen [] = []
rows_text members seen (row ∷ rows) = row_text members seen row ++ rows_text members (seen ++ names_for members row.reply) rows

-- the program's path, and the lines below it
unfoldable pub tree_text : Scope → List ℕ
tree_text scope =
    path_at scope.members 0 ++ codes "\n" ++ rows_text scope.members (names_at scope.members 0) (tree_rows scope.members scope.replies)
