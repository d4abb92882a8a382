-- What private functions do: merge the files and the links of a search directory. Both are sorted by soname, with one for each soname.
use Rattle.std.specs.Prelude.{List, [], ◌∷◌, Option, Some, None}
use Rattle.std.specs.Cmp.Lexicographic.{slice_cmp}
use Rattle.std.specs.Ordering.{match_ordering, nat_cmp}
use Rattle.std.specs.declared.cmp.Ordering.{Ordering}
use Rattle.std.specs.declared.cmp.Ordering.TheVariants.{Less, Greater}
use Rattle.place_libraries.specs.Library.{Library}

-- A file merged with links and later files. Links with a smaller soname come before the file. A link with the file's soname is dropped.
abbrev pub placed : Library → (List Library → List Library) → List Library → List Library
placed file following [] = file ∷ following []
placed file following (link ∷ links) =
    match_ordering (slice_cmp nat_cmp link.soname file.soname) (link ∷ placed file following links) (file ∷ following links) (file ∷ following (link ∷ links))

-- files and links merged by soname; if both have a soname, the file is taken
abbrev pub merged : List Library → List Library → List Library
merged [] = λ links. links
merged (file ∷ files) = placed file (merged files)

-- Whether the first link or the first file is next. The link is, if its soname is smaller or all files are gone.
abbrev pub turn : Option Library → Option Library → Ordering
turn file None = Greater
turn None (Some link) = Less
turn (Some file) (Some link) = slice_cmp nat_cmp link.soname file.soname
