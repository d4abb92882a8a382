-- How the code finds the line that names a directory: it adds the lines of the conf files in order to a map.
use Rattle.std.specs.Prelude.{◌≡◌, ℕ, if◌then◌else◌, List, Option, Some, None}
use Rattle.std.specs.Borrow.{Bor}
use Rattle.std.specs.Map.{lookup}
use Rattle.std.specs.Option.{option_copied, option_or}
use Rattle.std.specs.Str.{bytes_eq}
use Rattle.ldso_conf.specs.declared.kinds.Conf.{Conf}
use Rattle.ldso_conf.specs.declared.kinds.Origin.{Origin}
use Rattle.search_listing.specs.Listing.{origin_of}

-- directories, each with a line that names it
abbrev pub Rows : Type 0
Rows = List (List ℕ × Bor Origin)

abbrev pub found : Rows → List ℕ → Option Origin
found rows dir = option_copied (lookup (bytes_eq dir) rows)

-- adds a line: a directory that was already named keeps its line; otherwise this line names it, if the directory is the line's
abbrev pub IsAdded : Rows → List ℕ → Origin → Rows → Type 0
IsAdded old named origin new = (dir : List ℕ) → found new dir ≡ option_or (found old dir) (if bytes_eq dir named then Some origin else None)

-- each directory has the first line that names it
abbrev pub AreFirst : Conf → Rows → Type 0
AreFirst conf rows = (dir : List ℕ) → found rows dir ≡ origin_of conf dir
