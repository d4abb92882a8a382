-- What private functions use: the links of a search directory that may win a soname.
use Rattle.std.specs.Prelude.{◌≡◌, ℕ, Bool, true, false, List, filter}
use Rattle.std.specs.List.{find}
use Rattle.std.specs.Option.{is_some}
use Rattle.place_libraries.specs.Best.{has_soname}
use Rattle.place_libraries.specs.Library.{Library}
use Rattle.cache_entries.specs.Winner.{has_own_name, named_links, other_links}

-- one of the files has this soname
abbrev pub has_file : List Library → List ℕ → Bool
has_file files soname = is_some (find (has_soname soname) files)

-- each soname of the files `left` is a soname of `files`
abbrev pub AreAmong : List Library → List Library → Type 0
AreAmong left files = (soname : List ℕ) → has_file left soname ≡ true → has_file files soname ≡ true

-- the link is looked up by its own name, and a file has this soname
pub record IsPassed (files : List Library) (link : Library) : Type 0 where
  pub own : has_own_name link ≡ true
  pub there : has_file files link.name ≡ true

-- the kept links have at least all links that are looked up by a soname that none of the files has
pub record HaveOthers (files links kept : List Library) : Type 0 where
  pub own : (soname : List ℕ) → has_file files soname ≡ false → filter (has_soname soname) (named_links kept) ≡ filter (has_soname soname) (named_links links)
  pub others : other_links kept ≡ other_links links
