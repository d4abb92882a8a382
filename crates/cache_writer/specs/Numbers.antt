-- Entries and hwcaps names whose strings are gathered.
use Rattle.std.specs.Prelude.{◌≡◌, ℕ, true, List, bytes_eq}
use Rattle.std.specs.List.{All, list_any}
use Rattle.lib_types.specs.declared.entry.Entry.{Entry}
use Rattle.string_pool.specs.Texts.{number_of}
use Rattle.cache_writer.specs.declared.numbers.NumberedEntry.{NumberedEntry}

-- the strings of an entry are in this list
pub record HasOwn (texts : List (List ℕ)) (entry : Entry) : Type 0 where
  pub soname : list_any (bytes_eq entry.soname) texts ≡ true
  pub path : list_any (bytes_eq entry.path) texts ≡ true

-- the strings of an entry are in this list, and these are their indexes
pub record HasNumbers (texts : List (List ℕ)) (numbered : NumberedEntry) : Type 0 where
  pub own : HasOwn texts numbered.entry.now
  pub soname : numbered.soname ≡ number_of texts numbered.entry.now.soname
  pub path : numbered.path ≡ number_of texts numbered.entry.now.path

-- the strings `some` are all in the list `texts`
abbrev pub AreAmong : List (List ℕ) → List (List ℕ) → Type 0
AreAmong texts some = All (λ text. list_any (bytes_eq text) texts ≡ true) some
