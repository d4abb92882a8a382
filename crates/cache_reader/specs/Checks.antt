-- What private functions require and return.
use Rattle.std.specs.Prelude.{◌≡◌, ◌≤◌, ◌<◌, ◌+◌, ◌-◌, ◌*◌, ℕ, true, nat_lt, List, length, map, flat_map, Option, Some, None, Result, Ok, Err}
use Rattle.std.specs.List.{range_with_len, list_all}
use Rattle.cache_reader.specs.declared.defect.CacheDefect.{CacheDefect}
use Rattle.cache_layout.specs.Layout.{header_size, entry_size, directory_size, section_size, names_tag, generator_tag, is_named, name_index}
use Rattle.cache_reader.specs.declared.extension.Section.{Section}
use Rattle.cache_reader.specs.declared.extension.Sections.{Sections}
use Rattle.cache_reader.specs.Cache.{Sentence, first_defect, nlibs, is_ended, section_count, sections_at, sections, with_tag, names_section, name_offsets, numbers_in, is_inside, key, value, hwcap}

-- Ok if there isn't a defect
abbrev pub checked : Option CacheDefect → Result (Unit {0}) CacheDefect
checked None = Ok tt
checked (Some defect) = Err defect

-- the first defect of the entries from this index on, out of n entries
abbrev pub rest_from : (ℕ → List Sentence) → ℕ → ℕ → Option CacheDefect
rest_from S index n = first_defect (flat_map S (range_with_len index (n - index)))

-- The last NUL is directly before this offset. The offset is 0 if the file has no NUL.
pub record EndsAt (bytes : List ℕ) (end : ℕ) : Type 0 where
  pub within : end ≤ length bytes
  pub texts : (at : ℕ) → is_ended bytes at ≡ nat_lt at end

-- the header and the entries are inside the file
abbrev pub HasEntries : List ℕ → Type 0
HasEntries bytes = header_size + entry_size * nlibs bytes ≤ length bytes

-- the directory at this offset is inside the file
abbrev pub HasSections : List ℕ → ℕ → Type 0
HasSections bytes at = at + directory_size + section_size * section_count bytes at ≤ length bytes

-- the values of a function for the indexes from this one on, out of n indexes
abbrev pub items_from : {X : Type 0} → (ℕ → X) → ℕ → ℕ → List X
items_from f index n = map f (range_with_len index (n - index))

-- the first section of each of the two tags, in the directory at this offset
abbrev pub sections_in : List ℕ → ℕ → Sections
sections_in bytes at = record {
  names = with_tag names_tag (sections_at bytes at);
  generator = with_tag generator_tag (sections_at bytes at);
}

-- these are the sections of a file
pub record AreSectionsOf (bytes : List ℕ) (s : Sections) : Type 0 where
  pub names : s.names ≡ names_section bytes
  pub generator : s.generator ≡ with_tag generator_tag (sections bytes)

-- In a file without a defect, all parts that are read are inside the file.
pub record IsSound (bytes : List ℕ) : Type 0 where
  pub entries : HasEntries bytes
  pub keys : (i : ℕ) → i < nlibs bytes → key bytes i < length bytes
  pub values : (i : ℕ) → i < nlibs bytes → value bytes i < length bytes
  pub names : (i : ℕ) → i < nlibs bytes → is_named (hwcap bytes i) ≡ true → name_index (hwcap bytes i) < length (name_offsets bytes)
  pub inside : list_all (is_inside bytes) (sections bytes) ≡ true
  pub ended : (s : Section) → names_section bytes ≡ Some s → list_all (is_ended bytes) (numbers_in bytes s) ≡ true
