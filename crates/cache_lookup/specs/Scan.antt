-- The entry of a cache that the loader takes for a name (ld.so(8), glibc-hwcaps, and _dl_load_cache_lookup of glibc's dl-cache.c). It is
-- specified as a choice among all entries, without a search algorithm.
use Rattle.std.specs.Prelude.{◌≡◌, ◌<◌, ℕ, ◌-◌, pos, Bool, true, false, ◌==◌, ◌&&◌, List, [], ◌∷◌, ◌++◌, length, map, take, slice_get, slice_index_or, Option, None, option_map}
use Rattle.std.specs.List.{position}
use Rattle.std.specs.List.Sorted.{IsSorted}
use Rattle.std.specs.Option.{option_and_then, option_map_or, option_or}
use Rattle.std.specs.Ordering.{flip_args, int_eq, is_lt, on}
use Rattle.std.specs.Str.{bytes_eq}
use Rattle.lib_types.specs.declared.abi.Abi.{Abi}
use Rattle.lib_types.specs.Abi.{flags_of}
use Rattle.cache_layout.specs.Layout.{is_named}
use Rattle.cache_reader.specs.Cache.{CachedEntry}
use Rattle.name_order.specs.Order.{token_order}

-- ---- the rule

-- the entry has this name, byte for byte, and this ABI
abbrev pub is_candidate : List ℕ → Abi → CachedEntry → Bool
is_candidate name abi entry = bytes_eq entry.name name && int_eq entry.flags (pos (flags_of abi))

-- the entry is for processors with this hwcaps name
abbrev pub is_for : List ℕ → CachedEntry → Bool
is_for cap entry = is_named entry.hwcap && option_map_or (bytes_eq cap) entry.cap false

-- the entry is for any processor
abbrev pub has_no_hwcap : CachedEntry → Bool
has_no_hwcap entry = entry.hwcap == 0

-- the uses of entries: the caller's hwcaps names in order, and then no hwcaps name
abbrev pub uses : List (List ℕ) → List (CachedEntry → Bool)
uses caps = map is_for caps ++ has_no_hwcap ∷ []

-- For the first of these uses that has a candidate, the index of its first candidate.
abbrev pub first_for : List CachedEntry → (CachedEntry → Bool) → List (CachedEntry → Bool) → Option ℕ
first_for entries candidate [] = None
first_for entries candidate (fits ∷ rest) = option_or (position (λ e. candidate e && fits e) entries) (first_for entries candidate rest)

-- the index of the entry that the loader takes
unfoldable pub chosen : List CachedEntry → List ℕ → Abi → List (List ℕ) → Option ℕ
chosen entries name abi caps = first_for entries (is_candidate name abi) (uses caps)

-- the path of the entry with this index
abbrev pub path_at : List CachedEntry → ℕ → Option (List ℕ)
path_at entries index = option_map (λ e. e.path) (slice_get entries index)

-- the path of the entry that the loader takes
abbrev pub scan : List CachedEntry → List ℕ → Abi → List (List ℕ) → Option (List ℕ)
scan entries name abi caps = option_and_then (path_at entries) (chosen entries name abi caps)

-- ---- sorted caches

abbrev pub name_of : CachedEntry → List ℕ
name_of entry = entry.name

-- no name is greater than the name before it, in the loader's order
abbrev pub AreDescending : List CachedEntry → Type 0
AreDescending entries = IsSorted (flip_args (on name_of token_order)) entries

-- the first entry whose name is greater than the name before it has this index
pub record IsFirstRise (entries : List CachedEntry) (index : ℕ) : Type 0 where
  pub following : 0 < index
  pub within : index < length entries
  pub before : AreDescending (take index entries)
  pub rises : (d : CachedEntry) → is_lt (token_order (slice_index_or entries (index - 1) d).name (slice_index_or entries index d).name) ≡ true
