-- The entries of a cache: one for each search directory and soname with a winner (ldconfig(8), dl-cache.h).
use Rattle.std.specs.Prelude.{◌≡◌, ◌<◌, ℕ, ℤ, pos, Bool, List, [], ◌&&◌, ◌||◌, if◌then◌else◌, length, map, nat_le, unwrap_or}
use Rattle.std.specs.Cmp.{IsTotalOrder, back_total, bool_cmp_total, int_cmp_total, nat_cmp_total, on_total, then_total}
use Rattle.std.specs.Cmp.Lexicographic.{nat_list_cmp_total, slice_cmp}
use Rattle.std.specs.List.Sorted.{IsPermutation, IsSorted}
use Rattle.std.specs.Option.{is_none}
use Rattle.std.specs.Ordering.{bool_cmp, flip_args, int_cmp, nat_cmp, on, then_cmp}
use Rattle.std.specs.declared.cmp.Ordering.{Ordering}
use Rattle.cache_layout.specs.declared.limits.TheConstants.{ENTRIES_MAX}
use Rattle.cache_layout.specs.declared.limits.TheConstants.{STRING_MAX}
use Rattle.lib_types.specs.Name.{is_name}
use Rattle.hwcap_dirs.specs.Places.{is_cap}
use Rattle.hwcap_dirs.specs.declared.kinds.Place.{Place}
use Rattle.lib_types.specs.Abi.{flags_of}
use Rattle.lib_types.specs.declared.entry.Entry.{Entry}
use Rattle.name_order.proofs.Total.{name_order-total}
use Rattle.name_order.specs.Order.{name_order}
use Rattle.image_tree.specs.Paths.{join}
use Rattle.image_tree.specs.Node.{has_no_nul}
use Rattle.image_tree.specs.Tree.{Nodes}
use Rattle.place_libraries.specs.Best.{is_own}
use Rattle.library_files.specs.Places.{by_place, has_no_cap, links_to}
use Rattle.file_table.specs.Analyses.{Analyses}
use Rattle.cache_entries.specs.Winner.{winners_in}
use Rattle.cache_entries.specs.declared.fault.EntryFault.{EntryFault}
use Rattle.cache_entries.specs.declared.fault.EntryFault.TheVariants.{TooMany, NoMemory}
use Rattle.place_libraries.specs.Library.{Library}

-- The soname leads to the winner: it is the winner's name, or there is a link from the soname to the winner's name.
abbrev pub is_by_soname : Nodes → Place → Library → Bool
is_by_soname t place winner = has_no_cap place && (is_own winner || links_to t (join place.real winner.soname) winner.name)

abbrev pub entry_name : Nodes → Place → Library → List ℕ
entry_name t place winner = if is_by_soname t place winner then winner.soname else winner.name

abbrev pub entry_of : Nodes → ℕ → Place → Library → Entry
entry_of t number place winner = record {
  soname = winner.soname;
  abi = winner.abi;
  cap = place.cap;
  path = join place.spelled (entry_name t place winner);
  place = number;
}

abbrev pub entries_in : Analyses → Nodes → ℕ → Place → List Entry
entries_in what t number place = map (entry_of t number place) (winners_in what t place)

-- All entries, one search directory after another.
unfoldable pub found : Analyses → Nodes → List Place → List Entry
found what t places = by_place (entries_in what t) 0 places

-- ---- the order of the entries

abbrev pub soname_of : Entry → List ℕ
soname_of entry = entry.soname

abbrev pub flags_in : Entry → ℤ
flags_in entry = pos (flags_of entry.abi)

abbrev pub is_capless : Entry → Bool
is_capless entry = is_none entry.cap

abbrev pub cap_of : Entry → List ℕ
cap_of entry = unwrap_or entry.cap []

abbrev pub place_of : Entry → ℕ
place_of entry = entry.place

-- Descending sonames, then descending flags. Then entries with a hwcaps name come first, sorted by it. Last, the search directory
-- decides.
abbrev pub entry_order : Entry → Entry → Ordering
entry_order =
    then_cmp (flip_args (on soname_of name_order)) (then_cmp (flip_args (on flags_in int_cmp))
    (then_cmp (on is_capless bool_cmp) (then_cmp (on cap_of (slice_cmp nat_cmp)) (on place_of nat_cmp))))

pub entry_order-total : IsTotalOrder entry_order
entry_order-total =
    then_total (back_total (on_total soname_of name_order-total)) (then_total (back_total (on_total flags_in int_cmp_total))
    (then_total (on_total is_capless bool_cmp_total) (then_total (on_total cap_of nat_list_cmp_total) (on_total place_of nat_cmp_total))))

-- ---- limits

-- The entry fits into a cache: its soname and hwcaps name are names, and its path is short and has no NUL.
abbrev pub is_fit : Entry → Bool
is_fit entry = is_name entry.soname && is_cap entry.cap && nat_le (length entry.path) STRING_MAX && has_no_nul entry.path

-- ---- the list of entries

-- all entries, sorted
pub record AreEntriesOf (found : List Entry) (entries : List Entry) : Type 0 where
  pub all : IsPermutation found entries
  pub ordered : IsSorted entry_order entries

-- this is the only sorted list of the entries
abbrev pub IsOnlyListOf : List Entry → List Entry → Type 0
IsOnlyListOf found entries = (others : List Entry) → AreEntriesOf found others → others ≡ entries

-- the entries are too many, and this is their number
abbrev pub IsEntryFault : List Entry → EntryFault → Type 0
IsEntryFault found (TooMany count) = (count ≡ length found) × (ENTRIES_MAX < count)
IsEntryFault found NoMemory = Unit {0}
