-- What private functions require of sorted entries, and of the best candidate so far.
use Rattle.std.specs.Prelude.{◌≡◌, ◌<◌, ◌≤◌, ℕ, ◌+◌, ◌-◌, ◌^◌, Bool, true, false, nat_lt, List, length, slice_index_or, Option, None, Some, if◌then◌else◌}
use Rattle.std.specs.List.Sorted.{IsSortedWithin}
use Rattle.std.specs.Ordering.{flip_args, is_eq, is_gt, is_lt, on}
use Rattle.std.specs.Option.{is_some}
use Rattle.cache_layout.specs.Layout.{is_named}
use Rattle.lib_types.specs.Counts.{raised}
use Rattle.cache_reader.specs.Cache.{CachedEntry}
use Rattle.cache_lookup.specs.declared.choice.Choice.{Choice}
use Rattle.name_order.specs.Order.{token_order}
use Rattle.cache_lookup.specs.Scan.{name_of}
use Rattle.cache_lookup.specs.Probing.{order_to}

-- this is the entry at this index
abbrev pub IsEntryOf : List CachedEntry → ℕ → CachedEntry → Type 0
IsEntryOf entries index entry = (d : CachedEntry) → slice_index_or entries index d ≡ entry

-- this is the name of the entry at this index
abbrev pub IsNameAt : List CachedEntry → ℕ → List ℕ → Type 0
IsNameAt entries index name = (d : CachedEntry) → (slice_index_or entries index d).name ≡ name

-- the names before this index are above the looked-up name
abbrev pub AreAbove : List ℕ → List CachedEntry → ℕ → Type 0
AreAbove name entries index = (k : ℕ) (d : CachedEntry) → k < index → is_gt (order_to name (slice_index_or entries k d)) ≡ true

-- the names from this index on aren't above the looked-up name
abbrev pub AreNotAbove : List ℕ → List CachedEntry → ℕ → Type 0
AreNotAbove name entries index =
    (k : ℕ) (d : CachedEntry) → index ≤ k → k < length entries → is_gt (order_to name (slice_index_or entries k d)) ≡ false

-- the names between these indexes are equal to the looked-up name in the loader's order
abbrev pub AreEqual : List ℕ → List CachedEntry → ℕ → ℕ → Type 0
AreEqual name entries start end =
    (k : ℕ) (d : CachedEntry) → start ≤ k → k < end → is_eq (order_to name (slice_index_or entries k d)) ≡ true

-- A search can halve `width` entries `left` times until none are left. It has taken at most `k - left` steps.
pub record Halves (k old new width : ℕ) : Type 0 where
  pub left : ℕ
  pub within : left ≤ k
  pub enough : width < 2 ^ left
  pub steps : new ≤ raised old (k - left)

-- ---- the best candidate so far

-- the rank is below this bound
abbrev pub is_below : ℕ → Option ℕ → Bool
is_below bound None = false
is_below bound (Some rank) = nat_lt rank bound

-- of the entries before n, the first with the lowest rank has this index and this rank
pub record IsLeastAt (rank_of : CachedEntry → Option ℕ) (entries : List CachedEntry) (n index rank : ℕ) : Type 0 where
  pub within : index < n
  pub has : (d : CachedEntry) → rank_of (slice_index_or entries index d) ≡ Some rank
  pub before : (k : ℕ) (d : CachedEntry) → k < index → is_below (rank + 1) (rank_of (slice_index_or entries k d)) ≡ false
  pub all : (k : ℕ) (d : CachedEntry) → k < n → is_below rank (rank_of (slice_index_or entries k d)) ≡ false

-- The same for an optional choice. If it is None, no entry before n has a rank.
abbrev pub IsLeast : (CachedEntry → Option ℕ) → List CachedEntry → ℕ → Option Choice → Type 0
IsLeast rank_of entries n None = (k : ℕ) (d : CachedEntry) → k < n → rank_of (slice_index_or entries k d) ≡ None
IsLeast rank_of entries n (Some c) = IsLeastAt rank_of entries n c.index c.rank

-- the better of a choice and a later entry
abbrev pub better : Option Choice → ℕ → Option ℕ → Option Choice
better best index None = best
better None index (Some rank) = Some (record { index = index; rank = rank })
better (Some c) index (Some rank) = if nat_lt rank c.rank then Some (record { index = index; rank = rank }) else Some c

-- the entry has a hwcaps name exactly if its hwcap is the index of a name
abbrev pub IsTied : CachedEntry → Type 0
IsTied entry = is_some entry.cap ≡ is_named entry.hwcap

-- the names before an index don't rise
abbrev pub AreDescendingTo : List CachedEntry → ℕ → Type 0
AreDescendingTo entries index = IsSortedWithin (λ x y. is_lt (flip_args (on name_of token_order) x y)) entries 0 index
