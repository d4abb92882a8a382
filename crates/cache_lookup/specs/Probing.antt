-- What a search sees of the entries, and the number of its steps.
use Rattle.std.specs.Prelude.{◌<◌, ◌≤◌, ℕ, ◌+◌, ◌^◌, List, length, Option, None, if◌then◌else◌}
use Rattle.std.specs.List.{count_by, position}
use Rattle.std.specs.Ordering.{is_eq}
use Rattle.std.specs.declared.cmp.Ordering.{Ordering}
use Rattle.lib_types.specs.Counts.{raised}
use Rattle.lib_types.specs.declared.abi.Abi.{Abi}
use Rattle.cache_reader.specs.Cache.{CachedEntry}
use Rattle.name_order.specs.Order.{token_order}
use Rattle.cache_lookup.specs.Scan.{is_candidate, uses}

-- the entries, and the number of probes so far
pub record Probed : Type 0 where
  pub entries : List CachedEntry
  pub steps : ℕ

-- the loader's order of an entry's name against a name
abbrev pub order_to : List ℕ → CachedEntry → Ordering
order_to name entry = token_order entry.name name

-- the index of the use that a candidate is for
abbrev pub rank_of : List ℕ → Abi → List (List ℕ) → CachedEntry → Option ℕ
rank_of name abi caps entry = if is_candidate name abi entry then position (λ fits. fits entry) (uses caps) else None

-- the number of entries that are equal to a name in the loader's order
abbrev pub count_equal : List ℕ → List CachedEntry → ℕ
count_equal name entries = count_by (λ e. is_eq (order_to name e)) entries

-- A binary search. For n entries, e of which are equal to the name in the loader's order, it takes at most k + 2 + e steps. Here k is
-- the smallest number with n < 2 ^ k.
abbrev pub IsFast : List ℕ → Probed → Probed → Type 0
IsFast name old new =
    (k : ℕ) → length old.entries < 2 ^ k → new.steps ≤ raised old.steps (k + 2 + count_equal name old.entries)
