-- A cache in the loader's order, by its bytes.
use Rattle.std.specs.Prelude.{ℕ, suc, List, [], ◌∷◌, Option, Some, None, option_map, Result, Ok, Err, if◌then◌else◌}
use Rattle.std.specs.Ordering.{is_lt}
use Rattle.cache_reader.specs.Cache.{CachedEntry, defect, read}
use Rattle.cache_reader.specs.declared.defect.CacheDefect.{CacheDefect}
use Rattle.cache_reader.specs.declared.defect.CacheDefect.TheVariants.{Unsorted}
use Rattle.name_order.specs.Order.{token_order}

-- the index of the first entry whose name is above its predecessor's; the predecessor of the first entry has this name
abbrev pub rise_after : List ℕ → List CachedEntry → Option ℕ
rise_after name [] = None
rise_after name (e ∷ entries) = if is_lt (token_order name e.name) then Some 0 else option_map suc (rise_after e.name entries)

-- the index of the first entry whose name is above its predecessor's, in the loader's order
abbrev pub first_rise : List CachedEntry → Option ℕ
first_rise [] = None
first_rise (e ∷ entries) = option_map suc (rise_after e.name entries)

abbrev pub sorted_by : List CachedEntry → Option CacheDefect → Option ℕ → Result (List CachedEntry) CacheDefect
sorted_by entries (Some d) rise = Err d
sorted_by entries None (Some entry) = Err (Unsorted entry)
sorted_by entries None None = Ok entries

-- the entries of a cache in the loader's order, or its first defect
abbrev pub sorted_in : List ℕ → Result (List CachedEntry) CacheDefect
sorted_in bytes = sorted_by (read bytes) (defect bytes) (first_rise (read bytes))
