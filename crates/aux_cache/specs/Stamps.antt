-- Stamps as a map from file identities.
use Rattle.std.specs.Prelude.{◌≡◌, List, map, Option, IfSome, true}
use Rattle.std.specs.BTreeMap.{insert_entry, is_at}
use Rattle.std.specs.List.{All}
use Rattle.std.specs.List.Sorted.{IsStrictlySortedBy}
use Rattle.std.specs.Map.{lookup, values_of}
use Rattle.lib_types.specs.Name.{is_name}
use Rattle.lib_types.specs.Ranges.{IsInRange}
use Rattle.lib_types.specs.declared.analysis.Analysis.{Analysis}
use Rattle.lib_types.specs.declared.analysis.Analysis.TheVariants.{Lib, Not}
use Rattle.image_tree.specs.declared.node.Id.{Id}
use Rattle.aux_cache.specs.Ids.{id_cmp}
use Rattle.aux_cache.specs.declared.stamps.Stamp.{Stamp}

-- the stamps keyed by identity
abbrev pub by_id : List Stamp → List (Id × Stamp)
by_id stamps = map (λ s. (s.id, s)) stamps

-- the identities are strictly ascending, so they are distinct
abbrev pub IsSortedById : List Stamp → Type 0
IsSortedById stamps = IsStrictlySortedBy id_cmp (map (λ s. s.id) stamps)

-- the stamp with an identity
abbrev pub stamp_of : List Stamp → Id → Option Stamp
stamp_of stamps id = lookup (is_at (id_cmp id)) (by_id stamps)

-- the stamps after an insertion; a stamp with the same identity is replaced
abbrev pub put : List Stamp → Stamp → List Stamp
put stamps stamp = values_of (insert_entry id_cmp (by_id stamps) stamp.id stamp)

-- an auxiliary cache can record a library whose soname, if there is one, is a name, and a defect whose number is in its range
abbrev pub IsRecordable : Analysis → Type 0
IsRecordable (Lib abi soname) = IfSome soname (λ soname. is_name soname ≡ true)
IsRecordable (Not defect) = IsInRange defect

abbrev pub AreRecordable : List Stamp → Type 0
AreRecordable stamps = All (λ stamp. IsRecordable stamp.analysis) stamps
