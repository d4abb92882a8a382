-- The files that are opened: each file without an identity, and one file of each identity that has no stamp.
use Rattle.std.specs.Prelude.{ℕ, ◌+◌, ◌≡◌, Bool, false, List, ◌++◌, map, length, filter, if◌then◌else◌, Option, None}
use Rattle.std.specs.List.{before_first, filter_map}
use Rattle.std.specs.Option.{is_none, option_map_or}
use Rattle.std.specs.Ordering.{eq_by_cmp}
use Rattle.std.specs.Set.{distinct_count, is_member}
use Rattle.std.specs.Str.{bytes_eq}
use Rattle.aux_cache.specs.Ids.{id_cmp}
use Rattle.aux_cache.specs.Stamps.{stamp_of}
use Rattle.aux_cache.specs.declared.stamps.Stamp.{Stamp}
use Rattle.elf_dynamic.specs.Begun.{file_keys, key_in}
use Rattle.image_tree.specs.declared.node.Id.{Id}
use Rattle.image_tree.specs.Tree.{Nodes, node_at}
use Rattle.file_stamps.specs.Stamped.{id_at}

-- ---- identities

abbrev pub same_id : Id → Id → Bool
same_id = eq_by_cmp id_cmp

abbrev pub has_id : List Id → Id → Bool
has_id ids id = is_member same_id ids id

-- both lists have the same identities
abbrev pub HaveSameIds : List Id → List Id → Type 0
HaveSameIds ids others = (id : Id) → has_id ids id ≡ has_id others id

-- the identities that have stamps
abbrev pub ids_of : List Stamp → List Id
ids_of stamps = map (λ s. s.id) stamps

-- the identities of the files at these paths, in order
abbrev pub ids_at : Nodes → List (List ℕ) → List Id
ids_at t paths = filter_map (id_at t) paths

-- ---- the files that are opened

-- the key of the file at a path, unless the file has one of these identities
abbrev pub new_key : Nodes → List Id → List ℕ → Option (List ℕ)
new_key t ids path = if option_map_or (has_id ids) (id_at t path) false then None else key_in (node_at t path)

-- The keys of the opened files among these paths, in order: the files that have none of these identities, and not that of an earlier path.
abbrev pub opened_keys : Nodes → List Id → List (List ℕ) → List (List ℕ)
opened_keys t ids paths = filter_map (λ path. new_key t (ids ++ ids_at t (before_first (bytes_eq path) paths)) path) paths

-- ---- their number

-- the keys of the files that have no identity
abbrev pub keys_without_id : Nodes → List (List ℕ) → List (List ℕ)
keys_without_id t paths = file_keys t (filter (λ path. is_none (id_at t path)) paths)

-- the identities of these files that have no stamp
abbrev pub unstamped_ids : Nodes → List Stamp → List (List ℕ) → List Id
unstamped_ids t stamps paths = filter (λ id. is_none (stamp_of stamps id)) (ids_at t paths)

-- counts each file without an identity, and each identity without a stamp once
abbrev pub opens : Nodes → List Stamp → List (List ℕ) → ℕ
opens t stamps paths = length (keys_without_id t paths) + distinct_count same_id (unstamped_ids t stamps paths)
