-- Stamps give the same analyses for the tree with the planned links as for the tree without them.
use Rattle.std.proofs.Common.{◌≡◌, ◌+◌, ◌++◌, if◌then◌else◌, ℕ, false, List, [], ◌∷◌, length, None, refl, ap, sym, ◌∙◌, arith}
use Rattle.std.proofs.lemmas.List.{length-append}
use Rattle.std.specs.List.{cons_option, filter_map}
use Rattle.std.specs.Option.{option_map_or}
use Rattle.aux_cache.specs.declared.stamps.Stamp.{Stamp}
use Rattle.file_stamps.specs.Files.{what_is}
use Rattle.elf_dynamic.specs.Begun.{key_in}
use Rattle.string_pool.proofs.Members.{AreSorted}
use Rattle.image_tree.specs.Tree.{Nodes, node_at}
use Rattle.image_tree.specs.declared.node.Id.{Id}
use Rattle.planned_tree.proofs.Agree.{agree}
use Rattle.planned_tree.specs.Search.{IsSearchedAlike}
use Rattle.file_stamps.proofs.Opened.{opened_alike, opened_append, opened_are}
use Rattle.file_stamps.proofs.Opens.{opened_by_count}
use Rattle.file_stamps.specs.Opened.{HaveSameIds, has_id, ids_at, ids_of, new_key, opened_keys, opens}
use Rattle.file_stamps.specs.Reading.{opened_by}
use Rattle.file_stamps.specs.Stamped.{id_at, stamp_at, stamp_by, stamps_at}
use Rattle.tree_face.specs.Store.{Contents}
use Rattle.library_search.proofs.FilesAgree.{id_same, what_same}

-- only the set of identities with stamps matters
pub keys_alike : (t : Nodes) (xs ys : List Id) (paths : List (List ℕ)) → AreSorted paths → HaveSameIds xs ys → opened_keys t xs paths ≡ opened_keys t ys paths
keys_alike t xs ys paths sorted same = opened_are t xs paths sorted ∙ opened_alike t xs ys paths same ∙ sym (opened_are t ys paths sorted)

-- a tree with the same identities and keys
module _ (t new : Nodes) (ids_same : (path : List ℕ) → id_at new path ≡ id_at t path) (keys_are : (path : List ℕ) → key_in (node_at new path) ≡ key_in (node_at t path)) where
  key_there : (ids : List Id) (path : List ℕ) → new_key new ids path ≡ new_key t ids path
  key_there ids path =
      ap (λ i. if option_map_or (has_id ids) i false then None else key_in (node_at new path)) (ids_same path)
      ∙ ap (λ k. if option_map_or (has_id ids) (id_at t path) false then None else k) (keys_are path)

  opened_same : (ids : List Id) (paths : List (List ℕ)) → opened_by new ids paths ≡ opened_by t ids paths
  opened_same ids [] = refl
  opened_same ids (path ∷ paths) =
      ap (λ o. cons_option o (opened_by new (ids ++ cons_option (id_at new path) []) paths)) (key_there ids path)
      ∙ ap (λ i. cons_option (new_key t ids path) (opened_by new (ids ++ cons_option i []) paths)) (ids_same path)
      ∙ ap (λ l. cons_option (new_key t ids path) l) (opened_same (ids ++ cons_option (id_at t path) []) paths)

  pub keys_same : (ids : List Id) (paths : List (List ℕ)) → AreSorted paths → opened_keys new ids paths ≡ opened_keys t ids paths
  keys_same ids paths sorted = opened_are new ids paths sorted ∙ opened_same ids paths ∙ sym (opened_are t ids paths sorted)

  pub ids_there_same : (paths : List (List ℕ)) → ids_at new paths ≡ ids_at t paths
  ids_there_same paths = ap (λ f. filter_map f paths) (agree (id_at new) (id_at t) ids_same)

module _ (held : Contents) (t new : Nodes) (alike : IsSearchedAlike t new) where
  stamp_same : stamp_at held new ≡ stamp_at held t
  stamp_same = agree (stamp_at held new) (stamp_at held t)
      (λ path. ap (λ i. stamp_by i (what_is held new path)) (id_same held t new alike path) ∙ ap (λ w. stamp_by (id_at t path) w) (what_same held t new alike path))

  pub stamps_same : (paths : List (List ℕ)) → stamps_at held new paths ≡ stamps_at held t paths
  stamps_same paths = ap (λ f. filter_map f paths) stamp_same

-- files that are read first, and files that are read after them
pub opens_both : (t : Nodes) (stamps : List Stamp) (xs ys : List (List ℕ)) → AreSorted xs → AreSorted ys
    → length (opened_keys t (ids_of stamps) xs) + length (opened_keys t (ids_of stamps ++ ids_at t xs) ys) ≡ opens t stamps (xs ++ ys)
opens_both t stamps xs ys first next =
    let ids : List Id = ids_of stamps in
    let whole = opened_by_count t stamps (xs ++ ys) in
    let parts : length (opened_by t ids (xs ++ ys)) ≡ length (opened_by t ids xs) + length (opened_by t (ids ++ ids_at t xs) ys) =
    ap length (opened_append t ids xs ys) ∙ length-append (opened_by t ids xs) (opened_by t (ids ++ ids_at t xs) ys) in
    let one = ap length (opened_are t ids xs first) in
    let other = ap length (opened_are t (ids ++ ids_at t xs) ys next) in
    omega (arith, whole, parts, one, other)
