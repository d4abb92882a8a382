-- At files that were seen, the same files are opened.
use Rattle.std.proofs.Common.{◌≡◌, ℕ, zero, suc, false, if◌then◌else◌, List, [], ◌∷◌, ◌++◌, filter_map, take, refl, ap, ◌∙◌, None}
use Rattle.std.specs.List.{before_first, cons_option, position_or_len}
use Rattle.std.specs.Option.{option_map_or}
use Rattle.std.specs.Str.{bytes_eq}
use Rattle.elf_dynamic.specs.Begun.{key_in}
use Rattle.file_stamps.specs.Opened.{has_id, ids_at, new_key, opened_keys}
use Rattle.file_stamps.specs.Stamped.{id_at, id_in}
use Rattle.image_tree.specs.Tree.{Nodes}
use Rattle.image_tree.specs.declared.node.Id.{Id}
use Rattle.seen_tree.specs.Part.{AreSeen, IsSeen}

module _ (t part : Nodes) where
  first_seen : (n : ℕ) (paths : List (List ℕ)) → AreSeen t part paths → AreSeen t part (take n paths)
  first_seen zero [] all = tt
  first_seen zero (path ∷ paths) all = tt
  first_seen (suc n) [] all = tt
  first_seen (suc n) (path ∷ paths) all = (all.0, first_seen n paths all.1)

  pub ids_seen : (paths : List (List ℕ)) → AreSeen t part paths → ids_at part paths ≡ ids_at t paths
  ids_seen [] all = refl
  ids_seen (path ∷ paths) all = ap (λ id. cons_option id (ids_at part paths)) (ap id_in all.0) ∙ ap (cons_option (id_at t path)) (ids_seen paths all.1)

  key_seen : (ids : List Id) (path : List ℕ) → IsSeen t part path → new_key part ids path ≡ new_key t ids path
  key_seen ids path seen = ap (λ o. if option_map_or (has_id ids) (id_in o) false then None else key_in o) seen

  module _ (ids : List Id) (paths : List (List ℕ)) (all : AreSeen t part paths) where
    each_key : (xs : List (List ℕ)) → AreSeen t part xs → filter_map (λ path. new_key part (ids ++ ids_at part (before_first (bytes_eq path) paths)) path) xs
        ≡ filter_map (λ path. new_key t (ids ++ ids_at t (before_first (bytes_eq path) paths)) path) xs
    each_key [] seen = refl
    each_key (path ∷ xs) seen =
        let before = before_first (bytes_eq path) paths in
        ap (λ key. cons_option key (filter_map (λ path. new_key part (ids ++ ids_at part (before_first (bytes_eq path) paths)) path) xs))
        (ap (λ l. new_key part (ids ++ l) path) (ids_seen before (first_seen (position_or_len (bytes_eq path) paths) paths all)) ∙ key_seen (ids ++ ids_at t before) path seen.0)
        ∙ ap (cons_option (new_key t (ids ++ ids_at t before) path)) (each_key xs seen.1)

    pub opened_seen : opened_keys part ids paths ≡ opened_keys t ids paths
    opened_seen = each_key paths all
