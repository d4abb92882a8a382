-- The wanted paths are files. Their libraries stay the same while other files get ELF information.
use Rattle.std.proofs.Common.{◌≡◌, ℕ, true, cond, ◌&&◌, ◌||◌, List, [], ◌∷◌, flat_map, ap, sym, ◌∙◌, Some, None, subst}
use Rattle.std.proofs.lemmas.Bool.{and_parts}
use Rattle.std.proofs.lemmas.List.Folds.{list_any-append}
use Rattle.std.specs.List.{list_all, list_any}
use Rattle.std.specs.Str.{bytes_eq}
use Rattle.hwcap_dirs.proofs.Reals.{all_given, all_items, any_item}
use Rattle.hwcap_dirs.specs.declared.kinds.Place.{Place}
use Rattle.lib_types.proofs.SortedPairs.{by_test}
use Rattle.name_order.specs.LibraryName.{is_library_name}
use Rattle.path_walk.specs.Files.{is_file}
use Rattle.image_tree.specs.Paths.{join}
use Rattle.image_tree.specs.Tree.{Nodes, children_of, kind_at}
use Rattle.string_pool.proofs.InByteOrder.{in_ascending}
use Rattle.string_pool.proofs.Members.{is_in, each_meets}
use Rattle.library_files.specs.Search.{file_in, files_in, wanted}

-- ---- the files of search directories

module _ (t : Nodes) where
  -- each path is a file
  in_is_file : (folder name path : List ℕ) → any_item name ≡ true → file_in t folder name ≡ Some path → is_file (kind_at t path) ≡ true
  in_is_file folder name path any e = by_test (is_library_name name && is_file (kind_at t (join folder name)))
      (λ h.
      let found : Some (join folder name) ≡ Some path = sym (ap (λ b. cond b (Some (join folder name)) None) h) ∙ e in
      let same : join folder name ≡ path = cc in
      subst (λ (q : List ℕ). is_file (kind_at t q) ≡ true) same (and_parts _ _ h).1)
      (λ h. let none : None ≡ Some path = sym (ap (λ b. cond b (Some (join folder name)) None) h) ∙ e in absurd (cc))

  are_files : (place : Place) → list_all (λ path. is_file (kind_at t path)) (files_in t place) ≡ true
  are_files place = all_given (λ path. is_file (kind_at t path)) any_item (file_in t place.real) (in_is_file place.real) (children_of t place.real) (all_items (children_of t place.real))

  all_are_files : (places : List Place) (path : List ℕ) → is_in (flat_map (files_in t) places) path ≡ true → is_file (kind_at t path) ≡ true
  all_are_files [] path there = absurd (cc)
  all_are_files (place ∷ places) path there = by_test (is_in (files_in t place) path)
      (λ h. each_meets (λ q. is_file (kind_at t q)) (files_in t place) path (are_files place) h)
      (λ h. all_are_files places path (sym (list_any-append (bytes_eq path) (files_in t place) (flat_map (files_in t) places) ∙ ap (λ b. b || is_in (flat_map (files_in t) places) path) h) ∙ there))

  pub wanted_are_files : (places : List Place) (path : List ℕ) → list_any (bytes_eq path) (wanted t places) ≡ true → is_file (kind_at t path) ≡ true
  unfolding wanted
  wanted_are_files places path there = all_are_files places path (sym (in_ascending (flat_map (files_in t) places) path) ∙ there)
