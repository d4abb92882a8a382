-- Dangling links, grouped by the directories that the search directories resolve to.
use Rattle.std.proofs.Common.{◌≡◌, ◌++◌, ◌||◌, not, ℕ, Bool, true, false, List, [], ◌∷◌, map, refl, ap, sym, ◌∙◌, Ordering}
use Rattle.std.proofs.lemmas.Bool.{or_parts}
use Rattle.std.proofs.lemmas.List.Concat.{flat_map_single}
use Rattle.std.proofs.lemmas.Slice.Eq.{bytes_eq-Decides, slice_eq-Decides}
use Rattle.std.specs.BTreeMap.{insert_entry}
use Rattle.std.specs.Bool.{Decides}
use Rattle.std.specs.Cmp.Lexicographic.{pointwise, slice_cmp}
use Rattle.std.specs.List.{flat_map, fold, list_any}
use Rattle.std.specs.Ordering.{match_ordering, nat_cmp}
use Rattle.std.specs.Str.{bytes_eq}
use Rattle.std.specs.declared.cmp.Ordering.TheVariants.{Less, Equal, Greater}
use Rattle.hwcap_dirs.specs.declared.kinds.Place.{Place}
use Rattle.lib_types.proofs.SortedPairs.{by_ordering, by_test}
use Rattle.image_tree.specs.Tree.{Nodes}
use Rattle.string_pool.proofs.EachOnce.{ascending_alike}
use Rattle.string_pool.proofs.InByteOrder.{same_text}
use Rattle.library_files.specs.Folders.{DanglingLinks, by_folder, dangling_of, with_folder}
use Rattle.string_pool.specs.Order.{ascending, with_text}
use Rattle.library_files.specs.Search.{dangling, dangling_in, folder_links, followed}
use Rattle.string_pool.specs.Shared.{HaveSame}
use Rattle.library_files.specs.declared.links.FolderLinks.{FolderLinks}

module _ (t : Nodes) where
  abbrev listed : List (List ℕ) → DanglingLinks
  listed folders = map (λ folder. (folder, dangling_in t folder)) folders

  one_more : (folder : List ℕ) (folders : List (List ℕ)) → insert_entry (slice_cmp nat_cmp) (listed folders) folder (dangling_in t folder) ≡ listed (with_text folders folder)
  one_more folder [] = refl
  one_more folder (next ∷ rest) = by_ordering (slice_cmp nat_cmp folder next)
      (λ a. by_order Less a refl)
      (λ a. by_order Equal a (ap (λ paths. (next, paths) ∷ listed rest) (ap (dangling_in t) (same_text folder next a))))
      (λ a. by_order Greater a (ap (λ found. (next, dangling_in t next) ∷ found) (one_more folder rest)))
    where
      placed : Ordering → DanglingLinks
      placed r = match_ordering r ((folder, dangling_in t folder) ∷ listed (next ∷ rest)) ((next, dangling_in t folder) ∷ listed rest)
          ((next, dangling_in t next) ∷ insert_entry (slice_cmp nat_cmp) (listed rest) folder (dangling_in t folder))

      kept : Ordering → List (List ℕ)
      kept r = match_ordering r (folder ∷ next ∷ rest) (next ∷ rest) (next ∷ with_text rest folder)

      by_order : (r : Ordering) → slice_cmp nat_cmp folder next ≡ r → placed r ≡ listed (kept r) → placed (slice_cmp nat_cmp folder next) ≡ listed (kept (slice_cmp nat_cmp folder next))
      by_order r a h = ap placed a ∙ h ∙ sym (ap (λ o. listed (kept o)) a)

  abbrev folders_of : List FolderLinks → List (List ℕ)
  folders_of links = map (λ (folder : FolderLinks). folder.folder) links

  -- whether the dangling links of a directory are those of the tree
  abbrev is_right : FolderLinks → Bool
  is_right folder = pointwise bytes_eq (dangling_of folder) (dangling_in t folder.folder)

  right_is : (folder : FolderLinks) → Decides (is_right folder) (dangling_of folder ≡ dangling_in t folder.folder)
  right_is folder = slice_eq-Decides bytes_eq-Decides (dangling_of folder) (dangling_in t folder.folder) (is_right folder) refl

  all_listed : (links : List FolderLinks) (folders : List (List ℕ)) → list_any (λ folder. not (is_right folder)) links ≡ false
      → fold with_folder (listed folders) links ≡ listed (fold with_text folders (folders_of links))
  all_listed [] folders h = refl
  all_listed (folder ∷ links) folders h =
      let parts = or_parts (not (is_right folder)) (list_any (λ folder. not (is_right folder)) links) h in
      let right : is_right folder ≡ true = by_test (is_right folder) (λ e. e) (λ e. let z : true ≡ false = sym (ap not e) ∙ parts.0 in absurd (cc)) in
      let is : dangling_of folder ≡ dangling_in t folder.folder = (right_is folder).0 right in
      ap (λ paths. fold with_folder (insert_entry (slice_cmp nat_cmp) (listed folders) folder.folder paths) links) is
      ∙ ap (λ found. fold with_folder found links) (one_more folder.folder folders) ∙ all_listed links (with_text folders folder.folder) parts.1

  none_wrong : (places : List Place) → list_any (λ folder. not (is_right folder)) (map (folder_links t) places) ≡ false
  none_wrong [] = refl
  none_wrong (place ∷ places) =
      ap (λ b. not b || list_any (λ folder. not (is_right folder)) (map (folder_links t) places)) ((right_is (folder_links t place)).1 refl) ∙ none_wrong places

  folders_are : (places : List Place) → flat_map (λ (folder : FolderLinks). folder.folder ∷ []) (map (folder_links t) places) ≡ map (λ place. place.real) places
  folders_are [] = refl
  folders_are (place ∷ places) = ap (λ folders. place.real ∷ folders) (folders_are places)

  -- search directories that resolve to the same directory share one list of links
  all_gathered : (places : List Place) (each : List FolderLinks) → HaveSame each (map (folder_links t) places)
      → by_folder each ≡ listed (ascending (map (λ place. place.real) places))
  unfolding ascending
  all_gathered places each same =
      all_listed each [] (same (λ folder. not (is_right folder)) ∙ none_wrong places)
      ∙ ap listed (ap ascending (sym (flat_map_single (λ (folder : FolderLinks). folder.folder) each))
      ∙ ascending_alike (λ (folder : FolderLinks). folder.folder ∷ []) each (map (folder_links t) places) same ∙ ap ascending (folders_are places))

  gathered : (folders : List (List ℕ)) → flat_map (λ paths. paths) (map (λ e. e.1) (listed folders)) ≡ flat_map (dangling_in t) folders
  gathered [] = refl
  gathered (folder ∷ folders) = ap (λ paths. dangling_in t folder ++ paths) (gathered folders)

pub all_dangling : (t : Nodes) (places : List Place) (links each : List FolderLinks) → links ≡ followed t places → HaveSame each links
    → flat_map (λ paths. paths) (map (λ e. e.1) (by_folder each)) ≡ dangling t places
unfolding followed dangling
all_dangling t places links each e same =
    let alike : HaveSame each (map (folder_links t) places) = λ test. same test ∙ ap (list_any test) e in
    ap (λ found. flat_map (λ paths. paths) (map (λ e. e.1) found)) (all_gathered t places each alike) ∙ gathered t (ascending (map (λ place. place.real) places))
