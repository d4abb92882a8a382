-- If the library names of the search directories were seen, the same links are planned for the part and for the tree, and the same sonames are reported.
use Rattle.std.proofs.Common.{◌≡◌, ℕ, ◌+◌, Bool, true, false, cond, not, ◌&&◌, ◌||◌, nat_lt, List, [], ◌∷◌, ◌++◌, flat_map, length, map, refl, ap, sym, ◌∙◌, Option, Some, None}
use Rattle.std.proofs.lemmas.Bool.{and_parts}
use Rattle.std.specs.List.{cons_option, filter_map}
use Rattle.file_table.specs.Analyses.{Analyses, AgreeOn, HaveNames}
use Rattle.hwcap_dirs.specs.Places.{are_dirs, is_dir}
use Rattle.hwcap_dirs.specs.declared.kinds.Place.{Place}
use Rattle.image_tree.specs.Paths.{join}
use Rattle.image_tree.specs.Tree.{Nodes, kind_at}
use Rattle.image_tree.specs.declared.path.TheConstants.{PATH_MAX}
use Rattle.lib_types.proofs.SortedPairs.{by_test}
use Rattle.lib_types.specs.Name.{is_name}
use Rattle.library_files.specs.Places.{by_place, has_no_cap, is_link_to, links_to}
use Rattle.library_files.specs.Search.{wanted}
use Rattle.link_plan.specs.declared.kinds.Planned.{Planned}
use Rattle.name_order.specs.LibraryName.{is_library_name}
use Rattle.place_libraries.proofs.Named.{best_named}
use Rattle.place_libraries.proofs.NoOtherFiles.{by_place_same}
use Rattle.place_libraries.specs.Best.{best, bests, is_own, sonames}
use Rattle.place_libraries.specs.Libraries.{libraries_in}
use Rattle.place_libraries.specs.Library.{Library}
use Rattle.root_folder.specs.Whole.{IsWhole}
use Rattle.seen_tree.proofs.Same.{kind_seen, seen_parts}
use Rattle.seen_tree.specs.Part.{AreSeen, IsPart, IsSeen}
use Rattle.soname_links.proofs.Named.{is_dir_kind}
use Rattle.soname_links.proofs.NoOtherFiles.{blocked_agree, links_agree, mixed_agree}
use Rattle.soname_links.specs.Marks.{blocked, blocked_for, blocked_in, mark, mixed, mixed_among}
use Rattle.soname_links.specs.Plan.{is_blocked, is_regarded, is_taken, link_for, links, links_in}
use Rattle.seen_places.proofs.Libraries.{all_libraries_seen, libraries_seen}
use Rattle.seen_places.proofs.Sonames.{soname_seen}
use Rattle.seen_places.specs.Looked.{names_looked, wanted_looked}

module _ (t part : Nodes) (whole : IsWhole t) (is : IsPart t part) where
  -- ---- a soname

  module _ (number : ℕ) (place : Place) (library : Library) (seen : is_library_name library.soname ≡ true → IsSeen t part (join place.real library.soname)) where
    abbrev at_soname : List ℕ
    at_soname = join place.real library.soname

    abbrev made : Planned
    made = record { place = number; soname = library.soname; file = library.name; path = join place.real library.soname }

    regarded_seen : is_regarded library ≡ true → IsSeen t part (join place.real library.soname)
    regarded_seen e = seen (and_parts (is_library_name library.soname) (not (is_own library)) e).0

    blocked_same : is_regarded library ≡ true → is_blocked part at_soname ≡ is_blocked t at_soname
    blocked_same e = ap (λ k. nat_lt PATH_MAX (length at_soname) || is_taken k) (kind_seen t part whole is at_soname (regarded_seen e))

    wants : Nodes → Bool
    wants a = not (is_blocked a at_soname || links_to a at_soname library.name)

    wants_same : is_regarded library ≡ true
        → not (is_blocked part at_soname || links_to part at_soname library.name) ≡ not (is_blocked t at_soname || links_to t at_soname library.name)
    wants_same e =
        ap (λ b. not (b || links_to part at_soname library.name)) (blocked_same e)
        ∙ ap (λ o. not (is_blocked t at_soname || is_link_to library.name o)) (regarded_seen e)

    unregarded : (b : Bool) → is_regarded library ≡ false → cond (is_regarded library && b) (Some made) None ≡ None
    unregarded b e = ap (λ r. cond (r && b) (Some made) None) e

    link_seen : link_for part number place library ≡ link_for t number place library
    link_seen = by_test (is_regarded library)
        (λ e. ap (λ b. cond (is_regarded library && b) (Some made) None) (wants_same e))
        (λ e.
        unregarded (not (is_blocked part at_soname || links_to part at_soname library.name)) e
        ∙ sym (unregarded (not (is_blocked t at_soname || links_to t at_soname library.name)) e))

    unmarked : (b : Bool) → is_regarded library ≡ false → cond (is_regarded library && b) (Some (mark number library.soname)) None ≡ None
    unmarked b e = ap (λ r. cond (r && b) (Some (mark number library.soname)) None) e

    mark_seen : blocked_for part number place library ≡ blocked_for t number place library
    mark_seen = by_test (is_regarded library)
        (λ e. ap (λ b. cond (is_regarded library && b) (Some (mark number library.soname)) None) (blocked_same e))
        (λ e. unmarked (is_blocked part at_soname) e ∙ sym (unmarked (is_blocked t at_soname) e))

  -- ---- a search directory

  module _ (what : Analyses) (named : HaveNames what) where
    module _ {Z : Type 0} (f g : Library → Option Z) (place : Place) (same : (library : Library) → is_name library.soname ≡ true → f library ≡ g library) where
      abbrev rest : (Library → Option Z) → List (List ℕ) → List Z
      rest h names = filter_map h (filter_map (best (libraries_in what t place)) names)

      of_sonames : (names : List (List ℕ)) → rest f names ≡ rest g names
      of_sonames [] = refl
      of_sonames (soname ∷ names) = elim (best (libraries_in what t place) soname) as (λ o. best (libraries_in what t place) soname ≡ o
          → filter_map f (cons_option o (filter_map (best (libraries_in what t place)) names)) ≡ filter_map g (cons_option o (filter_map (best (libraries_in what t place)) names))) [
            | None ↦ λ e. of_sonames names
            | Some library ↦ λ e.
                let names_valid = and_parts (is_name library.name) (is_name library.soname) (best_named what t whole.entries named place soname library e) in
                ap (λ o. cons_option o (rest f names)) (same library names_valid.1) ∙ ap (cons_option (g library)) (of_sonames names)
          ] refl

      pub of_bests : filter_map f (bests (libraries_in what t place)) ≡ filter_map g (bests (libraries_in what t place))
      of_bests = of_sonames (sonames (libraries_in what t place))

    module _ (number : ℕ) (place : Place) (here : is_dir (kind_at t place.real) ≡ true) (all : AreSeen t part (names_looked t place)) where
      at_name : (library : Library) → is_name library.soname ≡ true → is_library_name library.soname ≡ true → IsSeen t part (join place.real library.soname)
      at_name library n l = soname_seen t part is place.real (is_dir_kind _ here) all library.soname n l

      links_in_seen : links_in what part number place ≡ links_in what t number place
      links_in_seen = ap (λ xs. cond (has_no_cap place) xs [])
          (ap (λ libraries. filter_map (link_for part number place) (bests libraries)) (libraries_seen t part whole is what place all)
          ∙ of_bests (link_for part number place) (link_for t number place) place (λ library n. link_seen number place library (at_name library n)))

      blocked_in_seen : blocked_in what part number place ≡ blocked_in what t number place
      blocked_in_seen = ap (λ xs. cond (has_no_cap place) xs [])
          (ap (λ libraries. filter_map (blocked_for part number place) (bests libraries)) (libraries_seen t part whole is what place all)
          ∙ of_bests (blocked_for part number place) (blocked_for t number place) place (λ library n. mark_seen number place library (at_name library n)))

    -- ---- all search directories

    by_place_seen : {A : Type 0} (f g : ℕ → Place → List A)
        → ((number : ℕ) (place : Place) → is_dir (kind_at t place.real) ≡ true → AreSeen t part (names_looked t place) → f number place ≡ g number place)
        → (number : ℕ) (places : List Place) → are_dirs t places ≡ true → AreSeen t part (flat_map (names_looked t) places) → by_place f number places ≡ by_place g number places
    by_place_seen f g same number [] dirs all = refl
    by_place_seen f g same number (place ∷ places) dirs all =
        let here = and_parts (is_dir (kind_at t place.real)) (are_dirs t places) dirs in
        let parts = seen_parts t part (names_looked t place) (flat_map (names_looked t) places) all in
        ap (λ xs. xs ++ by_place f (number + 1) places) (same number place here.0 parts.0)
        ∙ ap (λ xs. g number place ++ xs) (by_place_seen f g same (number + 1) places here.1 parts.1)

    pub links_seen : (places : List Place) → are_dirs t places ≡ true → AreSeen t part (wanted_looked t places) → links what part places ≡ links what t places
    unfolding links wanted_looked
    links_seen places dirs all = by_place_seen (links_in what part) (links_in what t) links_in_seen 0 places dirs all

    pub blocked_seen : (places : List Place) → are_dirs t places ≡ true → AreSeen t part (wanted_looked t places) → blocked what part places ≡ blocked what t places
    unfolding blocked wanted_looked
    blocked_seen places dirs all = by_place_seen (blocked_in what part) (blocked_in what t) blocked_in_seen 0 places dirs all

  pub mixed_seen : (what : Analyses) (places : List Place) → AreSeen t part (wanted_looked t places) → mixed what part places ≡ mixed what t places
  unfolding mixed
  mixed_seen what places all =
      by_place_same (λ number place libraries. map (mark number) (mixed_among libraries)) (libraries_in what t) (libraries_in what part) places 0
      (all_libraries_seen t part whole is what places all)

  -- ---- the same if the ELF information is the same for the files with library names

  module _ (what new : Analyses) (places : List Place) (all : AreSeen t part (wanted_looked t places)) (same : AgreeOn (wanted t places) what new) where
    pub links_read : HaveNames new → are_dirs t places ≡ true → links new part places ≡ links what t places
    links_read named dirs = links_seen new named places dirs all ∙ links_agree t what new places same

    pub blocked_read : HaveNames new → are_dirs t places ≡ true → blocked new part places ≡ blocked what t places
    blocked_read named dirs = blocked_seen new named places dirs all ∙ blocked_agree t what new places same

    pub mixed_read : mixed new part places ≡ mixed what t places
    mixed_read = mixed_seen new places all ∙ mixed_agree t what new places same
