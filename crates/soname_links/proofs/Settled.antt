-- The tree with the planned links wants no further link.
use Rattle.std.proofs.Common.{◌≡◌, ◌++◌, ◌+◌, ℕ, Bool, true, false, cond, not, ◌&&◌, ◌||◌, nat_lt, List, [], ◌∷◌, length, map, refl, ap, sym, subst, ◌∙◌, Some, None}
use Rattle.std.proofs.lemmas.Bool.{and_from, and_parts, or_parts, or_right}
use Rattle.std.proofs.lemmas.List.Folds.{list_all-append}
use Rattle.std.specs.List.{cons_option, filter_map, flat_map, list_all}
use Rattle.std.specs.Option.{option_and_then}
use Rattle.hwcap_dirs.specs.Places.{are_dirs, is_dir}
use Rattle.hwcap_dirs.specs.declared.kinds.Place.{Place}
use Rattle.lib_types.proofs.Bools.{and_false, not_true}
use Rattle.lib_types.proofs.SortedPairs.{by_test}
use Rattle.image_tree.specs.Paths.{is_path, join}
use Rattle.image_tree.specs.Tree.{Nodes, IsTree, kind_at, node_at}
use Rattle.image_tree.specs.declared.path.TheConstants.{PATH_MAX}
use Rattle.soname_links.proofs.KindsAt.{open_free}
use Rattle.soname_links.proofs.Links.{all_links, link_is}
use Rattle.soname_links.proofs.Named.{is_dir_kind}
use Rattle.soname_links.proofs.Stays.{IsReady, are_open, dirs_stay, files_stay, link_stays, links_there, taken_stay}
use Rattle.soname_links.specs.Apply.{are_clear, is_link, is_plan}
use Rattle.place_libraries.specs.Best.{best, bests, sonames}
use Rattle.place_libraries.specs.Libraries.{libraries_in, library_at}
use Rattle.string_pool.specs.Order.{ascending}
use Rattle.library_files.specs.Places.{by_place, is_link_to, has_no_cap, links_to}
use Rattle.soname_links.specs.Plan.{is_blocked, is_regarded, is_taken, link_for, links, links_in, with_links}
use Rattle.library_files.specs.Search.{files_in, wanted}
use Rattle.soname_links.specs.Settled.{IsSettled, Settles}
use Rattle.file_table.specs.Analyses.{Analyses, HaveNames}
use Rattle.place_libraries.specs.Library.{Library}
use Rattle.link_plan.specs.declared.kinds.Planned.{Planned}
use Rattle.soname_links.proofs.OneText.{all_same, one_text}

all_open : (t : Nodes) (plan : List Planned) → is_plan plan ≡ true → list_all (λ planned. not (is_blocked t planned.path)) plan ≡ true → are_open t plan ≡ true
all_open t [] proper free = refl
all_open t (planned ∷ plan) proper free =
    let paths = and_parts (is_link planned) (is_plan plan) proper in
    let frees = and_parts (not (is_blocked t planned.path)) _ free in
    let untaken = (or_parts (nat_lt PATH_MAX (length planned.path)) (is_taken (kind_at t planned.path)) (not_true (is_blocked t planned.path) frees.0)).1 in
    and_from _ _ (open_free t planned.path (and_parts (is_path planned.path) _ paths.0).0 untaken) (all_open t plan paths.1 frees.1)

module _ (what : Analyses) (named : HaveNames what) (t : Nodes) (tree : IsTree t) where
  -- ---- the planned tree

  module _ (places : List Place) (dirs : are_dirs t places ≡ true) (ready : IsReady t (links what t places)) where
    abbrev new : Nodes
    new = with_links t (links what t places)

    abbrev is_there : Planned → Bool
    is_there planned = is_link_to planned.file (node_at new planned.path)

    blocked_stays : (q : List ℕ) → is_blocked t q ≡ true → is_blocked new q ≡ true
    blocked_stays q h = by_test (nat_lt PATH_MAX (length q))
        (λ e. ap (λ b. b || is_taken (kind_at new q)) e)
        (λ e. ap (λ b. b || is_taken (kind_at new q)) e ∙ taken_stay (links what t places) t ready q (sym (ap (λ b. b || is_taken (kind_at t q)) e) ∙ h))

    -- no link is planned where none can be, or where the link is
    unplanned : (number : ℕ) (place : Place) (library : Library) → (is_blocked new (join place.real library.soname) || links_to new (join place.real library.soname) library.name) ≡ true
        → link_for new number place library ≡ None
    unplanned number place library h =
        let path = join place.real library.soname in
        let made : Planned = record { place = number; soname = library.soname; file = library.name; path = path } in
        ap (λ b. cond (is_regarded library && not b) (Some made) None) h ∙ ap (λ b. cond b (Some made) None) (and_false (is_regarded library))

    module _ (number : ℕ) (place : Place) (soname : List ℕ) (library : Library) (here : is_dir (kind_at t place.real) ≡ true) (e : best (libraries_in what t place) soname ≡ Some library) where
      abbrev path : List ℕ
      path = join place.real library.soname

      none_yet : link_for t number place library ≡ None → link_for new number place library ≡ None
      none_yet none =
          let made : Planned = record { place = number; soname = library.soname; file = library.name; path = path } in
          by_test (is_regarded library)
          (λ r.
          let kept = is_blocked t path || links_to t path library.name in
          by_test kept
          (λ k. by_test (is_blocked t path)
          (λ b. unplanned number place library (ap (λ c. c || links_to new path library.name) (blocked_stays path b)))
          (λ b.
          let linked : links_to t path library.name ≡ true = sym (ap (λ c. c || links_to t path library.name) b) ∙ k in
          unplanned number place library (ap (λ c. is_blocked new path || c) (link_stays path library.name (links what t places) t (one_text what named t tree place soname library here e places dirs) linked) ∙ or_right _ true refl)))
          (λ k.
          let some : link_for t number place library ≡ Some made = ap (λ c. cond (c && not kept) (Some made) None) r ∙ ap (λ c. cond (not c) (Some made) None) k in
          let z : Some made ≡ None = sym some ∙ none in absurd (cc)))
          (λ r. ap (λ c. cond (c && not (is_blocked new path || links_to new path library.name)) (Some made) None) r)

      there_now : (planned : Planned) → link_for t number place library ≡ Some planned → is_there planned ≡ true → link_for new number place library ≡ None
      there_now planned some there =
          let link = link_is t number place library planned some in
          let linked : links_to new path library.name ≡ true =
          subst (λ (q : List ℕ). is_link_to library.name (node_at new q) ≡ true) (sym link.path)
          (subst (λ (f : List ℕ). is_link_to f (node_at new planned.path) ≡ true) (sym link.file) there) in
          unplanned number place library (ap (λ c. is_blocked new path || c) linked ∙ or_right _ true refl)

    module _ (number : ℕ) (place : Place) (here : is_dir (kind_at t place.real) ≡ true) where
      abbrev libraries : List Library
      libraries = libraries_in what t place

      no_more : (names : List (List ℕ)) → list_all is_there (filter_map (link_for t number place) (filter_map (best libraries) names)) ≡ true
          → filter_map (link_for new number place) (filter_map (best libraries) names) ≡ []
      no_more [] all = refl
      no_more (soname ∷ names) all = elim (best libraries soname) as (λ o. best libraries soname ≡ o
          → list_all is_there (filter_map (link_for t number place) (cons_option o (filter_map (best libraries) names))) ≡ true
          → filter_map (link_for new number place) (cons_option o (filter_map (best libraries) names)) ≡ []) [
            | None ↦ λ e all. no_more names all
            | Some library ↦ λ e. elim (link_for t number place library) as (λ o. link_for t number place library ≡ o
                → list_all is_there (cons_option o (filter_map (link_for t number place) (filter_map (best libraries) names))) ≡ true
                → filter_map (link_for new number place) (library ∷ filter_map (best libraries) names) ≡ []) [
                  | None ↦ λ f all.
                      ap (λ o. cons_option o (filter_map (link_for new number place) (filter_map (best libraries) names))) (none_yet number place soname library here e f) ∙ no_more names all
                  | Some planned ↦ λ f all.
                      let parts = and_parts (is_there planned) _ all in
                      ap (λ o. cons_option o (filter_map (link_for new number place) (filter_map (best libraries) names))) (there_now number place soname library here e planned f parts.0)
                      ∙ no_more names parts.1
                ] refl
          ] refl all

      pub same_libraries : libraries_in what new place ≡ libraries_in what t place
      same_libraries =
          files_stay (λ name found. option_and_then (λ path. library_at what path name name) found) (λ name. refl) place.real (links what t places) t ready (is_dir_kind _ here)

      pub same_files : files_in new place ≡ files_in t place
      same_files = files_stay (λ name found. found) (λ name. refl) place.real (links what t places) t ready (is_dir_kind _ here)

      none_in : list_all is_there (links_in what t number place) ≡ true → links_in what new number place ≡ []
      none_in all = elim (has_no_cap place) as (λ b. list_all is_there (cond b (filter_map (link_for t number place) (bests libraries)) []) ≡ true
          → cond b (filter_map (link_for new number place) (bests (libraries_in what new place))) [] ≡ []) [
            | true ↦ λ all. ap (λ found. filter_map (link_for new number place) (bests found)) same_libraries ∙ no_more (sonames libraries) all
            | false ↦ λ all. refl
          ] all

    none_by_place : (some : List Place) (number : ℕ) → are_dirs t some ≡ true → list_all is_there (by_place (links_in what t) number some) ≡ true
        → by_place (links_in what new) number some ≡ []
    none_by_place [] number found all = refl
    none_by_place (place ∷ some) number found all =
        let parts = and_parts (is_dir (kind_at t place.real)) (are_dirs t some) found in
        let links = and_parts _ _ (sym (list_all-append is_there (links_in what t number place) (by_place (links_in what t) (number + 1) some)) ∙ all) in
        ap (λ xs. xs ++ by_place (links_in what new) (number + 1) some) (none_in number place parts.0 links.0) ∙ none_by_place some (number + 1) parts.1 links.1

    none_again : links what new places ≡ []
    unfolding links
    none_again = none_by_place places 0 dirs (links_there (links what t places) t (all_same what named t tree places dirs))

    dirs_again : (some : List Place) → are_dirs t some ≡ true → are_dirs new some ≡ true
    dirs_again [] found = refl
    dirs_again (place ∷ some) found =
        let parts = and_parts (is_dir (kind_at t place.real)) (are_dirs t some) found in
        and_from _ _ (ap is_dir (dirs_stay (links what t places) t ready place.real (is_dir_kind _ parts.0))) (dirs_again some parts.1)

    all_libraries : (some : List Place) → are_dirs t some ≡ true → map (libraries_in what new) some ≡ map (libraries_in what t) some
    all_libraries [] found = refl
    all_libraries (place ∷ some) found =
        let parts = and_parts (is_dir (kind_at t place.real)) (are_dirs t some) found in
        let first : libraries_in what new place ≡ libraries_in what t place = same_libraries 0 place parts.0 in
        let rest : map (libraries_in what new) some ≡ map (libraries_in what t) some = all_libraries some parts.1 in
        cc

    all_files : (some : List Place) → are_dirs t some ≡ true → flat_map (files_in new) some ≡ flat_map (files_in t) some
    all_files [] found = refl
    all_files (place ∷ some) found =
        let parts = and_parts (is_dir (kind_at t place.real)) (are_dirs t some) found in
        ap (λ xs. xs ++ flat_map (files_in new) some) (same_files 0 place parts.0) ∙ ap (λ xs. files_in t place ++ xs) (all_files some parts.1)

    same_wanted : wanted new places ≡ wanted t places
    unfolding wanted
    same_wanted = ap ascending (all_files places dirs)

    settled : IsSettled what t places (with_links t (links what t places))
    settled = record { dirs = dirs_again places dirs; files = same_wanted; libraries = all_libraries places dirs; none = none_again }

-- a plan that was put, and that was made for the tree, settles its places
pub settles : (t : Nodes) (plan : List Planned) (after : Nodes) → IsTree t → is_plan plan ≡ true → are_clear t plan ≡ true → after ≡ with_links t plan → Settles t plan after
settles t plan after tree proper clear put what places named dirs made =
    let all : list_all (λ planned. not (is_blocked t planned.path)) (links what t places) ≡ true =
    all_links what t (λ planned. not (is_blocked t planned.path)) (λ number place soname library planned here e link.
    subst (λ (q : List ℕ). not (is_blocked t q) ≡ true) link.path (ap not link.free)) places dirs in
    let links_proper : is_plan (links what t places) ≡ true = subst (λ (p : List Planned). is_plan p ≡ true) made proper in
    let links_clear : are_clear t (links what t places) ≡ true = subst (λ (p : List Planned). are_clear t p ≡ true) made clear in
    let ready : IsReady t (links what t places) = record { sorted = tree.sorted; free = all_open t (links what t places) links_proper all; clear = links_clear } in
    subst (λ (n : Nodes). IsSettled what t places n) (sym (put ∙ ap (with_links t) made)) (settled what named t tree places dirs ready)
