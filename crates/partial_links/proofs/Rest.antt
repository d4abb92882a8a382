-- An update of a tree with a part of its planned links plans the others.
use Rattle.std.proofs.Common.{◌≡◌, ◌⊎◌, ◌+◌, ◌++◌, inl, inr, ℕ, Bool, true, false, cond, not, ◌&&◌, ◌||◌, nat_lt, List, [], ◌∷◌, length, map, refl, ap, sym, ◌∙◌, Option, Some, None}
use Rattle.std.proofs.lemmas.Bool.{and_parts}
use Rattle.std.proofs.lemmas.List.Elements.{filter-append}
use Rattle.std.proofs.lemmas.Slice.Eq.{bytes_eq-Decides}
use Rattle.std.specs.List.{cons_option, filter_map, flat_map, list_all}
use Rattle.std.specs.Option.{option_and_then}
use Rattle.std.specs.Str.{bytes_eq}
use Rattle.conf_patterns.specs.Patterns.{is_link}
use Rattle.hwcap_dirs.specs.Places.{are_dirs, is_dir}
use Rattle.hwcap_dirs.specs.declared.kinds.Place.{Place}
use Rattle.lib_types.proofs.Bools.{and_false, not_false}
use Rattle.name_order.specs.LibraryName.{is_library_name}
use Rattle.path_walk.specs.Files.{is_file}
use Rattle.image_tree.specs.Paths.{join}
use Rattle.image_tree.specs.Tree.{Nodes, IsTree, children_of, kind_at, node_at}
use Rattle.image_tree.specs.declared.node.Node.{Node}
use Rattle.image_tree.specs.declared.path.TheConstants.{PATH_MAX}
use Rattle.image_tree.specs.declared.tree.Kind.{Kind}
use Rattle.image_tree.specs.declared.tree.Kind.TheVariants as kinds
use Rattle.file_table.specs.Analyses.{Analyses, HaveNames}
use Rattle.library_files.specs.Places.{by_place, has_no_cap, is_link_to, links_to}
use Rattle.library_files.specs.Search.{file_in, files_in, wanted}
use Rattle.link_plan.specs.declared.kinds.Planned.{Planned}
use Rattle.place_libraries.specs.Best.{best, bests, sonames}
use Rattle.place_libraries.specs.Libraries.{libraries_in, library_at}
use Rattle.place_libraries.specs.Library.{Library}
use Rattle.planned_tree.proofs.Agree.{agree}
use Rattle.planned_tree.proofs.Alike.{IsAlike, IsSame, IsSpot, same_dir, same_file}
use Rattle.planned_tree.proofs.Children.{children_kept, is_kept, same_kept}
use Rattle.planned_tree.proofs.Places.{same_places}
use Rattle.planned_tree.proofs.Reading.{same_items}
use Rattle.planned_tree.specs.Search.{IsSearchedAlike}
use Rattle.soname_links.proofs.OneText.{all_same, one_text}
use Rattle.soname_links.proofs.Rooms.{have_room}
use Rattle.soname_links.proofs.Stays.{is_same_link, links_there}
use Rattle.soname_links.specs.Plan.{is_blocked, is_regarded, is_taken, link_for, links, links_in, with_links}
use Rattle.string_pool.proofs.Members.{left_out}
use Rattle.string_pool.specs.Order.{ascending}
use Rattle.partial_links.proofs.Parts.{part_alike, rest_put}
use Rattle.partial_links.specs.Partial.{HasPart, IsOfPlan, PlansRest, is_made, missing}

free_no_file : (k : Kind) → is_taken k ≡ false → is_file k ≡ false
free_no_file kinds.Link h = refl
free_no_file kinds.Absent h = refl
free_no_file kinds.File h = absurd (cc)
free_no_file kinds.Dir h = absurd (cc)

link_no_file : (k : Kind) → is_link k ≡ true → is_file k ≡ false
link_no_file kinds.Link h = refl
link_no_file kinds.Absent h = absurd (cc)
link_no_file kinds.File h = absurd (cc)
link_no_file kinds.Dir h = absurd (cc)

-- a link of the plan at a path at which all links of the plan have this text
of_one_text : (path file : List ℕ) (found : Option Node) (plan : List Planned) → list_all (is_same_link path file) plan ≡ true → IsOfPlan plan path found → is_link_to file found ≡ true
of_one_text path file found [] all is = absurd is
of_one_text path file found (planned ∷ plan) all (inl (here, same)) =
    let parts = and_parts (is_same_link path file planned) (list_all (is_same_link path file) plan) all in
    let at : bytes_eq path planned.path ≡ true = (bytes_eq-Decides path planned.path).1 here in
    ap (is_link_to file) same ∙ sym (ap (λ b. not b || bytes_eq planned.file file) at) ∙ parts.0
of_one_text path file found (planned ∷ plan) all (inr is) =
    of_one_text path file found plan (and_parts (is_same_link path file planned) (list_all (is_same_link path file) plan) all).1 is

-- ---- trees that are alike

module _ (t new : Nodes) (tree : IsTree t) (after : IsTree new) (alike : IsAlike t new) where
  pub same_search : IsSearchedAlike t new
  same_search = record { conf = same_items t new tree after alike; places = same_places t new tree after alike; files = same_file t new alike }

  same_taken : (q : List ℕ) → is_taken (kind_at new q) ≡ is_taken (kind_at t q)
  same_taken q = by (alike q)
    where
      by : IsSame t new q ⊎ (IsSpot t q × IsSpot new q) → is_taken (kind_at new q) ≡ is_taken (kind_at t q)
      by (inl same) = ap is_taken same.kind
      by (inr spots) = spots.1.kind ∙ sym spots.0.kind

  same_is_file : (q : List ℕ) → is_file (kind_at new q) ≡ is_file (kind_at t q)
  same_is_file q = by (alike q)
    where
      by : IsSame t new q ⊎ (IsSpot t q × IsSpot new q) → is_file (kind_at new q) ≡ is_file (kind_at t q)
      by (inl same) = ap is_file same.kind
      by (inr spots) = free_no_file (kind_at new q) spots.1.kind ∙ sym (free_no_file (kind_at t q) spots.0.kind)

  same_in : (d name : List ℕ) → file_in new d name ≡ file_in t d name
  same_in d name = ap (λ b. cond (is_library_name name && b) (Some (join d name)) None) (same_is_file (join d name))

  module _ {Y : Type 0} (f : List ℕ → Option (List ℕ) → Option Y) (nothing : (name : List ℕ) → f name None ≡ None) (d : List ℕ) where
    abbrev give : Nodes → List ℕ → Option Y
    give s name = f name (file_in s d name)

    none_left : (s : Nodes) (name : List ℕ) → is_kept s d name ≡ false → give s name ≡ None
    none_left s name gone =
        let parts = and_parts (is_library_name name) (is_link (kind_at s (join d name))) (not_false _ gone) in
        ap (λ b. f name (cond (is_library_name name && b) (Some (join d name)) None)) (link_no_file _ parts.1)
        ∙ ap (λ b. f name (cond b (Some (join d name)) None)) (and_false (is_library_name name)) ∙ nothing name

    -- what the files of a directory give
    files_give : filter_map (give new) (children_of new d) ≡ filter_map (give t) (children_of t d)
    files_give =
        sym (left_out (is_kept new d) (give new) (none_left new) (children_of new d))
        ∙ ap (filter_map (give new)) (same_kept t new tree after alike d)
        ∙ ap (λ g. filter_map g (children_kept t d)) (agree (give new) (give t) (λ name. ap (f name) (same_in d name)))
        ∙ left_out (is_kept t d) (give t) (none_left t) (children_of t d)

  pub same_libraries : (what : Analyses) (place : Place) → libraries_in what new place ≡ libraries_in what t place
  same_libraries what place = files_give (λ name found. option_and_then (λ path. library_at what path name name) found) (λ name. refl) place.real

  same_files : (place : Place) → files_in new place ≡ files_in t place
  same_files place = files_give (λ name found. found) (λ name. refl) place.real

  same_wanted : (places : List Place) → wanted new places ≡ wanted t places
  unfolding wanted
  same_wanted places = ap (λ f. ascending (flat_map f places)) (agree (files_in new) (files_in t) same_files)

  same_dirs : (places : List Place) → are_dirs new places ≡ are_dirs t places
  same_dirs places = ap (λ f. list_all f places)
      (agree (λ (place : Place). is_dir (kind_at new place.real)) (λ (place : Place). is_dir (kind_at t place.real)) (λ place. same_dir t new alike place.real))

-- ---- the plan

module _ (new : Nodes) where
  -- what is planned for one library: it is regarded or not, no link can be at the path, the link is there
  abbrev link_by : Bool → Bool → Bool → Planned → Option Planned
  link_by regarded blocked there made = cond (regarded && not (blocked || there)) (Some made) None

  one_more : (regarded blocked before now : Bool) (made : Planned) (xs ys : List Planned) → (before ≡ true → now ≡ true) → is_made new made ≡ now → xs ≡ missing new ys
      → cons_option (link_by regarded blocked now made) xs ≡ missing new (cons_option (link_by regarded blocked before made) ys)
  one_more false blocked before now made xs ys kept is same = same
  one_more true true before now made xs ys kept is same = same
  one_more true false true true made xs ys kept is same = same
  one_more true false true false made xs ys kept is same = let z : false ≡ true = kept refl in absurd (cc)
  one_more true false false true made xs ys kept is same = same ∙ sym (ap (λ b. cond (not b) (made ∷ missing new ys) (missing new ys)) is)
  one_more true false false false made xs ys kept is same = ap (λ l. made ∷ l) same ∙ sym (ap (λ b. cond (not b) (made ∷ missing new ys) (missing new ys)) is)

-- all planned links are there once all are put
pub all_there : (what : Analyses) → HaveNames what → (t : Nodes) → IsTree t → (places : List Place) → are_dirs t places ≡ true
    → list_all (is_made (with_links t (links what t places))) (links what t places) ≡ true
all_there what named t tree places dirs = links_there (links what t places) t (all_same what named t tree places dirs)

module _ (what : Analyses) (named : HaveNames what) (t new : Nodes) (tree : IsTree t) (after : IsTree new) (places : List Place) (dirs : are_dirs t places ≡ true)
    (part : HasPart t (links what t places) new) where
  pub alike_with : IsAlike t new
  alike_with = part_alike new t (links what t places) tree.sorted after.sorted part (have_room what named t tree places dirs)

  abbrev plan : List Planned
  plan = links what t places

  same_blocked : (q : List ℕ) → is_blocked new q ≡ is_blocked t q
  same_blocked q = ap (λ b. nat_lt PATH_MAX (length q) || b) (same_taken t new tree after alike_with q)

  -- a link that is wanted and was there is there
  link_kept : (path file : List ℕ) → list_all (is_same_link path file) plan ≡ true → links_to t path file ≡ true → links_to new path file ≡ true
  link_kept path file all h = by (part path)
    where
      by : (node_at new path ≡ node_at t path) ⊎ IsOfPlan plan path (node_at new path) → links_to new path file ≡ true
      by (inl same) = ap (is_link_to file) same ∙ h
      by (inr is) = of_one_text path file (node_at new path) plan all is

  module _ (number : ℕ) (place : Place) (here : is_dir (kind_at t place.real) ≡ true) where
    abbrev libraries : List Library
    libraries = libraries_in what t place

    one_library : (soname : List ℕ) (library : Library) (xs ys : List Planned) → best libraries soname ≡ Some library → xs ≡ missing new ys
        → cons_option (link_for new number place library) xs ≡ missing new (cons_option (link_for t number place library) ys)
    one_library soname library xs ys e same =
        let path = join place.real library.soname in
        let made : Planned = record { place = number; soname = library.soname; file = library.name; path = path } in
        ap (λ b. cons_option (link_by new (is_regarded library) b (links_to new path library.name) made) xs) (same_blocked path)
        ∙ one_more new (is_regarded library) (is_blocked t path) (links_to t path library.name) (links_to new path library.name) made xs ys
        (link_kept path library.name (one_text what named t tree place soname library here e places dirs)) refl same

    of_sonames : (names : List (List ℕ))
        → filter_map (link_for new number place) (filter_map (best libraries) names) ≡ missing new (filter_map (link_for t number place) (filter_map (best libraries) names))
    of_sonames [] = refl
    of_sonames (soname ∷ names) = elim (best libraries soname) as (λ o. best libraries soname ≡ o
        → filter_map (link_for new number place) (cons_option o (filter_map (best libraries) names))
        ≡ missing new (filter_map (link_for t number place) (cons_option o (filter_map (best libraries) names)))) [
          | None ↦ λ e. of_sonames names
          | Some library ↦ λ e. one_library soname library _ _ e (of_sonames names)
        ] refl

    rest_in : links_in what new number place ≡ missing new (links_in what t number place)
    rest_in =
        ap (λ found. cond (has_no_cap place) (filter_map (link_for new number place) (bests found)) []) (same_libraries t new tree after alike_with what place)
        ∙ by (has_no_cap place)
      where
        by : (b : Bool) → cond b (filter_map (link_for new number place) (bests libraries)) [] ≡ missing new (cond b (filter_map (link_for t number place) (bests libraries)) [])
        by true = of_sonames (sonames libraries)
        by false = refl

  rest_by_place : (number : ℕ) (some : List Place) → are_dirs t some ≡ true → by_place (links_in what new) number some ≡ missing new (by_place (links_in what t) number some)
  rest_by_place number [] found = refl
  rest_by_place number (place ∷ some) found =
      let parts = and_parts (is_dir (kind_at t place.real)) (are_dirs t some) found in
      ap (λ xs. xs ++ by_place (links_in what new) (number + 1) some) (rest_in number place parts.0)
      ∙ ap (λ xs. missing new (links_in what t number place) ++ xs) (rest_by_place (number + 1) some parts.1)
      ∙ sym (filter-append (λ planned. not (is_made new planned)) (links_in what t number place) (by_place (links_in what t) (number + 1) some))

  rest_planned : links what new places ≡ missing new (links what t places)
  unfolding links
  rest_planned = rest_by_place 0 places dirs

  pub plans_rest : PlansRest what t places new
  plans_rest = record {
    dirs = same_dirs t new tree after alike_with places ∙ dirs;
    files = same_wanted t new tree after alike_with places;
    libraries = ap (λ f. map f places) (agree (libraries_in what new) (libraries_in what t) (same_libraries t new tree after alike_with what));
    rest = rest_planned;
    planned = ap (with_links new) rest_planned ∙ rest_put new t plan tree.sorted after.sorted part (all_there what named t tree places dirs);
  }
