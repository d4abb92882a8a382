-- If the links at the sonames are the same, a part has the same cache entries as the tree.
use Rattle.std.proofs.Common.{◌≡◌, ◌⊎◌, inl, inr, ℕ, ◌+◌, Bool, true, cond, ◌&&◌, ◌||◌, List, [], ◌∷◌, ◌++◌, flat_map, map, refl, ap, sym, subst, ◌∙◌}
use Rattle.std.proofs.lemmas.Bool.{and_parts}
use Rattle.std.proofs.lemmas.Slice.Eq.{bytes_eq-Decides}
use Rattle.std.specs.List.{AllByRecursion, list_all}
use Rattle.std.specs.Str.{bytes_eq}
use Rattle.cache_entries.specs.Entries.{entries_in, entry_of, found, is_by_soname}
use Rattle.cache_entries.specs.Winner.{winners_in}
use Rattle.file_table.specs.Analyses.{Analyses, HaveNames}
use Rattle.file_table.specs.Table.{Rows, analysis_at}
use Rattle.hwcap_dirs.specs.Places.{are_dirs, is_dir}
use Rattle.hwcap_dirs.specs.declared.kinds.Place.{Place}
use Rattle.image_tree.specs.Paths.{join}
use Rattle.image_tree.specs.Tree.{IsTree, Nodes, kind_at}
use Rattle.image_tree.specs.declared.tree.Kind.TheVariants as kinds
use Rattle.lib_types.proofs.SortedPairs.{by_test}
use Rattle.lib_types.specs.Name.{is_name}
use Rattle.lib_types.specs.declared.entry.Entry.{Entry}
use Rattle.library_files.specs.Places.{by_place, has_no_cap, is_link_to, links_to}
use Rattle.name_order.specs.LibraryName.{is_library_name}
use Rattle.place_libraries.proofs.Named.{has_names}
use Rattle.place_libraries.specs.Best.{is_own}
use Rattle.place_libraries.specs.Library.{Library}
use Rattle.root_folder.specs.Whole.{IsWhole}
use Rattle.seen_places.proofs.Each.{map_same}
use Rattle.seen_places.proofs.Entries.{winners_seen}
use Rattle.seen_places.proofs.Sonames.{soname_seen}
use Rattle.seen_places.specs.Looked.{followed_looked, links_looked, names_looked, wanted_looked}
use Rattle.seen_tree.proofs.Same.{kind_seen, seen_parts}
use Rattle.seen_tree.specs.Part.{AreSeen, IsPart}
use Rattle.soname_links.proofs.Named.{is_dir_kind}
use Rattle.string_pool.proofs.Members.{is_in}
use Rattle.looked_search.proofs.Winners.{is_covered, winners_covered, winners_named}
use Rattle.looked_search.specs.Sonames.{HasLinksAt, HaveLinks, odd_paths, odd_sonames, path_in, paths_in}

all_parts : {X : Type 0} (P : X → Type 0) (xs ys : List X) → AllByRecursion P (xs ++ ys) → AllByRecursion P xs × AllByRecursion P ys
all_parts P [] ys all = (tt, all)
all_parts P (x ∷ xs) ys all = let parts = all_parts P xs ys all.1 in ((all.0, parts.0), parts.1)

module _ (t part : Nodes) where
  -- the links at the paths of one of these sonames
  links_of : (places : List Place) (names : List (List ℕ)) → HaveLinks t part (flat_map (paths_in places) names) → (s : List ℕ) → is_in names s ≡ true → HaveLinks t part (paths_in places s)
  links_of places [] all s h = absurd (cc)
  links_of places (name ∷ names) all s h =
      let parts = all_parts (HasLinksAt t part) (paths_in places name) (flat_map (paths_in places) names) all in
      by_test (bytes_eq s name)
      (λ e. subst (λ (x : List ℕ). HaveLinks t part (paths_in places x)) (sym ((bytes_eq-Decides s name).0 e)) parts.0)
      (λ e. links_of places names parts.1 s (sym (ap (λ b. b || is_in names s) e) ∙ h))

  -- ---- the entry of a winner

  module _ (number : ℕ) (place : Place) (winner : Library) where
    abbrev with_name : Bool → Entry
    with_name by_soname = record {
      soname = winner.soname;
      abi = winner.abi;
      cap = place.cap;
      path = join place.spelled (cond by_soname winner.soname winner.name);
      place = number;
    }

    abbrev path : List ℕ
    path = join place.real winner.soname

    linked_same : (is_own winner ≡ true) ⊎ HasLinksAt t part (join place.real winner.soname) → is_by_soname part place winner ≡ is_by_soname t place winner
    linked_same (inl e) =
        ap (λ b. has_no_cap place && (b || links_to part path winner.name)) e
        ∙ sym (ap (λ b. has_no_cap place && (b || links_to t path winner.name)) e)
    linked_same (inr same) = ap (λ b. has_no_cap place && (is_own winner || b)) (same winner.name)

    entry_linked : (has_no_cap place ≡ true → (is_own winner ≡ true) ⊎ HasLinksAt t part (join place.real winner.soname)) → entry_of part number place winner ≡ entry_of t number place winner
    entry_linked linked = ap with_name (by_test (has_no_cap place)
        (λ e. linked_same (linked e))
        (λ e.
        ap (λ b. b && (is_own winner || links_to part path winner.name)) e
        ∙ sym (ap (λ b. b && (is_own winner || links_to t path winner.name)) e)))

  module _ (whole : IsWhole t) (is : IsPart t part) (tree : IsTree part) (rows : Rows) (names : HaveNames (analysis_at rows)) where
    abbrev what : Analyses
    what = analysis_at rows

    module _ (place : Place) (dir : kind_at t place.real ≡ kinds.Dir) (seen : AreSeen t part (names_looked t place))
        (odd : (s : List ℕ) → is_in (odd_sonames rows) s ≡ true → HaveLinks t part (path_in s place)) where
      winner_linked : (winner : Library) → has_names winner ≡ true → is_covered rows winner ≡ true → has_no_cap place ≡ true
          → (is_own winner ≡ true) ⊎ HasLinksAt t part (join place.real winner.soname)
      winner_linked winner named covered cap = by_test (is_own winner)
          (λ o. inl o)
          (λ o.
          let rest : (is_library_name winner.soname || is_in (odd_sonames rows) winner.soname) ≡ true =
          sym (ap (λ b. b || (is_library_name winner.soname || is_in (odd_sonames rows) winner.soname)) o) ∙ covered in
          inr (by_test (is_library_name winner.soname)
          (λ l.
          let node = soname_seen t part is place.real dir seen winner.soname (and_parts (is_name winner.name) (is_name winner.soname) named).1 l in
          λ text. ap (is_link_to text) node)
          (λ l.
          let among = sym (ap (λ b. b || is_in (odd_sonames rows) winner.soname) l) ∙ rest in
          (subst (λ b. HaveLinks t part (cond b (join place.real winner.soname ∷ []) [])) cap (odd winner.soname among)).0)))

      each_linked : (number : ℕ) (winners : List Library) → list_all has_names winners ≡ true → list_all (is_covered rows) winners ≡ true
          → AllByRecursion (λ winner. entry_of part number place winner ≡ entry_of t number place winner) winners
      each_linked number [] named covered = tt
      each_linked number (winner ∷ winners) named covered =
          let n = and_parts (has_names winner) (list_all has_names winners) named in
          let c = and_parts (is_covered rows winner) (list_all (is_covered rows) winners) covered in
          (entry_linked number place winner (winner_linked winner n.0 c.0), each_linked number winners n.1 c.1)

      entries_of_place : (number : ℕ) → AreSeen t part (links_looked t place.real) → entries_in what part number place ≡ entries_in what t number place
      entries_of_place number links =
          let same : winners_in what part place ≡ winners_in what t place = winners_seen t part whole is what place seen links in
          ap (map (entry_of part number place)) same
          ∙ map_same (entry_of part number place) (entry_of t number place) (winners_in what t place)
          (each_linked number (winners_in what t place)
          (subst (λ (ws : List Library). list_all has_names ws ≡ true) same (winners_named what names part tree place))
          (subst (λ (ws : List Library). list_all (is_covered rows) ws ≡ true) same (winners_covered rows part place)))

    -- ---- all search directories

    by_place_linked : (number : ℕ) (places : List Place) → are_dirs part places ≡ true → AreSeen t part (flat_map (names_looked t) places) → AreSeen t part (flat_map (λ place. links_looked t place.real) places)
        → ((s : List ℕ) → is_in (odd_sonames rows) s ≡ true → HaveLinks t part (flat_map (path_in s) places))
        → by_place (entries_in what part) number places ≡ by_place (entries_in what t) number places
    by_place_linked number [] dirs seen links odd = refl
    by_place_linked number (place ∷ places) dirs seen links odd =
        let d = and_parts (is_dir (kind_at part place.real)) (are_dirs part places) dirs in
        let n = seen_parts t part (names_looked t place) (flat_map (names_looked t) places) seen in
        let l = seen_parts t part (links_looked t place.real) (flat_map (λ place. links_looked t place.real) places) links in
        let dir : kind_at t place.real ≡ kinds.Dir = sym (kind_seen t part whole is place.real n.0.0) ∙ is_dir_kind (kind_at part place.real) d.0 in
        ap (λ xs. xs ++ by_place (entries_in what part) (number + 1) places)
        (entries_of_place place dir n.0 (λ s h. (all_parts (HasLinksAt t part) (path_in s place) (flat_map (path_in s) places) (odd s h)).0) number l.0)
        ∙ ap (λ xs. entries_in what t number place ++ xs)
        (by_place_linked (number + 1) places d.1 n.1 l.1 (λ s h. (all_parts (HasLinksAt t part) (path_in s place) (flat_map (path_in s) places) (odd s h)).1))

    pub entries_linked : (places : List Place) → are_dirs part places ≡ true → AreSeen t part (wanted_looked t places) → AreSeen t part (followed_looked t places)
        → HaveLinks t part (odd_paths places rows) → found what part places ≡ found what t places
    unfolding found wanted_looked followed_looked
    entries_linked places dirs seen links odd = by_place_linked 0 places dirs seen links (links_of places (odd_sonames rows) odd)
