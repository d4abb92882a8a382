-- The entries fit into a cache: their sonames and hwcaps names are names, and their paths are short and have no NUL.
use Rattle.std.proofs.Common.{◌≡◌, ◌≤◌, ◌+◌, ℕ, Bool, true, false, cond, ◌&&◌, nat_le, List, [], ◌∷◌, ◌++◌, length, map, refl, ap, sym, subst, ◌∙◌, Option, Some, None, arith}
use Rattle.std.proofs.lemmas.Bool.{and_from, and_parts}
use Rattle.std.proofs.lemmas.Bool.Decides.{nat_tests}
use Rattle.std.proofs.lemmas.List.Folds.{list_all-append}
use Rattle.std.proofs.lemmas.List.Elements.{All-cons, All-nil, All-weaker}
use Rattle.std.proofs.lemmas.List.Sorted.{All-permutation, length_permutation}
use Rattle.std.specs.Bool.{IsTrue}
use Rattle.std.specs.List.{All, list_all}
use Rattle.std.specs.Option.{IfSome}
use Rattle.std.specs.Str.{bytes_eq}
use Rattle.hwcap_dirs.proofs.Reals.{all_given, all_items, any_item}
use Rattle.hwcap_dirs.proofs.Spelled.{joined_size, name_short}
use Rattle.hwcap_dirs.specs.Places.{are_spelled, is_cap, is_spelled}
use Rattle.hwcap_dirs.specs.declared.kinds.TheConstants.{SPELLED_MAX}
use Rattle.hwcap_dirs.specs.declared.kinds.Place.{Place}
use Rattle.lib_types.proofs.SortedPairs.{by_test}
use Rattle.lib_types.specs.Name.{is_name}
use Rattle.lib_types.specs.declared.entry.Entry.{Entry}
use Rattle.name_order.specs.LibraryName.{is_library_name}
use Rattle.path_walk.proofs.NoNul.{joined_clean, name_clean}
use Rattle.path_walk.specs.Names.{last}
use Rattle.path_walk.specs.Walk.{resolution}
use Rattle.path_walk.specs.declared.walk.Mode.TheVariants.{Full}
use Rattle.image_tree.specs.Node.{has_no_nul}
use Rattle.image_tree.specs.Paths.{is_path, join, root}
use Rattle.cache_layout.specs.declared.limits.TheConstants.{ENTRIES_MAX}
use Rattle.cache_layout.specs.declared.limits.TheConstants.{STRING_MAX}
use Rattle.image_tree.specs.Tree.{Nodes, IsTree, children_of, kind_at, node_at}
use Rattle.image_tree.specs.declared.node.Node.{Node}
use Rattle.image_tree.specs.declared.node.Node.TheVariants as node
use Rattle.hwcap_dirs.proofs.Children.{children_named}
use Rattle.library_files.proofs.FoundIn.{found_file}
use Rattle.path_walk.proofs.Last.{named_last}
use Rattle.place_libraries.proofs.Named.{at_named, best_meets, has_names, libraries_named}
use Rattle.place_libraries.specs.Best.{best, sonames}
use Rattle.cache_entries.specs.Entries.{AreEntriesOf, entries_in, entry_name, entry_of, found, is_by_soname, is_fit}
use Rattle.place_libraries.specs.Libraries.{libraries_in}
use Rattle.library_files.specs.Places.{by_place}
use Rattle.path_walk.specs.Files.{file_at, is_file}
use Rattle.library_files.specs.Search.{followed_by, followed_in, link_with}
use Rattle.library_files.specs.Link.{FollowedLink}
use Rattle.file_table.specs.Analyses.{Analyses, HaveNames}
use Rattle.cache_entries.specs.Winner.{has_own_name, library_after, linked, links_to_libraries, named, named_links, or_else, other_links, unnamed, winner, winners_in}
use Rattle.place_libraries.specs.Library.{Library}

-- ---- the libraries that links lead to

module _ (t : Nodes) where
  -- a file has a path
  path_of_file : (path : List ℕ) → is_file (kind_at t path) ≡ true → is_path path ≡ true
  path_of_file path h = by_test (bytes_eq path root)
      (λ e. let z : is_file (kind_at t path) ≡ false = rw e refl in absurd (cc))
      (λ e. by_test (is_path path) (λ f. f) (λ f. let z : is_file (kind_at t path) ≡ false = rw (e, f) refl in absurd (cc)))

  -- If a link leads to a file, the last component of the file's path is a name.
  abbrev is_led : Option (List ℕ) → Bool
  is_led None = true
  is_led (Some file) = is_name (last file)

  led : (path : List ℕ) (file : Option (List ℕ)) → file_at t path ≡ file → is_led file ≡ true
  led path None e = refl
  led path (Some file) e = named_last file (path_of_file file (found_file t (resolution t path Full) file e))

  abbrev is_named_well : FollowedLink → Bool
  is_named_well link = is_name link.name && is_led link.file

  followed_named : (folder name : List ℕ) (link : FollowedLink) (n : Option Node) → is_name name ≡ true → link_with t folder name n ≡ Some link → is_named_well link ≡ true
  followed_named folder name link None n e = absurd (cc)
  followed_named folder name link (Some node.Dir) n e = absurd (cc)
  followed_named folder name link (Some (node.File key id)) n e = absurd (cc)
  followed_named folder name link (Some (node.Link target)) n e =
      let path = join folder name in
      let made : FollowedLink = record { name = name; target = target; file = file_at t path } in
      by_test (is_library_name name)
      (λ h.
      let found : Some made ≡ Some link = sym (ap (λ b. cond b (Some made) None) h) ∙ e in
      let same : made ≡ link = cc in
      subst (λ (l : FollowedLink). is_named_well l ≡ true) same (and_from _ _ n (led path (file_at t path) refl)))
      (λ h. let none : None ≡ Some link = sym (ap (λ b. cond b (Some made) None) h) ∙ e in absurd (cc))

  module _ (what : Analyses) (names : HaveNames what) where
    linked_named : (name : List ℕ) (library : Library) (file : Option (List ℕ)) → is_name name ≡ true → is_led file ≡ true
        → library_after what name file ≡ Some library → has_names library ≡ true
    linked_named name library None n l e = absurd (cc)
    linked_named name library (Some file) n l e = at_named what names file name (last file) library (what file) n l refl e

    pub links_named_well : (tree : IsTree t) (place : Place) → list_all has_names (links_to_libraries what t place) ≡ true
    links_named_well tree place =
        all_given has_names is_named_well (linked what)
        (λ link library named e. let parts = and_parts (is_name link.name) (is_led link.file) named in linked_named link.name library link.file parts.0 parts.1 e) (followed_in t place.real)
        (all_given is_named_well is_name (followed_by t place.real) (λ name link n e. followed_named place.real name link (node_at t (join place.real name)) n e)
        (children_of t place.real) (children_named t place.real tree.entries))

-- ---- the winners

named_well : (link library : Library) → has_names link ≡ true → named link ≡ Some library → has_names library ≡ true
named_well link library h e = by_test (has_own_name link)
    (λ own.
    let made : Library = record { name = link.name; soname = link.name; abi = link.abi } in
    let found : Some made ≡ Some library = sym (ap (λ b. cond b (Some made) None) own) ∙ e in
    let same : made ≡ library = cc in
    let name = (and_parts (is_name link.name) (is_name link.soname) h).0 in
    subst (λ (l : Library). has_names l ≡ true) same (and_from (is_name link.name) (is_name link.name) name name))
    (λ own. let none : None ≡ Some library = sym (ap (λ b. cond b (Some (record { name = link.name; soname = link.name; abi = link.abi })) None) own) ∙ e in absurd (cc))

unnamed_well : (link library : Library) → has_names link ≡ true → unnamed link ≡ Some library → has_names library ≡ true
unnamed_well link library h e = by_test (has_own_name link)
    (λ own. let none : None ≡ Some library = sym (ap (λ b. cond b None (Some link)) own) ∙ e in absurd (cc))
    (λ own.
    let found : Some link ≡ Some library = sym (ap (λ b. cond b None (Some link)) own) ∙ e in
    let same : link ≡ library = cc in subst (λ (l : Library). has_names l ≡ true) same h)

either_named : (a b : Option Library) (library : Library) → ((l : Library) → a ≡ Some l → has_names l ≡ true) → ((l : Library) → b ≡ Some l → has_names l ≡ true)
    → or_else a b ≡ Some library → has_names library ≡ true
either_named (Some first) b library f g e = f library e
either_named None b library f g e = g library e

winner_named : (files links : List Library) → list_all has_names files ≡ true → list_all has_names links ≡ true
    → (soname : List ℕ) (library : Library) → winner files links soname ≡ Some library → has_names library ≡ true
winner_named files links f l soname library e =
    either_named (best files soname) _ library (λ x h. best_meets has_names files soname x f h)
    (λ x h. either_named (best (named_links links) soname) (best (other_links links) soname) x
    (λ y g. best_meets has_names (named_links links) soname y (all_given has_names has_names named named_well links l) g)
    (λ y g. best_meets has_names (other_links links) soname y (all_given has_names has_names unnamed unnamed_well links l) g) h) e

abbrev pub IsFit : Entry → Type 0
IsFit entry = IsTrue (is_fit entry)

each_fits : (entries : List Entry) → list_all is_fit entries ≡ true → All IsFit entries
each_fits [] all = All-nil IsFit
each_fits (entry ∷ entries) all = All-cons IsFit entry entries (and_parts _ _ all).0 (each_fits entries (and_parts _ _ all).1)

path_short : (spelled name : List ℕ) → nat_le (length spelled) SPELLED_MAX ≡ true → is_name name ≡ true → nat_le (length (join spelled name)) STRING_MAX ≡ true
path_short spelled name short h =
    let few : length spelled ≤ 4364 = grind (arith, nat_tests) in
    let size : length (join spelled name) ≤ 4700 = omega (arith, few, name_short name h, joined_size spelled name) in
    grind (arith, nat_tests)

module _ (what : Analyses) (names : HaveNames what) (t : Nodes) (tree : IsTree t) where
  winners_named : (place : Place) → list_all has_names (winners_in what t place) ≡ true
  winners_named place =
      let files = libraries_in what t place in
      let links = links_to_libraries what t place in
      all_given has_names any_item (winner files links)
      (λ soname library any e. winner_named files links (libraries_named what names t place tree.entries) (links_named_well t what names tree place) soname library e)
      (sonames (files ++ (named_links links ++ other_links links))) (all_items (sonames (files ++ (named_links links ++ other_links links))))

  -- ---- the entries

  entry_fits : (number : ℕ) (place : Place) (library : Library) → is_spelled place ≡ true → has_names library ≡ true → is_fit (entry_of t number place library) ≡ true
  entry_fits number place library spelled h =
      let parts = and_parts (nat_le (length place.spelled) SPELLED_MAX && has_no_nul place.spelled) (is_cap place.cap) spelled in
      let text = and_parts (nat_le (length place.spelled) SPELLED_MAX) (has_no_nul place.spelled) parts.0 in
      let names = and_parts (is_name library.name) (is_name library.soname) h in
      let chosen = entry_name t place library in
      let name : is_name chosen ≡ true =
      elim (is_by_soname t place library) as (λ b. is_name (cond b library.soname library.name) ≡ true) [ true ↦ names.1 | false ↦ names.0 ] in
      and_from (is_name library.soname && is_cap place.cap && nat_le (length (join place.spelled chosen)) STRING_MAX) (has_no_nul (join place.spelled chosen))
      (and_from (is_name library.soname && is_cap place.cap) _ (and_from (is_name library.soname) (is_cap place.cap) names.1 parts.1) (path_short place.spelled chosen text.0 name))
      (joined_clean place.spelled chosen text.1 (name_clean chosen name))

  entries_fit : (number : ℕ) (place : Place) (libraries : List Library) → is_spelled place ≡ true → list_all has_names libraries ≡ true
      → list_all is_fit (map (entry_of t number place) libraries) ≡ true
  entries_fit number place [] spelled all = refl
  entries_fit number place (library ∷ libraries) spelled all =
      and_from _ _ (entry_fits number place library spelled (and_parts _ _ all).0) (entries_fit number place libraries spelled (and_parts _ _ all).1)

  by_place_fit : (places : List Place) (number : ℕ) → are_spelled places ≡ true → list_all is_fit (by_place (entries_in what t) number places) ≡ true
  by_place_fit [] number all = refl
  by_place_fit (place ∷ places) number all =
      let parts = and_parts _ _ all in
      list_all-append is_fit (entries_in what t number place) (by_place (entries_in what t) (number + 1) places)
      ∙ and_from _ _ (entries_fit number place (winners_in what t place) parts.0 (winners_named place)) (by_place_fit places (number + 1) parts.1)

  pub found_fit : (places : List Place) → are_spelled places ≡ true → list_all is_fit (found what t places) ≡ true
  unfolding found
  found_fit places all = by_place_fit places 0 all

  -- the same for the entries in any order
  pub sorted_fit : (places : List Place) (entries : List Entry) → AreEntriesOf (found what t places) entries → are_spelled places ≡ true → All IsFit entries
  sorted_fit places entries are all = All-permutation IsFit (found what t places) entries are.all (each_fits (found what t places) (found_fit places all))

-- ---- what the writer of a cache requires of the entries

named_cap : (cap : Option (List ℕ)) → is_cap cap ≡ true → IfSome cap (λ name. is_name name ≡ true)
named_cap None h = tt
named_cap (Some name) h = h

module _ (entry : Entry) (fit : is_fit entry ≡ true) where
  fit_parts : ((is_name entry.soname && is_cap entry.cap && nat_le (length entry.path) STRING_MAX) ≡ true) × (has_no_nul entry.path ≡ true)
  fit_parts = and_parts _ _ fit

  name_parts : (is_name entry.soname ≡ true) × (is_cap entry.cap ≡ true)
  name_parts = and_parts _ _ (and_parts _ _ fit_parts.0).0

  few_bytes : nat_le (length entry.path) STRING_MAX ≡ true
  few_bytes = (and_parts _ _ fit_parts.0).1

  fit_path : length entry.path ≤ STRING_MAX
  fit_path = let few = few_bytes in grind (arith, nat_tests)

module _ (entries : List Entry) (fit : All (λ entry. IsTrue (is_fit entry)) entries) where
  pub sonames_fit : All (λ entry. is_name entry.soname ≡ true) entries
  sonames_fit = All-weaker IsFit (λ entry. is_name entry.soname ≡ true) (λ entry h. (name_parts entry h).0) entries fit

  pub caps_fit : All (λ entry. IfSome entry.cap (λ cap. is_name cap ≡ true)) entries
  caps_fit = All-weaker IsFit (λ entry. IfSome entry.cap (λ cap. is_name cap ≡ true)) (λ entry h. named_cap entry.cap (name_parts entry h).1) entries fit

  pub paths_fit : All (λ entry. length entry.path ≤ STRING_MAX) entries
  paths_fit = All-weaker IsFit (λ entry. length entry.path ≤ STRING_MAX) (λ entry h. fit_path entry h) entries fit

  pub no_nul_fits : All (λ entry. has_no_nul entry.path ≡ true) entries
  no_nul_fits = All-weaker IsFit (λ entry. has_no_nul entry.path ≡ true) (λ entry h. (fit_parts entry h).1) entries fit

pub few_fit : (all entries : List Entry) → AreEntriesOf all entries → length all ≤ ENTRIES_MAX → length entries ≤ ENTRIES_MAX
few_fit all entries are few = subst (λ n. n ≤ ENTRIES_MAX) (sym (length_permutation all entries are.all)) few
