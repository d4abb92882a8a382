-- The sonames of winners: each is the winner's own name, a library name, or one of the odd sonames of the table.
use Rattle.std.proofs.Common.{◌≡◌, ◌⊎◌, inl, inr, ℕ, Bool, true, false, cond, ◌||◌, List, [], ◌∷◌, ◌++◌, refl, ap, sym, subst, ◌∙◌, Option, Some, None}
use Rattle.std.proofs.lemmas.Bool.{and_from, and_parts, or_right}
use Rattle.std.proofs.lemmas.Slice.Eq.{bytes_eq-Decides}
use Rattle.std.specs.List.{cons_option, filter_map, list_all}
use Rattle.std.specs.Map.{lookup}
use Rattle.std.specs.Option.{option_and_then}
use Rattle.std.specs.Str.{bytes_eq}
use Rattle.cache_entries.specs.Winner.{has_own_name, library_after, linked, links_to_libraries, named, named_links, or_else, other_links, unnamed, winner, winners_among, winners_in}
use Rattle.cache_entries.proofs.Fit.{links_named_well}
use Rattle.file_table.specs.Analyses.{Analyses, HaveNames}
use Rattle.file_table.specs.Table.{Rows, analysis_at}
use Rattle.hwcap_dirs.proofs.Reals.{all_given}
use Rattle.hwcap_dirs.specs.declared.kinds.Place.{Place}
use Rattle.image_tree.specs.Tree.{IsTree, Nodes, children_of}
use Rattle.lib_types.proofs.SortedPairs.{by_test}
use Rattle.lib_types.specs.Name.{is_name}
use Rattle.lib_types.specs.declared.analysis.Analysis.{Analysis}
use Rattle.lib_types.specs.declared.analysis.Analysis.TheVariants.{Lib, Not}
use Rattle.library_files.specs.Search.{file_in, followed_in}
use Rattle.name_order.specs.LibraryName.{is_library_name}
use Rattle.path_walk.specs.Names.{last}
use Rattle.place_libraries.proofs.Named.{best_meets, has_names, libraries_named}
use Rattle.place_libraries.specs.Best.{best, is_own, sonames}
use Rattle.place_libraries.specs.Libraries.{libraries_in, library_at, library_by, library_in}
use Rattle.place_libraries.specs.Library.{Library}
use Rattle.string_pool.proofs.Members.{is_in}
use Rattle.looked_search.specs.Sonames.{odd_soname, odd_sonames, soname_of, unless_library}
use Rattle.lib_types.proofs.SameTexts.{itself}

-- ---- the winners, if a test passes for each library

module _ (p : Library → Bool) (own : (link : Library) → p link ≡ true → p (record { name = link.name; soname = link.name; abi = link.abi }) ≡ true) where
  of_named : (link library : Library) → p link ≡ true → named link ≡ Some library → p library ≡ true
  of_named link library h e = by_test (has_own_name link)
      (λ o.
      let made : Library = record { name = link.name; soname = link.name; abi = link.abi } in
      let found : Some made ≡ Some library = sym (ap (λ b. cond b (Some made) None) o) ∙ e in
      let same : made ≡ library = cc in
      subst (λ (l : Library). p l ≡ true) same (own link h))
      (λ o. let none : None ≡ Some library = sym (ap (λ b. cond b (Some (record { name = link.name; soname = link.name; abi = link.abi })) None) o) ∙ e in absurd (cc))

  of_unnamed : (link library : Library) → p link ≡ true → unnamed link ≡ Some library → p library ≡ true
  of_unnamed link library h e = by_test (has_own_name link)
      (λ o. let none : None ≡ Some library = sym (ap (λ b. cond b None (Some link)) o) ∙ e in absurd (cc))
      (λ o.
      let found : Some link ≡ Some library = sym (ap (λ b. cond b None (Some link)) o) ∙ e in
      let same : link ≡ library = cc in subst (λ (l : Library). p l ≡ true) same h)

  of_either : (a b : Option Library) (library : Library) → ((l : Library) → a ≡ Some l → p l ≡ true) → ((l : Library) → b ≡ Some l → p l ≡ true)
      → or_else a b ≡ Some library → p library ≡ true
  of_either (Some first) b library f g e = f library e
  of_either None b library f g e = g library e

  module _ (files links : List Library) (f : list_all p files ≡ true) (l : list_all p links ≡ true) where
    winner_meets : (soname : List ℕ) (library : Library) → winner files links soname ≡ Some library → p library ≡ true
    winner_meets soname library e =
        of_either (best files soname) _ library (λ x h. best_meets p files soname x f h)
        (λ x h. of_either (best (named_links links) soname) (best (other_links links) soname) x
        (λ y g. best_meets p (named_links links) soname y (all_given p p named of_named links l) g)
        (λ y g. best_meets p (other_links links) soname y (all_given p p unnamed of_unnamed links l) g) h) e

    each_winner : (names : List (List ℕ)) → list_all p (filter_map (winner files links) names) ≡ true
    each_winner [] = refl
    each_winner (name ∷ names) = by (each_winner names) (winner files links name) refl
      where
        by : list_all p (filter_map (winner files links) names) ≡ true → (o : Option Library) → winner files links name ≡ o → list_all p (cons_option o (filter_map (winner files links) names)) ≡ true
        by rest None e = rest
        by rest (Some library) e = and_from _ _ (winner_meets name library e) rest

    pub winners_meet : list_all p (winners_among files links) ≡ true
    winners_meet = each_winner (sonames (files ++ (named_links links ++ other_links links)))

-- ---- the sonames of a table

-- a row's soname, if it isn't a library name, is among those of the table
pub odd_among : (rows : Rows) (path soname : List ℕ) (analysis : Analysis) → analysis_at rows path ≡ Some analysis → soname_of path analysis ≡ Some soname
    → is_library_name soname ≡ false → is_in (odd_sonames rows) soname ≡ true
odd_among [] path soname analysis e s odd = absurd (cc)
odd_among (row ∷ rows) path soname analysis e s odd = by_test (bytes_eq path row.0)
    (λ here.
    let found : Some row.1 ≡ Some analysis = sym (ap (λ b. cond b (Some row.1) (lookup (bytes_eq path) rows)) here) ∙ e in
    let same : row.1 ≡ analysis = cc in
    let at : path ≡ row.0 = (bytes_eq-Decides path row.0).0 here in
    let its : soname_of row.0 row.1 ≡ Some soname = ap (λ q. soname_of q row.1) (sym at) ∙ ap (soname_of path) same ∙ s in
    let one : odd_soname row ≡ Some soname = ap unless_library its ∙ ap (λ b. cond b None (Some soname)) odd in
    ap (λ o. is_in (cons_option o (odd_sonames rows)) soname) one ∙ ap (λ b. b || is_in (odd_sonames rows) soname) (itself soname))
    (λ other.
    later (odd_soname row) (odd_among rows path soname analysis (sym (ap (λ b. cond b (Some row.1) (lookup (bytes_eq path) rows)) other) ∙ e) s odd))
  where
    later : (o : Option (List ℕ)) → is_in (odd_sonames rows) soname ≡ true → is_in (cons_option o (odd_sonames rows)) soname ≡ true
    later None h = h
    later (Some name) h = or_right (bytes_eq soname name) _ h

module _ (rows : Rows) where
  -- the library's soname is its own name, a library name, or an odd soname of the table
  abbrev pub is_covered : Library → Bool
  is_covered library = is_own library || (is_library_name library.soname || is_in (odd_sonames rows) library.soname)

  named_covered : (link : Library) → is_covered link ≡ true → is_covered (record { name = link.name; soname = link.name; abi = link.abi }) ≡ true
  named_covered link h = ap (λ b. b || (is_library_name link.name || is_in (odd_sonames rows) link.name)) ((bytes_eq-Decides link.name link.name).1 refl)

  -- a soname of a row
  of_row : (library : Library) (path : List ℕ) (analysis : Analysis) → analysis_at rows path ≡ Some analysis → soname_of path analysis ≡ Some library.soname → is_covered library ≡ true
  of_row library path analysis e s = or_right (is_own library) _ (by_test (is_library_name library.soname)
      (λ l. ap (λ b. b || is_in (odd_sonames rows) library.soname) l)
      (λ l. or_right (is_library_name library.soname) _ (odd_among rows path library.soname analysis e s l)))

  covered_by : (path name own : List ℕ) (library : Library) (a : Analysis) → (own ≡ last path) ⊎ (own ≡ name) → analysis_at rows path ≡ Some a → library_by name own a ≡ Some library → is_covered library ≡ true
  covered_by path name own library (Not defect) which at e = absurd (cc)
  covered_by path name own library (Lib abi (Some soname)) which at e =
      let made : Library = record { name = name; soname = soname; abi = abi } in
      let same : made ≡ library = cc in
      subst (λ (l : Library). is_covered l ≡ true) same (of_row made path (Lib abi (Some soname)) at refl)
  covered_by path name own library (Lib abi None) which at e =
      let made : Library = record { name = name; soname = own; abi = abi } in
      let same : made ≡ library = cc in
      subst (λ (l : Library). is_covered l ≡ true) same (by made refl refl which)
    where
      by : (l : Library) → l.name ≡ name → l.soname ≡ own → (own ≡ last path) ⊎ (own ≡ name) → is_covered l ≡ true
      by l n s (inl e) = of_row l path (Lib abi None) at (ap Some (sym e ∙ sym s))
      by l n s (inr e) = ap (λ b. b || (is_library_name l.soname || is_in (odd_sonames rows) l.soname)) ((bytes_eq-Decides l.name l.soname).1 (n ∙ sym e ∙ sym s))

  covered_at : (path name own : List ℕ) (library : Library) (o : Option Analysis) → (own ≡ last path) ⊎ (own ≡ name) → analysis_at rows path ≡ o
      → option_and_then (library_by name own) o ≡ Some library → is_covered library ≡ true
  covered_at path name own library None which at e = absurd (cc)
  covered_at path name own library (Some a) which at e = covered_by path name own library a which at e

  all_some : {X : Type 0} (f : X → Option Library) → ((x : X) (library : Library) → f x ≡ Some library → is_covered library ≡ true) → (xs : List X) → list_all is_covered (filter_map f xs) ≡ true
  all_some f each [] = refl
  all_some f each (x ∷ xs) = by (all_some f each xs) (f x) refl
    where
      by : list_all is_covered (filter_map f xs) ≡ true → (o : Option Library) → f x ≡ o → list_all is_covered (cons_option o (filter_map f xs)) ≡ true
      by rest None e = rest
      by rest (Some library) e = and_from _ _ (each x library e) rest

  of_file : (name : List ℕ) (library : Library) (o : Option (List ℕ)) → option_and_then (λ path. library_at (analysis_at rows) path name name) o ≡ Some library → is_covered library ≡ true
  of_file name library None e = absurd (cc)
  of_file name library (Some path) e = covered_at path name name library (analysis_at rows path) (inr refl) refl e

  of_link : (name : List ℕ) (library : Library) (file : Option (List ℕ)) → library_after (analysis_at rows) name file ≡ Some library → is_covered library ≡ true
  of_link name library None e = absurd (cc)
  of_link name library (Some file) e = covered_at file name (last file) library (analysis_at rows file) (inl refl) refl e

  module _ (t : Nodes) (place : Place) where
    pub winners_covered : list_all is_covered (winners_in (analysis_at rows) t place) ≡ true
    winners_covered =
        winners_meet is_covered named_covered (libraries_in (analysis_at rows) t place) (links_to_libraries (analysis_at rows) t place)
        (all_some (library_in (analysis_at rows) t place.real) (λ name library e. of_file name library (file_in t place.real name) e) (children_of t place.real))
        (all_some (linked (analysis_at rows)) (λ link library e. of_link link.name library link.file e) (followed_in t place.real))

named_names : (link : Library) → has_names link ≡ true → has_names (record { name = link.name; soname = link.name; abi = link.abi }) ≡ true
named_names link h = let name = (and_parts (is_name link.name) (is_name link.soname) h).0 in and_from (is_name link.name) (is_name link.name) name name

pub winners_named : (what : Analyses) → HaveNames what → (t : Nodes) → IsTree t → (place : Place) → list_all has_names (winners_in what t place) ≡ true
winners_named what names t tree place =
    winners_meet has_names named_names (libraries_in what t place) (links_to_libraries what t place) (libraries_named what names t place tree.entries) (links_named_well t what names tree place)
