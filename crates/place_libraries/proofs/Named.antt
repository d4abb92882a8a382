-- The names and sonames of libraries are valid names.
use Rattle.std.proofs.Common.{◌≡◌, ℕ, Bool, true, false, cond, ◌&&◌, List, [], ◌∷◌, refl, subst, Option, Some, None}
use Rattle.std.proofs.lemmas.List.Elements.{filter_passes}
use Rattle.std.proofs.lemmas.List.Sums.{list_all-from_AllPass}
use Rattle.std.proofs.lemmas.Bool.{and_from, and_parts}
use Rattle.std.proofs.lemmas.Slice.Eq.{bytes_eq-Decides}
use Rattle.std.specs.List.{filter, fold, list_all}
use Rattle.std.specs.Option.{option_and_then}
use Rattle.hwcap_dirs.proofs.Reals.{all_given, all_left}
use Rattle.hwcap_dirs.specs.declared.kinds.Place.{Place}
use Rattle.lib_types.specs.Name.{is_name}
use Rattle.lib_types.specs.declared.analysis.Analysis.{Analysis}
use Rattle.lib_types.specs.declared.analysis.Analysis.TheVariants.{Lib, Not}
use Rattle.image_tree.specs.Tree.{Nodes, children_of, is_entry}
use Rattle.hwcap_dirs.proofs.Children.{children_named}
use Rattle.place_libraries.specs.Best.{best, better, has_soname, is_preferred}
use Rattle.place_libraries.specs.Libraries.{libraries_in, library_at, library_by, library_in}
use Rattle.place_libraries.specs.Pick.{is_better_by}
use Rattle.library_files.specs.Search.{file_in}
use Rattle.file_table.specs.Analyses.{Analyses, HaveNames, has_name}
use Rattle.place_libraries.specs.Library.{Library}

-- ---- the ELF information

-- ---- the libraries

abbrev pub has_names : Library → Bool
has_names library = is_name library.name && is_name library.soname

by_named : (name own : List ℕ) (analysis : Analysis) (library : Library) → is_name name ≡ true → is_name own ≡ true → has_name analysis ≡ true
    → library_by name own analysis ≡ Some library → has_names library ≡ true
by_named name own (Not defect) library n o h e = absurd (cc)
by_named name own (Lib abi None) library n o h e =
    let made : Library = record { name = name; soname = own; abi = abi } in
    let same : made ≡ library = cc in subst (λ (l : Library). has_names l ≡ true) same (and_from _ _ n o)
by_named name own (Lib abi (Some soname)) library n o h e =
    let made : Library = record { name = name; soname = soname; abi = abi } in
    let same : made ≡ library = cc in subst (λ (l : Library). has_names l ≡ true) same (and_from _ _ n h)

module _ (what : Analyses) (named : HaveNames what) where
  pub at_named : (path name own : List ℕ) (library : Library) (o : Option Analysis) → is_name name ≡ true → is_name own ≡ true → what path ≡ o
      → option_and_then (library_by name own) o ≡ Some library → has_names library ≡ true
  at_named path name own library None n m a e = absurd (cc)
  at_named path name own library (Some analysis) n m a e = by_named name own analysis library n m (named path analysis a) e

  in_named : (name : List ℕ) (library : Library) (o : Option (List ℕ)) → is_name name ≡ true
      → option_and_then (λ path. library_at what path name name) o ≡ Some library → has_names library ≡ true
  in_named name library None n e = absurd (cc)
  in_named name library (Some path) n e = at_named path name name library (what path) n n refl e

  pub libraries_named : (t : Nodes) (place : Place) → list_all is_entry t ≡ true → list_all has_names (libraries_in what t place) ≡ true
  libraries_named t place entries =
      all_given has_names is_name (library_in what t place.real) (λ name library n e. in_named name library (file_in t place.real name) n e)
      (children_of t place.real) (children_named t place.real entries)

-- ---- the best libraries

abbrev if_some : (Library → Bool) → Option Library → Bool
if_some p None = true
if_some p (Some library) = p library

best_of : (p : Library → Bool) (libraries : List Library) (found : Option Library) → if_some p found ≡ true → list_all p libraries ≡ true → if_some p (fold better found libraries) ≡ true
best_of p [] found h all = h
best_of p (library ∷ libraries) found h all =
    let parts = and_parts _ _ all in
    best_of p libraries (better found library)
    (elim (is_better_by is_preferred library found) as (λ b. if_some p (cond b (Some library) found) ≡ true) [ true ↦ parts.0 | false ↦ h ]) parts.1

-- if all libraries pass a test, the best library of a soname passes it
pub best_meets : (p : Library → Bool) (libraries : List Library) (soname : List ℕ) (library : Library) → list_all p libraries ≡ true → best libraries soname ≡ Some library → p library ≡ true
best_meets p libraries soname library all e =
    subst (λ o. if_some p o ≡ true) e (best_of p (filter (has_soname soname) libraries) None refl (all_left p (has_soname soname) libraries all))

-- the best library of a soname has this soname
pub best_has : (libraries : List Library) (soname : List ℕ) (library : Library) → best libraries soname ≡ Some library → library.soname ≡ soname
best_has libraries soname library e =
    let p : Library → Bool = has_soname soname in
    let kept : List Library = filter p libraries in
    (bytes_eq-Decides library.soname soname).0
    (subst (λ o. if_some p o ≡ true) e (best_of p kept None refl (list_all-from_AllPass p kept (filter_passes p libraries))))

module _ (what : Analyses) (t : Nodes) (entries : list_all is_entry t ≡ true) (named : HaveNames what) where
  -- the soname of a best library is a valid name, and so is the library's name
  pub best_named : (place : Place) (soname : List ℕ) (library : Library) → best (libraries_in what t place) soname ≡ Some library → has_names library ≡ true
  best_named place soname library e = best_meets has_names (libraries_in what t place) soname library (libraries_named what named t place entries) e
