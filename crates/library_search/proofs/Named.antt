-- The sonames in what files are said to be are names.
use Rattle.std.proofs.Common.{◌≡◌, ◌++◌, ◌&&◌, ℕ, zero, suc, Bool, true, false, if◌then◌else◌, cond, drop, find, not, List, [], ◌∷◌, Option, Some, None, option_map, refl, ap, sym, subst, ◌∙◌}
use Rattle.std.proofs.lemmas.List.Elements.{All-append, All-cons, All-nil, All-weaker}
use Rattle.std.specs.List.{All, before_first, cons_option}
use Rattle.std.specs.Option.{option_and_then, option_map_or, option_or}
use Rattle.std.specs.Prelude.{IfSome}
use Rattle.std.specs.Str.{bytes_eq}
use Rattle.aux_cache.proofs.Found.{found_holds}
use Rattle.aux_cache.specs.Stamps.{AreRecordable, IsRecordable, stamp_of}
use Rattle.aux_cache.specs.declared.stamps.Stamp.{Stamp}
use Rattle.elf_dynamic.specs.Analysis.{analysis, analysis_by, defect, sentences}
use Rattle.elf_dynamic.specs.Begun.{key_in}
use Rattle.elf_dynamic.specs.Object.{entries, soname_of, table}
use Rattle.elf_headers.specs.Header.{Sentence, abi, first_defect}
use Rattle.elf_headers.specs.Layout.{is_wide, machine, word_size}
use Rattle.file_stamps.proofs.Stamps.{recordable_named}
use Rattle.file_stamps.specs.Files.{what_is}
use Rattle.file_stamps.specs.Info.{info_in}
use Rattle.file_stamps.specs.Stamped.{id_at, of_stamp, stamp_at, stamp_by, stamp_for, stamps_at}
use Rattle.file_table.specs.Analyses.{Analyses, HaveNames, has_name, is_soname}
use Rattle.hwcap_dirs.specs.declared.kinds.Scope.{Scope}
use Rattle.hwcap_dirs.specs.declared.kinds.Scope.TheVariants.{Image, Only, Root}
use Rattle.image_tree.specs.Tree.{Nodes, node_at}
use Rattle.image_tree.specs.declared.node.Id.{Id}
use Rattle.lib_types.proofs.SortedPairs.{by_test}
use Rattle.lib_types.specs.Name.{is_name}
use Rattle.lib_types.specs.declared.abi.Abi.{Abi}
use Rattle.lib_types.specs.declared.analysis.Analysis.{Analysis}
use Rattle.lib_types.specs.declared.analysis.Analysis.TheVariants.{Lib, Not}
use Rattle.lib_types.specs.declared.analysis.Defect.{Defect}
use Rattle.lib_types.specs.declared.analysis.Defect.TheVariants.{BadMachine, Unsearchable}
use Rattle.library_search.specs.Judged.{judged, judged_all, judged_by}
use Rattle.path_walk.specs.Names.{last}
use Rattle.searchable_names.specs.Searchable.{is_searchable}
use Rattle.tree_face.specs.Store.{Contents}
use Rattle.lib_types.proofs.Bools.{not_false}

-- ---- what a file is

no_defect : (n : ℕ) (xs : List Sentence) → first_defect xs ≡ None → first_defect (drop n xs) ≡ None
no_defect zero xs h = h
no_defect (suc n) [] h = h
no_defect (suc n) (x ∷ xs) h = by_test x.0
    (λ e. let z : Some x.1 ≡ None = sym (ap (λ b. option_map (λ (s : Sentence). s.1) (cond b (Some x) (find (λ s. s.0) xs))) e) ∙ h in absurd (cc))
    (λ e. no_defect n xs (sym (ap (λ b. option_map (λ (s : Sentence). s.1) (cond b (Some x) (find (λ s. s.0) xs))) e) ∙ h))

-- whether the first sentence holds
abbrev holds_first : List Sentence → Bool
holds_first [] = false
holds_first (x ∷ xs) = x.0

first_false : (xs : List Sentence) → first_defect xs ≡ None → holds_first xs ≡ false
first_false [] h = refl
first_false (x ∷ xs) h = by_test x.0
    (λ e. let z : Some x.1 ≡ None = sym (ap (λ b. option_map (λ (s : Sentence). s.1) (cond b (Some x) (find (λ s. s.0) xs))) e) ∙ h in absurd (cc))
    (λ e. e)

soname_named : (soname : Option (List ℕ)) → option_map_or is_name soname true ≡ true → is_soname soname ≡ true
soname_named None h = refl
soname_named (Some soname) h = h

-- the soname of a file without a defect is a name: that it isn't is the last but one of the sentences
soname_good : (bytes : List ℕ) → defect bytes ≡ None → is_soname (soname_of (table (word_size (is_wide bytes)) bytes) (entries (word_size (is_wide bytes)) bytes)) ≡ true
soname_good bytes none =
    let soname = soname_of (table (word_size (is_wide bytes)) bytes) (entries (word_size (is_wide bytes)) bytes) in
    let named : not (option_map_or is_name soname true) ≡ false = first_false (drop 13 (sentences bytes)) (no_defect 13 (sentences bytes) none) in
    soname_named soname (not_false (option_map_or is_name soname true) named)

as_named : (o : Option Abi) (soname : Option (List ℕ)) (d : Defect) → is_soname soname ≡ true → has_name (option_map_or (λ abi. Lib abi soname) o (Not d)) ≡ true
as_named None soname d h = refl
as_named (Some abi) soname d h = h

analysis_named : (bytes : List ℕ) → has_name (analysis bytes) ≡ true
unfolding analysis
analysis_named bytes = by (defect bytes) refl
  where
    by : (o : Option Defect) → defect bytes ≡ o → has_name (analysis_by o bytes) ≡ true
    by (Some d) e = refl
    by None e = as_named (abi bytes) (soname_of (table (word_size (is_wide bytes)) bytes) (entries (word_size (is_wide bytes)) bytes)) (BadMachine (machine bytes)) (soname_good bytes e)

-- ---- stamps

-- the soname in a stamp is a name
abbrev IsNamed : Stamp → Type 0
IsNamed s = has_name (of_stamp s) ≡ true

module _ (held : Contents) (t : Nodes) where
  what_named : HaveNames (what_is held t)
  what_named path found e = by (option_and_then held (key_in (node_at t path))) e
    where
      by : (o : Option (List ℕ)) → option_map analysis o ≡ Some found → has_name found ≡ true
      by None e = absurd (cc)
      by (Some bytes) e = let same : analysis bytes ≡ found = cc in subst (λ (a : Analysis). has_name a ≡ true) same (analysis_named bytes)

  at_named : (path : List ℕ) → IfSome (stamp_at held t path) IsNamed
  at_named path = by (id_at t path) (what_is held t path) (what_named path)
    where
      by : (id : Option Id) (o : Option Analysis) → ((found : Analysis) → o ≡ Some found → has_name found ≡ true) → IfSome (stamp_by id o) IsNamed
      by None o named = tt
      by (Some id) None named = tt
      by (Some id) (Some found) named = named found refl

  all_named : (paths : List (List ℕ)) → All IsNamed (stamps_at held t paths)
  all_named [] = All-nil IsNamed
  all_named (path ∷ paths) = elim (stamp_at held t path) as (λ o. IfSome o IsNamed → All IsNamed (cons_option o (stamps_at held t paths))) [
    | None ↦ λ h. all_named paths
    | Some s ↦ λ h. All-cons IsNamed s (stamps_at held t paths) h (all_named paths)
  ] (at_named path)

  -- ---- what files are said to be

  pub info_named : (loaded : List Stamp) → AreRecordable loaded → (paths : List (List ℕ)) → HaveNames (info_in held t loaded paths)
  info_named loaded are paths path found e = by_stamp (stamp_for xs t path) (by_id (id_at t path)) e
    where
      xs : List Stamp
      xs = loaded ++ stamps_at held t (before_first (bytes_eq path) paths)

      loaded_named : All IsNamed loaded
      loaded_named = All-weaker (λ (s : Stamp). IsRecordable s.analysis) IsNamed (λ s h. recordable_named s.analysis h) loaded are

      by_id : (o : Option Id) → IfSome (option_and_then (stamp_of xs) o) IsNamed
      by_id None = tt
      by_id (Some id) = found_holds IsNamed xs id (All-append IsNamed loaded _ loaded_named (all_named (before_first (bytes_eq path) paths)))

      by_stamp : (o : Option Stamp) → IfSome o IsNamed → option_or (option_map of_stamp o) (what_is held t path) ≡ Some found → has_name found ≡ true
      by_stamp None named e = what_named path found e
      by_stamp (Some s) named e =
          let same : of_stamp s ≡ found = cc in
          subst (λ (a : Analysis). has_name a ≡ true) same named

-- ---- those that the loader can search for

judged_name : (path : List ℕ) (found : Analysis) → has_name found ≡ true → has_name (judged_by path found) ≡ true
judged_name path (Not d) h = refl
judged_name path (Lib abi soname) h = by (is_searchable (last path) && option_map_or is_searchable soname true)
  where
    by : (b : Bool) → has_name (if b then Lib abi soname else Not Unsearchable) ≡ true
    by true = h
    by false = refl

all_judged : (what : Analyses) → HaveNames what → HaveNames (judged_all what)
unfolding judged_all
all_judged what named path found e = by (what path) refl e
  where
    by : (o : Option Analysis) → what path ≡ o → option_map (judged_by path) o ≡ Some found → has_name found ≡ true
    by None is e = absurd (cc)
    by (Some a) is e =
        let same : judged_by path a ≡ found = cc in
        subst (λ (a : Analysis). has_name a ≡ true) same (judged_name path a (named path a is))

pub judged_named : (scope : Scope) (what : Analyses) → HaveNames what → HaveNames (judged scope what)
judged_named Image what named = named
judged_named (Root conf) what named = all_judged what named
judged_named (Only dirs) what named = all_judged what named
