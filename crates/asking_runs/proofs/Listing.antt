-- If each program has a listing and the store doesn't fail, each program is resolved, and its interpreter is read.
use Rattle.std.proofs.Common.{◌≡◌, ◌⊎◌, ◌∷◌, [], ◌≤◌, ℕ, List, false, true, Option, Some, None, Result, Ok, Err, inl, inr, ap, arith, refl, subst, sym, ◌∙◌}
use Rattle.std.proofs.lemmas.Bool.{true≢false}
use Rattle.std.specs.Option.{option_and_then, option_map, option_or}
use Rattle.std.specs.Prelude.{option_to_list}
use Rattle.std.specs.List.{AllByRecursion}
use Rattle.std.specs.Result.{result_map_both}
use Rattle.cache_reader.specs.Cache.{CachedEntry}
use Rattle.elf_dynamic.proofs.BegunKeys.{none_lacks}
use Rattle.elf_dynamic.specs.Begun.{file_keys, key_in, lacks_one}
use Rattle.elf_dynamic.specs.Object.{object}
use Rattle.elf_dynamic.specs.declared.kinds.Object.{Object}
use Rattle.image_tree.specs.Tree.{Nodes, node_at}
use Rattle.ldd_resolve.proofs.InTurn.{more_faults, same_held}
use Rattle.ldd_resolve.specs.Each.{AreResolved, IsStopped, ResolvesOne, Outcome, of_program, outcome_of}
use Rattle.ldd_resolve.specs.Faults.{of_search}
use Rattle.ldd_resolve.specs.Resolving.{BeginsBy, BeginsFor, ReadsListing, object_at, program_at, record_of, resolve_ending}
use Rattle.ldd_resolve.specs.declared.kinds.ProgramFault.{ProgramFault}
use Rattle.ldd_resolve.specs.declared.kinds.ProgramFault.TheVariants as programs
use Rattle.ldd_resolve.specs.declared.kinds.ProgramScope.{ProgramScope}
use Rattle.ldd_resolve.specs.declared.kinds.ResolveFault.TheVariants as resolving
use Rattle.ldd_resolve.specs.declared.kinds.Scope.{Scope}
use Rattle.lib_types.specs.Counts.{HasRisen}
use Rattle.lib_types.specs.declared.analysis.Defect.{Defect}
use Rattle.needed_files.specs.Interpreters.{key_at, key_of, program_keys}
use Rattle.rpath_search.specs.declared.fault.SearchFault.{SearchFault}
use Rattle.rpath_search.specs.declared.fault.SearchFault.TheVariants as searches
use Rattle.rpath_search.specs.declared.kinds.Env.{Env}
use Rattle.tree_face.specs.Store.{Contents, StoreState}
use Rattle.tree_face.specs.StoreUse.{DeviceFailed}
use Rattle.asking_runs.specs.Listings.{fault_in, first_fault}
use Rattle.asking_runs.specs.Resolve.{HasListing}

-- a listing, or memory ran out
abbrev IsGood : Outcome → Type 0
IsGood (Ok scope) = Unit {0}
IsGood (Err resolving.NoProgram) = ⊥
IsGood (Err (resolving.BadProgram d)) = ⊥
IsGood (Err resolving.StoreFault) = ⊥
IsGood (Err resolving.NoMemory) = Unit {0}

no_fault : (scope : Result Scope ProgramFault) → IsGood (result_map_both (λ scope. scope) of_program scope) → fault_in scope ≡ None
no_fault (Ok scope) good = refl
no_fault (Err programs.NoProgram) good = absurd good
no_fault (Err (programs.BadProgram d)) good = absurd good

memory_alone : (fault : SearchFault) → IsGood (Err (of_search fault)) → fault ≡ searches.NoMemory
memory_alone searches.StoreFault good = absurd good
memory_alone searches.NoMemory good = refl

-- a rise in a part is a rise in the whole
pub inside : (a b c d : ℕ) → a ≤ b → c ≤ d → HasRisen b c → HasRisen a d
inside a b c d first last risen = omega (arith, first, last, risen)

-- the store holds these files and doesn't fail
pub lacking : (held : Contents) (before after : ℕ) (keys : List (List ℕ)) → lacks_one held keys ≡ false → (HasRisen before after → ⊥) → HasRisen before after ⊎ (lacks_one held keys ≡ true) → ⊥
lacking held before after keys holds none (inl risen) = none risen
lacking held before after keys holds none (inr lacks) = true≢false (sym lacks ∙ holds)

module _ (held : Contents) (env : Env) (tree : Nodes) (cache : Option (List CachedEntry)) where
  other_file : (path real other : List ℕ) (o : Object) (d : Defect) → program_at tree path ≡ Some real → program_at tree path ≡ Some other → object_at held tree real ≡ Some (Ok o)
      → object_at held tree other ≡ Some (Err d) → ⊥
  other_file path real other o d file file' says says' =
      let same : real ≡ other = cc (file, file') in
      absurd (cc (says, says', same))

  nothing : {file : Option (List ℕ)} {real : List ℕ} → file ≡ None → file ≡ Some real → ⊥
  nothing e f = absurd (cc (e, f))

  module _ (path : List ℕ) (is : HasListing env tree cache held path) (a b : StoreState) (none : HasRisen a.faults b.faults → ⊥) where
    fails : ReadsListing (Some held) tree cache path env DeviceFailed a b → ⊥
    fails reads =
        let of_file = subst (λ (file : Option (List ℕ)). BeginsFor tree cache path env held file DeviceFailed a b) is.file reads in
        let of_object = subst (λ (o : Option (Result Object Defect)). BeginsBy o (record_of tree cache path env held is.real) (file_keys tree (is.real ∷ [])) held DeviceFailed a b) is.says of_file in
        lacking held _ _ _ (is.holds of_object.requests) none of_object.reads.cause

    good : (outcome : Outcome) → ResolvesOne (Some held) tree cache env path outcome a b → IsGood outcome
    good (Ok scope) lists = tt
    good (Err resolving.NoProgram) lists = absurd (nothing (lists.no_program.only refl) is.file)
    good (Err (resolving.BadProgram d)) lists = absurd (other_file path is.real lists.bad_program.real is.object d is.file lists.bad_program.file is.says lists.bad_program.says)
    good (Err resolving.StoreFault) lists = absurd (fails lists.reads)
    good (Err resolving.NoMemory) lists = tt

  one_more : (path : List ℕ) (outcome : Outcome) (a b : StoreState) → ResolvesOne (Some held) tree cache env path outcome a b → a.faults ≤ b.faults
  one_more path outcome a b lists = more_faults tree cache env path a b (resolve_ending outcome) (Some held) lists.reads

  pub all_more : (paths : List (List ℕ)) (ls : List ProgramScope) (a b : StoreState) → AreResolved (ResolvesOne (Some held) tree cache env) paths ls a b → a.faults ≤ b.faults
  all_more [] [] a b is = rw is (omega arith)
  all_more [] (l ∷ ls) a b is = absurd is
  all_more (path ∷ paths) [] a b is = absurd is
  all_more (path ∷ paths) (l ∷ ls) a b is =
      let first = one_more path (outcome_of l) a is.0 is.1.0.1 in
      let others = all_more paths ls is.0 b is.1.1 in
      omega (arith, first, others)

  pub all_held : (paths : List (List ℕ)) (ls : List ProgramScope) (a b : StoreState) → AreResolved (ResolvesOne (Some held) tree cache env) paths ls a b → b.held ≡ a.held
  all_held [] [] a b is = ap (λ (s : StoreState). s.held) is
  all_held [] (l ∷ ls) a b is = absurd is
  all_held (path ∷ paths) [] a b is = absurd is
  all_held (path ∷ paths) (l ∷ ls) a b is =
      all_held paths ls is.0 b is.1.1 ∙ same_held tree cache env path a is.0 (resolve_ending (outcome_of l)) (Some held) is.1.0.1.reads

  -- ---- the files of the programs are held

  key_held : (key : Option (List ℕ)) (object_is : Result Object Defect) → option_map object (option_and_then held key) ≡ Some object_is → lacks_one held (option_to_list key) ≡ false
  key_held None o e = absurd (cc)
  key_held (Some key) o e = by (held key) refl
    where
      by : (content : Option (List ℕ)) → held key ≡ content → lacks_one held (key ∷ []) ≡ false
      by None none = absurd (let nothing : option_map object (option_and_then held (Some key)) ≡ None = rw none refl in cc (e, nothing))
      by (Some bytes) some = rw some refl

  one_held : (path : List ℕ) → HasListing env tree cache held path → lacks_one held (key_at tree path) ≡ false
  one_held path is =
      subst (λ (file : Option (List ℕ)). lacks_one held (option_to_list (option_and_then (λ real. key_in (node_at tree real)) file)) ≡ false) (sym is.file)
      (key_held (key_in (node_at tree is.real)) (Ok is.object) is.says)

  of_held : (path : List ℕ) (scope : Result Scope ProgramFault) → HasListing env tree cache held path → lacks_one held (key_of tree path scope) ≡ false
  of_held path (Ok scope) is = one_held path is
  of_held path (Err fault) is = refl

  pub keys_held : (paths : List (List ℕ)) (ls : List ProgramScope) (a b : StoreState) → AllByRecursion (HasListing env tree cache held) paths
      → AreResolved (ResolvesOne (Some held) tree cache env) paths ls a b → lacks_one held (program_keys tree ls) ≡ false
  keys_held [] [] a b all is = refl
  keys_held [] (l ∷ ls) a b all is = absurd is
  keys_held (path ∷ paths) [] a b all is = absurd is
  keys_held (path ∷ paths) (l ∷ ls) a b all is =
      none_lacks held (key_of tree l.path l.scope) (program_keys tree ls)
      (of_held l.path l.scope (subst (HasListing env tree cache held) (sym is.1.0.0) all.0)) (keys_held paths ls is.0 b all.1 is.1.1)

  pub none_faulty : (paths : List (List ℕ)) (ls : List ProgramScope) (a b : StoreState) → AllByRecursion (HasListing env tree cache held) paths
      → AreResolved (ResolvesOne (Some held) tree cache env) paths ls a b → (HasRisen a.faults b.faults → ⊥) → first_fault ls ≡ None
  none_faulty [] [] a b all is none = refl
  none_faulty [] (l ∷ ls) a b all is none = absurd is
  none_faulty (path ∷ paths) [] a b all is none = absurd is
  none_faulty (path ∷ paths) (l ∷ ls) a b all is none =
      let before = one_more path (outcome_of l) a is.0 is.1.0.1 in
      let after = all_more paths ls is.0 b is.1.1 in
      let one = no_fault l.scope (good path all.0 a is.0 (λ risen. none (inside _ _ _ _ (omega arith) after risen)) (outcome_of l) is.1.0.1) in
      let others = none_faulty paths ls is.0 b all.1 is.1.1 (λ risen. none (inside _ _ _ _ before (omega arith) risen)) in
      subst (λ (fault : Option ProgramFault). option_or fault (first_fault ls) ≡ None) (sym one) others

  pub stopped_by_memory : (fault : SearchFault) (paths : List (List ℕ)) (a b : StoreState) → AllByRecursion (HasListing env tree cache held) paths
      → IsStopped (ResolvesOne (Some held) tree cache env) fault paths a b → (HasRisen a.faults b.faults → ⊥) → fault ≡ searches.NoMemory
  stopped_by_memory fault [] a b all is none = absurd is
  stopped_by_memory fault (path ∷ paths) a b all (inl lists) none = memory_alone fault (good path all.0 a b none (Err (of_search fault)) lists)
  stopped_by_memory fault (path ∷ paths) a b all (inr is) none =
      let before = one_more path (outcome_of is.1.0) a is.0 is.1.1.0.1 in
      stopped_by_memory fault paths is.0 b all.1 is.1.1.1 (λ risen. none (inside _ _ _ _ before (omega arith) risen))
