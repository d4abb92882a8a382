-- What several programs load, one after another.
use Rattle.std.proofs.Common.{◌≡◌, ◌∷◌, [], ◌++◌, ◌≤◌, ℕ, List, length, Option, Some, None, Result, Ok, Err, inr, refl, subst, sym, arith}
use Rattle.std.proofs.lemmas.List.{append-nil, append_assoc}
use Rattle.cache_reader.specs.Cache.{CachedEntry}
use Rattle.elf_dynamic.specs.declared.kinds.Object.{Object}
use Rattle.image_tree.specs.Tree.{Nodes}
use Rattle.lib_types.specs.declared.analysis.Defect.{Defect}
use Rattle.rpath_search.specs.declared.fault.SearchFault.{SearchFault}
use Rattle.rpath_search.specs.declared.kinds.Env.{Env}
use Rattle.tree_face.proofs.StoreUse.{reads_all}
use Rattle.tree_face.specs.Store.{Contents, StoreState}
use Rattle.tree_face.specs.StoreUse.{Complete, Ending, GaveUp}
use Rattle.ldd_resolve.specs.Each.{AreResolved, IsStopped, ResolvesOne, Step, of_program, outcome_of}
use Rattle.ldd_resolve.specs.Listing.{Record}
use Rattle.ldd_resolve.specs.Resolving.{BeginsBy, BeginsFor, ReadsListing, object_at, program_at, record_of, resolve_ending}
use Rattle.ldd_resolve.specs.declared.kinds.ProgramFault.{ProgramFault}
use Rattle.ldd_resolve.specs.declared.kinds.ProgramFault.TheVariants as programs
use Rattle.ldd_resolve.specs.declared.kinds.ProgramScope.{ProgramScope}
use Rattle.ldd_resolve.specs.declared.kinds.ResolveFault.TheVariants as faults
use Rattle.ldd_resolve.specs.declared.kinds.Scope.{Scope}
use Rattle.std.specs.Result.{result_map_both}

module _ (t : Nodes) (cache : Option (List CachedEntry)) (env : Env) (path : List ℕ) (a b : StoreState) where
  -- ---- the store's contents stay the same

  held_by : (e : Ending) (held : Contents) (key : List (List ℕ)) (at : Object → ℕ → Record) (o : Option (Result Object Defect)) → BeginsBy o at key held e a b → b.held ≡ a.held
  held_by e held key at None reads = reads.held
  held_by e held key at (Some (Err d)) reads = reads.held
  held_by e held key at (Some (Ok o)) reads = reads.reads.held

  held_for : (e : Ending) (held : Contents) (file : Option (List ℕ)) → BeginsFor t cache path env held file e a b → b.held ≡ a.held
  held_for e held None reads = reads.held
  held_for e held (Some real) reads = held_by e held _ (record_of t cache path env held real) (object_at held t real) reads

  pub same_held : (e : Ending) (known : Option Contents) → ReadsListing known t cache path env e a b → b.held ≡ a.held
  same_held e None reads = reads.held
  same_held e (Some held) reads = held_for e held (program_at t path) reads

  -- ---- faults are only added

  faults_by : (e : Ending) (held : Contents) (key : List (List ℕ)) (at : Object → ℕ → Record) (o : Option (Result Object Defect)) → BeginsBy o at key held e a b → a.faults ≤ b.faults
  faults_by e held key at None reads = reads.faults
  faults_by e held key at (Some (Err d)) reads = reads.faults
  faults_by e held key at (Some (Ok o)) reads = reads.reads.faults

  faults_for : (e : Ending) (held : Contents) (file : Option (List ℕ)) → BeginsFor t cache path env held file e a b → a.faults ≤ b.faults
  faults_for e held None reads = reads.faults
  faults_for e held (Some real) reads = faults_by e held _ (record_of t cache path env held real) (object_at held t real) reads

  pub more_faults : (e : Ending) (known : Option Contents) → ReadsListing known t cache path env e a b → a.faults ≤ b.faults
  more_faults e None reads = reads.faults
  more_faults e (Some held) reads = faults_for e held (program_at t path) reads

  -- ---- a program for whose listing memory runs out afterwards

  by_object : (held : Contents) (key : List (List ℕ)) (at : Object → ℕ → Record) (o : Option (Result Object Defect)) → BeginsBy o at key held Complete a b → BeginsBy o at key held GaveUp a b
  by_object held key at None reads = reads_all _ _ _ _ _ reads
  by_object held key at (Some (Err d)) reads = reads_all _ _ _ _ _ reads
  by_object held key at (Some (Ok o)) reads = record { requests = reads.requests; reads = reads_all _ _ _ _ _ reads.reads; all = tt }

  by_file : (held : Contents) (file : Option (List ℕ)) → BeginsFor t cache path env held file Complete a b → BeginsFor t cache path env held file GaveUp a b
  by_file held None reads = reads_all _ _ _ _ _ reads
  by_file held (Some real) reads = by_object held _ (record_of t cache path env held real) (object_at held t real) reads

  gave_up : (known : Option Contents) → ReadsListing known t cache path env Complete a b → ReadsListing known t cache path env GaveUp a b
  gave_up None reads = reads_all _ _ _ _ _ reads
  gave_up (Some held) reads = by_file held (program_at t path) reads

  whole : (known : Option Contents) (scope : Result Scope ProgramFault) → ReadsListing known t cache path env (resolve_ending (result_map_both (λ scope. scope) of_program scope)) a b
      → ReadsListing known t cache path env Complete a b
  whole known (Ok scope) reads = reads
  whole known (Err programs.NoProgram) reads = reads
  whole known (Err (programs.BadProgram d)) reads = reads

  pub no_room : (known : Option Contents) (l : ProgramScope) → ResolvesOne known t cache env path (outcome_of l) a b → ResolvesOne known t cache env path (Err faults.NoMemory) a b
  no_room known l lists = record {
    is = tt;
    no_program = record { only = λ e. absurd (cc (e)); always = λ e. inr refl };
    bad_program = tt;
    reads = gave_up known (whole known l.scope lists.reads);
  }

-- ---- one more program

module _ (lists : Step) (paths rest : List (List ℕ)) (path : List ℕ) (first old next : StoreState) where
  pub listed_then : (done : List ProgramScope) (l : ProgramScope) → l.path ≡ path → lists path (outcome_of l) old next
      → ((ls : List ProgramScope) (new : StoreState) → AreResolved lists (path ∷ rest) ls old new → AreResolved lists paths (done ++ ls) first new)
      → (ls : List ProgramScope) (new : StoreState) → AreResolved lists rest ls next new → AreResolved lists paths ((done ++ l ∷ []) ++ ls) first new
  listed_then done l same one all ls new more =
      subst (λ (xs : List ProgramScope). AreResolved lists paths xs first new) (sym (append_assoc done (l ∷ []) ls)) (all (l ∷ ls) new (next, ((same, one), more)))

  pub stopped_then : (l : ProgramScope) → l.path ≡ path → lists path (outcome_of l) old next
      → ((fault : SearchFault) (new : StoreState) → IsStopped lists fault (path ∷ rest) old new → IsStopped lists fault paths first new)
      → (fault : SearchFault) (new : StoreState) → IsStopped lists fault rest next new → IsStopped lists fault paths first new
  stopped_then l same one all fault new more = all fault new (inr (next, (l, ((same, one), more))))

-- ---- no more programs

pub at_end : (lists : Step) (paths rest : List (List ℕ)) (first old : StoreState) (done : List ProgramScope) → length rest ≡ 0
    → ((ls : List ProgramScope) (new : StoreState) → AreResolved lists rest ls old new → AreResolved lists paths (done ++ ls) first new) → AreResolved lists paths done first old
at_end lists paths [] first old done none all = subst (λ (ls : List ProgramScope). AreResolved lists paths ls first old) (append-nil done) (all [] old refl)
at_end lists paths (path ∷ rest) first old done none all = absurd (omega (arith, none))
