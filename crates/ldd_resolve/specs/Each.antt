-- What several programs load, one program after another (ldd(1) with several files).
use Rattle.std.specs.Prelude.{◌≡◌, ◌⊎◌, ℕ, List, [], ◌∷◌, Option, Result, Ok, Err, IfOk}
use Rattle.std.specs.Result.{result_map_both}
use Rattle.cache_reader.specs.Cache.{CachedEntry}
use Rattle.image_tree.specs.Tree.{Nodes}
use Rattle.rpath_search.specs.declared.fault.SearchFault.{SearchFault}
use Rattle.rpath_search.specs.declared.kinds.Env.{Env}
use Rattle.tree_face.specs.Known.{IfKnown}
use Rattle.tree_face.specs.Store.{Contents, StoreState}
use Rattle.ldd_resolve.specs.Faults.{of_search}
use Rattle.ldd_resolve.specs.Resolving.{IfBadProgram, IsBadProgram, IsNoProgram, IsScope, ReadsListing, program_at, resolve_ending}
use Rattle.ldd_resolve.specs.declared.kinds.ProgramFault.{ProgramFault}
use Rattle.ldd_resolve.specs.declared.kinds.ProgramFault.TheVariants as programs
use Rattle.ldd_resolve.specs.declared.kinds.ProgramScope.{ProgramScope}
use Rattle.ldd_resolve.specs.declared.kinds.ResolveFault.{ResolveFault}
use Rattle.ldd_resolve.specs.declared.kinds.ResolveFault.TheVariants as faults
use Rattle.ldd_resolve.specs.declared.kinds.Scope.{Scope}

-- ---- one program

-- the result of a call for one program
abbrev pub Outcome : Type 0
Outcome = Result Scope ResolveFault

-- This is what the program at this path loads, or why it has none; these files are opened.
pub record ResolvesOne (known : Option Contents) (t : Nodes) (cache : Option (List CachedEntry)) (env : Env) (path : List ℕ) (outcome : Outcome) (old new : StoreState) : Type 0 where
  pub is : IfOk outcome (λ scope. IfKnown known (λ held. IsScope t cache path env held scope))
  pub no_program : IsNoProgram (program_at t path) outcome
  pub bad_program : IfBadProgram outcome (λ d. IfKnown known (λ held. IsBadProgram held t path d))
  pub reads : ReadsListing known t cache path env (resolve_ending outcome) old new

-- ---- several programs

abbrev pub of_program : ProgramFault → ResolveFault
of_program programs.NoProgram = faults.NoProgram
of_program (programs.BadProgram defect) = faults.BadProgram defect

abbrev pub outcome_of : ProgramScope → Outcome
outcome_of p = result_map_both (λ scope. scope) of_program p.scope

abbrev pub outcome_by : Result ProgramScope SearchFault → Outcome
outcome_by (Ok p) = outcome_of p
outcome_by (Err fault) = Err (of_search fault)

-- a call for one program takes the store from the first state to the second
abbrev pub Step : Type 1
Step = List ℕ → Outcome → StoreState → StoreState → Type 0

-- These are the scopes of the programs at these paths, each made after the one before. A path without a program has its reason.
abbrev pub AreResolved : Step → List (List ℕ) → List ProgramScope → StoreState → StoreState → Type 0
AreResolved resolves [] [] old new = new ≡ old
AreResolved resolves (path ∷ paths) (p ∷ ps) old new =
    (next : StoreState) × (((p.path ≡ path) × resolves path (outcome_of p) old next) × AreResolved resolves paths ps next new)
AreResolved resolves [] (p ∷ ps) old new = ⊥
AreResolved resolves (path ∷ paths) [] old new = ⊥

-- The call fails for a program after some first programs. Nothing is opened after that.
abbrev pub IsStopped : Step → SearchFault → List (List ℕ) → StoreState → StoreState → Type 0
IsStopped resolves fault [] old new = ⊥
IsStopped resolves fault (path ∷ paths) old new =
    resolves path (Err (of_search fault)) old new
    ⊎ ((next : StoreState) × ((p : ProgramScope) × (((p.path ≡ path) × resolves path (outcome_of p) old next) × IsStopped resolves fault paths next new)))

abbrev pub ResolvesInTurn : Step → List (List ℕ) → Result (List ProgramScope) SearchFault → StoreState → StoreState → Type 0
ResolvesInTurn resolves paths (Ok ps) old new = AreResolved resolves paths ps old new
ResolvesInTurn resolves paths (Err fault) old new = IsStopped resolves fault paths old new

-- the programs at these paths are resolved, in order
abbrev pub ResolvesEach : Option Contents → Nodes → Option (List CachedEntry) → Env → List (List ℕ) → Result (List ProgramScope) SearchFault → StoreState → StoreState → Type 0
ResolvesEach known t cache env paths result old new = ResolvesInTurn (ResolvesOne known t cache env) paths result old new

-- ---- what private functions say

abbrev pub outcome_in : Result (Result Scope ProgramFault) SearchFault → Outcome
outcome_in (Ok scope) = result_map_both (λ scope. scope) of_program scope
outcome_in (Err fault) = Err (of_search fault)
