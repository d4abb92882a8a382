-- How the code answers the requests of a listing.
use Rattle.std.specs.Prelude.{◌≡◌, ℕ, ◌+◌, suc, List, [], ◌∷◌, drop, length, map, if◌then◌else◌, true, Option, Some, None, is_some, Result, Ok, IfOk}
use Rattle.std.specs.Option.{option_copied}
use Rattle.tree_face.specs.Known.{IfKnown}
use Rattle.tree_face.specs.Store.{Contents, StoreState}
use Rattle.tree_face.specs.StoreUse.{Ending}
use Rattle.image_tree.specs.Tree.{Nodes, node_at}
use Rattle.cache_reader.specs.Cache.{CachedEntry}
use Rattle.rpath_search.specs.Faults.{search_ending}
use Rattle.rpath_search.specs.Candidates.{all_paths}
use Rattle.rpath_search.specs.Loaders.{reach_at}
use Rattle.rpath_search.specs.Parts.{part_of}
use Rattle.rpath_search.specs.Places.{Reach, env_for, paths}
use Rattle.rpath_search.specs.Search.{first_good, is_library}
use Rattle.rpath_search.specs.declared.fault.SearchFault.{SearchFault}
use Rattle.rpath_search.specs.declared.kinds.Env.{Env}
use Rattle.rpath_search.specs.declared.kinds.Found.{Found}
use Rattle.rpath_search.specs.declared.kinds.Owner.{Owner}
use Rattle.ldd_resolve.specs.declared.kinds.Scope.{Scope}
use Rattle.ldd_resolve.specs.declared.loading.Loading.{Loading}
use Rattle.ldd_resolve.specs.declared.requests.Given.{Given}
use Rattle.rpath_search.specs.declared.parts.Part.{Part}
use Rattle.rpath_search.specs.declared.search.Answer.{Answer}
use Rattle.rpath_search.specs.declared.search.Answer.TheVariants as answer
use Rattle.rpath_search.specs.declared.search.LoadedFiles.{LoadedFiles}
use Rattle.ldd_resolve.specs.Links.{following}
use Rattle.ldd_resolve.specs.Listing.{Inputs, Record, Request, keys_searched, left, loaded}
use Rattle.ldd_resolve.specs.Loading.{Advances, IsSound, Matches}
use Rattle.ldd_resolve.specs.Resolving.{AreLoaded, IfComplete, IsScopeOf, cached_in, inputs_of, object_at}
use Rattle.rpath_search.specs.Searching.{AreKnown, Finds}
use Rattle.ldd_resolve.specs.Searching.{Begins}

-- ---- the inputs of a search

abbrev pub inputs_by : Given → Contents → Inputs
inputs_by g held = inputs_of g.tree.now (option_copied g.cache) g.env.now held

abbrev pub paths_by : Given → List ℕ → List Owner → List (List ℕ)
paths_by g name chain = paths name chain g.env.now (cached_in (option_copied g.cache) g.env.now name)

-- the search paths of a name, for an object with these search directories
abbrev pub paths_at : Given → List ℕ → Reach → List (List ℕ)
paths_at g name reach = all_paths name g.env.now reach (cached_in (option_copied g.cache) g.env.now name)

-- the known facts about loaded files
abbrev pub AreKnownBy : Option Contents → Given → LoadedFiles → Type 0
AreKnownBy known g loaded = IfKnown known (λ held. AreKnown held g.tree.now g.env.now.abi loaded)

-- the answer for the first good path
abbrev pub FindsBy : Option Contents → Given → List (List ℕ) → List (List ℕ) → Option Answer → Type 0
FindsBy known g loaded all a =
    IfKnown known (λ held. Finds held g.tree.now g.env.now.abi loaded (first_good held g.tree.now g.env.now.abi all) a)

-- the part of the search that gives the path of a new library, which the object with this number needs
abbrev pub IsPartAt : Given → Loading → ℕ → List ℕ → Option Answer → Part → Type 0
IsPartAt g s number name None part = Unit {0}
IsPartAt g s number name (Some (answer.Loaded i path)) part = Unit {0}
IsPartAt g s number name (Some (answer.New f)) part =
    part ≡ part_of name g.env.now (reach_at s.loaders number) (cached_in (option_copied g.cache) g.env.now name) f.path

abbrev pub BeginsPaths : Option Contents → Given → List (List ℕ) → List (List ℕ) → Ending → StoreState → StoreState → Type 0
BeginsPaths known g loaded all ending old new = Begins known (λ held. keys_searched held g.tree.now g.env.now.abi loaded all) ending old new

-- ---- the requests of one object

-- requests for these names by the object with this chain
abbrev pub requests_by : List Owner → List (List ℕ) → List Request
requests_by chain names = map (λ name. record { name = name; chain = chain }) names

-- the requests of the object with this number and chain are being answered; these names remain
pub record IsAt (env : Env) (r : Record) (s : Loading) (number : ℕ) (chain : List Owner) (names : List (List ℕ)) : Type 0 where
  pub matching : Matches env r s (suc number) (requests_by chain names)
  pub chain_is : following (map (λ o. o.chain) r.objects) (Some number) ≡ chain

-- If `names` remain before the call, `rest` remains after it. The state matches the record before and after.
abbrev pub Answers : Option Contents → Given → ℕ → List Owner → List (List ℕ) → List (List ℕ) → Ending → Loading → Loading → StoreState → StoreState → Type 0
Answers known g number chain names rest ending s s2 old new =
    (r : Record) → IsAt g.env.now r s number chain names → Advances known (inputs_by g) r ending (λ r2. IfComplete ending (IsAt g.env.now r2 s2 number chain rest)) old new

-- ---- the requests of all objects

-- The call answers the requests of the objects before `next`. The state matches the record before and after.
abbrev pub AnswersObjects : Option Contents → Given → ℕ → ℕ → Ending → Loading → Loading → StoreState → StoreState → Type 0
AnswersObjects known g number next ending s s2 old new =
    (r : Record) → Matches g.env.now r s number [] → Advances known (inputs_by g) r ending (λ r2. IfComplete ending (Matches g.env.now r2 s2 next [])) old new

-- no request remains in the record, and this is its scope
pub record IsListed (r : Record) (s : Scope) : Type 0 where
  pub all : left r ≡ []
  pub scope : IsScopeOf s r
  pub loaded : AreLoaded s

-- the scope in the state
abbrev pub scope_in : Loading → Scope
scope_in s = record { members = s.members.items; listing = s.items; replies = s.replies; found = s.found }

abbrev pub AnswersAll : Option Contents → Given → Ending → Loading → Loading → StoreState → StoreState → Type 0
AnswersAll known g ending s s2 old new =
    (r : Record) → Matches g.env.now r s 0 [] → Advances known (inputs_by g) r ending (λ r2. IfComplete ending (IsListed r2 (scope_in s2))) old new

-- ---- growth of the state

-- there are as many objects as files, and `taken` of the objects were taken from the queue
pub record IsEven (s : Loading) (taken : ℕ) : Type 0 where
  pub places : length s.loaders ≡ length s.places.loaded
  pub pending : taken + length s.pending.items ≡ length s.loaders

-- ---- the program

-- the record of only the program
abbrev pub record_with : Found → List (List ℕ) → Record
record_with p keys = record { objects = loaded p.path p.real p.object.dynamic None [] ∷ []; answered = 0; items = []; replies = []; found = p.path ∷ []; keys = keys }

-- the program's file, if it isn't a library
abbrev pub outsider_of : Found → Option (List ℕ)
outsider_of p = if is_library p.object.abi p.object then None else Some p.real

abbrev pub MatchesFirst : Env → Found → Loading → Type 0
MatchesFirst env p s = (keys : List (List ℕ)) → Matches env (record_with p keys) s 0 []

abbrev pub StartsSound : Found → Loading → Type 0
StartsSound p s = (known : Option Contents) (t : Nodes) → is_some (node_at t p.real) ≡ true
    → IfKnown known (λ held. object_at held t p.real ≡ Some (Ok p.object)) → IsSound known t p.object.abi s

-- From the record of only the program, the call answers all requests and returns the scope.
abbrev pub Lists : Option Contents → Nodes → Option (List CachedEntry) → Env → Found → Result Scope SearchFault → StoreState → StoreState → Type 0
Lists known t cache env p result old new = (keys : List (List ℕ))
    → Advances known (inputs_of t cache (env_for env p.object.abi)) (record_with p keys) (search_ending result) (λ r2. IfOk result (IsListed r2)) old new
