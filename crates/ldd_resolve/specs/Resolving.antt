-- What a program loads, and the files that are opened for it (ldd(1), ld.so(8)).
use Rattle.std.specs.Prelude.{◌≡◌, ◌⊎◌, ◌++◌, ℕ, false, List, [], ◌∷◌, drop, map, Option, Some, None, option_map, option_and_then, Result, Ok, Err}
use Rattle.std.specs.List.{filter_map}
use Rattle.lib_types.specs.declared.analysis.Defect.{Defect}
use Rattle.tree_face.specs.StoreUse.{Ending, Complete, DeviceFailed, GaveUp, ReadsFiles}
use Rattle.tree_face.specs.Known.{Relates}
use Rattle.tree_face.specs.Store.{Contents, StoreState}
use Rattle.image_tree.specs.Tree.{Nodes, node_at}
use Rattle.path_walk.specs.Files.{file_at}
use Rattle.cache_reader.specs.Cache.{CachedEntry}
use Rattle.cache_lookup.specs.Scan.{scan}
use Rattle.elf_dynamic.specs.Begun.{ReadsBy, file_keys, key_in, lacks_one}
use Rattle.elf_dynamic.specs.Object.{object}
use Rattle.elf_dynamic.specs.declared.kinds.Object.{Object}
use Rattle.rpath_search.specs.Places.{env_for, from_root}
use Rattle.rpath_search.specs.declared.kinds.Env.{Env}
use Rattle.ldd_resolve.specs.declared.kinds.Item.{Item}
use Rattle.ldd_resolve.specs.declared.kinds.ResolveFault.{ResolveFault}
use Rattle.ldd_resolve.specs.declared.kinds.ResolveFault.TheVariants.{NoProgram, BadProgram, StoreFault, NoMemory}
use Rattle.ldd_resolve.specs.declared.kinds.Member.{Member}
use Rattle.ldd_resolve.specs.declared.kinds.Scope.{Scope}
use Rattle.ldd_resolve.specs.Listing.{Inputs, Loaded, Record, left, loaded, record_after}

-- ---- the program

-- the file of the program; a relative path is taken as one below the root
abbrev pub program_at : Nodes → List ℕ → Option (List ℕ)
program_at t word = file_at t (from_root word)

-- the ELF information of the file at a path, or its first defect, if its content is held
abbrev pub object_at : Contents → Nodes → List ℕ → Option (Result Object Defect)
object_at held t real = option_map object (option_and_then held (key_in (node_at t real)))

-- the content of the program's file is held, and this is its first defect
pub record IsBadProgram (held : Contents) (t : Nodes) (word : List ℕ) (d : Defect) : Type 0 where
  pub real : List ℕ
  pub file : program_at t word ≡ Some real
  pub says : object_at held t real ≡ Some (Err d)

-- ---- the listing

-- the path of a name in the cache; none without a cache
abbrev pub cached_in : Option (List CachedEntry) → Env → List ℕ → Option (List ℕ)
cached_in cache env name = option_and_then (λ entries. scan entries name env.abi env.caps) cache

abbrev pub inputs_of : Nodes → Option (List CachedEntry) → Env → Contents → Inputs
inputs_of t cache env held = record { held = held; nodes = t; cached = cached_in cache env; env = env }

-- only the program, with its file opened
abbrev pub first_record : Nodes → List ℕ → List ℕ → Object → Record
first_record t word real o =
    record {
      objects = loaded (from_root word) real o.dynamic None [] ∷ [];
      answered = 0;
      items = [];
      replies = [];
      found = from_root word ∷ [];
      keys = file_keys t (real ∷ []);
    }

-- the record of a program after n answered requests, with the program's ABI
abbrev pub record_of : Nodes → Option (List CachedEntry) → List ℕ → Env → Contents → List ℕ → Object → ℕ → Record
record_of t cache word env held real o n = record_after (inputs_of t cache (env_for env o.abi) held) (first_record t word real o) n

-- The content of the program's file is held and is a valid object. The fact holds for the record after all requests are answered.
pub record EndsIn (t : Nodes) (cache : Option (List CachedEntry)) (word : List ℕ) (env : Env) (held : Contents) (P : Record → Type 0) : Type 0 where
  pub real : List ℕ
  pub file : program_at t word ≡ Some real
  pub object : Object
  pub says : object_at held t real ≡ Some (Ok object)
  pub requests : ℕ
  pub all : left (record_of t cache word env held real object requests) ≡ []
  pub holds : P (record_of t cache word env held real object requests)

-- ---- the scope

abbrev pub member_of : Loaded → Member
member_of o = record { path = o.path; real = o.real; names = o.names; needed = o.needed }

-- in load order: the index of a member is the number of its object
abbrev pub members_of : List Loaded → List Member
members_of objects = map member_of objects

-- the members, the items, the replies and the paths of this record
pub record IsScopeOf (scope : Scope) (r : Record) : Type 0 where
  pub members : scope.members ≡ members_of r.objects
  pub listing : scope.listing ≡ r.items
  pub replies : scope.replies ≡ r.replies
  pub found : scope.found ≡ r.found

abbrev pub IsScope : Nodes → Option (List CachedEntry) → List ℕ → Env → Contents → Scope → Type 0
IsScope t cache word env held scope = EndsIn t cache word env held (IsScopeOf scope)

-- the members after the program are those that the items with a path have loaded, in order
abbrev pub AreLoaded : Scope → Type 0
AreLoaded scope = map (λ m. m.path) (drop 1 scope.members) ≡ filter_map (λ i. i.path) scope.listing

-- ---- the keys that are opened

abbrev pub IfComplete : Ending → Type 0 → Type 0
IfComplete Complete P = P
IfComplete DeviceFailed P = Unit {0}
IfComplete GaveUp P = Unit {0}

-- the keys of a record; if the call completes, all requests are answered
pub record BeginsRecord (at : ℕ → Record) (held : Contents) (ending : Ending) (old new : StoreState) : Type 0 where
  pub requests : ℕ
  pub reads : ReadsBy (Some held) (at requests).keys ending old new
  pub all : IfComplete ending (left (at requests) ≡ [])

-- no keys without a file; only the program's key if its content isn't held or has a defect
abbrev pub BeginsBy : Option (Result Object Defect) → (Object → ℕ → Record) → List (List ℕ) → Contents → Ending → StoreState → StoreState → Type 0
BeginsBy (Some (Ok o)) at key held ending old new = BeginsRecord (at o) held ending old new
BeginsBy (Some (Err d)) at key held ending old new = ReadsBy (Some held) key ending old new
BeginsBy None at key held ending old new = ReadsBy (Some held) key ending old new

abbrev pub BeginsFor : Nodes → Option (List CachedEntry) → List ℕ → Env → Contents → Option (List ℕ) → Ending → StoreState → StoreState → Type 0
BeginsFor t cache word env held None ending old new = ReadsBy (Some held) [] ending old new
BeginsFor t cache word env held (Some real) ending old new =
    BeginsBy (object_at held t real) (record_of t cache word env held real) (file_keys t (real ∷ [])) held ending old new

-- The keys that are opened, in order, and why the number of failed calls rises. If contents are known, so are the keys.
abbrev pub ReadsListing : Option Contents → Nodes → Option (List CachedEntry) → List ℕ → Env → Ending → StoreState → StoreState → Type 0
ReadsListing None t cache word env ending old new = ReadsFiles ⊥ None None ending old new
ReadsListing (Some held) t cache word env ending old new = BeginsFor t cache word env held (program_at t word) ending old new

-- the content of each key that was opened in between is held
abbrev pub AreAllHeld : Contents → List (List ℕ) → List (List ℕ) → Type 0
AreAllHeld held before after = (keys : List (List ℕ)) × ((after ≡ before ++ keys) × (lacks_one held keys ≡ false))

abbrev pub BeginsNoneLacking : Contents → StoreState → StoreState → Type 0
BeginsNoneLacking held old new = Relates (AreAllHeld held) old.keys new.keys

-- ---- the ending of a call

abbrev pub resolve_ending : {A : Type 0} → Result A ResolveFault → Ending
resolve_ending (Ok scope) = Complete
resolve_ending (Err NoProgram) = Complete
resolve_ending (Err (BadProgram d)) = Complete
resolve_ending (Err StoreFault) = DeviceFailed
resolve_ending (Err NoMemory) = GaveUp

-- a fact about the defect that is returned
abbrev pub IfBadProgram : {A : Type 0} → Result A ResolveFault → (Defect → Type 0) → Type 0
IfBadProgram (Ok scope) P = Unit {0}
IfBadProgram (Err NoProgram) P = Unit {0}
IfBadProgram (Err (BadProgram d)) P = P d
IfBadProgram (Err StoreFault) P = Unit {0}
IfBadProgram (Err NoMemory) P = Unit {0}

-- this is returned exactly if the file is missing, except that memory may run out first
pub record IsNoProgram {A : Type 0} (file : Option (List ℕ)) (result : Result A ResolveFault) : Type 0 where
  pub only : result ≡ Err NoProgram → file ≡ None
  pub always : file ≡ None → (result ≡ Err NoProgram) ⊎ (result ≡ Err NoMemory)
