-- How the code stores a listing: sets of names and files, and a queue of the objects whose requests aren't answered.
use Rattle.std.specs.Prelude.{◌≡◌, ◌+◌, ◌<◌, ℕ, suc, ◌||◌, ◌++◌, true, List, [], ◌∷◌, if◌then◌else◌, drop, length, map, slice_index_or, slice_set, Option, Some, None, IfSome, is_some}
use Rattle.std.specs.List.{IsDistinct, filter_map, list_any}
use Rattle.std.specs.Str.{bytes_eq}
use Rattle.lib_types.specs.declared.abi.Abi.{Abi}
use Rattle.tree_face.specs.Known.{IfKnown}
use Rattle.tree_face.specs.Store.{Contents, StoreState}
use Rattle.tree_face.specs.StoreUse.{Ending, ReadsFiles}
use Rattle.image_tree.specs.Tree.{Nodes, node_at}
use Rattle.rpath_search.specs.Loaders.{reach_at, reach_over}
use Rattle.rpath_search.specs.Search.{is_library_at}
use Rattle.rpath_search.specs.declared.kinds.Env.{Env}
use Rattle.rpath_search.specs.declared.kinds.Found.{Found}
use Rattle.ldd_resolve.specs.declared.loading.Loading.{Loading}
use Rattle.ldd_resolve.specs.declared.loading.Searched.{Searched}
use Rattle.rpath_search.specs.declared.parts.Part.{Part}
use Rattle.rpath_search.specs.declared.search.Answer.{Answer}
use Rattle.rpath_search.specs.declared.search.Answer.TheVariants as answer
use Rattle.ldd_resolve.specs.Links.{following, reach_in}
use Rattle.rpath_search.specs.Searching.{AreKnown, is_among}
use Rattle.ldd_resolve.specs.Listing.{Inputs, Record, Request, is_called, is_missing, item, left, loaded, named, names_by, needed_in, owner_of, places_of, record_after, requests, soname_in, with_missing}
use Rattle.ldd_resolve.specs.Resolving.{members_of}
use Rattle.ldd_resolve.specs.declared.kinds.Member.{Member}
use Rattle.ldd_resolve.specs.declared.kinds.Reply.{Reply}
use Rattle.ldd_resolve.specs.declared.kinds.Reply.TheVariants.{Known, Loads, Missing}
use Rattle.ldd_resolve.specs.Searching.{BeginsHeld}

-- ---- the state of the code matches the record

-- The state matches this record. The needed names of the first `taken` objects were taken from the queue, and of their requests `rest`
-- remains.
pub record Matches (env : Env) (r : Record) (s : Loading) (taken : ℕ) (rest : List Request) : Type 0 where
  pub linked : map (λ reach. Some reach) s.loaders ≡ map (λ o. reach_in env o.chain) r.objects
  pub places : s.places.loaded ≡ places_of r.objects
  pub names : (x : List ℕ) → is_among s.names x ≡ list_any (is_called x) r.objects
  pub missing : (x : List ℕ) → is_among s.missing x ≡ list_any (is_missing x) r.items
  pub items : s.items ≡ r.items
  pub replies : s.replies ≡ r.replies
  pub found : s.found ≡ r.found
  pub members : s.members.items ≡ members_of r.objects
  pub loaded : map (λ o. o.path) (drop 1 r.objects) ≡ filter_map (λ i. i.path) r.items
  pub pending : s.pending.items ≡ map (λ o. o.needed) (drop taken r.objects)
  pub left : left r ≡ rest ++ requests (drop taken r.objects)

-- each file is loaded once and is a node of the tree, and each file except the program is a library
pub record IsSound (known : Option Contents) (t : Nodes) (abi : Abi) (s : Loading) : Type 0 where
  pub libraries : IfKnown known (λ held. AreKnown held t abi s.places)
  pub outsider : IfSome s.places.outsider (λ real. is_among s.places.loaded real ≡ true)
  pub distinct : IsDistinct bytes_eq s.places.loaded
  pub nodes : (real : List ℕ) → is_among s.places.loaded real ≡ true → is_some (node_at t real) ≡ true
  pub members : length s.members.items ≡ length s.places.loaded

-- an answer that is added to the state is a library and a node of the tree
abbrev pub IsSoundAnswer : Option Contents → Nodes → Abi → Option Answer → Type 0
IsSoundAnswer known t abi None = Unit {0}
IsSoundAnswer known t abi (Some (answer.Loaded i path)) = Unit {0}
IsSoundAnswer known t abi (Some (answer.New f)) = (is_some (node_at t f.real) ≡ true) × IfKnown known (λ held. is_library_at held t abi f.real ≡ true)

-- objects are added, and each of them is put into the queue
pub record Grows (old new : Loading) : Type 0 where
  pub more : ℕ
  pub loaders : length new.loaders ≡ length old.loaders + more
  pub places : length new.places.loaded ≡ length old.places.loaded + more
  pub pending : length new.pending.items ≡ length old.pending.items + more

-- ---- one request

-- a member is added, and its needed names are put into the queue
pub record AddsMember (old new : Loading) (m : Member) : Type 0 where
  pub places : new.places ≡ record old.places { loaded = old.places.loaded ++ m.real ∷ [] }
  pub names : (x : List ℕ) → is_among new.names x ≡ (is_among old.names x || is_among m.names x)
  pub members : new.members.items ≡ old.members.items ++ m ∷ []
  pub pending : new.pending.items ≡ old.pending.items ++ m.needed ∷ []
  pub missing : new.missing ≡ old.missing
  pub items : new.items ≡ old.items
  pub replies : new.replies ≡ old.replies
  pub found : new.found ≡ old.found
  pub loaders : new.loaders ≡ old.loaders

-- a library that was found for the object with this number is added, with an item of this name
pub record AddsFound (env : Env) (old new : Loading) (name : List ℕ) (f : Found) (loader : ℕ) : Type 0 where
  pub loaders : new.loaders ≡ old.loaders ++ reach_over env (owner_of f.path f.object.dynamic) (reach_at old.loaders loader) ∷ []
  pub places : new.places ≡ record old.places { loaded = old.places.loaded ++ f.real ∷ [] }
  pub names : (x : List ℕ) → is_among new.names x ≡ (is_among old.names x || is_among (names_by (soname_in f.object.dynamic) (Some name)) x)
  pub members : new.members.items ≡ old.members.items ++ record { path = f.path; real = f.real; names = names_by (soname_in f.object.dynamic) (Some name); needed = needed_in f.object.dynamic } ∷ []
  pub pending : new.pending.items ≡ old.pending.items ++ needed_in f.object.dynamic ∷ []
  pub missing : new.missing ≡ old.missing
  pub listed : new.items ≡ old.items ++ item name (Some f.path) ∷ []
  pub replies : new.replies ≡ old.replies
  pub found : new.found ≡ old.found ++ f.path ∷ []

-- adds a name at the end
abbrev pub with_last_name : Member → List ℕ → Member
with_last_name m name = record m { names = m.names ++ name ∷ [] }

-- the member with this index gets one more name
abbrev pub IsNamedAt : List Member → List Member → ℕ → List ℕ → Type 0
IsNamedAt before after i name = (d : Member) → after ≡ slice_set before i (with_last_name (slice_index_or before i d) name)

-- the object with this number gets one more name, and was found by this path
pub record AddsName (old new : Loading) (name path : List ℕ) (number : ℕ) : Type 0 where
  pub names : (x : List ℕ) → is_among new.names x ≡ (is_among old.names x || bytes_eq x name)
  pub members : IsNamedAt old.members.items new.members.items number name
  pub found : new.found ≡ old.found ++ path ∷ []
  pub loaders : new.loaders ≡ old.loaders
  pub places : new.places ≡ old.places
  pub missing : new.missing ≡ old.missing
  pub items : new.items ≡ old.items
  pub replies : new.replies ≡ old.replies
  pub pending : new.pending.items ≡ old.pending.items

-- a name that wasn't found is added
pub record AddsMissing (old new : Loading) (name : List ℕ) : Type 0 where
  pub missing : (x : List ℕ) → is_among new.missing x ≡ (is_among old.missing x || bytes_eq x name)
  pub items : new.items ≡ (if is_among old.missing name then old.items else old.items ++ item name None ∷ [])
  pub loaders : new.loaders ≡ old.loaders
  pub places : new.places ≡ old.places
  pub names : new.names ≡ old.names
  pub replies : new.replies ≡ old.replies
  pub found : new.found ≡ old.found
  pub members : new.members.items ≡ old.members.items
  pub pending : new.pending.items ≡ old.pending.items

-- the record after a request whose answer is the object with this number, found by this path
pub record IsFoundIn (r : Record) (q : Request) (number : ℕ) (path : List ℕ) (r2 : Record) : Type 0 where
  pub within : number < length (places_of r.objects)
  pub objects : r2.objects ≡ map (named (slice_index_or (places_of r.objects) number []) q.name) r.objects
  pub items : r2.items ≡ r.items
  pub replies : r2.replies ≡ r.replies ++ Known ∷ []
  pub found : r2.found ≡ r.found ++ path ∷ []

-- the record after a request whose name isn't found
pub record IsMissingIn (r : Record) (q : Request) (r2 : Record) : Type 0 where
  pub objects : r2.objects ≡ r.objects
  pub items : r2.items ≡ with_missing q.name r.items
  pub replies : r2.replies ≡ r.replies ++ Missing ∷ []
  pub found : r2.found ≡ r.found

-- the record after a request whose answer is this new library, which this part of the search gives
pub record IsLoadedIn (r : Record) (q : Request) (f : Found) (part : Part) (r2 : Record) : Type 0 where
  pub objects : r2.objects ≡ r.objects ++ loaded f.path f.real f.object.dynamic (Some q.name) q.chain ∷ []
  pub items : r2.items ≡ r.items ++ item q.name (Some f.path) ∷ []
  pub replies : r2.replies ≡ r.replies ++ Loads (length r.objects) part ∷ []
  pub found : r2.found ≡ r.found ++ f.path ∷ []

-- the record after a request with this answer, which this part of the search gives
abbrev pub HasOutcome : Record → Request → Option Answer → Part → Record → Type 0
HasOutcome r q None part r2 = IsMissingIn r q r2
HasOutcome r q (Some (answer.Loaded i path)) part r2 = IsFoundIn r q i path r2
HasOutcome r q (Some (answer.New f)) part r2 = IsLoadedIn r q f part r2

-- the reply for an answer, if there are this many members
abbrev pub reply_to : ℕ → Part → Option Answer → Reply
reply_to members part None = Missing
reply_to members part (Some (answer.Loaded i path)) = Known
reply_to members part (Some (answer.New f)) = Loads members part

-- If the old state matches a record, the new state matches the next record. That one has this answer to one more request, which the
-- object with this number makes for this name.
abbrev pub TakesAnswer : Env → Loading → Loading → List ℕ → Searched → ℕ → Type 0
TakesAnswer env old new name searched loader =
    (r r2 : Record) (q : Request) (rest : List Request) → Matches env r old (suc loader) (q ∷ rest) → HasOutcome r q searched.answer searched.part r2
    → r2.answered ≡ suc r.answered → q.name ≡ name → q.chain ≡ following (map (λ o. o.chain) r.objects) (Some loader) → Matches env r2 new (suc loader) rest

-- ---- progress of a listing

-- from this record this number of requests is answered and these keys are opened; then the fact holds for the record
pub record GoesBy (w : Inputs) (start : Record) (ending : Ending) (P : Record → Type 0) (old new : StoreState) : Type 0 where
  pub requests : ℕ
  pub keys : List (List ℕ)
  pub begun : (record_after w start requests).keys ≡ start.keys ++ keys
  pub begins : BeginsHeld w.held keys ending old new
  pub holds : P (record_after w start requests)

-- the same if contents are unknown: the fact holds for some record
pub record Goes (start : Record) (ending : Ending) (P : Record → Type 0) (old new : StoreState) : Type 0 where
  pub reads : ReadsFiles ⊥ None None ending old new
  pub some : Record
  pub holds : P some

abbrev pub Advances : Option Contents → (Contents → Inputs) → Record → Ending → (Record → Type 0) → StoreState → StoreState → Type 0
Advances None inputs start ending P old new = Goes start ending P old new
Advances (Some held) inputs start ending P old new = GoesBy (inputs held) start ending P old new
