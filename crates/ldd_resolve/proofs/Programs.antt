-- The listing of a program after its file is read.
use Rattle.std.proofs.Common.{◌≡◌, ℕ, Bool, true, false, List, [], ◌∷◌, ◌++◌, Option, Some, None, is_some, Result, Ok, Err, refl, sym, ap, subst, ◌∙◌}
use Rattle.std.specs.Str.{bytes_eq}
use Rattle.lib_types.proofs.SortedPairs.{by_test}
use Rattle.lib_types.specs.declared.analysis.Defect.{Defect}
use Rattle.tree_face.specs.Follows.{IsFollowedBy}
use Rattle.tree_face.specs.Known.{IfKnown, Relates}
use Rattle.tree_face.specs.Store.{Contents, StoreState}
use Rattle.tree_face.specs.StoreUse.{Ending, Complete, DeviceFailed, GaveUp}
use Rattle.image_tree.specs.Tree.{Nodes, has_below, kind_at, kind_there, node_at}
use Rattle.image_tree.specs.Paths.{is_path, root}
use Rattle.image_tree.specs.declared.node.Node.{Node}
use Rattle.image_tree.specs.declared.node.Node.TheVariants as node
use Rattle.path_walk.proofs.KindsAt.{at_none, at_path, at_root}
use Rattle.path_walk.specs.Files.{file_at, file_by, is_file}
use Rattle.path_walk.specs.Walk.{resolution}
use Rattle.path_walk.specs.declared.walk.Mode.TheVariants.{Full}
use Rattle.path_walk.specs.declared.walk.WalkFault.{WalkFault}
use Rattle.tree_face.proofs.StoreUse.{IsPartial, reads_all, reads_fewer, reads_none, reads_then, unread}
use Rattle.cache_reader.specs.Cache.{CachedEntry}
use Rattle.elf_dynamic.proofs.BegunKeys.{keys_early, keys_then, none_lacks}
use Rattle.elf_dynamic.specs.Begun.{ReadsBy, file_keys, is_lacking, key_in, lacks_one, until_lacking}
use Rattle.elf_dynamic.specs.declared.kinds.Object.{Object}
use Rattle.rpath_search.specs.Places.{from_root}
use Rattle.rpath_search.specs.Places.{env_for}
use Rattle.rpath_search.specs.declared.kinds.Env.{Env}
use Rattle.rpath_search.specs.declared.kinds.Found.{Found}
use Rattle.ldd_resolve.specs.declared.kinds.Scope.{Scope}
use Rattle.ldd_resolve.specs.declared.kinds.ResolveFault.{ResolveFault}
use Rattle.ldd_resolve.specs.declared.kinds.ResolveFault.TheVariants.{NoProgram, BadProgram, StoreFault, NoMemory}
use Rattle.rpath_search.specs.declared.fault.SearchFault.{SearchFault}
use Rattle.rpath_search.specs.declared.fault.SearchFault.TheVariants as search
use Rattle.ldd_resolve.specs.Faults.{of_search}
use Rattle.ldd_resolve.proofs.Objects.{failing}
use Rattle.ldd_resolve.specs.Listing.{Record, Inputs, left, record_after}
use Rattle.ldd_resolve.specs.Loading.{Advances}
use Rattle.ldd_resolve.specs.Requests.{IsListed, record_with}
use Rattle.ldd_resolve.specs.Resolving.{AreAllHeld, AreLoaded, BeginsBy, BeginsFor, BeginsNoneLacking, BeginsRecord, IfBadProgram, IfComplete, IsBadProgram, IsNoProgram, IsScope, IsScopeOf, ReadsListing, first_record, inputs_of, object_at, program_at, record_of, resolve_ending}
use Rattle.ldd_resolve.proofs.Records.{record_none}
use Rattle.ldd_resolve.proofs.MatchesKept.{or_first, or_second}

-- ---- the file of the program

key_of_kind : (o : Option Node) (b : Bool) → is_file (kind_there o b) ≡ true → is_some (key_in o) ≡ true
key_of_kind None true file = absurd (cc)
key_of_kind None false file = absurd (cc)
key_of_kind (Some node.Dir) b file = absurd (cc)
key_of_kind (Some (node.Link target)) b file = absurd (cc)
key_of_kind (Some (node.File key id)) b file = refl

key_there : (t : Nodes) (real : List ℕ) → is_file (kind_at t real) ≡ true → is_some (key_in (node_at t real)) ≡ true
key_there t real file = by_test (bytes_eq real root)
    (λ there. absurd (let dir : is_file (kind_at t real) ≡ false = ap is_file (at_root t real there) in cc))
    (λ below. by_test (is_path real)
    (λ path. key_of_kind (node_at t real) (has_below t real) (sym (ap is_file (at_path t real below path)) ∙ file))
    (λ no_path. absurd (let none : is_file (kind_at t real) ≡ false = ap is_file (at_none t real below no_path) in cc)))

-- each file has a key
pub file_has_key : (t : Nodes) (path real : List ℕ) → file_at t path ≡ Some real → is_some (key_in (node_at t real)) ≡ true
file_has_key t path real leads = by (resolution t path Full) leads
  where
    by : (r : Result (List ℕ) WalkFault) → file_by t r ≡ Some real → is_some (key_in (node_at t real)) ≡ true
    by (Err fault) e = absurd (cc)
    by (Ok place) e = by_test (is_file (kind_at t place))
        (λ file.
        let found : Some place ≡ Some real = rw file at e in
        let same : place ≡ real = cc in
        key_there t real (subst (λ p. is_file (kind_at t p) ≡ true) same file))
        (λ other. absurd (let none : file_by t (Ok place) ≡ None = rw other refl in cc))

-- ---- the keys that are opened

-- if the contents of all keys are held, all keys are opened
all_begun : (held : Contents) (keys : List (List ℕ)) → lacks_one held keys ≡ false → until_lacking held keys ≡ keys
all_begun held [] none = refl
all_begun held (k ∷ keys) none =
    rw (or_first (is_lacking held k) (lacks_one held keys) none, all_begun held keys (or_second (is_lacking held k) (lacks_one held keys) none)) refl

all_held : (held : Contents) (keys : List (List ℕ)) (a b : StoreState) → lacks_one held keys ≡ false → ReadsBy (Some held) keys Complete a b → BeginsNoneLacking held a b
all_held held keys a b none reads = by a.keys b.keys (rw (all_begun held keys none) at reads.begins)
  where
    by : (old new : Option (List (List ℕ))) → Relates (IsFollowedBy keys) old new → Relates (AreAllHeld held) old new
    by None None begun = tt
    by None (Some new) begun = absurd begun
    by (Some old) None begun = absurd begun
    by (Some old) (Some new) begun = (keys, (begun, none))

if_partial : (e : Ending) (P : Type 0) → IsPartial e → IfComplete e P
if_partial Complete P partial = absurd partial
if_partial DeviceFailed P partial = tt
if_partial GaveUp P partial = tt

module _ (t : Nodes) (cache : Option (List CachedEntry)) (word : List ℕ) (env : Env) where
  -- the path leads to no file
  pub nothing_read : (known : Option Contents) (s : StoreState) → program_at t word ≡ None → ReadsListing known t cache word env Complete s s
  nothing_read None s none = unread s
  nothing_read (Some held) s none = subst (λ (p : Option (List ℕ)). BeginsFor t cache word env held p Complete s s) (sym none) (reads_none _ _ s)

  module _ (real : List ℕ) (leads : program_at t word ≡ Some real) where
    abbrev key : List (List ℕ)
    key = file_keys t (real ∷ [])

    held_by : (held : Contents) (e : Ending) (a b : StoreState) → BeginsBy (object_at held t real) (record_of t cache word env held real) key held e a b →
        ReadsListing (Some held) t cache word env e a b
    held_by held e a b begins = subst (λ (p : Option (List ℕ)). BeginsFor t cache word env held p e a b) (sym leads) begins

    -- the program's file has a defect
    pub defect_read : (known : Option Contents) (d : Defect) (a b : StoreState) → IfKnown known (λ held. object_at held t real ≡ Some (Err d)) → ReadsBy known key Complete a b →
        ReadsListing known t cache word env Complete a b
    defect_read None d a b says reads = reads_fewer ⊥ ⊥ (Some key) None Complete a b (λ l. l) reads
    defect_read (Some held) d a b says reads =
        held_by held Complete a b (subst (λ (o : Option (Result Object Defect)). BeginsBy o (record_of t cache word env held real) key held Complete a b) (sym says) reads)

    -- the call ends while the program's file is read
    pub program_fails : (known : Option Contents) (e : Ending) (a b : StoreState) → IsPartial e → ReadsBy known key e a b → ReadsListing known t cache word env e a b
    program_fails None e a b partial reads = reads_fewer ⊥ ⊥ (Some key) None e a b (λ l. l) reads
    program_fails (Some held) e a b partial reads = held_by held e a b (by (object_at held t real))
      where
        none_yet : (o : Object) → BeginsRecord (record_of t cache word env held real o) held e a b
        none_yet o = record {
          requests = 0;
          reads = subst (λ (x : Record). ReadsBy (Some held) x.keys e a b) (sym (record_none (inputs_of t cache (env_for env o.abi) held) (first_record t word real o))) reads;
          all = if_partial e _ partial;
        }

        by : (o : Option (Result Object Defect)) → BeginsBy o (record_of t cache word env held real) key held e a b
        by None = reads
        by (Some (Ok o)) = none_yet o
        by (Some (Err d)) = reads

  -- before the program's file is read
  pub none_begun : (known : Option Contents) (s : StoreState) → ReadsListing known t cache word env GaveUp s s
  none_begun None s = reads_all None None s s ⊥ (unread s)
  none_begun (Some held) s = by (program_at t word) refl
    where
      by : (p : Option (List ℕ)) → program_at t word ≡ p → ReadsListing (Some held) t cache word env GaveUp s s
      by None none = subst (λ (p : Option (List ℕ)). BeginsFor t cache word env held p GaveUp s s) (sym none) (reads_all _ _ s s _ (reads_none _ _ s))
      by (Some real) leads = program_fails real leads (Some held) GaveUp s s tt
          (keys_early (Some held) [] (file_keys t (real ∷ [])) GaveUp s s tt (reads_all _ _ s s _ (reads_none _ _ s)))

  -- ---- the listing

  module _ (p : Found) (spelled : p.path ≡ from_root word) (leads : program_at t word ≡ Some p.real) where
    abbrev first : Record
    first = record_with p (key p.real leads)

    abbrev inputs : Contents → Inputs
    inputs = inputs_of t cache (env_for env p.object.abi)

    same_first : first_record t word p.real p.object ≡ first
    same_first = rw spelled refl

    same_after : (held : Contents) (n : ℕ) → record_of t cache word env held p.real p.object n ≡ record_after (inputs held) first n
    same_after held n = ap (λ (x : Record). record_after (inputs held) x n) same_first

    module _ (P : Record → Type 0) (e : Ending) (a b c : StoreState) where
      pub listing_read : (known : Option Contents) → IfKnown known (λ held. object_at held t p.real ≡ Some (Ok p.object)) →
          IfKnown known (λ held. lacks_one held (file_keys t (p.real ∷ [])) ≡ false) → ReadsBy known (file_keys t (p.real ∷ [])) Complete a b →
          Advances known inputs first e P b c → ((r : Record) → P r → IfComplete e (left r ≡ [])) → ReadsListing known t cache word env e a c
      listing_read None says none reads so_far all = reads_then e a b c ⊥ ⊥ ⊥ None None None None (λ l. l) (reads_fewer ⊥ ⊥ (Some (key p.real leads)) None Complete a b (λ l. l) reads) so_far.reads
      listing_read (Some held) says none reads so_far all =
          let n = so_far.requests in
          let same = same_after held n in
          let keys = ap (λ (x : Record). x.keys) same ∙ so_far.begun in
          held_by p.real leads held e a c (subst (λ (o : Option (Result Object Defect)). BeginsBy o (record_of t cache word env held p.real) (key p.real leads) held e a c) (sym says) (record {
            requests = n;
            reads = subst (λ l. ReadsBy (Some held) l e a c) (sym keys) (keys_then (Some held) (key p.real leads) so_far.keys e a b c none reads so_far.begins.reads);
            all = subst (λ (x : Record). IfComplete e (left x ≡ [])) (sym same) (all (record_after (inputs held) first n) so_far.holds);
          }))

    pub is_scope : (scope : Scope) (b c : StoreState) (known : Option Contents) → IfKnown known (λ held. object_at held t p.real ≡ Some (Ok p.object)) →
        Advances known inputs first Complete (λ r. IsListed r scope) b c → IfKnown known (λ held. IsScope t cache word env held scope)
    is_scope scope b c None says so_far = tt
    is_scope scope b c (Some held) says so_far =
        let same = same_after held so_far.requests in
        record {
          real = p.real;
          file = leads;
          object = p.object;
          says = says;
          requests = so_far.requests;
          all = ap left same ∙ so_far.holds.all;
          holds = subst (IsScopeOf scope) (sym same) (so_far.holds.scope);
        }

    -- the members are in the order of the listing's paths, whether or not contents are known
    pub are_loaded : (scope : Scope) (b c : StoreState) (known : Option Contents) → Advances known inputs first Complete (λ r. IsListed r scope) b c → AreLoaded scope
    are_loaded scope b c None so_far = so_far.holds.loaded
    are_loaded scope b c (Some held) so_far = so_far.holds.loaded

    -- the content of each opened file is held
    pub none_lacking : (P : Record → Type 0) (a b c : StoreState) (known : Option Contents) → IfKnown known (λ held. lacks_one held (file_keys t (p.real ∷ [])) ≡ false) →
        ReadsBy known (file_keys t (p.real ∷ [])) Complete a b → Advances known inputs first Complete P b c → IfKnown known (λ held. BeginsNoneLacking held a c)
    none_lacking P a b c None none reads so_far = tt
    none_lacking P a b c (Some held) none reads so_far =
        let all = key p.real leads ++ so_far.keys in
        all_held held all a c (none_lacks held (key p.real leads) so_far.keys none so_far.begins.none_lacks)
        (keys_then (Some held) (key p.real leads) so_far.keys Complete a b c none reads so_far.begins.reads)

-- ---- the errors

pub not_keyless : (t : Nodes) (path real : List ℕ) → file_at t path ≡ Some real → key_in (node_at t real) ≡ None → ⊥
not_keyless t path real leads none =
    absurd (let there : false ≡ true = subst (λ k. is_some k ≡ true) none (file_has_key t path real leads) in cc)

-- the path leads to a file
pub some_file : {A : Type 0} (t : Nodes) (word real : List ℕ) (result : Result A ResolveFault) → program_at t word ≡ Some real → (result ≡ Err NoProgram → ⊥) →
    IsNoProgram (program_at t word) result
some_file t word real result leads other = record {
  only = λ e. absurd (other e);
  always = λ none. absurd (let e : Some real ≡ None = sym leads ∙ none in cc);
}

module _ (t : Nodes) (word real : List ℕ) (leads : program_at t word ≡ Some real) where
  abbrev IsDefect : Option Contents → Defect → Type 0
  IsDefect known d = IfKnown known (λ held. object_at held t real ≡ Some (Err d))

  pub bad_program : (known : Option Contents) (fault : ResolveFault) → IfBadProgram {A = Object} (Err fault) (IsDefect known) →
      IfBadProgram {A = Scope} (Err fault) (λ d. IfKnown known (λ held. IsBadProgram held t word d))
  bad_program known NoProgram says = tt
  bad_program None (BadProgram d) says = tt
  bad_program (Some held) (BadProgram d) says = record { real = real; file = leads; says = says }
  bad_program known StoreFault says = tt
  bad_program known NoMemory says = tt

  pub refusal_reads : (cache : Option (List CachedEntry)) (env : Env) (known : Option Contents) (fault : ResolveFault) (a b : StoreState) → (fault ≡ NoProgram → ⊥) → IfBadProgram {A = Object} (Err fault) (IsDefect known) →
      ReadsBy known (file_keys t (real ∷ [])) (resolve_ending {A = Object} (Err fault)) a b → ReadsListing known t cache word env (resolve_ending {A = Scope} (Err fault)) a b
  refusal_reads cache env known NoProgram a b other says reads = absurd (other refl)
  refusal_reads cache env known (BadProgram d) a b other says reads = defect_read t cache word env real leads known d a b says reads
  refusal_reads cache env known StoreFault a b other says reads = program_fails t cache word env real leads known DeviceFailed a b tt reads
  refusal_reads cache env known NoMemory a b other says reads = program_fails t cache word env real leads known GaveUp a b tt reads

-- the listing fails
module _ (t : Nodes) (cache : Option (List CachedEntry)) (word : List ℕ) (env : Env) (p : Found) (spelled : p.path ≡ from_root word) (leads : program_at t word ≡ Some p.real) where
  pub list_fails : (fault : SearchFault) (known : Option Contents) (a b c : StoreState) → IfKnown known (λ held. object_at held t p.real ≡ Some (Ok p.object)) →
      IfKnown known (λ held. lacks_one held (file_keys t (p.real ∷ [])) ≡ false) → ReadsBy known (file_keys t (p.real ∷ [])) Complete a b →
      Advances known (inputs_of t cache (env_for env p.object.abi)) (record_with p (file_keys t (p.real ∷ []))) (failing fault) (λ r. Unit {0}) b c →
      ReadsListing known t cache word env (resolve_ending {A = Scope} (Err (of_search fault))) a c
  list_fails search.StoreFault known a b c says none reads so_far =
      listing_read t cache word env p spelled leads (λ r. Unit {0}) DeviceFailed a b c known says none reads so_far (λ r any. tt)
  list_fails search.NoMemory known a b c says none reads so_far =
      listing_read t cache word env p spelled leads (λ r. Unit {0}) GaveUp a b c known says none reads so_far (λ r any. tt)
