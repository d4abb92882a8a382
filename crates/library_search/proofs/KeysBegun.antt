-- The files that an update opens, part by part.
use Rattle.std.proofs.Common.{◌≡◌, if◌then◌else◌, ◌+◌, ◌++◌, ◌&&◌, ◌||◌, ℕ, Bool, true, false, not, List, [], ◌∷◌, length, refl, Option, Some, None, ap, sym, ◌∙◌, arith}
use Rattle.std.proofs.lemmas.Bool.{or_left, or_right}
use Rattle.std.proofs.lemmas.List.{length-append}
use Rattle.std.specs.Option.{option_map}
use Rattle.std.specs.Prelude.{IsSomeAnd}
use Rattle.aux_cache.specs.declared.stamps.Stamp.{Stamp}
use Rattle.elf_dynamic.specs.Begun.{ReadsBy, is_lacking, lacks_one, most_of, until_lacking}
use Rattle.hwcap_dirs.specs.declared.kinds.Scope.{Scope}
use Rattle.ldso_conf.specs.Reading.{conf_bytes, conf_keys, conf_lacks}
use Rattle.lib_types.proofs.SortedPairs.{by_test}
use Rattle.tree_face.proofs.StoreUse.{IsPartial, reads_early, reads_fewer, reads_then}
use Rattle.tree_face.specs.Known.{IfKnown}
use Rattle.tree_face.specs.Store.{Contents, StoreState}
use Rattle.tree_face.specs.StoreUse.{Ending, Complete, ReadsFiles}
use Rattle.image_tree.specs.Tree.{Nodes}
use Rattle.library_search.specs.Begun.{after_keys, has_too_many_nodes, lacks_file, lacks_wanted, opened_in, search_bytes, search_keys, update_bytes, update_keys, wanted_keys}
use Rattle.library_search.specs.Ldconfig.{conf_of}
use Rattle.lib_types.proofs.Bools.{neither}

lacking_wanted : (scope : Scope) (held : Contents) (t : Nodes) (loaded : List Stamp) → lacks_wanted scope held t loaded ≡ true → lacks_file scope held t loaded ≡ true
unfolding lacks_file
lacking_wanted scope held t loaded = or_left (lacks_wanted scope held t loaded) (not (has_too_many_nodes scope held t loaded) && lacks_one held (after_keys scope held t loaded))

-- the link targets that are opened, unless the planned links don't fit
abbrev pub then_keys : Scope → Contents → Nodes → List Stamp → List (List ℕ)
then_keys scope held t loaded = if has_too_many_nodes scope held t loaded then [] else after_keys scope held t loaded

lacking_then : (scope : Scope) (held : Contents) (t : Nodes) (loaded : List Stamp) → lacks_wanted scope held t loaded ≡ false → lacks_one held (then_keys scope held t loaded) ≡ true
    → lacks_file scope held t loaded ≡ true
unfolding lacks_file
lacking_then scope held t loaded none = by (has_too_many_nodes scope held t loaded) refl
  where
    by : (many : Bool) → has_too_many_nodes scope held t loaded ≡ many → lacks_one held (then_keys scope held t loaded) ≡ true
        → (lacks_wanted scope held t loaded || (not (has_too_many_nodes scope held t loaded) && lacks_one held (after_keys scope held t loaded))) ≡ true
    by true e lacks = let h = rw e at lacks in absurd (cc)
    by false e lacks = rw (none, e) (rw e at lacks)

-- the reading of the conf files in a store with these contents
abbrev pub ConfBy : Scope → Nodes → Option Contents → Ending → StoreState → StoreState → Type 0
ConfBy scope t known e a b = ReadsFiles (IsSomeAnd known (λ held. conf_lacks (conf_of scope) held t ≡ true)) (option_map (λ held. conf_keys (conf_of scope) held t) known) (option_map (λ held. conf_bytes (conf_of scope) held t) known) e a b

module _ (scope : Scope) (t : Nodes) (loaded : List Stamp) (known : Option Contents) where
  -- the readings of the search and of the update in such a store
  abbrev pub SearchBy : Ending → StoreState → StoreState → Type 0
  SearchBy e a b = ReadsFiles (IsSomeAnd known (λ held. lacks_wanted scope held t loaded ≡ true)) (option_map (λ held. search_keys scope held t loaded) known)
      (option_map (λ held. search_bytes scope held t loaded) known) e a b

  abbrev pub UpdateBy : Ending → StoreState → StoreState → Type 0
  UpdateBy e a b = IfKnown known (λ held. ReadsFiles (lacks_file scope held t loaded ≡ true) (Some (update_keys scope held t loaded)) (Some (update_bytes scope held t loaded)) e a b)

module _ (scope : Scope) (t : Nodes) (loaded : List Stamp) (e : Ending) where
  -- only conf files were opened
  pub conf_part : (known : Option Contents) (a b : StoreState) → IsPartial e → ConfBy scope t known e a b → SearchBy scope t loaded known e a b
  unfolding search_keys search_bytes
  conf_part None a b partial reads = reads_early e a b partial _ _ None None None None (λ lacks. lacks) reads
  conf_part (Some held) a b partial reads =
      reads_early e a b partial (conf_lacks (conf_of scope) held t ≡ true) (lacks_wanted scope held t loaded ≡ true) (Some (conf_keys (conf_of scope) held t)) (Some _) (Some (conf_bytes (conf_of scope) held t)) (Some _)
      (or_left (conf_lacks (conf_of scope) held t) (lacks_one held (wanted_keys scope held t loaded))) reads

  -- all conf files, and then those files with library names that are opened
  pub search_all : (known : Option Contents) (keys : List (List ℕ)) (a b c : StoreState) → IfKnown known (λ held. conf_lacks (conf_of scope) held t ≡ false)
      → IfKnown known (λ held. keys ≡ wanted_keys scope held t loaded) → ConfBy scope t known Complete a b → ReadsBy known keys e b c → SearchBy scope t loaded known e a c
  unfolding search_keys search_bytes
  search_all None keys a b c all are first next = reads_then e a b c ⊥ ⊥ ⊥ None None None None (λ lacks. lacks) first (reads_fewer _ _ _ _ e b c (λ lacks. lacks) next)
  search_all (Some held) keys a b c all are first next =
      let both = reads_then e a b c (conf_lacks (conf_of scope) held t ≡ true) (lacks_one held keys ≡ true) (lacks_wanted scope held t loaded ≡ true) (Some (conf_keys (conf_of scope) held t)) (Some (until_lacking held keys))
      (Some (conf_bytes (conf_of scope) held t)) (Some (most_of held (until_lacking held keys)))
      (λ lacks. or_right (conf_lacks (conf_of scope) held t) (lacks_one held (wanted_keys scope held t loaded)) (ap (lacks_one held) (sym are) ∙ lacks)) first next in
      rw all (rw (are, all) at both)

module _ (scope : Scope) (t : Nodes) (loaded : List Stamp) (e : Ending) where
  -- only the search was completed
  pub search_part : (known : Option Contents) (a b : StoreState) → IsPartial e → SearchBy scope t loaded known e a b → UpdateBy scope t loaded known e a b
  unfolding update_keys update_bytes
  search_part None a b partial reads = tt
  search_part (Some held) a b partial reads =
      reads_early e a b partial (lacks_wanted scope held t loaded ≡ true) (lacks_file scope held t loaded ≡ true) (Some (search_keys scope held t loaded)) (Some _) (Some (search_bytes scope held t loaded)) (Some _)
      (lacking_wanted scope held t loaded) reads

  -- the whole search, and then those link targets that are opened
  all_held : (held : Contents) (keys : List (List ℕ)) (a b c : StoreState) → lacks_wanted scope held t loaded ≡ false → keys ≡ then_keys scope held t loaded
      → SearchBy scope t loaded (Some held) Complete a b → ReadsFiles (lacks_one held keys ≡ true) (Some (until_lacking held keys)) (Some (most_of held (until_lacking held keys))) e b c
      → ReadsFiles (lacks_file scope held t loaded ≡ true) (Some (update_keys scope held t loaded)) (Some (update_bytes scope held t loaded)) e a c
  unfolding update_keys update_bytes
  all_held held keys a b c none are first next =
      let both = reads_then e a b c (lacks_wanted scope held t loaded ≡ true) (lacks_one held keys ≡ true) (lacks_file scope held t loaded ≡ true) (Some (search_keys scope held t loaded)) (Some (until_lacking held keys))
      (Some (search_bytes scope held t loaded)) (Some (most_of held (until_lacking held keys)))
      (λ lacks. lacking_then scope held t loaded none (ap (lacks_one held) (sym are) ∙ lacks)) first next in
      let all = rw are at both in
      by_test (has_too_many_nodes scope held t loaded)
      (λ many. rw (none, many) (rw many at all))
      (λ few. rw (none, few) (rw few at all))

  pub update_all : (known : Option Contents) (keys : List (List ℕ)) (a b c : StoreState) → IfKnown known (λ held. lacks_wanted scope held t loaded ≡ false)
      → IfKnown known (λ held. keys ≡ then_keys scope held t loaded)
      → SearchBy scope t loaded known Complete a b → ReadsBy known keys e b c → UpdateBy scope t loaded known e a c
  update_all None keys a b c none are first next = tt
  update_all (Some held) keys a b c none are first next = all_held held keys a b c none are first next

-- ---- the number of opened files

all_begun : (held : Contents) (keys : List (List ℕ)) → lacks_one held keys ≡ false → until_lacking held keys ≡ keys
all_begun held [] none = refl
all_begun held (key ∷ keys) none =
    let parts = neither (is_lacking held key) (lacks_one held keys) none in
    rw (parts.0, all_begun held keys parts.1) refl

-- if the contents of all these files are held and the links fit
pub keys_counted : (scope : Scope) (held : Contents) (t : Nodes) (loaded : List Stamp) → lacks_wanted scope held t loaded ≡ false → has_too_many_nodes scope held t loaded ≡ false → lacks_one held (after_keys scope held t loaded) ≡ false
    → length (update_keys scope held t loaded) ≡ length (conf_keys (conf_of scope) held t) + opened_in scope held t loaded
unfolding update_keys search_keys
keys_counted scope held t loaded none few following =
    let parts = neither (conf_lacks (conf_of scope) held t) (lacks_one held (wanted_keys scope held t loaded)) none in
    let wanted = all_begun held (wanted_keys scope held t loaded) parts.1 in
    let others = all_begun held (after_keys scope held t loaded) following in
    let both : update_keys scope held t loaded ≡ (conf_keys (conf_of scope) held t ++ wanted_keys scope held t loaded) ++ after_keys scope held t loaded = rw (none, few, parts.0, wanted, others) refl in
    let size = ap length both in
    let first = length-append (conf_keys (conf_of scope) held t ++ wanted_keys scope held t loaded) (after_keys scope held t loaded) in
    let last = length-append (conf_keys (conf_of scope) held t) (wanted_keys scope held t loaded) in
    omega (arith, size, first, last)
