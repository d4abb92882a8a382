-- Reading files, without assumptions on stamps. It ends early only if the store fails or a file's content isn't held.
use Rattle.std.proofs.Common.{◌≡◌, ◌++◌, ◌||◌, if◌then◌else◌, nat_lt, ℕ, Bool, true, false, List, [], ◌∷◌, Option, Some, None, refl, ap, sym, ◌∙◌}
use Rattle.std.proofs.lemmas.Bool.{or_left, or_right}
use Rattle.std.specs.List.{before_first, cons_option, filter_map, list_any}
use Rattle.std.specs.Map.{lookup}
use Rattle.std.specs.Option.{option_map_or}
use Rattle.std.specs.Prelude.{IsSomeAnd}
use Rattle.std.specs.Str.{bytes_eq}
use Rattle.aux_cache.specs.declared.stamps.Stamp.{Stamp}
use Rattle.elf_dynamic.specs.Begun.{ReadsBy, is_lacking, key_in, lacks_one}
use Rattle.hwcap_dirs.specs.declared.kinds.Scope.{Scope}
use Rattle.image_tree.specs.declared.node.Id.{Id}
use Rattle.image_tree.specs.declared.node.Node.{Node}
use Rattle.image_tree.specs.Tree.{Nodes, node_at}
use Rattle.ldso_conf.specs.Reading.{conf_lacks}
use Rattle.lib_types.proofs.SortedPairs.{by_test}
use Rattle.file_stamps.specs.Opened.{has_id, ids_at, ids_of, new_key, opened_keys}
use Rattle.file_stamps.specs.Stamped.{id_at}
use Rattle.file_stamps.specs.State.{ids_there}
use Rattle.soname_links.specs.Apply.{nodes_with}
use Rattle.soname_links.specs.Plan.{with_links}
use Rattle.image_tree.specs.declared.tree.TheConstants.{NODES_MAX}
use Rattle.tree_face.specs.Known.{IfKnown}
use Rattle.tree_face.proofs.StoreUse.{reads_fewer, reads_then}
use Rattle.tree_face.specs.Store.{Contents, StoreState}
use Rattle.tree_face.specs.StoreUse.{Ending, Complete, ReadsFiles}
use Rattle.library_search.proofs.FilesAgree.{HaveSameFiles, key_by}
use Rattle.library_search.proofs.KeysBegun.{SearchBy}
use Rattle.library_search.specs.After.{opened_after, unread_after}
use Rattle.library_search.specs.Begun.{lacks_some, lacks_wanted, wanted_keys}
use Rattle.library_search.specs.Ldconfig.{conf_of, wanted_in}
use Rattle.library_search.specs.Stages.{opened_planned, planned_by}
use Rattle.library_search.specs.declared.search.Search.{Search}

-- ---- a file of the tree

module _ (held : Contents) where
  abbrev is_missing : List ℕ × Node → Bool
  is_missing entry = option_map_or (is_lacking held) (key_in (Some entry.1)) false

  missing_by : (k : Option (List ℕ)) (key : List ℕ) → k ≡ Some key → is_lacking held key ≡ true → option_map_or (is_lacking held) k false ≡ true
  missing_by k key e lacks = ap (λ k. option_map_or (is_lacking held) k false) e ∙ lacks

  node_missing : (test : List ℕ → Bool) (t : Nodes) (key : List ℕ) → key_in (lookup test t) ≡ Some key → is_lacking held key ≡ true → list_any is_missing t ≡ true
  node_missing test [] key e lacks = absurd (cc)
  node_missing test (entry ∷ t) key e lacks = by_test (test entry.0)
      (λ f. or_left (is_missing entry) (list_any is_missing t) (missing_by (key_in (Some entry.1)) key (rw f at e) lacks))
      (λ f. or_right (is_missing entry) (list_any is_missing t) (node_missing test t key (rw f at e) lacks))

  module _ (t : Nodes) (key_at : List ℕ → Option (List ℕ)) (of_file : (path key : List ℕ) → key_at path ≡ Some key → key_in (node_at t path) ≡ Some key) where
    keys_missing : (paths : List (List ℕ)) → lacks_one held (filter_map key_at paths) ≡ true → list_any is_missing t ≡ true
    keys_missing [] lacks = absurd (cc)
    keys_missing (path ∷ paths) lacks = by (keys_missing paths) (key_at path) refl lacks
      where
        by : (lacks_one held (filter_map key_at paths) ≡ true → list_any is_missing t ≡ true) → (o : Option (List ℕ)) → key_at path ≡ o
            → lacks_one held (cons_option o (filter_map key_at paths)) ≡ true → list_any is_missing t ≡ true
        by later None e lacks = later lacks
        by later (Some key) e lacks = by_test (is_lacking held key)
            (λ f. node_missing _ t key (of_file path key e) f)
            (λ f. later (sym (ap (λ b. b || lacks_one held (filter_map key_at paths)) f) ∙ lacks))

of_test : (b : Bool) (k : Option (List ℕ)) (key : List ℕ) → (if b then None else k) ≡ Some key → k ≡ Some key
of_test true k key e = absurd (cc)
of_test false k key e = e

module _ (scope : Scope) (held : Contents) (t : Nodes) where
  missing_some : list_any (is_missing held) t ≡ true → lacks_some scope held t ≡ true
  unfolding lacks_some
  missing_some = or_right (conf_lacks (conf_of scope) held t) (list_any (is_missing held) t)

  conf_some : conf_lacks (conf_of scope) held t ≡ true → lacks_some scope held t ≡ true
  unfolding lacks_some
  conf_some = or_left (conf_lacks (conf_of scope) held t) (list_any (is_missing held) t)

  -- a file that is opened in a tree with the same files
  opened_some : (new : Nodes) (ids : List Id) (paths : List (List ℕ)) → ((path : List ℕ) → key_in (node_at new path) ≡ key_in (node_at t path))
      → lacks_one held (opened_keys new ids paths) ≡ true → lacks_some scope held t ≡ true
  opened_some new ids paths same lacks =
      missing_some (keys_missing held t (λ path. new_key new (ids ++ ids_at new (before_first (bytes_eq path) paths)) path)
      (λ path key e. sym (same path)
      ∙ of_test (option_map_or (has_id (ids ++ ids_at new (before_first (bytes_eq path) paths))) (id_at new path) false) (key_in (node_at new path)) key e) paths lacks)

wanted_some : (scope : Scope) (held : Contents) (t : Nodes) (loaded : List Stamp) → lacks_wanted scope held t loaded ≡ true → lacks_some scope held t ≡ true
unfolding wanted_keys
wanted_some scope held t loaded lacks = by_test (conf_lacks (conf_of scope) held t)
    (λ e. conf_some scope held t e)
    (λ e. opened_some scope held t t (ids_of loaded) (wanted_in scope held t) (λ path. refl) (sym (ap (λ b. b || lacks_one held (wanted_keys scope held t loaded)) e) ∙ lacks))

-- ---- the reading

-- the reading in a store with these contents
abbrev pub AnyBy : Scope → Nodes → Option Contents → Ending → StoreState → StoreState → Type 0
AnyBy scope t known e a b = ReadsFiles (IsSomeAnd known (λ held. lacks_some scope held t ≡ true)) None None e a b

pub search_any : (scope : Scope) (t : Nodes) (loaded : List Stamp) (e : Ending) (known : Option Contents) (a b : StoreState) → SearchBy scope t loaded known e a b → AnyBy scope t known e a b
search_any scope t loaded e None a b reads = reads
search_any scope t loaded e (Some held) a b reads = reads_fewer _ _ _ _ e a b (wanted_some scope held t loaded) reads

-- files with these keys are opened; if one of them is missing, a file of the tree is
abbrev pub LacksOnly : Scope → Nodes → List (List ℕ) → Contents → Type 0
LacksOnly scope t keys held = lacks_one held keys ≡ true → lacks_some scope held t ≡ true

module _ (scope : Scope) (t : Nodes) (e : Ending) where
  after_any : (known : Option Contents) (keys : List (List ℕ)) (b c : StoreState) → IfKnown known (LacksOnly scope t keys) → ReadsBy known keys e b c → AnyBy scope t known e b c
  after_any None keys b c only reads = reads_fewer _ _ _ _ e b c (λ lacks. lacks) reads
  after_any (Some held) keys b c only reads = reads_fewer _ _ _ _ e b c only reads

pub update_any : (scope : Scope) (t : Nodes) (loaded : List Stamp) (e : Ending) (known : Option Contents) (keys : List (List ℕ)) (a b c : StoreState) → IfKnown known (LacksOnly scope t keys)
    → SearchBy scope t loaded known Complete a b → ReadsBy known keys e b c → AnyBy scope t known e a c
update_any scope t loaded e known keys a b c only first next =
    let some : Type 0 = IsSomeAnd known (λ held. lacks_some scope held t ≡ true) in
    reads_then e a b c some some some None None None None (λ lacks. lacks) (search_any scope t loaded Complete known a b first) (after_any scope t e known keys b c only next)

-- the link targets that are opened after the links are planned
pub planned_some : (scope : Scope) (held : Contents) (t : Nodes) (loaded : List Stamp) (search : Search) → HaveSameFiles t (with_links t (planned_by search t))
    → LacksOnly scope t (opened_planned loaded search t) held
planned_some scope held t loaded search files = by (nat_lt NODES_MAX (nodes_with t (planned_by search t)))
  where
    by : (many : Bool) → lacks_one held (if many then [] else opened_after loaded search.files (with_links t (planned_by search t)) search.dirs) ≡ true → lacks_some scope held t ≡ true
    by true lacks = absurd (cc)
    by false lacks =
        opened_some scope held t (with_links t (planned_by search t)) (ids_there loaded search.files) (unread_after search.files (with_links t (planned_by search t)) search.dirs)
        (key_by t (with_links t (planned_by search t)) files) lacks
