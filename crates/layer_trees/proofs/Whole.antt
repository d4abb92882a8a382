-- The reading of all layers, from its steps.
use Rattle.std.proofs.Common.{◌≡◌, ◌≤◌, ◌+◌, ◌-◌, suc, ◌++◌, ◌∙◌, ℕ, List, [], ◌∷◌, length, take, Option, Some, None, Result, Ok, Err, append_assoc, append-nil, inl, inr, refl, ap, sym, subst, arith}
use Rattle.std.proofs.lemmas.List.{length-append}
use Rattle.std.specs.Option.{IsSomeAnd}
use Rattle.image_tree.specs.Tree.{Nodes}
use Rattle.mtree_manifest.specs.Manifest.{outcome}
use Rattle.mtree_manifest.specs.declared.fault.ManifestFault.{ManifestFault}
use Rattle.mtree_manifest.specs.declared.fault.TheConstants.{MANIFEST_MAX}
use Rattle.tree_face.proofs.StoreUse.{reads_all, reads_as, reads_none, reads_on, reads_part}
use Rattle.tree_face.specs.Known.{IfKnown}
use Rattle.tree_face.specs.Store.{Contents, Lacks, StoreState}
use Rattle.tree_face.specs.StoreUse.{Ending, Complete, DeviceFailed, GaveUp, ReadsFiles}
use Rattle.layer_trees.specs.Faults.{numbered}
use Rattle.layer_trees.specs.Layers.{Faulty, HasTrees, IsOfLayers, Lacking, LacksLayer, Layers, ReadsTrees, by_outcome, by_text, keys_read, layers_ending, layers_from, most_read, with_tree}
use Rattle.layer_trees.specs.Steps.{GoesOn, HoldsManifest, ReadsLayer, ReadsRest, layer_ending}
use Rattle.layer_trees.specs.declared.fault.LayerFault.{LayerFault}
use Rattle.layer_trees.specs.declared.fault.LayerFault.TheVariants as one
use Rattle.layer_trees.specs.declared.fault.LayersFault.{LayersFault}
use Rattle.layer_trees.specs.declared.fault.LayersFault.TheVariants.{Bad, NoMemory, StoreFault}

-- ---- layers above others

-- layers above layers with these trees
abbrev all_after : List Nodes → Layers → Layers
all_after trees (HasTrees more) = HasTrees (trees ++ more)
all_after trees (Faulty number fault) = Faulty number fault
all_after trees Lacking = Lacking

after_none : (layers : Layers) → all_after [] layers ≡ layers
after_none (HasTrees more) = refl
after_none (Faulty number fault) = refl
after_none Lacking = refl

after_one : (trees : List Nodes) (tree : Nodes) (layers : Layers) → all_after trees (with_tree tree layers) ≡ all_after (trees ++ tree ∷ []) layers
after_one trees tree (HasTrees more) = ap HasTrees (sym (append_assoc trees (tree ∷ []) more))
after_one trees tree (Faulty number fault) = refl
after_one trees tree Lacking = refl

longer : (trees : List Nodes) (tree : Nodes) → length (trees ++ tree ∷ []) ≡ 1 + length trees
longer trees tree = let l : length (trees ++ tree ∷ []) ≡ length trees + length (tree ∷ []) = length-append trees (tree ∷ []) in omega (arith, l)

-- the layers under these keys, of which the lowest ones have these trees
abbrev whole : Contents → List Nodes → List (List ℕ) → Layers
whole held trees keys = all_after trees (layers_from held (length trees) keys)

module _ (held : Contents) (trees : List Nodes) (key : List ℕ) (keys : List (List ℕ)) where
  -- the first of the keys has this tree
  has_tree : (tree : Nodes) → HoldsManifest held key (Ok tree) → whole held trees (key ∷ keys) ≡ whole held (trees ++ tree ∷ []) keys
  has_tree tree is =
      ap (λ text. all_after trees (by_text (length trees) text (layers_from held (1 + length trees) keys))) is.there
      ∙ ap (λ read. all_after trees (by_outcome (length trees) read (layers_from held (1 + length trees) keys))) is.reads
      ∙ after_one trees tree (layers_from held (1 + length trees) keys)
      ∙ ap (λ n. all_after (trees ++ tree ∷ []) (layers_from held n keys)) (sym (longer trees tree))

  is_faulty : (fault : ManifestFault) → HoldsManifest held key (Err fault) → whole held trees (key ∷ keys) ≡ Faulty (length trees) fault
  is_faulty fault is =
      ap (λ text. all_after trees (by_text (length trees) text (layers_from held (1 + length trees) keys))) is.there
      ∙ ap (λ read. all_after trees (by_outcome (length trees) read (layers_from held (1 + length trees) keys))) is.reads

  is_lacking : held key ≡ None → whole held trees (key ∷ keys) ≡ Lacking
  is_lacking none = ap (λ text. all_after trees (by_text (length trees) text (layers_from held (1 + length trees) keys))) none

-- ---- the keys that are read

-- the keys up to that of the fault, the first key having this number
abbrev keys_from : ℕ → List (List ℕ) → Result (List Nodes) LayersFault → List (List ℕ)
keys_from number keys (Err (Bad layer fault)) = take (suc (layer - number)) keys
keys_from number keys (Ok trees) = keys
keys_from number keys (Err StoreFault) = keys
keys_from number keys (Err NoMemory) = keys

-- the number of a faulty layer isn't below that of the first key
abbrev IsLater : ℕ → Result (List Nodes) LayersFault → Type 0
IsLater number (Err (Bad layer fault)) = number ≤ layer
IsLater number (Ok trees) = Unit {0}
IsLater number (Err StoreFault) = Unit {0}
IsLater number (Err NoMemory) = Unit {0}

later_too : (n : ℕ) (result : Result (List Nodes) LayersFault) → IsLater (1 + n) result → IsLater n result
later_too n (Err (Bad layer fault)) later = omega (arith, later)
later_too n (Ok trees) later = tt
later_too n (Err StoreFault) later = tt
later_too n (Err NoMemory) later = tt

one_more : (n : ℕ) (key : List ℕ) (keys : List (List ℕ)) (result : Result (List Nodes) LayersFault) → IsLater (1 + n) result
    → keys_from n (key ∷ keys) result ≡ key ∷ keys_from (1 + n) keys result
one_more n key keys (Err (Bad layer fault)) later =
    let e : layer - n ≡ suc (layer - (1 + n)) = omega (arith, later) in
    ap (λ m. take (suc m) (key ∷ keys)) e
one_more n key keys (Ok trees) later = refl
one_more n key keys (Err StoreFault) later = refl
one_more n key keys (Err NoMemory) later = refl

-- the store is known, and the layers lack a text
abbrev LacksOne : Option Contents → List Nodes → List (List ℕ) → Type 0
LacksOne known trees keys = IsSomeAnd known (λ held. whole held trees keys ≡ Lacking)

-- ---- the reading

record ReadsOn (trees : List Nodes) (keys : List (List ℕ)) (result : Result (List Nodes) LayersFault) (old new : StoreState) : Type 0 where
  layers : IfKnown old.held (λ held. IsOfLayers (whole held trees keys) result)
  later : IsLater (length trees) result
  reads : ReadsFiles (LacksOne old.held trees keys) (Some (keys_from (length trees) keys result)) (Some (most_read keys)) (layers_ending result) old new

none_left : (known : Option Contents) (trees : List Nodes) → IfKnown known (λ held. whole held trees [] ≡ HasTrees trees)
none_left None trees = tt
none_left (Some held) trees = ap HasTrees (append-nil trees)

pub anyway : (known : Option Contents) → IfKnown known (λ held. Unit {0})
anyway None = tt
anyway (Some held) = tt

module _ (trees : List Nodes) (key : List ℕ) (keys : List (List ℕ)) (old between : StoreState) where
  lacks_it : (known : Option Contents) → Lacks known key → LacksOne known trees (key ∷ keys)
  lacks_it None lacks = absurd lacks
  lacks_it (Some held) lacks = is_lacking held trees key keys lacks

  faulty : (known : Option Contents) (fault : ManifestFault) → IfKnown known (λ held. HoldsManifest held key (Err fault))
      → IfKnown known (λ held. whole held trees (key ∷ keys) ≡ Faulty (length trees) fault)
  faulty None fault is = tt
  faulty (Some held) fault is = is_faulty held trees key keys fault is

  -- the layer's fault ends the reading
  ended : (fault : LayerFault) → ReadsLayer key (Err fault) old between → ReadsOn trees (key ∷ keys) (Err (numbered (length trees) fault)) old between
  ended (one.Bad fault) reads = record {
    layers = faulty old.held fault reads.bad;
    later = omega arith;
    reads = all_read;
  }
    where
      none : length trees - length trees ≡ 0
      none = omega arith

      first : ReadsFiles (LacksOne old.held trees (key ∷ keys)) (Some (key ∷ [])) (Some MANIFEST_MAX) Complete old between
      first = reads_as (Some (key ∷ [])) (Some MANIFEST_MAX) old between (Lacks old.held key) (LacksOne old.held trees (key ∷ keys)) Complete (lacks_it old.held) reads.reads

      all_read : ReadsFiles (LacksOne old.held trees (key ∷ keys)) (Some (take (suc (length trees - length trees)) (key ∷ keys))) (Some (most_read (key ∷ keys))) Complete old between
      all_read = rw none (record {
        held = first.held;
        begins = first.begins;
        begun = first.begun;
        begun_before = first.begun_before;
        taken = let t = first.taken in omega (arith, t);
        taken_before = first.taken_before;
        faults = first.faults;
        cause = first.cause;
      })
  ended one.StoreFault reads = record {
    layers = anyway old.held;
    later = tt;
    reads = reads_part (key ∷ []) keys (Lacks old.held key) (LacksOne old.held trees (key ∷ keys)) MANIFEST_MAX (most_read keys) DeviceFailed old between (lacks_it old.held) tt reads.reads;
  }
  ended one.NoMemory reads = record {
    layers = anyway old.held;
    later = tt;
    reads = reads_part (key ∷ []) keys (Lacks old.held key) (LacksOne old.held trees (key ∷ keys)) MANIFEST_MAX (most_read keys) GaveUp old between (lacks_it old.held) tt reads.reads;
  }

  module _ (tree : Nodes) (first : ReadsLayer key (Ok tree) old between) where
    -- memory runs out after the layer was read
    gave_up : ReadsOn trees (key ∷ keys) (Err NoMemory) old between
    gave_up = record {
      layers = anyway old.held;
      later = tt;
      reads = reads_part (key ∷ []) keys (Lacks old.held key) (LacksOne old.held trees (key ∷ keys)) MANIFEST_MAX (most_read keys) GaveUp old between (lacks_it old.held) tt
          (reads_all (Some (key ∷ [])) (Some MANIFEST_MAX) old between (Lacks old.held key) first.reads);
    }

    same_layers : (known : Option Contents) → IfKnown known (λ held. HoldsManifest held key (Ok tree)) → (P : Layers → Type 0)
        → IfKnown known (λ held. P (whole held (trees ++ tree ∷ []) keys)) → IfKnown known (λ held. P (whole held trees (key ∷ keys)))
    same_layers None is P rest = tt
    same_layers (Some held) is P rest = subst P (sym (has_tree held trees key keys tree is)) rest

    lacks_later : (known : Option Contents) → IfKnown known (λ held. HoldsManifest held key (Ok tree)) → LacksOne known (trees ++ tree ∷ []) keys → LacksOne known trees (key ∷ keys)
    lacks_later None is lacks = absurd lacks
    lacks_later (Some held) is lacks = has_tree held trees key keys tree is ∙ lacks

    module _ (result : Result (List Nodes) LayersFault) (new : StoreState) (rest : ReadsOn (trees ++ tree ∷ []) keys result between new) where
      abbrev n : ℕ
      n = length trees

      later_one : IsLater (1 + n) result
      later_one = rw (← longer trees tree) rest.later

      goes_on : ReadsOn trees (key ∷ keys) result old new
      goes_on = record {
        layers = same_layers old.held first.tree (λ layers. IsOfLayers layers result)
            (subst (λ (known : Option Contents). IfKnown known (λ held. IsOfLayers (whole held (trees ++ tree ∷ []) keys) result)) first.reads.held rest.layers);
        later = later_too n result later_one;
        reads = subst (λ (read : List (List ℕ)). ReadsFiles (LacksOne old.held trees (key ∷ keys)) (Some read) (Some (most_read (key ∷ keys))) (layers_ending result) old new)
            (sym (one_more n key keys result later_one))
            (reads_on (key ∷ []) (keys_from (1 + n) keys result) (Lacks old.held key) (LacksOne between.held (trees ++ tree ∷ []) keys) (LacksOne old.held trees (key ∷ keys))
            MANIFEST_MAX (most_read keys) (layers_ending result) old between new
            (λ lacks. lacks_later old.held first.tree (subst (λ (known : Option Contents). LacksOne known (trees ++ tree ∷ []) keys) first.reads.held lacks))
            first.reads (rw (← longer trees tree) rest.reads));
      }

-- the first of the keys, and then the others
module _ (trees : List Nodes) (key : List ℕ) (keys : List (List ℕ)) (result : Result (List Nodes) LayersFault) (old between new : StoreState)
    (others : (tree : Nodes) → ReadsRest (trees ++ tree ∷ []) keys result between new → ReadsOn (trees ++ tree ∷ []) keys result between new) where
  first_then : (read : Result Nodes LayerFault) → ReadsLayer key read old between → GoesOn (length trees) read (λ tree. ReadsRest (trees ++ tree ∷ []) keys result between new) result between new
      → ReadsOn trees (key ∷ keys) result old new
  first_then (Ok tree) first (inl rest) = goes_on trees key keys old between tree first result new (others tree rest)
  first_then (Ok tree) first (inr (e, same)) =
      subst (λ (result : Result (List Nodes) LayersFault). ReadsOn trees (key ∷ keys) result old new) (sym e)
      (subst (λ (new : StoreState). ReadsOn trees (key ∷ keys) (Err NoMemory) old new) (sym same) (gave_up trees key keys old between tree first))
  first_then (Err fault) first (e, same) =
      subst (λ (result : Result (List Nodes) LayersFault). ReadsOn trees (key ∷ keys) result old new) (sym e)
      (subst (λ (new : StoreState). ReadsOn trees (key ∷ keys) (Err (numbered (length trees) fault)) old new) (sym same) (ended trees key keys old between fault first))

reads_rest : (keys : List (List ℕ)) (trees : List Nodes) (result : Result (List Nodes) LayersFault) (old new : StoreState) → ReadsRest trees keys result old new → ReadsOn trees keys result old new
reads_rest [] trees result old new (e, same) =
    subst (λ (result : Result (List Nodes) LayersFault). ReadsOn trees [] result old new) (sym e)
    (subst (λ (new : StoreState). ReadsOn trees [] (Ok trees) old new) (sym same) (record { layers = none_left old.held trees; later = tt; reads = reads_none _ _ old }))
reads_rest (key ∷ keys) trees result old new (read, (between, (first, goes))) =
    first_then trees key keys result old between new (λ tree rest. reads_rest keys (trees ++ tree ∷ []) result between new rest) read first goes

-- ---- from the first layer on

from_first : (keys : List (List ℕ)) (result : Result (List Nodes) LayersFault) → keys_from 0 keys result ≡ keys_read keys result
from_first keys (Err (Bad layer fault)) = let e : layer - 0 ≡ layer = omega arith in ap (λ m. take (suc m) keys) e
from_first keys (Ok trees) = refl
from_first keys (Err StoreFault) = refl
from_first keys (Err NoMemory) = refl

module _ (keys : List (List ℕ)) where
  all_layers : (known : Option Contents) (result : Result (List Nodes) LayersFault) → IfKnown known (λ held. IsOfLayers (whole held [] keys) result)
      → IfKnown known (λ held. IsOfLayers (layers_from held 0 keys) result)
  all_layers None result is = tt
  all_layers (Some held) result is = subst (λ (layers : Layers). IsOfLayers layers result) (after_none (layers_from held 0 keys)) is

  all_lacks : (known : Option Contents) → LacksOne known [] keys → IsSomeAnd known (λ held. layers_from held 0 keys ≡ Lacking)
  all_lacks None lacks = absurd lacks
  all_lacks (Some held) lacks = sym (after_none (layers_from held 0 keys)) ∙ lacks

pub reads_trees : (keys : List (List ℕ)) (result : Result (List Nodes) LayersFault) (old new : StoreState) → ReadsRest [] keys result old new → ReadsTrees keys result old new
reads_trees keys result old new steps =
    let on = reads_rest keys [] result old new steps in
    record {
      layers = all_layers keys old.held result on.layers;
      reads = subst (λ (read : List (List ℕ)). ReadsFiles (LacksLayer old.held keys) (Some read) (Some (most_read keys)) (layers_ending result) old new) (from_first keys result)
          (reads_as (Some (keys_from 0 keys result)) (Some (most_read keys)) old new (LacksOne old.held [] keys) (LacksLayer old.held keys) (layers_ending result)
          (all_lacks keys old.held) on.reads);
    }
