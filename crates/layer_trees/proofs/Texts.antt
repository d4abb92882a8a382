-- One text that is opened and read whole.
use Rattle.std.proofs.Common.{◌≡◌, ◌⊎◌, ◌≤◌, ◌∙◌, ◌<◌, ℕ, List, [], ◌∷◌, length, Option, Some, None, Result, Ok, Err, Vec, Global, inl, inr, ap, refl, arith}
use Rattle.std.specs.Prelude.{unwrap_or}
use Rattle.std.specs.Result.{result_err, result_ok}
use Rattle.image_tree.specs.Tree.{Nodes}
use Rattle.std.proofs.lemmas.Bool.{lt-leb}
use Rattle.lib_types.specs.declared.fault.Failed.{Failed}
use Rattle.mtree_manifest.specs.declared.fault.TheConstants.{MANIFEST_MAX}
use Rattle.tree_face.specs.Store.{Begins, Reads, StoreState}
use Rattle.tree_face.specs.StoreUse.{Complete, DeviceFailed, GaveUp}
use Rattle.tree_face.proofs.Follows.{part_whole}
use Rattle.tree_face.proofs.Known.{relates_by}
use Rattle.tree_face.specs.Known.{IfKnown}
use Rattle.tree_face.specs.Store.{Contents, HasBegun, Lacks}
use Rattle.tree_face.proofs.StoreUse.{reads_all}
use Rattle.mtree_manifest.specs.Manifest.{first_bad, outcome, tree_of}
use Rattle.mtree_manifest.specs.declared.fault.ManifestFault.{ManifestFault}
use Rattle.mtree_manifest.specs.declared.fault.ManifestFault.TheVariants as faults
use Rattle.layer_trees.specs.Faults.{of_manifest}
use Rattle.layer_trees.specs.declared.fault.LayerFault.{LayerFault}
use Rattle.layer_trees.specs.declared.fault.LayerFault.TheVariants as one
use Rattle.layer_trees.specs.Steps.{HoldsManifest, ReadsLayer, ReadsOne, ReadsText}

-- a text with more bytes isn't the manifest of a tree
long_outcome : (text : List ℕ) → MANIFEST_MAX < length text → outcome text ≡ Err (faults.TooLong (length text))
unfolding outcome
long_outcome text l = rw (lt-leb (length text) MANIFEST_MAX l) refl

pub is_too_long : (key : List ℕ) (known : Option Contents) (s : StoreState) (n : ℕ) → IfKnown known (λ held. HasBegun s held key n) → MANIFEST_MAX < n
    → IfKnown known (λ held. HoldsManifest held key (Err (faults.TooLong n)))
is_too_long key None s n begun l = tt
is_too_long key (Some held) s n begun l = record {
  text = begun.bytes;
  there = begun.under_key;
  reads = long_outcome begun.bytes (rw begun.size l) ∙ ap (λ m. Err (faults.TooLong m)) begun.size;
}

module _ (key : List ℕ) (old mid : StoreState) where
  pub not_begun : (e : Failed) → Begins old mid key (Err e) → ReadsOne key DeviceFailed old mid
  not_begun e b = record {
    held = b.held;
    begins = b.keys_refused;
    begun = b.begun;
    begun_before = b.begun_before;
    taken = omega (arith, b.taken);
    taken_before = omega (arith, b.taken);
    faults = b.faults;
    cause = b.cause;
  }

  pub too_long : (n : ℕ) → Begins old mid key (Ok n) → ReadsOne key Complete old mid
  too_long n b = record {
    held = b.held;
    begins = b.keys;
    begun = omega (arith, b.begun);
    begun_before = b.begun_before;
    taken = omega (arith, b.taken);
    taken_before = omega (arith, b.taken);
    faults = b.faults;
    cause = b.no_fault;
  }

  pub no_room : (n : ℕ) → Begins old mid key (Ok n) → ReadsOne key GaveUp old mid
  no_room n b = record {
    held = b.held;
    begins = relates_by _ _ (λ x y. part_whole (key ∷ []) x y) _ _ b.keys;
    begun = omega (arith, b.begun);
    begun_before = b.begun_before;
    taken = omega (arith, b.taken);
    taken_before = omega (arith, b.taken);
    faults = b.faults;
    cause = b.no_fault;
  }

  module _ (new : StoreState) (n : ℕ) (before after : List ℕ) (b : Begins old mid key (Ok n)) (small : n ≤ MANIFEST_MAX) (room : length before ≡ n) where
    pub not_read : (e : Failed) → Reads mid new 0 before after (Err e) → ReadsOne key DeviceFailed old new
    not_read e r = record {
      held = r.held ∙ b.held;
      begins = rw r.keys (relates_by _ _ (λ x y. part_whole (key ∷ []) x y) _ _ b.keys);
      begun = omega (arith, b.begun, r.begun);
      begun_before = omega (arith, b.begun_before, r.begun);
      taken = omega (arith, b.taken, r.taken, room, small);
      taken_before = omega (arith, b.taken, r.taken_before);
      faults = omega (arith, b.faults, r.faults);
      cause = inl (let none = b.no_fault in let risen = r.cause in omega (arith, none, risen));
    }

    pub was_read : (m : ℕ) → Reads mid new 0 before after (Ok m) → ReadsOne key Complete old new
    was_read m r = record {
      held = r.held ∙ b.held;
      begins = rw r.keys b.keys;
      begun = omega (arith, b.begun, r.begun);
      begun_before = omega (arith, b.begun_before, r.begun);
      taken = omega (arith, b.taken, r.taken, room, count, small);
      taken_before = omega (arith, b.taken, r.taken_before);
      faults = omega (arith, b.faults, r.faults);
      cause = r.no_fault ∙ b.no_fault;
    } where
      count : m ≤ length before
      count = let size = b.size in let c = rw size at r.count in omega (arith, c)

-- memory runs out after the text was read
gave_up : (key : List ℕ) (a b : StoreState) → ReadsOne key Complete a b → ReadsOne key GaveUp a b
gave_up key a b reads = reads_all (Some (key ∷ [])) (Some MANIFEST_MAX) a b (Lacks a.held key) reads

-- ---- the tree of a text

read_as : (r : Result Nodes ManifestFault) (tree : Nodes) → result_ok r ≡ Some tree → r ≡ Ok tree
read_as (Ok other) tree e = ap (λ (o : Option Nodes). Ok (unwrap_or o other)) e
read_as (Err fault) tree e = absurd (cc)

fails_as : (r : Result Nodes ManifestFault) (fault : ManifestFault) → result_err r ≡ Some fault → r ≡ Err fault
fails_as (Ok other) fault e = absurd (cc)
fails_as (Err other) fault e = ap (λ (o : Option ManifestFault). Err (unwrap_or o other)) e

module _ (key : List ℕ) (a b : StoreState) where
  pub not_read_at_all : (fault : LayerFault) → ReadsText key (Err fault) a b → ReadsLayer key (Err fault) a b
  not_read_at_all fault text = record { tree = tt; bad = text.bad; reads = text.reads }

  module _ (text : Vec ℕ Global) (first : ReadsText key (Ok text) a b) where
    holds : (known : Option Contents) → IfKnown known (λ held. held key ≡ Some text.items) → (r : Result Nodes ManifestFault) → outcome text.items ≡ r
        → IfKnown known (λ held. HoldsManifest held key r)
    holds None there r is = tt
    holds (Some held) there r is = record { text = text.items; there = there; reads = is }

    pub was_parsed : (tree : Nodes) → tree_of text.items ≡ Some tree → ReadsLayer key (Ok tree) a b
    was_parsed tree is = record { tree = holds a.held first.text (Ok tree) (read_as (outcome text.items) tree is); bad = tt; reads = first.reads }

    bad_is : (fault : ManifestFault) → first_bad text.items ≡ Some fault → IfKnown a.held (λ held. HoldsManifest held key (Err fault))
    bad_is fault is = holds a.held first.text (Err fault) (fails_as (outcome text.items) fault is)

    out_of_memory : ReadsLayer key (Err one.NoMemory) a b
    out_of_memory = record { tree = tt; bad = tt; reads = gave_up key a b first.reads }

    pub not_parsed : (fault : ManifestFault) → (fault ≡ faults.NoMemory) ⊎ (first_bad text.items ≡ Some fault) → ReadsLayer key (Err (of_manifest fault)) a b
    not_parsed faults.NoMemory is = out_of_memory
    not_parsed (faults.TooLong n) (inl other) = absurd (cc)
    not_parsed (faults.TooLong n) (inr is) = record { tree = tt; bad = bad_is (faults.TooLong n) is; reads = first.reads }
    not_parsed (faults.Bad line kind) (inl other) = absurd (cc)
    not_parsed (faults.Bad line kind) (inr is) = record { tree = tt; bad = bad_is (faults.Bad line kind) is; reads = first.reads }
    not_parsed (faults.Clash line) (inl other) = absurd (cc)
    not_parsed (faults.Clash line) (inr is) = record { tree = tt; bad = bad_is (faults.Clash line) is; reads = first.reads }
    not_parsed (faults.TooMany line) (inl other) = absurd (cc)
    not_parsed (faults.TooMany line) (inr is) = record { tree = tt; bad = bad_is (faults.TooMany line) is; reads = first.reads }
