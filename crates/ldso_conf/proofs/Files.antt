-- One file that is opened and read whole.
use Rattle.std.proofs.Common.{◌≡◌, ◌≤◌, ◌∙◌, ℕ, List, [], ◌∷◌, length, Option, Some, None, Ok, Err, inl, refl, arith}
use Rattle.std.proofs.lemmas.Bool.{le-leb}
use Rattle.std.specs.Prelude.{IfSome, option_map}
use Rattle.lib_types.specs.Counts.{raised}
use Rattle.lib_types.specs.declared.fault.Failed.{Failed}
use Rattle.conf_views.specs.declared.fault.ViewFault.{ViewFault}
use Rattle.conf_views.specs.declared.fault.ViewFault.TheVariants as view
use Rattle.tree_face.specs.Known.{IfKnown}
use Rattle.tree_face.specs.Store.{Contents, StoreState, Begins, HasBegun, Reads}
use Rattle.tree_face.specs.StoreUse.{Complete, DeviceFailed, GaveUp}
use Rattle.tree_face.proofs.Follows.{part_whole}
use Rattle.tree_face.proofs.Known.{relates_by}
use Rattle.tree_face.proofs.StoreUse.{raised-mono}
use Rattle.ldso_conf.specs.Endings.{fault_of, read_ending_by}
use Rattle.ldso_conf.specs.Visits.{ReadsFile, size_read}
use Rattle.ldso_conf.specs.declared.fault.ReadFault.TheVariants as read
use Rattle.ldso_conf.specs.declared.reading.TheConstants.{CONF_MAX}

module _ (key : List ℕ) where
  -- at most as many bytes are read as the store has
  most_none : (known : Option Contents) (a b : ℕ) → b ≡ a → IfSome (option_map (λ held. size_read (held key)) known) (λ n. b ≤ raised a n)
  most_none None a b same = tt
  most_none (Some held) a b same = omega (arith, same)

  small_size : (o : Option (List ℕ)) (bytes : List ℕ) (n : ℕ) → o ≡ Some bytes → length bytes ≡ n → n ≤ CONF_MAX → n ≤ size_read o
  small_size o bytes n there size small = rw (there, size, le-leb n CONF_MAX small) (omega arith)

  most_held : (known : Option Contents) (s : StoreState) (n a b : ℕ) → IfKnown known (λ held. HasBegun s held key n) → n ≤ CONF_MAX → b ≤ raised a n →
      IfSome (option_map (λ held. size_read (held key)) known) (λ m. b ≤ raised a m)
  most_held None s n a b begun small le = tt
  most_held (Some held) s n a b begun small le = raised-mono a b n (size_read (held key)) (small_size (held key) begun.bytes n begun.under_key begun.size small) le

  module _ (old mid : StoreState) where
    pub not_begun : (e : Failed) → Begins old mid key (Err e) → ReadsFile key old.held DeviceFailed old mid
    not_begun e b = record {
      held = b.held;
      begins = b.keys_refused;
      begun = b.begun;
      begun_before = b.begun_before;
      taken = most_none old.held old.taken mid.taken b.taken;
      taken_before = omega (arith, b.taken);
      faults = b.faults;
      cause = b.cause;
    }

    pub too_large : (n : ℕ) → Begins old mid key (Ok n) → ReadsFile key old.held Complete old mid
    too_large n b = record {
      held = b.held;
      begins = b.keys;
      begun = omega (arith, b.begun);
      begun_before = b.begun_before;
      taken = most_none old.held old.taken mid.taken b.taken;
      taken_before = omega (arith, b.taken);
      faults = b.faults;
      cause = b.no_fault;
    }

    pub no_room : (n : ℕ) → Begins old mid key (Ok n) → ReadsFile key old.held GaveUp old mid
    no_room n b = record {
      held = b.held;
      begins = relates_by _ _ (λ x y. part_whole (key ∷ []) x y) _ _ b.keys;
      begun = omega (arith, b.begun);
      begun_before = b.begun_before;
      taken = most_none old.held old.taken mid.taken b.taken;
      taken_before = omega (arith, b.taken);
      faults = b.faults;
      cause = b.no_fault;
    }

    module _ (new : StoreState) (n : ℕ) (before after : List ℕ) (b : Begins old mid key (Ok n)) (small : n ≤ CONF_MAX) (room : length before ≡ n) where
      pub not_read : (e : Failed) → Reads mid new 0 before after (Err e) → ReadsFile key old.held DeviceFailed old new
      not_read e r = record {
        held = r.held ∙ b.held;
        begins = rw r.keys (relates_by _ _ (λ x y. part_whole (key ∷ []) x y) _ _ b.keys);
        begun = omega (arith, b.begun, r.begun);
        begun_before = omega (arith, b.begun_before, r.begun);
        taken = most_held old.held mid n old.taken new.taken b.content small (omega (arith, b.taken, r.taken, room));
        taken_before = omega (arith, b.taken, r.taken_before);
        faults = omega (arith, b.faults, r.faults);
        cause = inl (let none = b.no_fault in let risen = r.cause in omega (arith, none, risen));
      }

      pub was_read : (m : ℕ) → Reads mid new 0 before after (Ok m) → ReadsFile key old.held Complete old new
      was_read m r = record {
        held = r.held ∙ b.held;
        begins = rw r.keys b.keys;
        begun = omega (arith, b.begun, r.begun);
        begun_before = omega (arith, b.begun_before, r.begun);
        taken = most_held old.held mid n old.taken new.taken b.content small (omega (arith, b.taken, r.taken, room, count));
        taken_before = omega (arith, b.taken, r.taken_before);
        faults = omega (arith, b.faults, r.faults);
        cause = r.no_fault ∙ b.no_fault;
      } where
        count : m ≤ length before
        count = let size = b.size in let c = rw size at r.count in omega (arith, c)

  -- out of memory after a file was read
  pub gave_up : (known : Option Contents) (a b : StoreState) → ReadsFile key known Complete a b → ReadsFile key known GaveUp a b
  gave_up known a b r = record {
    held = r.held;
    begins = relates_by _ _ (λ x y. part_whole (key ∷ []) x y) _ _ r.begins;
    begun = r.begun;
    begun_before = r.begun_before;
    taken = r.taken;
    taken_before = r.taken_before;
    faults = r.faults;
    cause = r.cause;
  }

-- ---- the view doesn't answer

pub view_gave_up : (fault : ViewFault) → read_ending_by (fault_of fault) ≡ GaveUp
view_gave_up view.Unseen = refl
view_gave_up view.NoMemory = refl

pub not_answered : (fault : ViewFault) (key : List ℕ) (known : Option Contents) (a b : StoreState) → ReadsFile key known Complete a b
    → ReadsFile key known (read_ending_by (fault_of fault)) a b
not_answered fault key known a b r = rw (view_gave_up fault) (gave_up key known a b r)

pub was_unseen : (fault : ViewFault) → fault_of fault ≡ read.Unseen → fault ≡ view.Unseen
was_unseen view.Unseen e = refl
was_unseen view.NoMemory e = absurd (cc)
