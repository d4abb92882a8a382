-- What a crash leaves, over several calls.
use Rattle.std.proofs.Common.{◌≡◌, ◌≤◌, ◌⊎◌, ◌||◌, ℕ, Bool, true, false, List, refl, sym, ap, subst, ◌∙◌, inl, inr, arith, Option, Some, None}
use Rattle.std.proofs.lemmas.Bool.{false≢true}
use Rattle.std.proofs.lemmas.Slice.Eq.{bytes_eq-Decides}
use Rattle.tree_face.specs.declared.disk.Slot.{Slot}
use Rattle.tree_face.specs.declared.disk.Slot.TheVariants.{Manifest, Cache, Aux}
use Rattle.tree_face.specs.Crash.{GoesOn, HasMoments, Leaves, LeavesAtMost, LeavesMore, LeavesOthers, LeavesSame}
use Rattle.tree_face.specs.Disk.{Content, DiskContent, DiskState, content_eq, slot_eq}
use Rattle.tree_face.specs.Known.{IfKnown}
use Rattle.lib_types.proofs.Bools.{or_assoc, or_true}

-- contents that compare equal are equal
pub content_is : (c x : Content) → content_eq c x ≡ true → c ≡ x
content_is None None e = refl
content_is None (Some y) e = absurd (false≢true e)
content_is (Some x) None e = absurd (false≢true e)
content_is (Some x) (Some y) e = ap (λ (l : List ℕ). Some l) ((bytes_eq-Decides x y).0 e)

pub same_slot : (slot : Slot) → slot_eq slot slot ≡ true
same_slot Manifest = refl
same_slot Cache = refl
same_slot Aux = refl

pub slot_is : (a b : Slot) → slot_eq a b ≡ true → a ≡ b
slot_is Manifest Manifest e = refl
slot_is Cache Cache e = refl
slot_is Aux Aux e = refl
slot_is Manifest Cache e = absurd (false≢true e)
slot_is Manifest Aux e = absurd (false≢true e)
slot_is Cache Manifest e = absurd (false≢true e)
slot_is Cache Aux e = absurd (false≢true e)
slot_is Aux Manifest e = absurd (false≢true e)
slot_is Aux Cache e = absurd (false≢true e)

or_at : (a b c : Bool) → (a || b) ≡ true → (b ≡ true → c ≡ true) → (a || c) ≡ true
or_at true b c e f = refl
or_at false b c e f = f e

module _ (a b c : DiskState) where
  pub goes_on_on : GoesOn a b → GoesOn b c → GoesOn a c
  goes_on_on first next = record {
    later = omega (arith, first.later, next.later);
    moments = λ t slot x le.
        next.moments t slot x (omega (arith, le, first.later))
        ∙ ap (λ y. y || c.since b.time slot x) (first.moments t slot x le)
        ∙ or_assoc (a.since t slot x) (b.since a.time slot x) (c.since b.time slot x)
        ∙ ap (λ y. a.since t slot x || y) (sym (next.moments a.time slot x first.later));
  }

  module _ (later : a.time ≤ b.time) where
    pub same_on : (slot : Slot) → LeavesSame slot a b → LeavesSame slot b c → LeavesSame slot a c
    same_on slot first next = record {
      now = λ x. next.now x ∙ first.now x;
      during = λ t x le. next.during t x (omega (arith, le, later)) ∙ first.during t x le;
    }

    pub others_on : (slot : Slot) → LeavesOthers slot a b → LeavesOthers slot b c → LeavesOthers slot a c
    others_on slot first next = λ s h. same_on s (first s h) (next s h)

    -- a call that does not change what a crash may leave, and then one that adds to it
    pub more_on : (test : Content → Bool) (slot : Slot) → LeavesSame slot a b → LeavesMore test slot b c → LeavesMore test slot a c
    more_on test slot first next = record {
      now = λ x. next.now x ∙ ap (λ y. y || test x) (first.now x);
      during = λ t x le. next.during t x (omega (arith, le, later)) ∙ ap (λ y. y || test x) (first.during t x le);
    }

    pub at_most_on : (test : Content → Bool) (slot : Slot) → LeavesSame slot a b → LeavesAtMost test slot b c → LeavesAtMost test slot a c
    at_most_on test slot first next = record {
      now = λ x may. ap (λ y. y || test x) (sym (first.now x)) ∙ next.now x may;
      during = λ t x le since. ap (λ y. y || test x) (sym (first.during t x le)) ∙ next.during t x (omega (arith, le, later)) since;
    }

module _ (slot : Slot) (old new : DiskState) where
  -- the test may be replaced by one that gives the same results
  pub more_by : (test other : Content → Bool) → ((x : Content) → test x ≡ other x) → LeavesMore test slot old new → LeavesMore other slot old new
  more_by test other same more = record {
    now = λ x. more.now x ∙ ap (λ y. old.may slot x || y) (same x);
    during = λ t x le. more.during t x le ∙ ap (λ y. old.since t slot x || y) (same x);
  }

  pub at_most_by : (test other : Content → Bool) → ((x : Content) → test x ≡ other x) → LeavesAtMost test slot old new → LeavesAtMost other slot old new
  at_most_by test other same most = record {
    now = λ x may. or_at (old.may slot x) (test x) (other x) (most.now x may) (λ e. sym (same x) ∙ e);
    during = λ t x le since. or_at (old.since t slot x) (test x) (other x) (most.during t x le since) (λ e. sym (same x) ∙ e);
  }

-- the call adds at most this content to what a crash may leave, in one slot
module _ (slot : Slot) (bytes : Content) (P : Slot → Content → Type 0) (holds : P slot bytes) (old new : DiskState) (laws : HasMoments old) (later : old.time ≤ new.time)
    (others : LeavesOthers slot old new) (most : IfKnown old.contents (λ _. LeavesAtMost (content_eq bytes) slot old new)) where
  anything : old.contents ≡ None → (t : ℕ) (s : Slot) (b : Content) → t ≤ old.time → old.since t s b ≡ true
  anything none t s b le = laws.earlier t old.time s b le (omega arith) (laws.now s b ∙ laws.unknown none s b)

  it_is : (s : Slot) (b : Content) → slot_eq s slot ≡ true → content_eq bytes b ≡ true → P s b
  it_is s b here is = subst (λ (s : Slot). P s b) (sym (slot_is s slot here)) (subst (λ (b : Content). P slot b) (content_is bytes b is) holds)

  during_by : (c : Option DiskContent) → old.contents ≡ c → IfKnown c (λ _. LeavesAtMost (content_eq bytes) slot old new)
      → (here : Bool) (t : ℕ) (s : Slot) (b : Content) → slot_eq s slot ≡ here → t ≤ old.time → new.since t s b ≡ true → (old.since t s b ≡ true) ⊎ P s b
  during_by c is most false t s b other le since = inl (sym ((others s other).during t b le) ∙ since)
  during_by None is most true t s b here le since = inl (anything is t s b le)
  during_by (Some c) is most true t s b here le since =
      let either = or_true (old.since t s b) (content_eq bytes b)
      (subst (λ (s : Slot). (old.since t s b || content_eq bytes b) ≡ true) (sym (slot_is s slot here))
      (most.during t b le (subst (λ (s : Slot). new.since t s b ≡ true) (slot_is s slot here) since))) in
      elim either [
        | inl e ↦ inl e
        | inr e ↦ inr (it_is s b here e)
      ]

  now_by : (c : Option DiskContent) → old.contents ≡ c → IfKnown c (λ _. LeavesAtMost (content_eq bytes) slot old new)
      → (here : Bool) (s : Slot) (b : Content) → slot_eq s slot ≡ here → new.may s b ≡ true → (old.may s b ≡ true) ⊎ P s b
  now_by c is most false s b other may = inl (sym ((others s other).now b) ∙ may)
  now_by None is most true s b here may = inl (laws.unknown is s b)
  now_by (Some c) is most true s b here may =
      let either = or_true (old.may s b) (content_eq bytes b)
      (subst (λ (s : Slot). (old.may s b || content_eq bytes b) ≡ true) (sym (slot_is s slot here))
      (most.now b (subst (λ (s : Slot). new.may s b ≡ true) (slot_is s slot here) may))) in
      elim either [
        | inl e ↦ inl e
        | inr e ↦ inr (it_is s b here e)
      ]

  pub leaves_written : Leaves P old new
  leaves_written = record {
    later = later;
    during = λ t s b le since. during_by old.contents refl most (slot_eq s slot) t s b refl le since;
    now = λ s b may. now_by old.contents refl most (slot_eq s slot) s b refl may;
  }
