-- What the writing calls of disks in memory do to the slots, and to what a crash leaves.
use Rattle.std.proofs.Common.{◌≡◌, ◌≤◌, ◌+◌, ◌||◌, ◌++◌, ℕ, Bool, true, false, [], ◌∷◌, length, length-append, if◌then◌else◌, refl, sym, ap, subst, ◌∙◌, arith, Option, Some, None, Result, Ok, Err, is_err, is_some, MatchResult, OnOk, OnErr, inl, ◌==◌, ◌&&◌}
use Rattle.std.proofs.lemmas.Bool.{false≢true}
use Rattle.lib_types.specs.declared.fault.Failed.{Failed}
use Rattle.tree_face.specs.declared.disk.Slot.{Slot}
use Rattle.tree_face.specs.declared.disk.Slot.TheVariants.{Manifest, Cache, Aux}
use Rattle.tree_face.specs.declared.memory.disks.MemDisk.{MemDisk}
use Rattle.tree_face.specs.declared.memory.disks.SureDisk.{SureDisk}
use Rattle.tree_face.specs.declared.memory.past.Change.{Change}
use Rattle.tree_face.specs.declared.memory.past.Change.TheVariants.{Published, Settled}
use Rattle.tree_face.specs.declared.memory.past.Past.{Past}
use Rattle.tree_face.specs.declared.memory.temporaries.Temporaries.{Temporaries}
use Rattle.tree_face.specs.declared.memory.temporaries.Temporary.{Temporary}
use Rattle.tree_face.specs.Crash.{AddsPublished, GoesOn, IsAtRest, IsImage, KeepsSlots, LeavesAtMost, LeavesMore, LeavesSame, Settles, left_by, published}
use Rattle.tree_face.specs.Disk.{Content, DiskContent, DiskState, Keeps, KeepsOthers, Slots, content_eq, MayPublish, Publishes, slot_eq, slot_of, with_slot}
use Rattle.tree_face.specs.Known.{IfKnown}
use Rattle.tree_face.specs.Past.{IsChangedBy, KeepsPast, Moment, changes_of, clock_of, first_moment, last_moment, left_in, may_leave, might_leave, moment_after, moment_in}
use Rattle.tree_face.specs.PastLaws.{has_moments, is_sound}
use Rattle.tree_face.specs.SureDisk.{counts_as_done, disk_content, disk_state, failing_disk_content, failing_disk_state, files_of, left_by_choice, now_in}
use Rattle.tree_face.specs.Temporaries.{bytes_of, file_in, is_synced}
use Rattle.tree_face.proofs.Crash.{content_is, same_slot}
use Rattle.tree_face.proofs.Past.{absorbed, kept_may, kept_moment, kept_since, kept_time, moment_more, or_in, since_after, still}

or_before : (x y : Bool) → x ≡ true → (x || y) ≡ true
or_before true y e = refl
or_before false y e = absurd (false≢true e)

pub on_ok : {A : Type 0} (r : Result (Unit {0}) Failed) → A → OnOk r A
on_ok (Ok x) a = a
on_ok (Err x) a = tt

pub on_err : {A : Type 0} (r : Result (Unit {0}) Failed) → A → OnErr r A
on_err (Ok x) a = tt
on_err (Err x) a = a

-- ---- a call that failed

module _ (old new : DiskState) (slot : Slot) (result : Result (Unit {0}) Failed) where
  pub adds_nothing : (tag : ℕ) → KeepsSlots old new → is_err result ≡ true → AddsPublished tag slot old new result
  adds_nothing tag keeps failed = by result failed
    where
      at_most : (test : Content → Bool) → LeavesAtMost test slot old new
      at_most test = record {
        now = λ b may. or_before _ _ (sym ((keeps.slots slot).now b) ∙ may);
        during = λ t b le since. or_before _ _ (sym ((keeps.slots slot).during t b le) ∙ since);
      }

      known : (c : Option DiskContent) → IfKnown c (λ c. LeavesAtMost (published c tag slot) slot old new)
      known None = tt
      known (Some c) = at_most (published c tag slot)

      by : (r : Result (Unit {0}) Failed) → is_err r ≡ true → AddsPublished tag slot old new r
      by (Ok x) e = absurd (false≢true e)
      by (Err x) e = record { goes_on = keeps.goes_on; others = λ s h. keeps.slots s; done = tt; failed = known old.contents }

  pub settles_nothing : KeepsSlots old new → is_err result ≡ true → Settles slot old new result
  settles_nothing keeps failed = by result failed
    where
      by : (r : Result (Unit {0}) Failed) → is_err r ≡ true → Settles slot old new r
      by (Ok x) e = absurd (false≢true e)
      by (Err x) e = record { goes_on = keeps.goes_on; others = λ s h. keeps.slots s; during = (keeps.slots slot).during; done = tt; failed = keeps.slots slot }

-- ---- a call that adds no change

module _ (a b : SureDisk) where
  pub sure_keeps : b.past ≡ a.past → KeepsSlots (disk_state a) (disk_state b)
  sure_keeps e = still (disk_state a) (disk_state b) (has_moments a) (ap clock_of e) (λ s c. ap (λ p. may_leave p s c) e) (λ t s c. ap (λ p. might_leave p t s c) e)

  sure_keeps_past : KeepsPast a.past b.past → KeepsSlots (disk_state a) (disk_state b)
  sure_keeps_past keeps = still (disk_state a) (disk_state b) (has_moments a) (kept_time a.past b.past keeps) (kept_may a.past b.past keeps) (kept_since a.past b.past keeps)

-- ---- a call that adds a change

module _ (a b : SureDisk) (c : Change) (changed : IsChangedBy c a.past b.past) where
  abbrev after : Slot → Moment
  after s = moment_after s (moment_in a.past s) c

  may_now : (s : Slot) (x : Content) → may_leave b.past s x ≡ (after s).may x
  may_now s x = ap (λ (m : Moment). m.may x) (moment_more a.past b.past c changed s)

  -- what a crash may leave now, it may have left since any earlier moment
  counted : (t : ℕ) (s : Slot) (x : Content) → t ≤ clock_of a.past → may_leave a.past s x ≡ true → might_leave a.past t s x ≡ true
  counted t s x le may = (has_moments a).earlier t (clock_of a.past) s x le (omega arith) ((has_moments a).now s x ∙ may)

  goes_on : GoesOn (disk_state a) (disk_state b)
  goes_on = record {
    later = let more : clock_of b.past ≡ clock_of a.past + 1 = ap length changed.more ∙ length-append (a.past.changes.items) (c ∷ []) in omega (arith, more);
    moments = λ t s x le.
        since_after a.past b.past c changed t s x le
        ∙ sym (or_in (might_leave a.past t s x) (might_leave a.past (clock_of a.past) s x) ((after s).may x) ((has_moments a).earlier t (clock_of a.past) s x le (omega arith)))
        ∙ ap (λ y. might_leave a.past t s x || y) (sym (since_after a.past b.past c changed (clock_of a.past) s x (omega arith)));
  }

  -- a slot for which the change does not alter what a crash may leave
  unchanged : (s : Slot) → ((x : Content) → (after s).may x ≡ may_leave a.past s x) → LeavesSame s (disk_state a) (disk_state b)
  unchanged s same = record {
    now = λ x. may_now s x ∙ same x;
    during = λ t x le. since_after a.past b.past c changed t s x le ∙ ap (λ y. might_leave a.past t s x || y) (same x) ∙ absorbed _ _ (counted t s x le);
  }

-- ---- publishing

pick : {A : Type 0} (is : Bool) (x y : A) → is ≡ false → (if is then x else y) ≡ y
pick is x y e = ap (λ b. if b then x else y) e

pick_first : {A : Type 0} (is : Bool) (x y : A) → is ≡ true → (if is then x else y) ≡ x
pick_first is x y e = ap (λ b. if b then x else y) e

module _ (a b : SureDisk) (slot : Slot) where
  module _ (file : Option Temporary) (changed : IsChangedBy (Published slot file) a.past b.past) where
    adds : LeavesMore (left_by (bytes_of file) (is_synced file)) slot (disk_state a) (disk_state b)
    adds = record {
      now = λ x. may_now a b (Published slot file) changed slot x ∙ more x;
      during = λ t x le.
          since_after a.past b.past (Published slot file) changed t slot x le ∙ ap (λ y. might_leave a.past t slot x || y) (more x)
          ∙ or_in _ _ _ (counted a b (Published slot file) changed t slot x le);
    }
      where
        more : (x : Content) → (moment_after slot (moment_in a.past slot) (Published slot file)).may x ≡ (may_leave a.past slot x || left_by (bytes_of file) (is_synced file) x)
        more x = pick_first (slot_eq slot slot) _ _ (same_slot slot)

    not_published : (s : Slot) → slot_eq s slot ≡ false → LeavesSame s (disk_state a) (disk_state b)
    not_published s other = unchanged a b (Published slot file) changed s (λ x. pick (slot_eq s slot) _ _ other)

  module _ (changed : IsChangedBy (Settled slot) a.past b.past) where
    not_settled : (s : Slot) → slot_eq s slot ≡ false → LeavesSame s (disk_state a) (disk_state b)
    not_settled s other = unchanged a b (Settled slot) changed s (λ x. pick (slot_eq s slot) _ _ other)

    settled_now : (x : Content) → may_leave b.past slot x ≡ content_eq (now_in a slot) x
    settled_now x = may_now a b (Settled slot) changed slot x ∙ pick_first (slot_eq slot slot) _ _ (same_slot slot)

module _ (a b : SureDisk) (slot : Slot) where
  -- the result of `publish`, where adding the change may fail
  pub publishes : (tag : ℕ) (result : Result (Unit {0}) Failed)
      → MatchResult result (λ _. IsChangedBy (Published slot (file_in (files_of a slot) tag)) a.past b.past) (λ _. KeepsPast a.past b.past)
      → AddsPublished tag slot (disk_state a) (disk_state b) result
  publishes tag (Ok x) change = record {
    goes_on = goes_on a b (Published slot (file_in (files_of a slot) tag)) change;
    others = not_published a b slot (file_in (files_of a slot) tag) change;
    done = adds a b slot (file_in (files_of a slot) tag) change;
    failed = tt;
  }
  publishes tag (Err x) change = adds_nothing (disk_state a) (disk_state b) slot (Err x) tag (sure_keeps_past a b change) refl

  now_of : (s : Slot) → slot_of (disk_content a).now s ≡ now_in a s
  now_of Manifest = refl
  now_of Cache = refl
  now_of Aux = refl

  -- the result of `settle`, where adding the change may fail
  pub settles : (result : Result (Unit {0}) Failed) → MatchResult result (λ _. IsChangedBy (Settled slot) a.past b.past) (λ _. KeepsPast a.past b.past)
      → Settles slot (disk_state a) (disk_state b) result
  settles (Ok x) change = record {
    goes_on = goes_on a b (Settled slot) change;
    others = not_settled a b slot change;
    during = λ t x le.
        since_after a.past b.past (Settled slot) change t slot x le
        ∙ absorbed _ _ (λ e.
        let is : content_eq (now_in a slot) x ≡ true = sym (settled_now a b slot change x) ∙ may_now a b (Settled slot) change slot x ∙ e in
        counted a b (Settled slot) change t slot x le (subst (λ (c : Content). may_leave a.past slot c ≡ true) (content_is (now_in a slot) x is) (is_sound a.past slot).now));
    done = λ x. settled_now a b slot change x ∙ ap (λ (c : Content). content_eq c x) (sym (now_of slot));
    failed = tt;
  }
  settles (Err x) change = settles_nothing (disk_state a) (disk_state b) slot (Err x) (sure_keeps_past a b change) refl

-- the same temporary files
abbrev pub SameFiles : SureDisk → SureDisk → Type 0
SameFiles a b = (s : Slot) → files_of b s ≡ files_of a s

pub same_files : (a b : SureDisk) → b.manifest ≡ a.manifest → b.cache ≡ a.cache → b.aux ≡ a.aux → SameFiles a b
same_files a b m c x Manifest = m
same_files a b m c x Cache = c
same_files a b m c x Aux = x

-- ---- contents

abbrev slots_with : Content → Content → Content → Slots
slots_with m c x = record { manifest = m; cache = c; aux = x }

module _ (a b : SureDisk) where
  slots : (m c x : Content) → now_in b Manifest ≡ m → now_in b Cache ≡ c → now_in b Aux ≡ x → (disk_content b).now ≡ record { manifest = m; cache = c; aux = x }
  slots m c x e f g =
      ap (λ (z : Content). slots_with z (now_in b Cache) (now_in b Aux)) e ∙ ap (λ (z : Content). slots_with m z (now_in b Aux)) f ∙ ap (λ (z : Content). slots_with m c z) g

  pub same_slots : KeepsPast a.past b.past → (disk_content b).now ≡ (disk_content a).now
  same_slots keeps = slots _ _ _ (same Manifest) (same Cache) (same Aux)
    where
      same : (s : Slot) → now_in b s ≡ now_in a s
      same s = ap (λ (m : Moment). m.holds.now) (kept_moment a.past b.past keeps s)

  holds_after : (c : Change) → IsChangedBy c a.past b.past → (s : Slot) → now_in b s ≡ (moment_after s (moment_in a.past s) c).holds.now
  holds_after c changed s = ap (λ (m : Moment). m.holds.now) (moment_more a.past b.past c changed s)

  pub published_slots : (slot : Slot) (file : Option Temporary) → IsChangedBy (Published slot file) a.past b.past → (disk_content b).now ≡ with_slot (disk_content a).now slot (bytes_of file)
  published_slots Manifest file changed = slots _ _ _ (holds_after (Published Manifest file) changed Manifest) (holds_after (Published Manifest file) changed Cache) (holds_after (Published Manifest file) changed Aux)
  published_slots Cache file changed = slots _ _ _ (holds_after (Published Cache file) changed Manifest) (holds_after (Published Cache file) changed Cache) (holds_after (Published Cache file) changed Aux)
  published_slots Aux file changed = slots _ _ _ (holds_after (Published Aux file) changed Manifest) (holds_after (Published Aux file) changed Cache) (holds_after (Published Aux file) changed Aux)

  pub settled_slots : (slot : Slot) → IsChangedBy (Settled slot) a.past b.past → (disk_content b).now ≡ (disk_content a).now
  settled_slots Manifest changed = slots _ _ _ (holds_after (Settled Manifest) changed Manifest) (holds_after (Settled Manifest) changed Cache) (holds_after (Settled Manifest) changed Aux)
  settled_slots Cache changed = slots _ _ _ (holds_after (Settled Cache) changed Manifest) (holds_after (Settled Cache) changed Cache) (holds_after (Settled Cache) changed Aux)
  settled_slots Aux changed = slots _ _ _ (holds_after (Settled Aux) changed Manifest) (holds_after (Settled Aux) changed Cache) (holds_after (Settled Aux) changed Aux)

  keeps_files : (now : (disk_content b).now ≡ (disk_content a).now) → SameFiles a b → Keeps (disk_content a) (disk_content b)
  keeps_files now files = record {
    slots = now;
    temporary = λ t s. ap (λ (f : Temporaries). bytes_of (file_in f t)) (files s);
    flushed = λ t s. ap (λ (f : Temporaries). is_synced (file_in f t)) (files s);
  }

  pub refuses_publishing : (tag : ℕ) (slot : Slot) → KeepsPast a.past b.past → SameFiles a b → MayPublish tag slot (disk_content a) (disk_content b)
  refuses_publishing tag slot keeps files =
      let same = keeps_files (same_slots keeps) files in
      record {
        slots = inl same.slots;
        others = record { bytes = λ t s h. same.temporary t s; flushed = λ t s h. same.flushed t s };
        unflushed = λ synced. (sym (same.flushed tag slot) ∙ synced, same.temporary tag slot);
      }

  module _ (slot : Slot) (result : Result (Unit {0}) Failed) (files : SameFiles a b) where
    -- `settle` keeps the contents, whether or not adding the change fails
    pub settles_content : MatchResult result (λ _. IsChangedBy (Settled slot) a.past b.past) (λ _. KeepsPast a.past b.past) → Keeps (disk_content a) (disk_content b)
    settles_content change = by result change
      where
        by : (r : Result (Unit {0}) Failed) → MatchResult r (λ _. IsChangedBy (Settled slot) a.past b.past) (λ _. KeepsPast a.past b.past) → Keeps (disk_content a) (disk_content b)
        by (Ok x) change = keeps_files (settled_slots slot change) files
        by (Err x) change = keeps_files (same_slots change) files

-- ---- `publish`, step by step

pub following : (p q r : Past) (c : Change) (result : Result (Unit {0}) Failed) → KeepsPast p q → MatchResult result (λ _. IsChangedBy c q r) (λ _. KeepsPast q r)
    → MatchResult result (λ _. IsChangedBy c p r) (λ _. KeepsPast p r)
following p q r c (Ok x) keeps next = record { first = λ s. next.first s ∙ keeps.first s; more = next.more ∙ ap (λ l. l ++ c ∷ []) keeps.same }
following p q r c (Err x) keeps next = record { first = λ s. next.first s ∙ keeps.first s; same = next.same ∙ keeps.same }

-- the steps of `publish`: reserve memory (m), remove the temporary file (n), add the change (b)
module _ (a m n b : SureDisk) (tag : ℕ) (slot : Slot) (file : Option Temporary) (result : Result (Unit {0}) Failed)
    (here : SameFiles a m) (room : KeepsPast a.past m.past) (taken : n.past ≡ m.past) (is : file ≡ file_in (files_of m slot) tag)
    (ended : file_in (files_of n slot) tag ≡ None)
    (others : (t : ℕ) (s : Slot) → (t == tag) && slot_eq s slot ≡ false → file_in (files_of n s) t ≡ file_in (files_of m s) t)
    (there : SameFiles n b) (change : MatchResult result (λ _. IsChangedBy (Published slot file) n.past b.past) (λ _. KeepsPast n.past b.past)) where
  pub whole_change : MatchResult result (λ _. IsChangedBy (Published slot (file_in (files_of a slot) tag)) a.past b.past) (λ _. KeepsPast a.past b.past)
  whole_change =
      let whole = following a.past m.past b.past (Published slot file) result room
      (subst (λ (p : Past). MatchResult result (λ _. IsChangedBy (Published slot file) p b.past) (λ _. KeepsPast p b.past)) taken change) in
      subst (λ (f : Option Temporary). MatchResult result (λ _. IsChangedBy (Published slot f) a.past b.past) (λ _. KeepsPast a.past b.past))
      (is ∙ ap (λ (f : Temporaries). file_in f tag) (here slot)) whole

  file_gone : file_in (files_of b slot) tag ≡ None
  file_gone = ap (λ (f : Temporaries). file_in f tag) (there slot) ∙ ended

  other_files : (t : ℕ) (s : Slot) → (t == tag) && slot_eq s slot ≡ false → file_in (files_of b s) t ≡ file_in (files_of a s) t
  other_files t s h = ap (λ (f : Temporaries). file_in f t) (there s) ∙ others t s h ∙ ap (λ (f : Temporaries). file_in f t) (here s)

  keeps_others : KeepsOthers tag slot (disk_content a) (disk_content b)
  keeps_others = record { bytes = λ t s h. ap bytes_of (other_files t s h); flushed = λ t s h. ap is_synced (other_files t s h) }

  pub publishes_file : OnOk result (Publishes tag slot (disk_content a) (disk_content b))
  publishes_file = by result whole_change
    where
      by : (r : Result (Unit {0}) Failed) → MatchResult r (λ _. IsChangedBy (Published slot (file_in (files_of a slot) tag)) a.past b.past) (λ _. KeepsPast a.past b.past)
          → OnOk r (Publishes tag slot (disk_content a) (disk_content b))
      by (Ok x) change = record { slots = published_slots a b slot (file_in (files_of a slot) tag) change; ended = ap bytes_of file_gone; others = keeps_others }
      by (Err x) change = tt

  pub may_publish_file : OnErr result (MayPublish tag slot (disk_content a) (disk_content b))
  may_publish_file = by result whole_change
    where
      by : (r : Result (Unit {0}) Failed) → MatchResult r (λ _. IsChangedBy (Published slot (file_in (files_of a slot) tag)) a.past b.past) (λ _. KeepsPast a.past b.past)
          → OnErr r (MayPublish tag slot (disk_content a) (disk_content b))
      by (Ok x) change = tt
      by (Err x) change = record { slots = inl (same_slots a b change); others = keeps_others; unflushed = λ synced. absurd (false≢true (sym (ap is_synced file_gone) ∙ synced)) }

-- ---- disks that fail on demand

module _ (a b : MemDisk) where
  pub failing_keeps : KeepsSlots (disk_state a.disk) (disk_state b.disk) → KeepsSlots (failing_disk_state a) (failing_disk_state b)
  failing_keeps keeps = record {
    goes_on = record { later = keeps.goes_on.later; moments = keeps.goes_on.moments };
    slots = λ slot. record { now = (keeps.slots slot).now; during = (keeps.slots slot).during };
  }

  failing_still : b.disk ≡ a.disk → KeepsSlots (failing_disk_state a) (failing_disk_state b)
  failing_still e = failing_keeps (sure_keeps a.disk b.disk (ap (λ (d : SureDisk). d.past) e))

  pub failing_same : b.disk ≡ a.disk → KeepsSlots (failing_disk_state a) (failing_disk_state b)
  failing_same e = failing_still e

  module _ (slot : Slot) (result : Result (Unit {0}) Failed) where
    pub failing_adds : (tag : ℕ) → AddsPublished tag slot (disk_state a.disk) (disk_state b.disk) result → AddsPublished tag slot (failing_disk_state a) (failing_disk_state b) result
    failing_adds tag adds = by result adds
      where
        by : (r : Result (Unit {0}) Failed) → AddsPublished tag slot (disk_state a.disk) (disk_state b.disk) r → AddsPublished tag slot (failing_disk_state a) (failing_disk_state b) r
        by (Ok x) adds = record {
          goes_on = record { later = adds.goes_on.later; moments = adds.goes_on.moments };
          others = λ s h. record { now = (adds.others s h).now; during = (adds.others s h).during };
          done = record { now = adds.done.now; during = adds.done.during };
          failed = tt;
        }
        by (Err x) adds = record {
          goes_on = record { later = adds.goes_on.later; moments = adds.goes_on.moments };
          others = λ s h. record { now = (adds.others s h).now; during = (adds.others s h).during };
          done = tt;
          failed = record { now = adds.failed.now; during = adds.failed.during };
        }

    pub failing_settles : Settles slot (disk_state a.disk) (disk_state b.disk) result → Settles slot (failing_disk_state a) (failing_disk_state b) result
    failing_settles settles = by result settles
      where
        by : (r : Result (Unit {0}) Failed) → Settles slot (disk_state a.disk) (disk_state b.disk) r → Settles slot (failing_disk_state a) (failing_disk_state b) r
        by (Ok x) settles = record {
          goes_on = record { later = settles.goes_on.later; moments = settles.goes_on.moments };
          others = λ s h. record { now = (settles.others s h).now; during = (settles.others s h).during };
          during = settles.during;
          done = settles.done;
          failed = tt;
        }
        by (Err x) settles = record {
          goes_on = record { later = settles.goes_on.later; moments = settles.goes_on.moments };
          others = λ s h. record { now = (settles.others s h).now; during = (settles.others s h).during };
          during = settles.during;
          done = tt;
          failed = record { now = settles.failed.now; during = settles.failed.during };
        }

    pub failing_adds_nothing : (tag : ℕ) → b.disk ≡ a.disk → is_err result ≡ true → AddsPublished tag slot (failing_disk_state a) (failing_disk_state b) result
    failing_adds_nothing tag e failed = adds_nothing (failing_disk_state a) (failing_disk_state b) slot result tag (failing_still e) failed

    pub failing_settles_nothing : b.disk ≡ a.disk → is_err result ≡ true → Settles slot (failing_disk_state a) (failing_disk_state b) result
    failing_settles_nothing e failed = settles_nothing (failing_disk_state a) (failing_disk_state b) slot result (failing_still e) failed

-- ---- disks at rest

module _ (d : SureDisk) (none : changes_of d.past ≡ []) (files : (s : Slot) (t : ℕ) → file_in (files_of d s) t ≡ None) where
  first : (s : Slot) (b : Content) → may_leave d.past s b ≡ content_eq (now_in d s) b
  first s b = subst (λ (m : Moment). m.may b ≡ content_eq m.holds.now b) (sym (ap (last_moment s (first_moment d.past s)) none)) refl

  pub at_rest_by : IsAtRest (disk_state d)
  at_rest_by = record { made = λ t s. ap (λ f. is_some (bytes_of f)) (files s t); temporary = λ t s. ap bytes_of (files s t); flushed = flushed }
    where
      flushed : (s : Slot) (b : Content) → may_leave d.past s b ≡ content_eq (slot_of (disk_content d).now s) b
      flushed Manifest = first Manifest
      flushed Cache = first Cache
      flushed Aux = first Aux

pub at_rest : (d : SureDisk) → changes_of d.past ≡ [] → ((t : ℕ) → file_in d.manifest t ≡ None) → ((t : ℕ) → file_in d.cache t ≡ None) → ((t : ℕ) → file_in d.aux t ≡ None) → IsAtRest (disk_state d)
at_rest d none m c x = at_rest_by d none files
  where
    files : (s : Slot) (t : ℕ) → file_in (files_of d s) t ≡ None
    files Manifest = m
    files Cache = c
    files Aux = x

pub failing_at_rest : (d : MemDisk) → IsAtRest (disk_state d.disk) → IsAtRest (failing_disk_state d)
failing_at_rest d rest = record { made = rest.made; temporary = rest.temporary; flushed = rest.flushed }

-- ---- images

module _ (a b : MemDisk) (choice : ℕ) where
  -- the slots of an image, one by one
  pub left_by_bits : (failing_disk_content b).now.manifest ≡ left_by_choice a choice Manifest → (failing_disk_content b).now.cache ≡ left_by_choice a choice Cache
      → (failing_disk_content b).now.aux ≡ left_by_choice a choice Aux → (slot : Slot) → slot_of (failing_disk_content b).now slot ≡ left_by_choice a choice slot
  left_by_bits m c x Manifest = m
  left_by_bits m c x Cache = c
  left_by_bits m c x Aux = x

  pub image_by : IsAtRest (failing_disk_state b) → ((slot : Slot) → slot_of (failing_disk_content b).now slot ≡ left_by_choice a choice slot) → IsImage (failing_disk_state a) (failing_disk_state b)
  image_by rest slots = record { rest = rest; allowed = λ slot. ap (may_leave a.disk.past slot) (slots slot) ∙ allowed slot (counts_as_done choice slot) }
    where
      allowed : (slot : Slot) (done : Bool) → may_leave a.disk.past slot (left_in a.disk.past slot done) ≡ true
      allowed slot true = (is_sound a.disk.past slot).now
      allowed slot false = (is_sound a.disk.past slot).settled
