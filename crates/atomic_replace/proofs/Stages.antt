-- The state of a disk between two calls of a replacement.
use Rattle.std.proofs.Common.{◌≡◌, ◌-◌, ◌≤◌, ◌||◌, ℕ, Bool, true, false, arith, List, [], ◌∷◌, ◌++◌, length, take, drop, Option, Some, None, refl, sym, ap, subst, ◌∙◌, inl, inr, Result, Ok, Err}
use Rattle.std.specs.Option.{IfSome, option_map}
use Rattle.std.specs.Result.{OnOk}
use Rattle.std.proofs.lemmas.Bool.{false≢true}
use Rattle.tree_face.proofs.Crash.{at_most_by, at_most_on, goes_on_on, leaves_written, more_by, more_on, others_on, same_on, slot_is}
use Rattle.tree_face.proofs.Follows.{follow}
use Rattle.tree_face.proofs.Known.{relates_on}
use Rattle.tree_face.specs.Calls.{replacement}
use Rattle.tree_face.specs.declared.disk.Call.{Call}
use Rattle.tree_face.specs.declared.disk.Call.TheVariants.{Create, Append, Sync, Publish, Settle}
use Rattle.tree_face.specs.declared.disk.DoneCall.{DoneCall}
use Rattle.lib_types.specs.declared.fault.Failed.{Failed}
use Rattle.tree_face.specs.declared.disk.Slot.{Slot}
use Rattle.tree_face.specs.declared.disk.Slot.TheVariants.{Manifest, Cache, Aux}
use Rattle.tree_face.specs.declared.disk.Tag.{Tag}
use Rattle.tree_face.specs.Crash.{GoesOn, HasMoments, LeavesAtMost, LeavesMore, LeavesOthers, LeavesSame, left_by, published}
use Rattle.tree_face.specs.Disk.{Content, DiskContent, DiskState, Keeps, KeepsOthers, KeepsOthersMade, Slots, Touches, content_eq, slot_eq, slot_of, with_slot}
use Rattle.tree_face.specs.Follows.{IsFollowedBy, IsFollowedByPart}
use Rattle.tree_face.specs.Known.{IfKnown, IsSame, Relates}
use Rattle.atomic_replace.proofs.Calls.{stop}
use Rattle.atomic_replace.specs.declared.fault.DiskFault.{DiskFault}
use Rattle.atomic_replace.specs.Order.{calls_from, needs_file, next_of}
use Rattle.atomic_replace.specs.Replace.{FailsToWrite, IsWritten, MayReplaceSlot, ReplacesSlot, StopsAt, Write, WritesSlot, call_by, comes_before_publish}
use Rattle.atomic_replace.specs.Step.{LeftBy, MadeBy, Makes, Replacement, change_of, failure_of}

-- the temporary file has these bytes, and the slots are unchanged
pub record Holds (tag : ℕ) (slot : Slot) (bytes : List ℕ) (a b : DiskContent) : Type 0 where
  pub touches : Touches tag slot a b
  pub holds : b.temporary tag slot ≡ Some bytes

-- the same, and the temporary file is flushed
pub record HoldsFlushed (tag : ℕ) (slot : Slot) (bytes : List ℕ) (a b : DiskContent) : Type 0 where
  pub holds : Holds tag slot bytes a b
  pub flushed : b.synced tag slot ≡ true

-- the contents when this call is next
abbrev pub Before : ℕ → Write → Option Call → DiskContent → DiskContent → Type 0
Before tag write None = ReplacesSlot tag write
Before tag write (Some Create) = IsSame
Before tag write (Some Append) = Holds tag write.0 []
Before tag write (Some Sync) = Holds tag write.0 write.1
Before tag write (Some Publish) = HoldsFlushed tag write.0 write.1
Before tag write (Some Settle) = ReplacesSlot tag write

-- the calls made before this one
abbrev pub calls_before : Tag → Slot → Option Call → List DoneCall
calls_before tag slot next = take (5 - length (calls_from next)) (replacement tag slot)

abbrev pub after : Call → Option Call
after call = next_of (drop 1 (calls_from (Some call)))

-- the slot's name is flushed
pub record Ended (write : Write) (old new : DiskState) : Type 0 where
  pub during : (t : ℕ) (b : Content) → t ≤ old.time → new.since t write.0 b ≡ (old.since t write.0 b || content_eq (Some write.1) b)
  pub now : (b : Content) → new.may write.0 b ≡ content_eq (Some write.1) b

-- the contents of the slot after a crash when this call is next
abbrev pub LeftBefore : Write → Option Call → DiskState → DiskState → Type 0
LeftBefore write None old new = IfKnown old.contents (λ _. Ended write old new)
LeftBefore write (Some Create) old new = LeavesSame write.0 old new
LeftBefore write (Some Append) old new = LeavesSame write.0 old new
LeftBefore write (Some Sync) old new = LeavesSame write.0 old new
LeftBefore write (Some Publish) old new = LeavesSame write.0 old new
LeftBefore write (Some Settle) old new = IfKnown old.contents (λ _. LeavesMore (content_eq (Some write.1)) write.0 old new)

-- the state of the disk when this call is next
pub record HasReached (tag : Tag) (write : Write) (next : Option Call) (old new : DiskState) : Type 0 where
  pub contents : Relates (Before tag.0 write next) old.contents new.contents
  pub calls : Relates (IsFollowedBy (calls_before tag write.0 next)) old.calls new.calls
  pub file : IfSome next (λ call. needs_file call ≡ true → new.made tag.0 write.0 ≡ true)
  pub made : KeepsOthersMade tag.0 write.0 old new
  pub reads : new.reads ≡ old.reads
  pub faults : new.faults ≡ old.faults
  pub read_faults : new.read_faults ≡ old.read_faults
  pub goes_on : GoesOn old new
  pub others : LeavesOthers write.0 old new
  pub left : LeftBefore write next old new

-- this call is made, if there is one
abbrev pub MakesNext : Tag → Write → Option Call → DiskState → DiskState → Result Bool DiskFault → Type 0
MakesNext tag write next old new result = IfSome next (λ call. Makes tag write call old new result)

-- ---- contents

module _ (tag : ℕ) (write : Write) (a b c : DiskContent) where
  files_on : KeepsOthers tag write.0 a b → KeepsOthers tag write.0 b c → KeepsOthers tag write.0 a c
  files_on first next = record { bytes = λ t s h. next.bytes t s h ∙ first.bytes t s h; flushed = λ t s h. next.flushed t s h ∙ first.flushed t s h }

  touch_on : Touches tag write.0 a b → Touches tag write.0 b c → Touches tag write.0 a c
  touch_on first next = record { slots = next.slots ∙ first.slots; others = files_on first.others next.others }

  keeps_others : Keeps b c → KeepsOthers tag write.0 b c
  keeps_others keeps = record { bytes = λ t s h. keeps.temporary t s; flushed = λ t s h. keeps.flushed t s }

  changes : (call : Call) → Before tag write (Some call) a b → change_of tag write call b c → Before tag write (after call) a c
  changes Create first next = record { touches = subst (λ (d : DiskContent). Touches tag write.0 d c) first next.touches; holds = next.empty }
  changes Append first next = record { touches = touch_on first.touches next.touches; holds = next.more ∙ ap (option_map (λ (l : List ℕ). l ++ write.1)) first.holds }
  changes Sync first next = record { holds = record { touches = touch_on first.touches next.touches; holds = next.same ∙ first.holds }; flushed = next.flushed }
  changes Publish first next = record {
    slots = next.slots ∙ ap (λ s. with_slot s write.0 (b.temporary tag write.0)) first.holds.touches.slots ∙ ap (λ f. with_slot a.now write.0 f) first.holds.holds;
    ended = next.ended;
    others = files_on first.holds.touches.others next.others;
  }
  changes Settle first next = record {
    slots = next.slots ∙ first.slots;
    ended = next.temporary tag write.0 ∙ first.ended;
    others = files_on first.others (keeps_others next);
  }

  unchanged : Touches tag write.0 a c → MayReplaceSlot tag write a c
  unchanged touches = record { slots = inl touches.slots; others = touches.others }

  -- a call before the rename
  touched : (call : Call) → comes_before_publish call ≡ true → Before tag write (Some call) a b → failure_of tag write call b c → Touches tag write.0 a c
  touched Create is first next = subst (λ (d : DiskContent). Touches tag write.0 d c) first next.touches
  touched Append is first next = touch_on first.touches next.touches
  touched Sync is first next = touch_on first.touches next.touches
  touched Publish is first next = absurd (false≢true is)
  touched Settle is first next = absurd (false≢true is)

  failures : (call : Call) → Before tag write (Some call) a b → failure_of tag write call b c → MayReplaceSlot tag write a c
  failures Create first next = unchanged (touched Create refl first next)
  failures Append first next = unchanged (touched Append refl first next)
  failures Sync first next = unchanged (touched Sync refl first next)
  failures Publish first next = record {
    slots = elim next.slots [
      | inl e ↦ inl (e ∙ first.holds.touches.slots)
      | inr e ↦ inr (e ∙ ap (λ s. with_slot s write.0 (b.temporary tag write.0)) first.holds.touches.slots ∙ ap (λ f. with_slot a.now write.0 f) first.holds.holds)
    ];
    others = files_on first.holds.touches.others next.others;
  }
  failures Settle first next = record { slots = inr (next.slots ∙ first.slots); others = files_on first.others (keeps_others next) }

-- ---- what a crash leaves

flushed_only : (temporary : Content) (synced : Bool) (bytes : List ℕ) → temporary ≡ Some bytes → synced ≡ true → (b : Content) → left_by temporary synced b ≡ content_eq (Some bytes) b
flushed_only temporary synced bytes holds flushed b =
    ap (λ (c : Content). left_by c synced b) holds ∙ ap (λ s. left_by (Some bytes) s b) flushed ∙ or_none (content_eq (Some bytes) b)
  where
    or_none : (x : Bool) → (x || false) ≡ x
    or_none true = refl
    or_none false = refl

of_with : (s : Slots) (slot : Slot) (c : Content) → slot_of (with_slot s slot c) slot ≡ c
of_with s Manifest c = refl
of_with s Cache c = refl
of_with s Aux c = refl

module _ (tag : ℕ) (write : Write) (old middle new : DiskState) (later : old.time ≤ middle.time) where
  others_by : (call : Call) (r : Result (Unit {0}) Failed) → LeftBy tag write.0 call middle new r → LeavesOthers write.0 middle new
  others_by Create r keeps = λ s h. keeps.slots s
  others_by Append r keeps = λ s h. keeps.slots s
  others_by Sync r keeps = λ s h. keeps.slots s
  others_by Publish r adds = adds.others
  others_by Settle r settles = settles.others

  time_by : (call : Call) (r : Result (Unit {0}) Failed) → LeftBy tag write.0 call middle new r → GoesOn middle new
  time_by Create r keeps = keeps.goes_on
  time_by Append r keeps = keeps.goes_on
  time_by Sync r keeps = keeps.goes_on
  time_by Publish r adds = adds.goes_on
  time_by Settle r settles = settles.goes_on

  -- the rename of a flushed file
  published_on : (a b : Option DiskContent) → Relates (Before tag write (Some Publish)) a b → LeavesSame write.0 old middle
      → IfKnown b (λ c. LeavesMore (published c tag write.0) write.0 middle new) → IfKnown a (λ _. LeavesMore (content_eq (Some write.1)) write.0 old new)
  published_on None None holds same adds = tt
  published_on None (Some b) holds same adds = absurd holds
  published_on (Some a) None holds same adds = absurd holds
  published_on (Some a) (Some b) holds same adds =
      more_by write.0 old new (published b tag write.0) (content_eq (Some write.1)) (flushed_only (b.temporary tag write.0) (b.synced tag write.0) write.1 holds.holds.holds holds.flushed)
      (more_on old middle new later (published b tag write.0) write.0 same adds)

  may_publish_on : (a b : Option DiskContent) → Relates (Before tag write (Some Publish)) a b → LeavesSame write.0 old middle
      → IfKnown b (λ c. LeavesAtMost (published c tag write.0) write.0 middle new) → IfKnown a (λ _. LeavesAtMost (content_eq (Some write.1)) write.0 old new)
  may_publish_on None None holds same adds = tt
  may_publish_on None (Some b) holds same adds = absurd holds
  may_publish_on (Some a) None holds same adds = absurd holds
  may_publish_on (Some a) (Some b) holds same adds =
      at_most_by write.0 old new (published b tag write.0) (content_eq (Some write.1)) (flushed_only (b.temporary tag write.0) (b.synced tag write.0) write.1 holds.holds.holds holds.flushed)
      (at_most_on old middle new later (published b tag write.0) write.0 same adds)

  -- the flush of a renamed file's name
  settled_on : (a b : Option DiskContent) → Relates (ReplacesSlot tag write) a b → IfKnown a (λ _. LeavesMore (content_eq (Some write.1)) write.0 old middle)
      → ((t : ℕ) (x : Content) → t ≤ middle.time → new.since t write.0 x ≡ middle.since t write.0 x)
      → IfKnown b (λ c. (x : Content) → new.may write.0 x ≡ content_eq (slot_of c.now write.0) x) → IfKnown a (λ _. Ended write old new)
  settled_on None None holds more during done = tt
  settled_on None (Some b) holds more during done = absurd holds
  settled_on (Some a) None holds more during done = absurd holds
  settled_on (Some a) (Some b) holds more during done = record {
    during = λ t x le. during t x (omega (arith, le, later)) ∙ more.during t x le;
    now = λ x. done x ∙ ap (λ (c : Content). content_eq c x) (ap (λ (s : Slots). slot_of s write.0) holds.slots ∙ of_with a.now write.0 (Some write.1));
  }

  left_on : (call : Call) → Relates (Before tag write (Some call)) old.contents middle.contents → LeftBefore write (Some call) old middle → LeftBy tag write.0 call middle new (Ok tt)
      → LeftBefore write (after call) old new
  left_on Create holds same keeps = same_on old middle new later write.0 same (keeps.slots write.0)
  left_on Append holds same keeps = same_on old middle new later write.0 same (keeps.slots write.0)
  left_on Sync holds same keeps = same_on old middle new later write.0 same (keeps.slots write.0)
  left_on Publish holds same adds = published_on old.contents middle.contents holds same adds.done
  left_on Settle holds more settles = settled_on old.contents middle.contents holds more settles.during settles.done

  at_most_same : LeavesSame write.0 old new → (a : Option DiskContent) → IfKnown a (λ _. LeavesAtMost (content_eq (Some write.1)) write.0 old new)
  at_most_same same None = tt
  at_most_same same (Some a) = record { now = λ x may. or_before _ _ (sym (same.now x) ∙ may); during = λ t x le since. or_before _ _ (sym (same.during t x le) ∙ since) }
    where
      or_before : (x y : Bool) → x ≡ true → (x || y) ≡ true
      or_before true y e = refl
      or_before false y e = absurd (false≢true e)

  more_then : (a : Option DiskContent) → IfKnown a (λ _. LeavesMore (content_eq (Some write.1)) write.0 old middle) → LeavesSame write.0 middle new
      → IfKnown a (λ _. LeavesAtMost (content_eq (Some write.1)) write.0 old new)
  more_then None more same = tt
  more_then (Some a) more same = record {
    now = λ x may. sym (more.now x) ∙ sym (same.now x) ∙ may;
    during = λ t x le since. sym (more.during t x le) ∙ sym (same.during t x (omega (arith, le, later))) ∙ since;
  }

  -- a failed call
  most_left : (call : Call) → Relates (Before tag write (Some call)) old.contents middle.contents → LeftBefore write (Some call) old middle → LeftBy tag write.0 call middle new (Err (record {}))
      → IfKnown old.contents (λ _. LeavesAtMost (content_eq (Some write.1)) write.0 old new)
  most_left Create holds same keeps = at_most_same (same_on old middle new later write.0 same (keeps.slots write.0)) old.contents
  most_left Append holds same keeps = at_most_same (same_on old middle new later write.0 same (keeps.slots write.0)) old.contents
  most_left Sync holds same keeps = at_most_same (same_on old middle new later write.0 same (keeps.slots write.0)) old.contents
  most_left Publish holds same adds = may_publish_on old.contents middle.contents holds same adds.failed
  most_left Settle holds more settles = more_then old.contents more settles.failed

  untouched_by : (call : Call) → comes_before_publish call ≡ true → LeftBefore write (Some call) old middle → LeftBy tag write.0 call middle new (Err (record {})) → LeavesSame write.0 old new
  untouched_by Create is same keeps = same_on old middle new later write.0 same (keeps.slots write.0)
  untouched_by Append is same keeps = same_on old middle new later write.0 same (keeps.slots write.0)
  untouched_by Sync is same keeps = same_on old middle new later write.0 same (keeps.slots write.0)
  untouched_by Publish is same keeps = absurd (false≢true is)
  untouched_by Settle is same keeps = absurd (false≢true is)

-- no slot changes
slots_by : (slot : Slot) (old new : DiskState) → LeavesSame slot old new → LeavesOthers slot old new → (here : Bool) (s : Slot) → slot_eq s slot ≡ here → LeavesSame s old new
slots_by slot old new same others true s e = subst (λ (s : Slot). LeavesSame s old new) (sym (slot_is s slot e)) same
slots_by slot old new same others false s e = others s e

ended_most : (write : Write) (old new : DiskState) (a : Option DiskContent) → IfKnown a (λ _. Ended write old new)
    → IfKnown a (λ _. LeavesAtMost (content_eq (Some write.1)) write.0 old new)
ended_most write old new None ended = tt
ended_most write old new (Some a) ended = record {
  now = λ b may. or_after _ _ (sym (ended.now b) ∙ may);
  during = λ t b le since. sym (ended.during t b le) ∙ since;
}
  where
    or_after : (x y : Bool) → y ≡ true → (x || y) ≡ true
    or_after true y e = refl
    or_after false y e = e

ended_alone : (tag : ℕ) (write : Write) (old new : DiskState) (a b : Option DiskContent) → Relates (ReplacesSlot tag write) a b → IfKnown a (λ _. Ended write old new)
    → IfKnown b (λ _. (x : Content) → new.may write.0 x ≡ content_eq (Some write.1) x)
ended_alone tag write old new None None replaces ended = tt
ended_alone tag write old new None (Some b) replaces ended = absurd replaces
ended_alone tag write old new (Some a) None replaces ended = absurd replaces
ended_alone tag write old new (Some a) (Some b) replaces ended = ended.now

-- ---- calls

module _ (tag : Tag) (slot : Slot) where
  made_to : (call : Call) → calls_before tag slot (Some call) ++ call_by tag slot call ∷ [] ≡ calls_before tag slot (after call)
  made_to Create = refl
  made_to Append = refl
  made_to Sync = refl
  made_to Publish = refl
  made_to Settle = refl

  made_and_left : (call : Call) → (rest : List DoneCall) × (calls_before tag slot (Some call) ++ call_by tag slot call ∷ rest ≡ replacement tag slot)
  made_and_left Create = (_, refl)
  made_and_left Append = (_, refl)
  made_and_left Sync = (_, refl)
  made_and_left Publish = (_, refl)
  made_and_left Settle = (_, refl)

  stops : (call : Call) (a b c : List DoneCall) → IsFollowedBy (calls_before tag slot (Some call)) a b → IsFollowedByPart (call_by tag slot call ∷ []) b c
      → StopsAt (call_by tag slot call) (replacement tag slot) a c
  stops call a b c first last =
      let (rest, all) = made_and_left call in
      subst (λ (calls : List DoneCall). StopsAt (call_by tag slot call) calls a c) all (stop (calls_before tag slot (Some call)) (call_by tag slot call) rest a b c first last)

-- ---- the whole disk

module _ (tag : Tag) (write : Write) (old : DiskState) (laws : HasMoments old) where
  module _ (new : DiskState) where
    pub ends : HasReached tag write None old new → WritesSlot tag write old new
    ends s = record {
      contents = s.contents;
      calls = s.calls;
      reads = s.reads;
      faults = s.faults;
      read_faults = s.read_faults;
      leaves = leaves_written write.0 (Some write.1) (IsWritten write) (refl, refl) old new laws s.goes_on.later s.others (ended_most write old new old.contents s.left);
      settled = ended_alone tag.0 write old new old.contents new.contents s.contents s.left;
      goes_on = s.goes_on;
      others = s.others;
    }

  module _ (middle new : DiskState) where
    made_on : {A E : Type 0} → (call : Call) (result : Result A E) → KeepsOthersMade tag.0 write.0 old middle → MadeBy tag.0 write.0 call middle new result → KeepsOthersMade tag.0 write.0 old new
    made_on Create result first next = λ t s h. next.1 t s h ∙ first t s h
    made_on Append result first next = λ t s h. next t s ∙ first t s h
    made_on Sync result first next = λ t s h. next t s ∙ first t s h
    made_on Publish result first next = λ t s h. next t s h ∙ first t s h
    made_on Settle result first next = λ t s h. next t s ∙ first t s h

    file_on : (call : Call) (result : Result Bool DiskFault) (x : Bool) → result ≡ Ok x → HasReached tag write (Some call) old middle → MadeBy tag.0 write.0 call middle new result
        → IfSome (after call) (λ next. needs_file next ≡ true → new.made tag.0 write.0 ≡ true)
    file_on Create result x is s made = λ e. subst (λ (r : Result Bool DiskFault). OnOk r (new.made tag.0 write.0 ≡ true)) is made.0
    file_on Append result x is s made = λ e. made tag.0 write.0 ∙ s.file refl
    file_on Sync result x is s made = λ e. made tag.0 write.0 ∙ s.file refl
    file_on Publish result x is s made = λ e. absurd (cc)
    file_on Settle result x is s made = tt

    goes_on : (call : Call) (x : Bool) → HasReached tag write (Some call) old middle → MakesNext tag write (Some call) middle new (Ok x) → HasReached tag write (after call) old new
    goes_on call x s m = record {
      contents = relates_on _ _ _ (λ a b c first next. changes tag.0 write a b c call first next) _ _ _ s.contents m.does.done;
      calls = rw (← made_to tag write.0 call) (relates_on _ _ _ (follow (calls_before tag write.0 (Some call)) (call_by tag write.0 call ∷ [])) _ _ _ s.calls m.does.added);
      file = file_on call (Ok x) x refl s m.made;
      made = made_on call (Ok x) s.made m.made;
      reads = m.does.reads ∙ s.reads;
      faults = m.does.no_fault ∙ s.faults;
      read_faults = m.does.read_faults ∙ s.read_faults;
      goes_on = goes_on_on old middle new s.goes_on (time_by tag.0 write old middle new s.goes_on.later call (Ok tt) m.crash);
      others = others_on old middle new s.goes_on.later write.0 s.others (others_by tag.0 write old middle new s.goes_on.later call (Ok tt) m.crash);
      left = left_on tag.0 write old middle new s.goes_on.later call s.contents s.left m.crash;
    }

    fails_at : (call : Call) (e : DiskFault) → HasReached tag write (Some call) old middle → MakesNext tag write (Some call) middle new (Err e)
        → FailsToWrite tag write (record { call = call; slot = write.0 }) old new
    fails_at call e s m =
        let time = goes_on_on old middle new s.goes_on (time_by tag.0 write old middle new s.goes_on.later call (Err (record {})) m.crash) in
        let others = others_on old middle new s.goes_on.later write.0 s.others (others_by tag.0 write old middle new s.goes_on.later call (Err (record {})) m.crash) in
        record {
          slot = refl;
          contents = relates_on _ _ _ (λ a b c first next. failures tag.0 write a b c call first next) _ _ _ s.contents m.does.failed;
          calls = relates_on _ _ _ (stops tag write.0 call) _ _ _ s.calls m.does.may_add;
          reads = m.does.reads ∙ s.reads;
          faults = rw (← s.faults) m.does.cause;
          read_faults = m.does.read_faults ∙ s.read_faults;
          leaves = leaves_written write.0 (Some write.1) (IsWritten write) (refl, refl) old new laws time.later others (most_left tag.0 write old middle new s.goes_on.later call s.contents s.left m.crash);
          goes_on = time;
          others = others;
          unpublished = λ is. relates_on _ _ _ (λ a b c first next. touched tag.0 write a b c call is first next) _ _ _ s.contents m.does.failed;
          untouched = λ is. record {
            goes_on = time;
            slots = λ slot. slots_by write.0 old new (untouched_by tag.0 write old middle new s.goes_on.later call is s.left m.crash) others (slot_eq slot write.0) slot refl;
          };
        }

-- ---- a step of an updater

suffix : (call : Call) → drop 1 (calls_from (Some call)) ≡ calls_from (after call)
suffix Create = refl
suffix Append = refl
suffix Sync = refl
suffix Publish = refl
suffix Settle = refl

-- r is the updater at the start, u is the updater before the step
module _ (r u : Replacement) (old middle new : DiskState) (laws : HasMoments old) (same : u ≡ record r { left = u.left }) (reached : HasReached r.tag r.write (next_of u.left) old middle) where
  -- a call was made
  pub step_on : (left : List Call) (x : Bool) → u.left ≡ calls_from (next_of u.left) → (u.left ≡ [] → ⊥) → left ≡ drop 1 u.left
      → MakesNext u.tag u.write (next_of u.left) middle new (Ok x)
      → (left ≡ calls_from (next_of left)) × HasReached r.tag r.write (next_of left) old new
  step_on left x calls some rest makes = by (next_of u.left) calls (subst (λ (w : Replacement). MakesNext w.tag w.write (next_of u.left) middle new (Ok x)) same makes) reached
    where
      by : (next : Option Call) → u.left ≡ calls_from next → MakesNext r.tag r.write next middle new (Ok x) → HasReached r.tag r.write next old middle
          → (left ≡ calls_from (next_of left)) × HasReached r.tag r.write (next_of left) old new
      by None calls makes s = absurd (some calls)
      by (Some call) calls makes s =
          let is : left ≡ drop 1 (calls_from (Some call)) = rest ∙ ap (drop 1) calls in
          subst (λ (l : List Call). (l ≡ calls_from (next_of l)) × HasReached r.tag r.write (next_of l) old new) (sym is) (suffix call, goes_on r.tag r.write old laws middle new call x s makes)

  -- a call failed
  pub step_fails : (fault : DiskFault) → next_of u.left ≡ Some fault.call → fault.slot ≡ u.write.0
      → MakesNext u.tag u.write (next_of u.left) middle new (Err fault) → FailsToWrite r.tag r.write fault old new
  step_fails fault next slot makes =
      let there = subst (λ (w : Replacement). MakesNext w.tag w.write (next_of u.left) middle new (Err fault)) same makes in
      let call = subst (λ (n : Option Call). MakesNext r.tag r.write n middle new (Err fault)) next there in
      let s = subst (λ (n : Option Call). HasReached r.tag r.write n old middle) next reached in
      subst (λ (s : Slot). FailsToWrite r.tag r.write (record { call = fault.call; slot = s }) old new) (sym (slot ∙ ap (λ (w : Replacement). w.write.0) same))
      (fails_at r.tag r.write old laws middle new fault.call fault s call)

pub still : (r u v : Replacement) (left : List Call) → u ≡ record r { left = u.left } → v ≡ record u { left = left } → v ≡ record r { left = v.left }
still r u v left same is = subst (λ (w : Replacement). w ≡ record r { left = w.left }) (sym is) (ap (λ (w : Replacement). record w { left = left }) same)
