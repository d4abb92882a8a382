-- Disks in memory meet the laws of a disk's clock.
use Rattle.std.specs.Prelude.{◌≡◌, ◌≤◌, ◌||◌, ℕ, zero, suc, Bool, true, false, is_some, List, [], ◌∷◌, length, drop, Some, None, if◌then◌else◌}
use Rattle.std.specs.List.{list_any}
use Rattle.std.specs.Cmp.Lexicographic.{nat_list_eq_equiv, options_equiv}
use mathlib.Core.Path.{refl, sym, ap, subst}
use mathlib.Core.Bool.{false≢true}
use Rattle.std.proofs.Math.Nat.{le_of_suc-le-suc, not-suc-le-zero}
use Rattle.tree_face.specs.declared.disk.Slot.{Slot}
use Rattle.tree_face.specs.declared.disk.Slot.TheVariants.{Manifest, Cache, Aux}
use Rattle.tree_face.specs.declared.memory.disks.MemDisk.{MemDisk}
use Rattle.tree_face.specs.declared.memory.disks.SureDisk.{SureDisk}
use Rattle.tree_face.specs.declared.memory.past.Change.{Change}
use Rattle.tree_face.specs.declared.memory.past.Change.TheVariants.{Published, Settled}
use Rattle.tree_face.specs.declared.memory.past.Past.{Past}
use Rattle.tree_face.specs.Crash.{HasMoments, left_by}
use Rattle.tree_face.specs.Disk.{Content, content_eq, slot_eq, slot_of}
use Rattle.tree_face.specs.Past.{Moment, changes_of, first_moment, first_of, last_moment, may_leave, moment_after, moment_in, moments}
use Rattle.tree_face.specs.SureDisk.{disk_content, disk_state, failing_disk_state}
use Rattle.tree_face.specs.Temporaries.{bytes_of, is_synced}

or_right : (a b : Bool) → b ≡ true → (a || b) ≡ true
or_right true b e = refl
or_right false b e = e

or_left : (a b : Bool) → a ≡ true → (a || b) ≡ true
or_left true b e = refl
or_left false b e = absurd (false≢true e)

or_none : (a : Bool) → (a || false) ≡ a
or_none true = refl
or_none false = refl

pub same_content : (c : Content) → content_eq c c ≡ true
same_content c = (options_equiv nat_list_eq_equiv).refl c

-- ---- moments

module _ {A : Type 0} (test : A → Bool) where
  -- the items from an index on are among the items from an earlier index on
  any_before : (u : ℕ) (l : List A) → list_any test (drop u l) ≡ true → list_any test l ≡ true
  any_before zero l any = any
  any_before (suc u) [] any = any
  any_before (suc u) (x ∷ l) any = or_right (test x) (list_any test l) (any_before u l any)

  any_earlier : (t u : ℕ) (l : List A) → t ≤ u → list_any test (drop u l) ≡ true → list_any test (drop t l) ≡ true
  any_earlier zero u l le any = any_before u l any
  any_earlier (suc t) zero l le any = absurd (not-suc-le-zero le)
  any_earlier (suc t) (suc u) [] le any = any
  any_earlier (suc t) (suc u) (x ∷ l) le any = any_earlier t u l (le_of_suc-le-suc le) any

module _ (slot : Slot) where
  -- after all changes only the last moment is left
  any_last : (b : Content) (m : Moment) (cs : List Change) → list_any (λ m. m.may b) (drop (length cs) (moments slot m cs)) ≡ (last_moment slot m cs).may b
  any_last b m [] = or_none (m.may b)
  any_last b m (c ∷ cs) = any_last b (moment_after slot m c) cs

  -- a crash may leave the slot's current content, and its content when it was last flushed
  pub record IsSound (m : Moment) : Type 0 where
    pub now : m.may m.holds.now ≡ true
    pub settled : m.may m.holds.settled ≡ true

  sound_after : (m : Moment) (c : Change) → IsSound m → IsSound (moment_after slot m c)
  sound_after m (Published s file) sound = by (slot_eq slot s)
    where
      by : (is : Bool) → IsSound (record {
        holds = if is then record { now = bytes_of file; settled = m.holds.settled } else m.holds;
        may = λ b. if is then m.may b || left_by (bytes_of file) (is_synced file) b else m.may b;
      })
      by true = record { now = or_right (m.may (bytes_of file)) _ (or_left _ _ (same_content (bytes_of file))); settled = or_left _ _ sound.settled }
      by false = sound
  sound_after m (Settled s) sound = by (slot_eq slot s)
    where
      by : (is : Bool) → IsSound (record {
        holds = if is then record { now = m.holds.now; settled = m.holds.now } else m.holds;
        may = λ b. if is then content_eq m.holds.now b else m.may b;
      })
      by true = record { now = same_content m.holds.now; settled = same_content m.holds.now }
      by false = sound

  sound_at_end : (m : Moment) (cs : List Change) → IsSound m → IsSound (last_moment slot m cs)
  sound_at_end m [] sound = sound
  sound_at_end m (c ∷ cs) sound = sound_at_end (moment_after slot m c) cs (sound_after m c sound)

pub is_sound : (p : Past) (slot : Slot) → IsSound slot (moment_in p slot)
is_sound p slot = sound_at_end slot (first_moment p slot) (changes_of p) (record { now = same_content (first_of p slot); settled = same_content (first_of p slot) })

-- ---- disks

may_leave_held : (d : SureDisk) (slot : Slot) → may_leave d.past slot (slot_of (disk_content d).now slot) ≡ true
may_leave_held d Manifest = (is_sound d.past Manifest).now
may_leave_held d Cache = (is_sound d.past Cache).now
may_leave_held d Aux = (is_sound d.past Aux).now

is_none : {A : Type 0} (a : A) → Some a ≡ None → ⊥
is_none a e = false≢true (sym (ap is_some e))

pub has_moments : (d : SureDisk) → HasMoments (disk_state d)
has_moments d = record {
  held = may_leave_held d;
  unknown = λ e. absurd (is_none (disk_content d) e);
  now = λ slot b. any_last slot b (first_moment d.past slot) (changes_of d.past);
  earlier = λ t u slot b le within any. any_earlier (λ m. m.may b) t u (moments slot (first_moment d.past slot) (changes_of d.past)) le any;
}

pub failing_has_moments : (d : MemDisk) → HasMoments (failing_disk_state d)
failing_has_moments d = let laws = has_moments d.disk in record { held = laws.held; unknown = laws.unknown; now = laws.now; earlier = laws.earlier }
