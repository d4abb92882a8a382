-- The history of the slots of a disk in memory: their initial contents, and then each `publish` and `settle`.
use Rattle.std.specs.Prelude.{◌≡◌, ◌||◌, ◌++◌, ℕ, Bool, List, [], ◌∷◌, length, drop, if◌then◌else◌}
use Rattle.std.specs.List.{list_any}
use Rattle.std.specs.Option.{option_map, option_copied}
use Rattle.tree_face.specs.declared.disk.Slot.{Slot}
use Rattle.tree_face.specs.declared.disk.Slot.TheVariants.{Manifest, Cache, Aux}
use Rattle.tree_face.specs.declared.memory.past.Change.{Change}
use Rattle.tree_face.specs.declared.memory.past.Change.TheVariants.{Published, Settled}
use Rattle.tree_face.specs.declared.memory.past.Held.{Held}
use Rattle.tree_face.specs.declared.memory.past.Past.{Past}
use Rattle.tree_face.specs.Crash.{left_by}
use Rattle.tree_face.specs.Disk.{Content, content_eq, slot_eq}
use Rattle.tree_face.specs.Temporaries.{bytes_of, is_synced}

-- the initial content of a slot
abbrev pub first_of : Past → Slot → Content
first_of p Manifest = option_map (λ v. v.items) p.manifest
first_of p Cache = option_map (λ v. v.items) p.cache
first_of p Aux = option_map (λ v. v.items) p.aux

abbrev pub changes_of : Past → List Change
changes_of p = p.changes.items

-- ---- what a slot holds

-- the current content, and the content when the slot was last flushed
pub record Holding : Type 0 where
  pub now : Content
  pub settled : Content

abbrev pub holding_after : Slot → Holding → Change → Holding
holding_after slot h (Published s file) = if slot_eq slot s then record { now = bytes_of file; settled = h.settled } else h
holding_after slot h (Settled s) = if slot_eq slot s then record { now = h.now; settled = h.now } else h

abbrev pub first_holding : Past → Slot → Holding
first_holding p slot = record { now = first_of p slot; settled = first_of p slot }

abbrev pub holding_of : Held → Holding
holding_of h = record { now = option_copied h.now; settled = option_copied h.settled }

-- ---- what a crash may leave

-- a slot at a moment: its contents, and what a crash may leave
pub record Moment : Type 0 where
  pub holds : Holding
  pub may : Content → Bool

-- `publish` adds to what a crash may leave; after `settle` a crash leaves only the slot's content
abbrev pub may_after : Slot → Moment → Change → Content → Bool
may_after slot m (Published s file) b = if slot_eq slot s then m.may b || left_by (bytes_of file) (is_synced file) b else m.may b
may_after slot m (Settled s) b = if slot_eq slot s then content_eq m.holds.now b else m.may b

abbrev pub moment_after : Slot → Moment → Change → Moment
moment_after slot m c = record { holds = holding_after slot m.holds c; may = may_after slot m c }

-- the slot before each change, and after the last
abbrev pub moments : Slot → Moment → List Change → List Moment
moments slot m [] = m ∷ []
moments slot m (c ∷ cs) = m ∷ moments slot (moment_after slot m c) cs

abbrev pub last_moment : Slot → Moment → List Change → Moment
last_moment slot m [] = m
last_moment slot m (c ∷ cs) = last_moment slot (moment_after slot m c) cs

abbrev pub first_moment : Past → Slot → Moment
first_moment p slot = record { holds = first_holding p slot; may = content_eq (first_of p slot) }

-- the number of a moment is the number of changes before it
abbrev pub clock_of : Past → ℕ
clock_of p = length (changes_of p)

abbrev pub moment_in : Past → Slot → Moment
moment_in p slot = last_moment slot (first_moment p slot) (changes_of p)

abbrev pub holding_in : Past → Slot → Holding
holding_in p slot = (moment_in p slot).holds

abbrev pub may_leave : Past → Slot → Content → Bool
may_leave p slot = (moment_in p slot).may

-- a crash at some moment from t on may have left this content
abbrev pub might_leave : Past → ℕ → Slot → Content → Bool
might_leave p t slot b = list_any (λ m. m.may b) (drop t (moments slot (first_moment p slot) (changes_of p)))

-- what a crash leaves in a slot: the current content if `done`, otherwise the content when the slot was last flushed
abbrev pub left_in : Past → Slot → Bool → Content
left_in p slot done = if done then (holding_in p slot).now else (holding_in p slot).settled

-- ---- calls

-- no change
pub record KeepsPast (old new : Past) : Type 0 where
  pub first : (slot : Slot) → first_of new slot ≡ first_of old slot
  pub same : changes_of new ≡ changes_of old

-- one more change
pub record IsChangedBy (change : Change) (old new : Past) : Type 0 where
  pub first : (slot : Slot) → first_of new slot ≡ first_of old slot
  pub more : changes_of new ≡ changes_of old ++ change ∷ []
