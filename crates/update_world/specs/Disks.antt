-- The calls of a world on a disk.
use Rattle.std.specs.Prelude.{◌≡◌, Bool, true, false, List, [], ◌∷◌, ◌++◌, length, filter, Some, IfSome, Result, Ok}
use Rattle.std.specs.List.{list_any, slice_get}
use Rattle.lib_types.specs.declared.fault.Failed.{Failed}
use Rattle.atomic_replace.specs.Step.{Makes}
use Rattle.tree_face.specs.Disk.{Content, DiskContent, DiskState, content_eq}
use Rattle.tree_face.specs.declared.disk.Slot.TheVariants.{Cache}
use Rattle.update_world.specs.Turns.{PostCall, calls}
use Rattle.update_world.specs.declared.post.Post.{Post}
use Rattle.update_world.specs.declared.post.Reading.{Reading}
use Rattle.update_world.specs.declared.post.Turn.{Turn}
use Rattle.update_world.specs.declared.post.Turn.TheVariants.{Step, Load}

-- the contents of the disk are known, and its cache slot has this content
pub record Holds (content : Content) (s : DiskState) : Type 0 where
  pub known : DiskContent
  pub contents : s.contents ≡ Some known
  pub held : known.now.cache ≡ content

-- and a crash leaves no other content
pub record HoldsAlone (first : Content) (s : DiskState) : Type 0 where
  pub now : Holds first s
  pub left : (b : Content) → s.may Cache b ≡ content_eq first b

abbrev pub done : Result (Unit {0}) Failed
done = Ok tt

-- a call of an updater on the cache slot, which succeeds
abbrev pub IsMade : List Post → PostCall → DiskState → DiskState → Type 0
IsMade posts call old new = IfSome (slice_get posts call.0) (λ p. Makes p.tag (Cache, p.bytes) call.1 old new done)

-- these calls, one after another
abbrev pub AreMade : List Post → List PostCall → DiskState → DiskState → Type 0
AreMade posts [] old new = new ≡ old
AreMade posts (call ∷ calls) old new = (middle : DiskState) × IsMade posts call old middle × AreMade posts calls middle new

-- whether one of the readings has this content
abbrev pub is_among : Content → List Reading → Bool
is_among b readings = list_any (λ r. content_eq r.bytes b) readings

-- if these calls were made on a disk, a crash leaves exactly the contents of these readings
abbrev pub LeavesExactly : Content → List Post → List PostCall → List Reading → Type 0
LeavesExactly first posts calls readings =
    (old new : DiskState) → HoldsAlone first old → AreMade posts calls old new → (b : Content) → new.may Cache b ≡ is_among b readings

-- if these calls were made on a disk, the cache slot has this content
abbrev pub HoldsExactly : Content → List Post → List PostCall → Content → Type 0
HoldsExactly first posts calls content = (old new : DiskState) → HoldsAlone first old → AreMade posts calls old new → Holds content new

abbrev pub is_load : Turn → Bool
is_load (Step i) = false
is_load Load = true

-- Each load of the schedule has read the content that the cache slot of a disk has after the calls of all turns before the load. The
-- schedule follows the turns `before`.
abbrev pub AreOnDisks : Content → List Post → List Turn → List Turn → List Reading → Type 0
AreOnDisks first posts before schedule readings =
    (earlier later : List Turn) → schedule ≡ earlier ++ Load ∷ later
    → (reading : Reading) × (slice_get readings (length (filter is_load earlier)) ≡ Some reading) × HoldsExactly first posts (calls (length posts) (before ++ earlier)) reading.bytes
