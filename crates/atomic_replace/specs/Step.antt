-- One call of a replacement.
use Rattle.std.specs.Prelude.{◌≡◌, ℕ, true, List, Some, IfSome, Result, Ok, Err, OnOk}
use Rattle.lib_types.specs.declared.fault.Failed.{Failed}
use Rattle.tree_face.specs.declared.disk.Call.{Call}
use Rattle.tree_face.specs.declared.disk.Call.TheVariants.{Create, Append, Sync, Publish, Settle}
use Rattle.tree_face.specs.declared.disk.Slot.{Slot}
use Rattle.tree_face.specs.declared.disk.Tag.{Tag}
use Rattle.tree_face.specs.Crash.{AddsPublished, KeepsSlots, Settles}
use Rattle.tree_face.specs.Disk.{Appends, Creates, DiskContent, DiskState, Does, Keeps, KeepsMade, KeepsOthersMade, MayPublish, Publishes, Spoils, Syncs}
use Rattle.atomic_replace.specs.declared.fault.DiskFault.{DiskFault}
use Rattle.atomic_replace.specs.Order.{needs_file, next_of}
use Rattle.atomic_replace.specs.Replace.{Write, call_by}

-- the change of the contents if a call succeeds
abbrev pub change_of : ℕ → Write → Call → DiskContent → DiskContent → Type 0
change_of tag write Create = Creates tag write.0
change_of tag write Append = Appends tag write.0 write.1
change_of tag write Sync = Syncs tag write.0
change_of tag write Publish = Publishes tag write.0
change_of tag write Settle = Keeps

-- the change of the contents if a call fails
abbrev pub failure_of : ℕ → Write → Call → DiskContent → DiskContent → Type 0
failure_of tag write Create = Spoils tag write.0
failure_of tag write Append = Spoils tag write.0
failure_of tag write Sync = Spoils tag write.0
failure_of tag write Publish = MayPublish tag write.0
failure_of tag write Settle = Keeps

-- the temporary files that exist after a call
abbrev pub MadeBy : {A E : Type 0} → ℕ → Slot → Call → DiskState → DiskState → Result A E → Type 0
MadeBy tag slot Create old new result = OnOk result (new.made tag slot ≡ true) × KeepsOthersMade tag slot old new
MadeBy tag slot Append old new result = KeepsMade old new
MadeBy tag slot Sync old new result = KeepsMade old new
MadeBy tag slot Publish old new result = KeepsOthersMade tag slot old new
MadeBy tag slot Settle old new result = KeepsMade old new

-- the result of the call without its values
abbrev pub answer_of : {A E : Type 0} → Result A E → Result (Unit {0}) Failed
answer_of (Ok x) = Ok tt
answer_of (Err e) = Err (record {})

-- the contents that a crash can leave in the slots during and after a call
abbrev pub LeftBy : ℕ → Slot → Call → DiskState → DiskState → Result (Unit {0}) Failed → Type 0
LeftBy tag slot Create old new result = KeepsSlots old new
LeftBy tag slot Append old new result = KeepsSlots old new
LeftBy tag slot Sync old new result = KeepsSlots old new
LeftBy tag slot Publish old new result = AddsPublished tag slot old new result
LeftBy tag slot Settle old new result = Settles slot old new result

-- the effect of a call on a disk
pub record Makes {A E : Type 0} (tag : Tag) (write : Write) (call : Call) (old new : DiskState) (result : Result A E) : Type 0 where
  pub does : Does (call_by tag write.0 call) (change_of tag.0 write call) (failure_of tag.0 write call) old new (answer_of result)
  pub made : MadeBy tag.0 write.0 call old new result
  pub crash : LeftBy tag.0 write.0 call old new (answer_of result)

-- a replacement: its tag, what it writes, and the remaining calls
pub record Replacement : Type 0 where
  pub tag : Tag
  pub write : Write
  pub left : List Call

-- if the next call needs a temporary file, that file was created and not yet renamed
abbrev pub HasFile : Replacement → DiskState → Type 0
HasFile r s = IfSome (next_of r.left) (λ call. needs_file call ≡ true → s.made r.tag.0 r.write.0 ≡ true)

-- the next call is made, if there is one
abbrev pub MakesNext : {A E : Type 0} → Replacement → DiskState → DiskState → Result A E → Type 0
MakesNext r old new result = IfSome (next_of r.left) (λ call. Makes r.tag r.write call old new result)

-- the fault names the next call and the slot
abbrev pub NamesNext : Replacement → DiskFault → Type 0
NamesNext r fault = (next_of r.left ≡ Some fault.call) × (fault.slot ≡ r.write.0)
