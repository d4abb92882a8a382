-- The states of disks in memory.
use Rattle.std.specs.Prelude.{◌==◌, ℕ, Bool, not, List, Some, is_some, bit_and}
use Rattle.tree_face.specs.declared.disk.DoneCall.{DoneCall}
use Rattle.tree_face.specs.declared.disk.Slot.{Slot}
use Rattle.tree_face.specs.declared.disk.Slot.TheVariants.{Manifest, Cache, Aux}
use Rattle.tree_face.specs.declared.memory.disks.MemDisk.{MemDisk}
use Rattle.tree_face.specs.declared.memory.disks.SureDisk.{SureDisk}
use Rattle.tree_face.specs.declared.memory.temporaries.Temporaries.{Temporaries}
use Rattle.tree_face.specs.Disk.{Content, DiskState, DiskContent}
use Rattle.tree_face.specs.Failures.{Plan, plan_of}
use Rattle.tree_face.specs.Past.{clock_of, holding_in, left_in, may_leave, might_leave}
use Rattle.tree_face.specs.Temporaries.{synced_in, temporary_in}

abbrev pub files_of : SureDisk → Slot → Temporaries
files_of d Manifest = d.manifest
files_of d Cache = d.cache
files_of d Aux = d.aux

-- the current content of a slot
abbrev pub now_in : SureDisk → Slot → Content
now_in d slot = (holding_in d.past slot).now

abbrev pub disk_content : SureDisk → DiskContent
disk_content d = record {
  now = record { manifest = now_in d Manifest; cache = now_in d Cache; aux = now_in d Aux };
  temporary = λ tag slot. temporary_in (files_of d slot) tag;
  synced = λ tag slot. synced_in (files_of d slot) tag;
}

-- the writing calls that were made
abbrev pub calls_of : SureDisk → List DoneCall
calls_of d = d.calls.items

-- the slots that were read
abbrev pub reads_of : SureDisk → List Slot
reads_of d = d.reads.items

abbrev pub disk_state : SureDisk → DiskState
disk_state d = record {
  contents = Some (disk_content d);
  made = λ tag slot. is_some (temporary_in (files_of d slot) tag);
  time = clock_of d.past;
  may = may_leave d.past;
  since = might_leave d.past;
  calls = Some (calls_of d);
  reads = Some (reads_of d);
  faults = d.faults;
  read_faults = 0;
}

abbrev pub failing_disk_content : MemDisk → DiskContent
failing_disk_content d = disk_content d.disk

abbrev pub failing_calls_of : MemDisk → List DoneCall
failing_calls_of d = calls_of d.disk

abbrev pub failing_reads_of : MemDisk → List Slot
failing_reads_of d = reads_of d.disk

abbrev pub failing_disk_state : MemDisk → DiskState
failing_disk_state d = record (disk_state d.disk) { faults = d.failures.faults; read_faults = d.read_faults }

abbrev pub disk_plan : MemDisk → Plan
disk_plan d = plan_of d.failures

-- whether a rename that isn't flushed survives the crash, by a bit for each slot
abbrev pub counts_as_done : ℕ → Slot → Bool
counts_as_done choice Manifest = not (bit_and choice 1 == 0)
counts_as_done choice Cache = not (bit_and choice 2 == 0)
counts_as_done choice Aux = not (bit_and choice 4 == 0)

-- what a crash leaves in a slot by that choice
abbrev pub left_by_choice : MemDisk → ℕ → Slot → Content
left_by_choice d choice slot = left_in d.disk.past slot (counts_as_done choice slot)
