-- Errors of loading and editing an image, converted from the errors of its parts.
use Rattle.image_tree.specs.declared.tree.TreeFault.{TreeFault}
use Rattle.image_tree.specs.declared.tree.TreeFault.TheVariants as putting
use Rattle.mtree_manifest.specs.declared.fault.EntryLineFault.{EntryLineFault}
use Rattle.mtree_manifest.specs.declared.fault.EntryLineFault.TheVariants as lines
use Rattle.mtree_manifest.specs.declared.fault.ManifestFault.{ManifestFault}
use Rattle.mtree_manifest.specs.declared.fault.ManifestFault.TheVariants as manifests
use Rattle.image_session.specs.declared.fault.EditFault.{EditFault}
use Rattle.image_session.specs.declared.fault.EditFault.TheVariants as editing
use Rattle.image_session.specs.declared.fault.LoadFault.{LoadFault}
use Rattle.image_session.specs.declared.fault.LoadFault.TheVariants as loading
use Rattle.image_session.specs.declared.fault.SlotFault.{SlotFault}
use Rattle.image_session.specs.declared.fault.SlotFault.TheVariants as slot_faults

-- the error of reading a slot
abbrev pub of_slot : SlotFault → LoadFault
of_slot (slot_faults.DiskFailed slot) = loading.DiskFailed slot
of_slot slot_faults.NoMemory = loading.NoMemory

-- the error of a manifest; out of memory stays NoMemory
abbrev pub of_manifest : ManifestFault → LoadFault
of_manifest manifests.NoMemory = loading.NoMemory
of_manifest fault = loading.BadManifest fault

-- the error of a single line
abbrev pub of_line : EntryLineFault → EditFault
of_line (lines.Bad kind) = editing.Bad kind
of_line lines.NoMemory = editing.NoMemory

-- the error of putting a node
abbrev pub of_tree : TreeFault → EditFault
of_tree putting.Clash = editing.Clash
of_tree putting.Full = editing.Full
of_tree putting.NoMemory = editing.NoMemory
