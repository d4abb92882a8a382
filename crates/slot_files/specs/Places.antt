-- The files that slots have.
use Rattle.std.specs.Prelude.{ℕ, Bool, true, false, List, string_bytes}
use Rattle.device_rules.specs.Places.{file_of}
use Rattle.tree_face.specs.declared.disk.Slot.{Slot}
use Rattle.tree_face.specs.declared.disk.Slot.TheVariants as slots
use Rattle.slot_files.specs.declared.places.Places.{Places}
use Rattle.slot_files.specs.declared.places.Places.TheVariants as places

-- of an image each slot has a file; without an image only the auxiliary cache has one
abbrev pub has_file : Places → Slot → Bool
has_file (places.Image _) slot = true
has_file (places.Aux _) slots.Aux = true
has_file (places.Aux _) slot = false

-- the path of a slot's file below the directory
abbrev pub file_in : Places → Slot → List ℕ
file_in (places.Image cache) slot = file_of cache slot
file_in (places.Aux name) slot = string_bytes name
