-- The writing calls of a disk.
use Rattle.std.specs.Prelude.{List, [], ◌∷◌}
use Rattle.tree_face.specs.declared.disk.Call.{Call}
use Rattle.tree_face.specs.declared.disk.Call.TheVariants.{Create, Append, Sync, Publish, Settle}
use Rattle.tree_face.specs.declared.disk.DoneCall.{DoneCall}
use Rattle.tree_face.specs.declared.disk.Slot.{Slot}
use Rattle.tree_face.specs.declared.disk.Tag.{Tag}

abbrev pub made_call : Tag → Slot → Call → DoneCall
made_call t s c = record { tag = t; slot = s; call = c }

-- the call that flushes a slot; it has tag 0
abbrev pub settling : Slot → DoneCall
settling s = made_call (record { 0 = 0 }) s Settle

-- the five calls that replace a slot's content, in their order
abbrev pub replacement : Tag → Slot → List DoneCall
replacement t s = made_call t s Create ∷ made_call t s Append ∷ made_call t s Sync ∷ made_call t s Publish ∷ settling s ∷ []
