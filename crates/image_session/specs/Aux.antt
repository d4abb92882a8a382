-- The content of the Aux slot (the auxiliary cache file).
use Rattle.std.specs.Prelude.{ℕ, List, [], Option, Some, None, if◌then◌else◌}
use Rattle.std.specs.Option.{is_some}
use Rattle.aux_cache.specs.AuxFile.{damage, stamps_in}
use Rattle.aux_cache.specs.declared.stamps.Stamp.{Stamp}
use Rattle.tree_face.specs.Disk.{Content}

-- the offset at which the auxiliary cache is corrupt, if it is; an empty slot isn't corrupt
abbrev pub damage_of_slot : Content → Option ℕ
damage_of_slot None = None
damage_of_slot (Some text) = damage text

-- the stamps in the slot; none if the slot is empty or the auxiliary cache is corrupt
abbrev pub stamps_of_slot : Content → List Stamp
stamps_of_slot None = []
stamps_of_slot (Some text) = if is_some (damage text) then [] else stamps_in text
