-- The stamps in an auxiliary cache can be recorded again.
use Rattle.std.proofs.Common.{[], None, Some, is_some}
use Rattle.std.proofs.lemmas.List.Elements.{All-nil}
use Rattle.aux_cache.proofs.Accepted.{recordable_file}
use Rattle.aux_cache.specs.AuxFile.{damage}
use Rattle.aux_cache.specs.Stamps.{AreRecordable, IsRecordable}
use Rattle.aux_cache.specs.declared.stamps.Stamp.{Stamp}
use Rattle.image_session.specs.Aux.{stamps_of_slot}
use Rattle.lib_types.proofs.SortedPairs.{by_test}
use Rattle.tree_face.specs.Disk.{Content}

none_recordable : AreRecordable []
none_recordable = All-nil (λ (s : Stamp). IsRecordable s.analysis)

pub slot_recordable : (aux : Content) → AreRecordable (stamps_of_slot aux)
slot_recordable None = none_recordable
slot_recordable (Some text) = by_test (is_some (damage text))
    (λ e. rw e none_recordable)
    (λ e. rw e (recordable_file text e))
