use Rattle.std.proofs.Common.{◌≡◌, map}
use Rattle.std.specs.List.{range_with_len}
use Rattle.aux_cache.specs.AuxFile.{id_before, stamp_at}
use Rattle.aux_cache.proofs.Damage.{AreRecords}
use Rattle.aux_cache.proofs.reader.read.Given as goal

-- the stamps so far, and the identity of the last one
abbrev pub invariant-loop-index : goal.invariant-loop-index
invariant-loop-index l = record {
  stamps : l.stamps.items ≡ map (stamp_at l.bytes) (range_with_len 0 l.index);
  before : l.before ≡ id_before l.bytes l.index;
  records : AreRecords l.bytes l.index;
}
