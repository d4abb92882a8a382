use Rattle.std.proofs.Common.{◌≡◌, ◌++◌, flat_map, map, take}
use Rattle.string_pool.specs.InOrder.{place_of}
use Rattle.aux_cache.specs.AuxText.{record_bytes}
use Rattle.aux_cache.specs.Range.{AreInRange}
use Rattle.aux_cache.proofs.writer.put_records.Given as goal

-- the records so far
abbrev pub invariant-loop-stamp : goal.invariant-loop-stamp
invariant-loop-stamp l = record {
  bytes : l.out.items ≡ l.fn.out.items ++ flat_map (λ s. record_bytes (place_of l.strings) s.stamp.now) (take l.stamp-index l.stamps);
  range : AreInRange (map (λ s. s.stamp.now) (take l.stamp-index l.stamps));
}
