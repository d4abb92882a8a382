use Rattle.std.proofs.Common.{◌≡◌, ◌++◌, flat_map, take}
use Rattle.cache_writer.specs.Joined.{offset_bytes}
use Rattle.cache_writer.proofs.writer.put_offsets.Given as goal

-- the offsets so far
abbrev pub invariant-loop-number : goal.invariant-loop-number
invariant-loop-number l = l.out.items ≡ l.fn.out.items ++ flat_map (offset_bytes l.strings) (take l.number-index l.numbers)
