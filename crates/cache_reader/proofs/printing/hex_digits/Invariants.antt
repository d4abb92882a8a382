use Rattle.std.proofs.Common.{◌≡◌, length, map, take}
use Rattle.std.specs.List.{range_with_len}
use Rattle.cache_reader.specs.Printed.{hex_digit}
use Rattle.cache_reader.proofs.printing.hex_digits.Given as goal

abbrev pub invariant-loop-index : goal.invariant-loop-index
invariant-loop-index l = (length l.digits ≡ 16) × (take l.index l.digits ≡ map (hex_digit l.number) (range_with_len 0 l.index))
