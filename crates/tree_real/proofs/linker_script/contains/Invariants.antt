use Rattle.std.proofs.Common.{◌≡◌, length}
use Rattle.name_order.specs.LibraryName.{contains}
use Rattle.tree_real.proofs.linker_script.contains.Given as goal

-- the remaining bytes contain the text exactly if the bytes do
abbrev pub invariant-loop-rest : goal.invariant-loop-rest
invariant-loop-rest l = contains l.text l.rest ≡ contains l.text l.bytes

abbrev pub decreases-loop-rest : goal.decreases-loop-rest
decreases-loop-rest l = length l.rest
