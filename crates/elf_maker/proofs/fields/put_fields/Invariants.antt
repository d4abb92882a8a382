use Rattle.std.proofs.Common.{◌≡◌, ◌++◌, take}
use Rattle.elf_maker.specs.Fields.{bytes_of}
use Rattle.elf_maker.proofs.fields.put_fields.Given as goal

abbrev pub invariant-loop-size : goal.invariant-loop-size
invariant-loop-size l = l.out.items ≡ l.fn.out.items ++ bytes_of (take l.size-index l.fields)
