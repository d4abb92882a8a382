use Rattle.std.proofs.Common.{◌≡◌, ◌++◌, take}
use Rattle.elf_maker.specs.Texts.{ended_texts}
use Rattle.elf_maker.specs.Parts.{needed_texts}
use Rattle.elf_maker.proofs.strings.put_needed.Given as goal

abbrev pub invariant-loop-text : goal.invariant-loop-text
invariant-loop-text l = l.out.items ≡ l.fn.out.items ++ ended_texts (needed_texts (take l.text-index l.texts))
