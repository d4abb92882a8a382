use Rattle.std.proofs.Common.{◌≡◌, ◌≤◌, ◌+◌, length, drop}
use Rattle.elf_maker.specs.declared.layout.TheConstants.{FILE_MAX}
use Rattle.elf_maker.specs.Texts.{ended_texts}
use Rattle.elf_maker.specs.Parts.{needed_texts}
use Rattle.elf_maker.proofs.layout.size_of_needed.Given as goal

abbrev pub invariant-loop-text : goal.invariant-loop-text
invariant-loop-text l = record {
  total : l.size + length (ended_texts (needed_texts (drop l.text-index l.texts))) ≡ length (ended_texts (needed_texts l.texts));
  small : l.size ≤ FILE_MAX;
}
