use Rattle.std.proofs.Common.{◌≡◌, ◌++◌, ◌+◌, length, drop}
use Rattle.elf_maker.specs.Texts.{ended_texts, text_entries}
use Rattle.elf_maker.specs.Parts.{needed_texts, entries_bytes}
use Rattle.elf_maker.proofs.section.put_needed.Given as goal

abbrev pub invariant-loop-text : goal.invariant-loop-text
invariant-loop-text l = record {
  put : l.out.items ++ entries_bytes l.w (text_entries l.next (needed_texts (drop l.text-index l.texts))) ≡ l.fn.out.items ++ entries_bytes l.w (text_entries l.at (needed_texts l.texts));
  following : l.next + length (ended_texts (needed_texts (drop l.text-index l.texts))) ≡ l.at + length (ended_texts (needed_texts l.texts));
}
