use Rattle.std.proofs.Common.{◌≡◌, ◌≤◌, ◌+◌, ◌-◌, ◌++◌, take, drop, option_map}
use Rattle.lib_types.specs.Counts.{raised}
use Rattle.tree_face.specs.Known.{IfKnown}
use Rattle.tree_face.specs.StoreUse.{Complete}
use Rattle.elf_headers.specs.Reading.{known_content}
use Rattle.elf_dynamic.specs.Cursor.{ReadsOn}
use Rattle.elf_dynamic.specs.Section.{bytes_of}
use Rattle.elf_dynamic.specs.Texts.{before_nul}
use Rattle.elf_dynamic.proofs.file.ElfFile.read_text.Given as goal

-- The text is the bytes so far, followed by the bytes of the rest before its first NUL.
abbrev pub invariant-loop-left : goal.invariant-loop-left
invariant-loop-left g l =
    let old = g.S.Store.state l.fn.self.store.now in
    let new = g.S.Store.state l.self.store.now in
    record {
      same_store : l.self.store.ghost_name ≡ l.fn.self.store.ghost_name;
      reads : ReadsOn Complete old new l.fn.self.cursor l.self.cursor;
      section : l.self.cursor.section ≡ l.fn.self.cursor.section;
      within : l.at + l.left ≤ l.fn.self.cursor.head.length;
      less : l.left ≤ l.fn.place.size;
      rest : IfKnown (known_content old) (λ bytes. option_map (λ r. l.found.items ++ r) (before_nul (take l.left (drop l.at bytes))) ≡ before_nul (bytes_of l.fn.place bytes));
      taken : new.taken ≤ raised old.taken (l.fn.place.size - l.left);
    }

abbrev pub decreases-loop-left : goal.decreases-loop-left
decreases-loop-left g l = l.left
