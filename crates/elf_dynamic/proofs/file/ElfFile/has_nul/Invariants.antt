use Rattle.std.proofs.Common.{◌≡◌, ◌≤◌, ◌-◌, take, drop}
use Rattle.std.specs.List.{list_any}
use Rattle.lib_types.specs.Counts.{raised}
use Rattle.tree_face.specs.Known.{IfKnown}
use Rattle.tree_face.specs.StoreUse.{Complete}
use Rattle.elf_headers.specs.Reading.{known_content}
use Rattle.elf_dynamic.specs.Cursor.{ReadsOn}
use Rattle.elf_dynamic.specs.Section.{bytes_of, is_nul}
use Rattle.elf_dynamic.proofs.file.ElfFile.has_nul.Given as goal

-- The place has a NUL exactly if the rest of it has one.
abbrev pub invariant-loop-at : goal.invariant-loop-at
invariant-loop-at g l =
    let old = g.S.Store.state l.fn.self.store.now in
    let new = g.S.Store.state l.self.store.now in
    record {
      same_store : l.self.store.ghost_name ≡ l.fn.self.store.ghost_name;
      reads : ReadsOn Complete old new l.fn.self.cursor l.self.cursor;
      section : l.self.cursor.section ≡ l.fn.self.cursor.section;
      begins : l.fn.place.at ≤ l.at;
      ends : l.at ≤ l.end;
      rest : IfKnown (known_content old) (λ bytes. list_any is_nul (take (l.end - l.at) (drop l.at bytes)) ≡ list_any is_nul (bytes_of l.fn.place bytes));
      taken : new.taken ≤ raised old.taken (l.at - l.fn.place.at);
    }

abbrev pub decreases-loop-at : goal.decreases-loop-at
decreases-loop-at g l = l.end - l.at
