use Rattle.std.proofs.Common.{◌≡◌, ◌≤◌, ◌+◌, ◌*◌, ◌-◌}
use Rattle.lib_types.specs.Counts.{raised}
use Rattle.tree_face.specs.Known.{IfKnown}
use Rattle.tree_face.specs.StoreUse.{Complete}
use Rattle.elf_headers.specs.Layout.{word_size}
use Rattle.elf_headers.specs.Reading.{known_content}
use Rattle.elf_dynamic.specs.Cursor.{ReadsOn}
use Rattle.elf_dynamic.specs.Section.{dynamic_entries}
use Rattle.elf_dynamic.specs.Entries.{rest_of, IsReaderOf, unread_in}
use Rattle.elf_dynamic.specs.Values.{joined, values_of}
use Rattle.elf_dynamic.proofs.values.read_values.Given as goal

-- The values of the entries so far, joined with those of the rest, are the values of all entries.
abbrev pub invariant-loop-entry : goal.invariant-loop-entry
invariant-loop-entry g l =
    let old = g.S.Store.state l.fn.file.store.now in
    let new = g.S.Store.state l.file.store.now in
    let w = word_size l.fn.file.cursor.head.wide in
    record {
      same_store : l.file.store.ghost_name ≡ l.fn.file.store.ghost_name;
      reads : ReadsOn Complete old new l.fn.file.cursor l.file.cursor;
      reader : IsReaderOf l.file.cursor l.entries;
      rest : IfKnown (known_content old) (λ bytes. joined l.values (rest_of l.entries bytes) ≡ values_of (dynamic_entries w bytes l.fn.dynamic));
      few : l.values.texts + l.entries.left ≤ l.fn.dynamic.filesz;
      still : unread_in l.file.cursor.section l.entries ≤ 2 * l.fn.dynamic.filesz;
      taken : new.taken ≤ raised old.taken (2 * l.fn.dynamic.filesz - unread_in l.file.cursor.section l.entries);
    }

abbrev pub decreases-loop-entry : goal.decreases-loop-entry
decreases-loop-entry g l = l.entries.left
