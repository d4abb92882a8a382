use Rattle.std.proofs.Common.{◌≡◌, ◌≤◌, ◌*◌}
use Rattle.tree_face.specs.Known.{IfKnown}
use Rattle.tree_face.specs.StoreUse.{Complete}
use Rattle.elf_headers.specs.Layout.{word_size}
use Rattle.elf_headers.specs.Reading.{known_content}
use Rattle.elf_dynamic.specs.Cursor.{ReadsOn}
use Rattle.elf_dynamic.specs.Kept.{kept_of}
use Rattle.elf_dynamic.specs.Section.{bytes_of, dynamic_entries}
use Rattle.elf_dynamic.specs.Entries.{rest_of, IsReaderOf, unread_in}
use Rattle.elf_dynamic.specs.Texts.{gathered}
use Rattle.elf_dynamic.specs.Values.{texts_in}
use Rattle.elf_dynamic.proofs.Gathered.{Stays}
use Rattle.elf_dynamic.proofs.gather.gather.Given as goal

-- Gathering the rest after the texts so far gives the same as gathering all entries.
abbrev pub invariant-loop-entry : goal.invariant-loop-entry
invariant-loop-entry g l =
    let old = g.S.Store.state l.fn.file.store.now in
    let new = g.S.Store.state l.file.store.now in
    let w = word_size l.fn.file.cursor.head.wide in
    let table = bytes_of l.fn.file.cursor.strings in
    record {
      same_store : l.file.store.ghost_name ≡ l.fn.file.store.ghost_name;
      reads : ReadsOn Complete old new l.fn.file.cursor l.file.cursor;
      reader : IsReaderOf l.file.cursor l.entries;
      rest : IfKnown (known_content old) (λ bytes.
          kept_of l.fn.keep (gathered (table bytes) l.found (rest_of l.entries bytes))
          ≡ kept_of l.fn.keep (gathered (table bytes) l.fn.found (dynamic_entries w bytes l.fn.dynamic)));
      left : IfKnown (known_content old) (λ bytes. l.left ≡ texts_in (rest_of l.entries bytes));
      still : unread_in l.file.cursor.section l.entries ≤ 2 * l.fn.dynamic.filesz;
      taken : IfKnown (known_content old) (λ bytes.
          Stays old new (2 * l.fn.dynamic.filesz) (unread_in l.file.cursor.section l.entries) (table bytes) l.found (rest_of l.entries bytes) l.fn.found (dynamic_entries w bytes l.fn.dynamic));
    }

abbrev pub decreases-loop-entry : goal.decreases-loop-entry
decreases-loop-entry g l = l.entries.left
