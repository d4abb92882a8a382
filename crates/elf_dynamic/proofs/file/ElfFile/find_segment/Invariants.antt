use Rattle.std.proofs.Common.{◌≡◌, ◌≤◌, ◌*◌, ◌-◌, find, map}
use Rattle.std.specs.List.{range_with_len}
use Rattle.lib_types.specs.Counts.{raised}
use Rattle.tree_face.specs.Known.{IfKnown}
use Rattle.tree_face.specs.StoreUse.{Complete}
use Rattle.elf_headers.specs.Layout.{word_size, segment, segments}
use Rattle.elf_headers.specs.Reading.{known_content}
use Rattle.elf_dynamic.specs.Cursor.{ReadsOn}
use Rattle.elf_dynamic.specs.Wanted.{is_wanted}
use Rattle.elf_dynamic.specs.Windows.{unread_from}
use Rattle.elf_dynamic.proofs.file.ElfFile.find_segment.Given as goal

-- none of the segments so far is wanted
abbrev pub invariant-loop-index : goal.invariant-loop-index
invariant-loop-index g l =
    let old = g.S.Store.state l.fn.self.store.now in
    let new = g.S.Store.state l.self.store.now in
    let h = l.fn.self.cursor.head in
    record {
      same_store : l.self.store.ghost_name ≡ l.fn.self.store.ghost_name;
      reads : ReadsOn Complete old new l.fn.self.cursor l.self.cursor;
      section : l.self.cursor.section ≡ l.fn.self.cursor.section;
      rest : IfKnown (known_content old) (λ bytes.
          find (is_wanted l.wanted) (segments (word_size h.wide) bytes)
          ≡ find (is_wanted l.wanted) (map (segment (word_size h.wide) bytes) (range_with_len l.index (h.phnum - l.index))));
      still : unread_from l.self.cursor.headers h l.index ≤ 112 * h.phnum;
      taken : new.taken ≤ raised old.taken (112 * h.phnum - unread_from l.self.cursor.headers h l.index);
    }
