-- A cursor over the ELF file that is open in a store.
use Rattle.std.specs.Prelude.{◌≡◌, ◌≤◌, ◌<◌, ℕ, ◌+◌, List, Option, Ok}
use Rattle.tree_face.specs.Store.{StoreState}
use Rattle.tree_face.specs.StoreUse.{Ending}
use Rattle.elf_headers.specs.declared.kinds.Head.{Head}
use Rattle.elf_headers.specs.Layout.{word_size}
use Rattle.elf_headers.specs.Reading.{OfKnown, OnlyReads, IsHeadOf}
use Rattle.elf_dynamic.specs.declared.file.Cursor.{Cursor}
use Rattle.elf_dynamic.specs.declared.kinds.Place.{Place}
use Rattle.elf_dynamic.specs.Section.{bytes_of}
use Rattle.elf_dynamic.specs.Sections.{table_by}
use Rattle.elf_dynamic.specs.Windows.{unread, IsWindowOf}

-- the place ends inside the file
abbrev pub IsInFile : Head → Place → Type 0
IsInFile h p = p.at + p.size ≤ h.length

-- the size of an address in the file
abbrev pub width : Cursor → ℕ
width c = word_size c.head.wide

-- the bytes of the file's string table
abbrev pub strings_of : Cursor → List ℕ → List ℕ
strings_of c bytes = bytes_of c.strings bytes

-- the string table before it is known: it is empty
abbrev pub no_strings : Place
no_strings = record { at = 0; size = 0 }

-- the open file's header, windows of this file, and a string table in it
pub record IsCursorOf (s : StoreState) (c : Cursor) : Type 0 where
  pub head : IsHeadOf s c.head
  pub headers : IsWindowOf s c.head c.headers
  pub section : IsWindowOf s c.head c.section
  pub strings : IsInFile c.head c.strings

-- The call reads from the open file and ends this way. The cursor is still a cursor of this file, also after a failure.
pub record ReadsOn (ending : Ending) (old new : StoreState) (before after : Cursor) : Type 0 where
  pub reads : OnlyReads ending old new
  pub cursor : IsCursorOf new after
  pub head : after.head ≡ before.head
  pub strings : after.strings ≡ before.strings

-- the string table at the address and with the size from the entries
pub record IsTableBy (s : StoreState) (h : Head) (strtab strsz : Option ℕ) (t : Place) : Type 0 where
  pub within : IsInFile h t
  pub bytes : OfKnown s (λ bytes. table_by (word_size h.wide) bytes strtab strsz ≡ Ok (bytes_of t bytes))

-- the maximum number of bytes of a place that are still to read from this offset
abbrev pub unread_of : Cursor → Place → ℕ → ℕ
unread_of c place offset = unread c.section (place.at + place.size) (place.at + offset)

-- a number of `size` bytes at an offset of a place in the file
pub record IsNumberIn (h : Head) (place : Place) (offset size : ℕ) : Type 0 where
  pub in_file : IsInFile h place
  pub within : offset + size ≤ place.size
  pub some : 0 < size
  pub most : size ≤ 8
