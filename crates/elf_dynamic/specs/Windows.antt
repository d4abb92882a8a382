-- Windows of a file: bytes that were read and are kept. Contracts of private functions use these definitions.
use Rattle.std.specs.Prelude.{◌≡◌, ◌≤◌, ℕ, ◌+◌, ◌-◌, ◌*◌, if◌then◌else◌, nat_lt, min, List, length, take, drop}
use Rattle.tree_face.specs.Known.{IfKnown}
use Rattle.tree_face.specs.Store.{StoreState}
use Rattle.elf_headers.specs.declared.kinds.Head.{Head}
use Rattle.elf_headers.specs.Layout.{word_size, program_header_length}
use Rattle.tree_face.specs.StoreUse.{Ending}
use Rattle.elf_headers.specs.Reading.{known_content, TakesAtMost, OnlyReads, IsHeadOf}
use Rattle.elf_dynamic.specs.declared.window.TheConstants.{WINDOW}
use Rattle.elf_dynamic.specs.declared.window.Window.{Window}

-- the number of bytes that the window holds from an offset on
unfoldable pub ready : Window → ℕ → ℕ
ready w at = if nat_lt at w.at then 0 else w.count - (at - w.at)

-- the bytes that the window holds from an offset on
abbrev pub part : Window → ℕ → List ℕ
part w at = take (ready w at) (drop (at - w.at) w.bytes)

-- The maximum number of bytes to read from an offset to an end. If a window ends inside an item, the item is read again.
abbrev pub unread : Window → ℕ → ℕ → ℕ
unread w end at = 2 * (end - at) - ready w at

-- the offset of the program header with this index
abbrev pub header_at : Head → ℕ → ℕ
header_at h index = h.phoff + index * program_header_length (word_size h.wide)

-- the same for the program headers from an index on
abbrev pub unread_from : Window → Head → ℕ → ℕ
unread_from w h index = unread w (header_at h h.phnum) (header_at h index)

-- the window holds bytes of the open file
pub record IsWindowOf (s : StoreState) (h : Head) (w : Window) : Type 0 where
  pub room : length w.bytes ≡ WINDOW
  pub count : w.count ≤ WINDOW
  pub in_file : w.at + w.count ≤ h.length
  pub bytes : IfKnown (known_content s) (λ bytes. take w.count w.bytes ≡ take w.count (drop w.at bytes))

-- A caller asks for at least `least` bytes from an offset on, in a part of the file with this end.
pub record IsAsked (h : Head) (at least end : ℕ) : Type 0 where
  pub fits : least ≤ WINDOW
  pub within : at + least ≤ end
  pub in_file : end ≤ h.length

-- The call reads from the open file and ends this way. The window still holds bytes of this file, also after a failure.
pub record ReadsThrough (ending : Ending) (h : Head) (w : Window) (old new : StoreState) : Type 0 where
  pub head : IsHeadOf new h
  pub window : IsWindowOf new h w
  pub reads : OnlyReads ending old new

-- The call lowers the number of bytes still to read, and has read at most the difference.
pub record Lessens (before after : ℕ) (old new : StoreState) : Type 0 where
  pub taken : TakesAtMost (before - after) old new
  pub left : after ≤ before

-- the window holds at least `least` bytes from an offset on
pub record HoldsFrom (at least end : ℕ) (before after : Window) (old new : StoreState) : Type 0 where
  pub enough : least ≤ ready after at
  pub taken : TakesAtMost (min (ready after at) (end - at)) old new
  pub left : Lessens (unread before end at) (unread after end (at + least)) old new
