-- A reader of the entries of a dynamic section, in order. Contracts of private functions use these definitions.
use Rattle.std.specs.Prelude.{◌≡◌, ◌≤◌, ◌<◌, Bool, true, false, ℕ, zero, suc, ◌+◌, ◌-◌, ◌*◌, ◌/◌, ◌==◌, not, List, [], ◌∷◌, take_while}
use Rattle.tree_face.specs.Store.{StoreState}
use Rattle.elf_headers.specs.Layout.{word_size}
use Rattle.elf_dynamic.specs.declared.kinds.DynamicEntry.{DynamicEntry}
use Rattle.elf_dynamic.specs.declared.entries.Entries.{Entries}
use Rattle.elf_dynamic.specs.declared.file.Cursor.{Cursor}
use Rattle.elf_dynamic.specs.declared.window.Window.{Window}
use Rattle.elf_dynamic.specs.Section.{entry_at}
use Rattle.elf_dynamic.specs.Windows.{ready, unread, Lessens}

-- n entries from an offset on
abbrev pub entries_in : ℕ → List ℕ → ℕ → ℕ → List DynamicEntry
entries_in w bytes at zero = []
entries_in w bytes at (suc n) = entry_at w bytes at ∷ entries_in w bytes (at + 2 * w) n

-- the entries before the first DT_NULL in the next `left` bytes
unfoldable pub live_entries : ℕ → List ℕ → ℕ → ℕ → List DynamicEntry
live_entries w bytes at left = take_while (λ e. not (e.tag == 0)) (entries_in w bytes at (left / (2 * w)))

-- the entries that the reader has left
abbrev pub rest_of : Entries → List ℕ → List DynamicEntry
rest_of c bytes = live_entries (word_size c.wide) bytes (c.end - c.left) c.left

-- A reader of entries in the file. Of the bytes that are left, the window holds at least those that the reader counts in `held`.
pub record IsReaderOf (f : Cursor) (c : Entries) : Type 0 where
  pub wide : c.wide ≡ f.head.wide
  pub within : c.left ≤ c.end
  pub in_file : c.end ≤ f.head.length
  pub held : c.held ≤ c.left
  pub ready : c.held ≤ ready f.section (c.end - c.left)

-- the maximum number of bytes that are still to read
abbrev pub unread_in : Window → Entries → ℕ
unread_in w c = unread w c.end (c.end - c.left)

-- the same after the next entry
abbrev pub unread_after : Window → Entries → ℕ
unread_after w c = unread w c.end (c.end - c.left + 2 * word_size c.wide)

-- The reader has not moved and knows whether there is a next entry. If there is one, the window holds its bytes.
pub record KnowsNext (there : Bool) (before after : Entries) : Type 0 where
  pub same : after ≡ record before { held = after.held }
  pub some : there ≡ true → 2 * word_size after.wide ≤ after.held
  pub none : there ≡ false → before.left < 2 * word_size before.wide

-- the reader has moved on by one entry
pub record MovesOn (f g : Cursor) (before after : Entries) (old new : StoreState) : Type 0 where
  pub fewer : after.left < before.left
  pub left : Lessens (unread_in f.section before) (unread_in g.section after) old new
