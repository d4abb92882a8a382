-- A cursor that has read more of its file.
use Rattle.std.proofs.Common.{◌≡◌, ◌≤◌, ◌-◌, refl, ap, sym, subst, ◌∙◌, rules}
use Rattle.tree_face.specs.Store.{StoreState}
use Rattle.tree_face.specs.StoreUse.{Ending, Complete}
use Rattle.elf_dynamic.specs.declared.file.Cursor.{Cursor}
use Rattle.elf_dynamic.specs.Cursor.{IsCursorOf, ReadsOn}
use Rattle.elf_headers.specs.declared.kinds.Head.{Head}
use Rattle.elf_dynamic.specs.declared.kinds.Place.{Place}
use Rattle.elf_dynamic.specs.declared.window.Window.{Window}
use Rattle.elf_dynamic.specs.declared.entries.Entries.{Entries}
use Rattle.elf_dynamic.specs.Entries.{IsReaderOf}
use Rattle.elf_dynamic.specs.Windows.{ready, ReadsThrough}
use Rattle.elf_dynamic.proofs.Known.{chain}
use Rattle.elf_dynamic.proofs.Windows.{window_after}

pub on : {e : Ending} (a b c : StoreState) (f g h : Cursor) → ReadsOn Complete a b f g → ReadsOn e b c g h → ReadsOn e a c f h
on a b c f g h r t = record {
  reads = chain a b c r.reads t.reads;
  cursor = t.cursor;
  head = t.head ∙ r.head;
  strings = t.strings ∙ r.strings;
}

pub unmoved : (s : StoreState) (f : Cursor) → IsCursorOf s f → ReadsOn Complete s s f f
unmoved s f cursor = record { reads = search rules; cursor = cursor; head = refl; strings = refl }

-- reads through the window of the headers
pub by_headers : {e : Ending} (a b : StoreState) (f : Cursor) (w : Window) → IsCursorOf a f → ReadsThrough e f.head w a b → ReadsOn e a b f (record f { headers = w })
by_headers a b f w cursor r = record {
  reads = r.reads;
  cursor = record { head = r.head; headers = r.window; section = window_after a b f.head f.section r.reads cursor.section; strings = cursor.strings };
  head = refl;
  strings = refl;
}

-- A reader of entries stays valid if the window of the entries stays the same.
pub reader_after : (f g : Cursor) (r : Entries) → IsReaderOf f r → g.section ≡ f.section → g.head ≡ f.head → IsReaderOf g r
reader_after f g r reader section head = record {
  wide = reader.wide ∙ ap (λ h. h.wide) (sym head);
  within = reader.within;
  in_file = subst (λ h. r.end ≤ h.length) (sym head) reader.in_file;
  held = reader.held;
  ready = subst (λ w. r.held ≤ ready w (r.end - r.left)) (sym section) reader.ready;
}

-- A fact about a cursor with its string table set is a fact about this table.
pub given_strings : (P : StoreState → Head → Place → Type 0) (a b : StoreState) (f g : Cursor) (h : Head) (t : Place) → a ≡ b → f ≡ record g { strings = t } → g.head ≡ h → P a f.head f.strings → P b h t
given_strings P a b f g h t same is head p = subst (λ s. P s h t) same (subst (λ x. P a x t) head (subst (λ (x : Cursor). P a x.head x.strings) is p))
