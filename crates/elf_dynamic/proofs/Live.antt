-- The entries that a reader has left, after one more entry.
use Rattle.std.proofs.Common.{◌≡◌, ℕ, zero, suc, ◌+◌, ◌-◌, ◌*◌, ◌/◌, ◌<◌, ◌≤◌, Bool, true, false, not, ◌==◌, List, [], ◌∷◌, map, take, drop, Option, Some, None, MatchOption, refl, ap, sym, subst, ◌∙◌, arith}
use Rattle.std.proofs.lemmas.List.{drop-take, drop-drop}
use Rattle.std.specs.List.{range_with_len, take_while, prefix_len}
use Rattle.elf_headers.specs.declared.kinds.Segment.{Segment}
use Rattle.elf_headers.specs.Layout.{word_size}
use Rattle.lib_types.proofs.Fields.{field_window}
use Rattle.elf_dynamic.specs.declared.kinds.DynamicEntry.{DynamicEntry}
use Rattle.elf_dynamic.specs.Section.{entry_at, dynamic_entries}
use Rattle.tree_face.specs.Known.{IfKnown}
use Rattle.tree_face.specs.Store.{StoreState}
use Rattle.tree_face.specs.StoreUse.{Ending}
use Rattle.elf_headers.specs.Reading.{known_content, OfKnown, OnlyReads}
use Rattle.elf_headers.specs.declared.kinds.Head.{Head}
use Rattle.elf_dynamic.specs.declared.entries.Entries.{Entries}
use Rattle.elf_dynamic.specs.declared.file.Cursor.{Cursor}
use Rattle.elf_dynamic.specs.declared.window.Window.{Window}
use Rattle.elf_dynamic.specs.Entries.{entries_in, live_entries, rest_of, IsReaderOf, unread_in}
use Rattle.elf_dynamic.proofs.Known.{before, with}

-- ---- how many entries are left

count_short : (b : Bool) (left : ℕ) → left < 2 * word_size b → left / (2 * word_size b) ≡ 0
count_short true left h = omega arith
count_short false left h = omega arith

count_more : (b : Bool) (left : ℕ) → 2 * word_size b ≤ left → left / (2 * word_size b) ≡ suc ((left - 2 * word_size b) / (2 * word_size b))
count_more true left h = omega arith
count_more false left h = omega arith

-- ---- the next entry

pub while_true : {X : Type 0} (p : X → Bool) (x : X) (xs : List X) → p x ≡ true → take_while p (x ∷ xs) ≡ x ∷ take_while p xs
while_true p x xs h = rw h (let e : 1 + prefix_len p xs ≡ suc (prefix_len p xs) = omega arith in ap (λ n. take n (x ∷ xs)) e)

pub while_false : {X : Type 0} (p : X → Bool) (x : X) (xs : List X) → p x ≡ false → take_while p (x ∷ xs) ≡ []
while_false p x xs h = rw h refl

pub live_short : (b : Bool) (bytes : List ℕ) (at left : ℕ) → left < 2 * word_size b → live_entries (word_size b) bytes at left ≡ []
unfolding live_entries
live_short b bytes at left h = rw (count_short b left h) refl

live_more : (b : Bool) (bytes : List ℕ) (at left : ℕ) → 2 * word_size b ≤ left →
    (let w = word_size b in live_entries w bytes at left ≡ take_while (λ e. not (e.tag == 0)) (entry_at w bytes at ∷ entries_in w bytes (at + 2 * w) ((left - 2 * w) / (2 * w))))
unfolding live_entries
live_more b bytes at left h = ap (λ n. take_while (λ e. not (e.tag == 0)) (entries_in (word_size b) bytes at n)) (count_more b left h)

pub live_end : (b : Bool) (bytes : List ℕ) (at left : ℕ) → 2 * word_size b ≤ left → (entry_at (word_size b) bytes at).tag ≡ 0 → live_entries (word_size b) bytes at left ≡ []
live_end b bytes at left h e =
    live_more b bytes at left h ∙ while_false (λ e. not (e.tag == 0)) (entry_at (word_size b) bytes at) (entries_in (word_size b) bytes (at + 2 * word_size b) ((left - 2 * word_size b) / (2 * word_size b))) (ap (λ n. not (n == 0)) e)

pub live_next : (b : Bool) (bytes : List ℕ) (at left : ℕ) → 2 * word_size b ≤ left → not ((entry_at (word_size b) bytes at).tag == 0) ≡ true →
    (let w = word_size b in live_entries w bytes at left ≡ entry_at w bytes at ∷ live_entries w bytes (at + 2 * w) (left - 2 * w))
unfolding live_entries
live_next b bytes at left h e =
    live_more b bytes at left h ∙ while_true (λ e. not (e.tag == 0)) (entry_at (word_size b) bytes at) (entries_in (word_size b) bytes (at + 2 * word_size b) ((left - 2 * word_size b) / (2 * word_size b))) e

-- ---- all entries

from_index : (w a i n : ℕ) (bytes : List ℕ) → map (λ index. entry_at w bytes (a + index * (2 * w))) (range_with_len i n) ≡ entries_in w bytes (a + i * (2 * w)) n
from_index w a i zero bytes = refl
from_index w a i (suc n) bytes =
    let e : a + (i + 1) * (2 * w) ≡ a + i * (2 * w) + 2 * w = omega arith in
    ap (λ xs. entry_at w bytes (a + i * (2 * w)) ∷ xs) (from_index w a (i + 1) n bytes ∙ ap (λ k. entries_in w bytes k n) e)

pub live_all : (w : ℕ) (bytes : List ℕ) (s : Segment) → dynamic_entries w bytes s ≡ live_entries w bytes s.offset s.filesz
unfolding dynamic_entries live_entries
live_all w bytes s =
    let e : s.offset + 0 * (2 * w) ≡ s.offset = omega arith in
    ap (take_while (λ e. not (e.tag == 0))) (from_index w s.offset 0 (s.filesz / (2 * w)) bytes ∙ ap (λ k. entries_in w bytes k (s.filesz / (2 * w))) e)

-- ---- the entry in a window

entry_window : (w n at : ℕ) (bytes : List ℕ) → 2 * w ≤ n → entry_at w (take n (drop at bytes)) 0 ≡ entry_at w bytes at
entry_window w n at bytes h = rw (field_window n at 0 at w bytes (omega arith) (omega arith), field_window n at (0 + w) (at + w) w bytes (omega arith) (omega arith)) refl

-- ---- the reader's next entry, if the content is known

always : {P : List ℕ → Type 0} (known : Option (List ℕ)) → ((bytes : List ℕ) → P bytes) → IfKnown known P
always None f = tt
always (Some bytes) f = f bytes

pub ended : (known : Option (List ℕ)) (c : Entries) → c.left < 2 * word_size c.wide → IfKnown known (λ bytes. rest_of c bytes ≡ [])
ended known c h = always {P = λ bytes. rest_of c bytes ≡ []} known (λ bytes. live_short c.wide bytes (c.end - c.left) c.left h)

-- the next n bytes
abbrev Next : Entries → ℕ → List ℕ → List ℕ → Type 0
Next c n front bytes = front ≡ take n (drop (c.end - c.left) bytes)

-- the entry at the start of the next bytes is the next entry of the section
here : (c : Entries) (n : ℕ) (front bytes : List ℕ) (e : DynamicEntry) → 2 * word_size c.wide ≤ n → e ≡ entry_at (word_size c.wide) front 0 → Next c n front bytes →
    e ≡ entry_at (word_size c.wide) bytes (c.end - c.left)
here c n front bytes e enough taken next =
    taken ∙ ap (λ xs. entry_at (word_size c.wide) xs 0) next ∙ entry_window (word_size c.wide) n (c.end - c.left) bytes enough

pub ended_at : (known : Option (List ℕ)) (c : Entries) (n : ℕ) (front : List ℕ) (e : DynamicEntry) → 2 * word_size c.wide ≤ c.left → 2 * word_size c.wide ≤ n →
    e ≡ entry_at (word_size c.wide) front 0 → e.tag ≡ 0 → IfKnown known (Next c n front) → IfKnown known (λ bytes. rest_of c bytes ≡ [])
ended_at known c n front e long enough taken nul next =
    with {P = Next c n front} {Q = λ bytes. rest_of c bytes ≡ []} known next
    (λ bytes next. live_end c.wide bytes (c.end - c.left) c.left long (ap (λ e. e.tag) (sym (here c n front bytes e enough taken next)) ∙ nul))

pub next_at : (known : Option (List ℕ)) (c new : Entries) (n : ℕ) (front : List ℕ) (e : DynamicEntry) → 2 * word_size c.wide ≤ c.left → c.left ≤ c.end → 2 * word_size c.wide ≤ n →
    e ≡ entry_at (word_size c.wide) front 0 → (e.tag == 0) ≡ false → new ≡ record c { left = c.left - 2 * word_size c.wide; held = new.held } →
    IfKnown known (Next c n front) → IfKnown known (λ bytes. rest_of c bytes ≡ e ∷ rest_of new bytes)
next_at known c new n front e long within enough taken live is next =
    with {P = Next c n front} {Q = λ bytes. rest_of c bytes ≡ e ∷ rest_of new bytes} known next
    (λ bytes next.
    let at = here c n front bytes e enough taken next in
    let alive = ap (λ e. not (e.tag == 0)) (sym at) ∙ ap not live in
    let each = 2 * word_size c.wide in
    let on : c.end - c.left + each ≡ c.end - (c.left - each) = omega arith in
    live_next c.wide bytes (c.end - c.left) c.left long alive
    ∙ ap (λ x. x ∷ live_entries (word_size c.wide) bytes (c.end - c.left + each) (c.left - each)) (sym at)
    ∙ ap (λ k. e ∷ live_entries (word_size c.wide) bytes k (c.left - each)) on
    ∙ ap (λ x. e ∷ rest_of x bytes) (sym is))

-- ---- the rest of the window

pub part_on : (n r f : ℕ) (xs : List ℕ) → n ≤ r → drop n (take r (drop f xs)) ≡ take (r - n) (drop (f + n) xs)
part_on n r f xs h =
    let e : r ≡ n + (r - n) = omega arith in
    ap (λ k. drop n (take k (drop f xs))) e ∙ drop-take n (r - n) (drop f xs) ∙ ap (take (r - n)) (drop-drop n f xs ∙ ap (λ k. drop k xs) (omega arith))

pub window_on : (n r f at : ℕ) (buf bytes : List ℕ) → n ≤ r → take r (drop f buf) ≡ take r (drop at bytes) → take (r - n) (drop (f + n) buf) ≡ take (r - n) (drop (at + n) bytes)
window_on n r f at buf bytes h e = sym (part_on n r f buf h) ∙ ap (drop n) e ∙ part_on n r at bytes h

-- ---- a new reader

abbrev Begun : Head → Segment → Entries → Type 0
Begun h d c = c ≡ record { wide = h.wide; end = d.offset + d.filesz; left = d.filesz; held = 0 }

-- A new reader is in the file. It doesn't know of any bytes in the window.
pub opened : (f : Cursor) (d : Segment) (c : Entries) → Begun f.head d c → d.offset + d.filesz ≤ f.head.length → IsReaderOf f c
opened f d c new inside =
    let end_is : c.end ≡ d.offset + d.filesz = ap (λ x. x.end) new in
    let left_is : c.left ≡ d.filesz = ap (λ x. x.left) new in
    let none : c.held ≡ 0 = ap (λ x. x.held) new in
    record {
      wide = ap (λ x. x.wide) new;
      within = omega arith;
      in_file = omega arith;
      held = omega arith;
      ready = omega (arith, none);
    }

pub begun : (known : Option (List ℕ)) (h : Head) (d : Segment) (c : Entries) → Begun h d c → IfKnown known (λ bytes. rest_of c bytes ≡ dynamic_entries (word_size h.wide) bytes d)
begun known h d c new =
    always {P = λ bytes. rest_of c bytes ≡ dynamic_entries (word_size h.wide) bytes d} known
    (λ bytes.
    let end_is : c.end ≡ d.offset + d.filesz = ap (λ x. x.end) new in
    let left_is : c.left ≡ d.filesz = ap (λ x. x.left) new in
    let at : c.end - c.left ≡ d.offset = omega arith in
    ap (λ x. live_entries (word_size x.wide) bytes (c.end - c.left) c.left) new
    ∙ ap (λ k. live_entries (word_size h.wide) bytes k c.left) at
    ∙ ap (live_entries (word_size h.wide) bytes d.offset) left_is
    ∙ sym (live_all (word_size h.wide) bytes d))

pub begun_unread : (h : Head) (d : Segment) (c : Entries) (w : Window) → Begun h d c → unread_in w c ≤ 2 * d.filesz
begun_unread h d c w new =
    let end_is : c.end ≡ d.offset + d.filesz = ap (λ x. x.end) new in
    let left_is : c.left ≡ d.filesz = ap (λ x. x.left) new in
    omega arith

-- ---- the entry that the reader returned

abbrev IsNext : (List ℕ → List DynamicEntry) → (List ℕ → List DynamicEntry) → Option DynamicEntry → List ℕ → Type 0
IsNext old new o bytes = MatchOption o (old bytes ≡ []) (λ e. old bytes ≡ e ∷ new bytes)

pub next_is : (known : Option (List ℕ)) (old new : List ℕ → List DynamicEntry) (e : DynamicEntry) (o : Option DynamicEntry) → o ≡ Some e → IfKnown known (IsNext old new o) → IfKnown known (λ bytes. old bytes ≡ e ∷ new bytes)
next_is known old new e o is h = subst (λ o. IfKnown known (IsNext old new o)) is h

-- the same for the content before the read
pub next_before : {ending : Ending} (s t : StoreState) (c new : Entries) (e : DynamicEntry) (o : Option DynamicEntry) → OnlyReads ending s t → o ≡ Some e → OfKnown t (IsNext (rest_of c) (rest_of new) o) → OfKnown s (λ bytes. rest_of c bytes ≡ e ∷ rest_of new bytes)
next_before s t c new e o reads is h = before (λ bytes. rest_of c bytes ≡ e ∷ rest_of new bytes) s t reads (next_is (known_content t) (rest_of c) (rest_of new) e o is h)
