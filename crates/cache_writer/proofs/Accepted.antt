-- A written cache has no defect.
use Rattle.std.proofs.Common.{◌≡◌, ℕ, zero, suc, ◌+◌, ◌*◌, ◌%◌, ◌<◌, ◌==◌, ◌&&◌, Bool, true, false, cond, nat_eq, nat_lt, nat_le, List, [], ◌∷◌, ◌++◌, length, map, flat_map, drop, get_or, Option, Some, None, IfSome, refl, sym, ap, ◌∙◌, arith, bytes_eq, length-append}
use Rattle.std.proofs.lemmas.Bool.Decides.{nat_tests}
use Rattle.std.proofs.lemmas.List.{length-replicate}
use Rattle.std.proofs.lemmas.List.FromFn.{length-map-range_with_len}
use Rattle.std.specs.List.{list_any, list_all, starts_with, position_or_len, range_with_len}
use Rattle.std.specs.Option.{option_map_or}
use Rattle.lib_types.specs.declared.entry.Entry.{Entry}
use Rattle.cache_layout.specs.Layout.{magic, old_magic, is_named, name_index, directory_fields, number, extension_magic, names_tag}
use Rattle.cache_reader.specs.Cache as read
use Rattle.cache_reader.specs.Cache.{Sentence, first_defect}
use Rattle.cache_reader.proofs.Ranges.{first-append}
use Rattle.cache_reader.proofs.Sound.{last_part}
use Rattle.cache_writer.specs.CacheText.{cache_text, header, directory, section_count, names_start, hwcap_of, hwcaps_names, strings_bytes, place, extension_start, name_bytes, generator}
use Rattle.cache_writer.proofs.Bounds.{few_names}
use Rattle.cache_writer.proofs.TextsAt.{text_ends, text_inside}
use Rattle.lib_types.proofs.OneSize.{length_parts}
use Rattle.cache_writer.proofs.Back.{IsLaidOut, front, after_header, text_is, header_back, nlibs_back, entry_back, string_back}
use Rattle.cache_writer.proofs.Sections.{count, body, offsets, by_body, length_body, length_directory, length_generator, length_name, is_extended, extension_back, directory_back, sections_back, second_section, number_at, names_are, listed, offset_back, first_section}
use Rattle.cache_writer.proofs.ReadBack.{with_bit, cap_known}
use Rattle.cache_writer.proofs.Members.{index_there}

-- ---- lists by index

no_defects : (S : ℕ → List Sentence) (a n : ℕ) → ((i : ℕ) → i < n → first_defect (S (a + i)) ≡ None) → first_defect (flat_map S (range_with_len a n)) ≡ None
no_defects S a zero h = refl
no_defects S a (suc n) h =
    let here : a + 0 ≡ a = omega arith in
    let first : first_defect (S a) ≡ None = ap (λ k. first_defect (S k)) (sym here) ∙ h 0 (omega arith) in
    let rest = no_defects S (a + 1) n (λ i less. let next : a + 1 + i ≡ a + suc i = omega arith in ap (λ k. first_defect (S k)) next ∙ h (suc i) (omega arith)) in
    first-append (S a) (flat_map S (range_with_len (a + 1) n)) ∙ rw (first, rest) refl

all_pass : (p : ℕ → Bool) (f : ℕ → ℕ) (a n : ℕ) → ((i : ℕ) → i < n → p (f (a + i)) ≡ true) → list_all p (map f (range_with_len a n)) ≡ true
all_pass p f a zero h = refl
all_pass p f a (suc n) h =
    let here : a + 0 ≡ a = omega arith in
    let first : p (f a) ≡ true = ap (λ k. p (f k)) (sym here) ∙ h 0 (omega arith) in
    rw first (all_pass p f (a + 1) n (λ i less. let next : a + 1 + i ≡ a + suc i = omega arith in ap (λ k. p (f k)) next ∙ h (suc i) (omega arith)))

-- ---- magic, version and header

is_new : (es : List Entry) (rest : List ℕ) → (starts_with nat_eq (front es ++ rest) old_magic ≡ false) × (starts_with nat_eq (front es ++ rest) magic ≡ true)
unfolding header
is_new es rest = (refl, refl)

pub length_text : (es : List Entry) → length (cache_text es) ≡ extension_start es + 8 + 16 * section_count (count es) + 4 * count es + 42
length_text es =
    let all = ap length (by_body es) ∙ length-append (body es) (directory (extension_start es) (count es) ++ (offsets es ++ generator)) in
    let rest = length-append (directory (extension_start es) (count es)) (offsets es ++ generator) in
    let last = length-append (offsets es) generator in
    let names = length_parts (name_bytes (place es)) 4 (length_name (place es)) (hwcaps_names es) in
    omega (arith, all, rest, last, names, length_body es, length_directory (extension_start es) (count es), length_generator)

good_magic : (es : List Entry) → first_defect (read.magic_sentences (cache_text es)) ≡ None
good_magic es =
    let size = length_text es in
    let long : nat_lt (length (cache_text es)) 48 ≡ false = grind (arith, nat_tests, size) in
    let old : starts_with nat_eq (cache_text es) old_magic ≡ false = ap (λ bytes. starts_with nat_eq bytes old_magic) (text_is es) ∙ (is_new es (after_header es)).0 in
    let new : starts_with nat_eq (cache_text es) magic ≡ true = ap (λ bytes. starts_with nat_eq bytes magic) (text_is es) ∙ (is_new es (after_header es)).1 in
    rw (old, long, new) refl

good_header : (es : List Entry) → IsLaidOut es → first_defect (read.header_sentences (cache_text es)) ≡ None
good_header es l =
    let size = length_text es in
    let flags : read.flags (cache_text es) ≡ 2 = header_back es l 2 (omega arith) in
    let strings : read.strings_length (cache_text es) ≡ length (strings_bytes es) = header_back es l 1 (omega arith) in
    let enough : nat_lt (length (cache_text es)) (48 + 24 * length es + length (strings_bytes es)) ≡ false = grind (arith, nat_tests, size) in
    rw (flags, nlibs_back es l, strings, enough) refl

-- ---- the entries

not_le : (a b : ℕ) → b < a → nat_le a b ≡ false
not_le a b h = grind (arith, nat_tests)

good_entry : (es : List Entry) → IsLaidOut es → (i : ℕ) (d : Entry) → i < length es → first_defect (read.entry_sentences (cache_text es) i) ≡ None
good_entry es l i d h =
    let e = get_or es i d in
    let text = cache_text es in
    let own = l.own i d h in
    let key : read.key text i ≡ place es e.soname = entry_back es l i d h 1 (omega arith) in
    let value : read.value text i ≡ place es e.path = entry_back es l i d h 2 (omega arith) in
    let name = string_back es e.soname own.soname in
    let path = string_back es e.path own.path in
    rw (key, value, not_le _ _ (text_inside text (place es e.soname) e.soname name), not_le _ _ (text_inside text (place es e.path) e.path path), text_ends text (place es e.soname) e.soname name, text_ends text (place es e.path) e.path path) refl

-- ---- the hwcaps

length_names : (es : List Entry) → IsLaidOut es → (count es == 0) ≡ false → length (read.name_offsets (cache_text es)) ≡ count es
length_names es l some =
    ap length (names_are es l some) ∙ length-map-range_with_len (number_at es) 0 (count es)

good_hwcap : (es : List Entry) → IsLaidOut es → (cap : Option (List ℕ)) → IfSome cap (λ c. list_any (bytes_eq c) (hwcaps_names es) ≡ true)
    → (is_named (hwcap_of (hwcaps_names es) cap) && nat_le (length (read.name_offsets (cache_text es))) (name_index (hwcap_of (hwcaps_names es) cap))) ≡ false
good_hwcap es l None there = refl
good_hwcap es l (Some c) there =
    let index = index_there c (hwcaps_names es) [] there in
    let few = few_names es in
    let bit = with_bit (position_or_len (bytes_eq c) (hwcaps_names es)) (omega (arith, index.0, few, l.few)) in
    let some : (count es == 0) ≡ false = grind (arith, nat_tests, index.0) in
    rw (bit.0, bit.1, length_names es l some) (not_le (count es) (position_or_len (bytes_eq c) (hwcaps_names es)) index.0)

good_hwcaps : (es : List Entry) → IsLaidOut es → (i : ℕ) (d : Entry) → i < length es → first_defect (read.hwcap_sentences (cache_text es) i) ≡ None
good_hwcaps es l i d h =
    let hwcap : read.hwcap (cache_text es) i ≡ hwcap_of (hwcaps_names es) (get_or es i d).cap = entry_back es l i d h 4 (omega arith) in
    let good = good_hwcap es l (get_or es i d).cap (cap_known es i d h) in
    rw (hwcap, good) refl

-- ---- the extension

is_aligned : (es : List Entry) → extension_start es % 4 ≡ 0
is_aligned es = rw length-replicate (omega arith)

has_directory : (es : List Entry) → IsLaidOut es → read.is_no_directory (cache_text es) (extension_start es) ≡ false
has_directory es l =
    let x = extension_start es in
    let size = length_text es in
    let first : nat_lt (length (cache_text es)) (x + 8) ≡ false = grind (arith, nat_tests, size) in
    let second : nat_lt (length (cache_text es)) (x + 8 + 16 * section_count (count es)) ≡ false = grind (arith, nat_tests, size) in
    let number0 : number directory_fields 0 (drop x (cache_text es)) ≡ extension_magic = directory_back es 0 (omega arith) in
    let sections : read.section_count (cache_text es) x ≡ section_count (count es) = directory_back es 1 (omega arith) in
    rw (is_aligned es, first, number0, sections, second) refl

are_inside : (es : List Entry) → IsLaidOut es → list_all (read.is_inside (cache_text es)) (read.sections_at (cache_text es) (extension_start es)) ≡ true
are_inside es l = rw (sections_back es l) (by (count es == 0))
  where
    x : ℕ
    x = extension_start es

    one : read.is_inside (cache_text es) (first_section x (count es)) ≡ true
    one = let size = length_text es in grind (arith, nat_tests, size)

    two : read.is_inside (cache_text es) (second_section x (count es)) ≡ true
    two = let size = length_text es in grind (arith, nat_tests, size)

    by : (b : Bool) → list_all (read.is_inside (cache_text es)) (cond b (first_section x (count es) ∷ []) (first_section x (count es) ∷ second_section x (count es) ∷ [])) ≡ true
    by true = rw one refl
    by false = rw (one, two) refl

names_end : (es : List Entry) → IsLaidOut es → list_all (read.is_ended (cache_text es)) (read.numbers_in (cache_text es) (second_section (extension_start es) (count es))) ≡ true
names_end es l =
    rw (listed es) (all_pass (read.is_ended (cache_text es)) (number_at es) 0 (count es) ends)
  where
    ends : (i : ℕ) → i < count es → read.is_ended (cache_text es) (number_at es (0 + i)) ≡ true
    ends i h =
        let name = get_or (hwcaps_names es) i [] in
        let zero_add : 0 + i ≡ i = omega arith in
        rw (zero_add, offset_back es l i [] h) (text_ends (cache_text es) (place es name) name (string_back es name (l.names i [] h)))

good_offsets : (es : List Entry) → IsLaidOut es → read.has_bad_offsets (cache_text es) (second_section (extension_start es) (count es)) ≡ false
good_offsets es l =
    let aligned = is_aligned es in
    let start : names_start (extension_start es) (count es) % 4 ≡ 0 = omega (arith, aligned) in
    let size : 4 * count es % 4 ≡ 0 = omega arith in
    rw (start, size, names_end es l) refl

good_names : (es : List Entry) → IsLaidOut es → option_map_or (read.has_bad_offsets (cache_text es)) (read.with_tag names_tag (read.sections_at (cache_text es) (extension_start es))) false ≡ false
good_names es l = rw (sections_back es l) (by (count es == 0))
  where
    x : ℕ
    x = extension_start es

    by : (b : Bool) → option_map_or (read.has_bad_offsets (cache_text es)) (read.with_tag names_tag (cond b (first_section x (count es) ∷ []) (first_section x (count es) ∷ second_section x (count es) ∷ []))) false ≡ false
    by true = refl
    by false = good_offsets es l

good_extension : (es : List Entry) → IsLaidOut es → first_defect (read.extension_sentences (cache_text es)) ≡ None
good_extension es l = rw (is_extended es l, extension_back es l, has_directory es l, are_inside es l, good_names es l) refl

first_of : (es : List Entry) (i : ℕ) → i < length es → Entry
first_of [] i h = absurd (omega arith)
first_of (e ∷ es) i h = e

pub accepted : (es : List Entry) → IsLaidOut es → read.defect (cache_text es) ≡ None
accepted es l = last_part (cache_text es) None (good_magic es) (good_header es l) entries (good_extension es l) hwcaps
  where
    from_zero : (i : ℕ) → 0 + i ≡ i
    from_zero i = omega arith

    entries : first_defect (flat_map (read.entry_sentences (cache_text es)) (read.indexes (cache_text es))) ≡ None
    entries = rw (nlibs_back es l) (no_defects (read.entry_sentences (cache_text es)) 0 (length es) (λ i h. rw (from_zero i) (good_entry es l i (first_of es i h) h)))

    hwcaps : first_defect (flat_map (read.hwcap_sentences (cache_text es)) (read.indexes (cache_text es))) ≡ None
    hwcaps = rw (nlibs_back es l) (no_defects (read.hwcap_sentences (cache_text es)) 0 (length es) (λ i h. rw (from_zero i) (good_hwcaps es l i (first_of es i h) h)))
