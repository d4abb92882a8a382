-- Reading back the extension directory and the offsets of the hwcaps names of a written cache.
use Rattle.std.proofs.Common.{◌≡◌, ℕ, suc, ◌+◌, ◌*◌, ◌/◌, ◌^◌, ◌<◌, ◌≤◌, ◌==◌, Bool, true, false, cond, List, [], ◌∷◌, ◌++◌, length, flat_map, drop, get_or, map, slice_index, Option, Some, None, refl, sym, ap, ◌∙◌, append_assoc, arith, length-append, if◌then◌else◌}
use Rattle.std.proofs.lemmas.Bool.Decides.{nat_tests}
use Rattle.std.specs.List.{range_with_len}
use Rattle.std.specs.Option.{option_map_or}
use Rattle.byteorder.specs.Endian.{little_bytes}
use Rattle.byteorder.specs.Numbers.{little_number-reads_back}
use Rattle.lib_types.specs.Bytes.{field}
use Rattle.lib_types.specs.declared.entry.Entry.{Entry}
use Rattle.cache_layout.specs.Layout.{laid_out, number, directory_fields, section_fields, extension_magic, generator_tag, names_tag}
use Rattle.cache_layout.proofs.Fields.{Fit, reads_back}
use Rattle.lib_types.proofs.Fields.{field_drop}
use Rattle.cache_reader.specs.Cache as read
use Rattle.cache_reader.specs.declared.extension.Section.{Section}
use Rattle.cache_layout.specs.declared.limits.TheConstants.{ENTRIES_MAX}
use Rattle.cache_writer.specs.CacheText.{cache_text, entry_bytes, hwcaps_names, strings_bytes, strings_end, place, padding, extension_start, directory, section, section_count, names_start, generator_start, name_bytes, generator}
use Rattle.cache_writer.proofs.Bounds.{few_names}
use Rattle.lib_types.proofs.OneSize.{following, part_there, length_parts}
use Rattle.cache_writer.proofs.Back.{IsLaidOut, front, table, text_is, length_front, size_of_entry, start_small, header_back, place_small}

abbrev pub count : List Entry → ℕ
count es = length (hwcaps_names es)

-- ---- the parts of the file before and after the directory

abbrev pub body : List Entry → List ℕ
body es = front es ++ (table es ++ (strings_bytes es ++ padding (strings_end es)))

abbrev pub offsets : List Entry → List ℕ
offsets es = flat_map (name_bytes (place es)) (hwcaps_names es)

pub by_body : (es : List Entry) → cache_text es ≡ body es ++ (directory (extension_start es) (count es) ++ (offsets es ++ generator))
by_body es = text_is es ∙ simp append_assoc

pub length_body : (es : List Entry) → length (body es) ≡ extension_start es
length_body es =
    let parts = length_parts (entry_bytes (place es) (hwcaps_names es)) 24 (size_of_entry (place es) (hwcaps_names es)) es in
    let strings = length-append (strings_bytes es) (padding (strings_end es)) in
    let entries = length-append (table es) (strings_bytes es ++ padding (strings_end es)) in
    let all = length-append (front es) (table es ++ (strings_bytes es ++ padding (strings_end es))) in
    omega (arith, parts, strings, entries, all, length_front es)

pub length_generator : length generator ≡ 42
unfolding generator
length_generator = refl

-- the directory entry of the section of hwcaps names, if there are names
abbrev names_part : ℕ → ℕ → List ℕ
names_part x m = if m == 0 then [] else section names_tag (names_start x m) (4 * m)

by_sections : (x m : ℕ) (rest : List ℕ) → directory x m ++ rest
    ≡ laid_out directory_fields (extension_magic ∷ section_count m ∷ []) ++ (section generator_tag (generator_start x m) 42 ++ (names_part x m ++ rest))
unfolding directory
by_sections x m rest = rw length_generator (simp append_assoc)

pub length_directory : (x m : ℕ) → length (directory x m) ≡ 8 + 16 * section_count m
unfolding directory
length_directory x m = by (m == 0)
  where
    by : (b : Bool) → length ((laid_out directory_fields (extension_magic ∷ cond b 1 2 ∷ []) ++ section generator_tag (x + 8 + 16 * cond b 1 2 + 4 * m) (length generator))
        ++ cond b [] (section names_tag (x + 8 + 16 * cond b 1 2) (4 * m))) ≡ 8 + 16 * cond b 1 2
    by true = refl
    by false = refl

-- ---- the sections, read back

abbrev pub first_section : ℕ → ℕ → Section
first_section x m = record { tag = 0; offset = generator_start x m; size = 42 }

abbrev pub second_section : ℕ → ℕ → Section
second_section x m = record { tag = 1; offset = names_start x m; size = 4 * m }

section_there : (bytes rest : List ℕ) (x index tag offset size : ℕ) → drop (x + 8 + 16 * index) bytes ≡ section tag offset size ++ rest → tag < 2 ^ 32 → offset < 2 ^ 32 → size < 2 ^ 32
    → read.section_at bytes x index ≡ record { tag = tag; offset = offset; size = size }
unfolding read.section_at
section_there bytes rest x index tag offset size there ht ho hs =
    let numbers = tag ∷ 0 ∷ offset ∷ size ∷ [] in
    let fit : Fit section_fields numbers = (omega arith, (omega arith, (omega arith, (omega arith, tt)))) in
    let all = laid_out section_fields numbers ++ rest in
    let t : number section_fields 0 all ≡ tag = reads_back section_fields numbers rest 0 fit (omega arith) in
    let o : number section_fields 2 all ≡ offset = reads_back section_fields numbers rest 2 fit (omega arith) in
    let s : number section_fields 3 all ≡ size = reads_back section_fields numbers rest 3 fit (omega arith) in
    rw (there, t, o, s) refl

pub few : (es : List Entry) → IsLaidOut es → count es ≤ ENTRIES_MAX
few es l = let n = few_names es in omega (arith, n, l.few)

pub counted : (m : ℕ) → section_count m ≤ 2
counted m = elim (m == 0) as (λ t. cond t 1 2 ≤ 2) [ true ↦ omega arith | false ↦ omega arith ]

-- the bytes from an offset inside the directory on
in_directory : (es : List Entry) (k : ℕ) → drop (extension_start es + k) (cache_text es)
    ≡ drop k (laid_out directory_fields (extension_magic ∷ section_count (count es) ∷ []) ++ (section generator_tag (generator_start (extension_start es) (count es)) 42 ++ (names_part (extension_start es) (count es) ++ (offsets es ++ generator))))
in_directory es k =
    ap (drop (extension_start es + k)) (by_body es) ∙ following (body es) (directory (extension_start es) (count es) ++ (offsets es ++ generator)) (extension_start es) k (length_body es)
    ∙ ap (drop k) (by_sections (extension_start es) (count es) (offsets es ++ generator))

pub directory_back : (es : List Entry) → (i : ℕ) → i < 2 → number directory_fields i (drop (extension_start es) (cache_text es)) ≡ slice_index (extension_magic ∷ section_count (count es) ∷ []) i
directory_back es i h =
    let x = extension_start es in
    let here : x + 0 ≡ x = omega arith in
    let rest = section generator_tag (generator_start x (count es)) 42 ++ (names_part x (count es) ++ (offsets es ++ generator)) in
    let small : (b : Bool) → cond b 1 2 < 2 ^ 32 = λ b. elim b as (λ t. cond t 1 2 < 2 ^ 32) [ true ↦ omega arith | false ↦ omega arith ] in
    let there : drop x (cache_text es) ≡ laid_out directory_fields (extension_magic ∷ section_count (count es) ∷ []) ++ rest = ap (λ k. drop k (cache_text es)) (sym here) ∙ in_directory es 0 in
    ap (number directory_fields i) there ∙ reads_back directory_fields (extension_magic ∷ section_count (count es) ∷ []) rest i (omega arith, (small (count es == 0), tt)) h

first_back : (es : List Entry) → IsLaidOut es → read.section_at (cache_text es) (extension_start es) 0 ≡ first_section (extension_start es) (count es)
first_back es l =
    let x = extension_start es in
    let place : x + 8 + 16 * 0 ≡ x + 8 = omega arith in
    let start = start_small es l in
    let many = few es l in
    let sections = counted (count es) in
    section_there (cache_text es) (names_part x (count es) ++ (offsets es ++ generator)) x 0 0 (generator_start x (count es)) 42
    (ap (λ k. drop k (cache_text es)) place ∙ in_directory es 8) (omega arith) (omega (arith, start, many, sections)) (omega arith)

second_back : (es : List Entry) → IsLaidOut es → (count es == 0) ≡ false → read.section_at (cache_text es) (extension_start es) 1 ≡ second_section (extension_start es) (count es)
second_back es l some =
    let x = extension_start es in
    let m = count es in
    let place : x + 8 + 16 * 1 ≡ x + 24 = omega arith in
    let start = start_small es l in
    let many = few es l in
    let sections = counted m in
    let there : names_part x m ++ (offsets es ++ generator) ≡ section names_tag (names_start x m) (4 * m) ++ (offsets es ++ generator) = rw some refl in
    section_there (cache_text es) (offsets es ++ generator) x 1 1 (names_start x m) (4 * m)
    (ap (λ k. drop k (cache_text es)) place ∙ in_directory es 24 ∙ there) (omega arith) (omega (arith, start, many, sections)) (omega (arith, many))

-- reading back the offset of the extension directory
pub extension_back : (es : List Entry) → IsLaidOut es → read.extension (cache_text es) ≡ extension_start es
extension_back es l = header_back es l 4 (omega arith)

pub is_extended : (es : List Entry) → IsLaidOut es → (read.extension (cache_text es) == 0) ≡ false
is_extended es l = rw (extension_back es l) (grind (arith, nat_tests))

pub sections_back : (es : List Entry) → IsLaidOut es → read.sections_at (cache_text es) (extension_start es)
    ≡ cond (count es == 0) (first_section (extension_start es) (count es) ∷ []) (first_section (extension_start es) (count es) ∷ second_section (extension_start es) (count es) ∷ [])
sections_back es l = ap (λ n. map (read.section_at (cache_text es) (extension_start es)) (range_with_len 0 n)) (directory_back es 1 (omega arith)) ∙ by (count es == 0) refl
  where
    x : ℕ
    x = extension_start es

    by : (b : Bool) → (count es == 0) ≡ b → map (read.section_at (cache_text es) x) (range_with_len 0 (cond b 1 2))
        ≡ cond b (first_section x (count es) ∷ []) (first_section x (count es) ∷ second_section x (count es) ∷ [])
    by true e = rw (first_back es l) refl
    by false e = rw (first_back es l, second_back es l e) refl

pub names_back : (es : List Entry) → IsLaidOut es → read.names_section (cache_text es) ≡ cond (count es == 0) None (Some (second_section (extension_start es) (count es)))
names_back es l =
    rw (is_extended es l, extension_back es l, sections_back es l) (by (count es == 0))
  where
    x : ℕ
    x = extension_start es

    by : (b : Bool) → read.with_tag names_tag (cond b (first_section x (count es) ∷ []) (first_section x (count es) ∷ second_section x (count es) ∷ [])) ≡ cond b None (Some (second_section x (count es)))
    by true = refl
    by false = refl

-- ---- the offsets of the hwcaps names

pub length_name : (s : List ℕ → ℕ) (n : List ℕ) → length (name_bytes s n) ≡ 4
unfolding name_bytes
length_name s n = refl

name_there : (s : List ℕ → ℕ) (n : List ℕ) → name_bytes s n ≡ little_bytes 4 (s n)
unfolding name_bytes
name_there s n = refl

pub offset_back : (es : List Entry) → IsLaidOut es → (i : ℕ) (d : List ℕ) → i < count es → field (cache_text es) (names_start (extension_start es) (count es) + 4 * i) 4 ≡ place es (get_or (hwcaps_names es) i d)
offset_back es l i d h =
    let x = extension_start es in
    let m = count es in
    let at = names_start x m + 4 * i in
    let name = get_or (hwcaps_names es) i d in
    let rest = flat_map (name_bytes (place es)) (drop (suc i) (hwcaps_names es)) ++ generator in
    let size : length (body es ++ directory x m) ≡ names_start x m = length-append (body es) (directory x m) ∙ omega (arith, length_body es, length_directory x m) in
    let there : drop at (cache_text es) ≡ little_bytes 4 (place es name) ++ rest =
    ap (drop at) (by_body es ∙ sym (append_assoc (body es) (directory x m) (offsets es ++ generator)))
    ∙ following (body es ++ directory x m) (offsets es ++ generator) (names_start x m) (4 * i) size
    ∙ part_there (name_bytes (place es)) 4 (length_name (place es)) (hwcaps_names es) generator i d h
    ∙ ap (λ xs. xs ++ rest) (name_there (place es) name) in
    let small = place_small es l name in
    sym (field_drop 4 at (cache_text es)) ∙ ap (λ xs. field xs 0 4) there ∙ little_number-reads_back 4 (place es name) rest (omega (arith, small))

abbrev pub number_at : List Entry → ℕ → ℕ
number_at es i = field (cache_text es) (names_start (extension_start es) (count es) + 4 * i) 4

pub listed : (es : List Entry) → read.numbers_in (cache_text es) (second_section (extension_start es) (count es)) ≡ map (number_at es) (range_with_len 0 (count es))
listed es = let quarter : 4 * count es / 4 ≡ count es = omega arith in rw quarter refl

pub names_are : (es : List Entry) → IsLaidOut es → (count es == 0) ≡ false → read.name_offsets (cache_text es) ≡ map (number_at es) (range_with_len 0 (count es))
names_are es l some =
    ap (λ (o : Option Section). option_map_or (read.numbers_in (cache_text es)) o [])
    (names_back es l ∙ ap (λ (b : Bool). cond b None (Some (second_section (extension_start es) (count es)))) some)
    ∙ listed es
