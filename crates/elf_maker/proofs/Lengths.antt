-- The sizes of the parts of a file.
use Rattle.std.proofs.Common.{◌≡◌, ◌≤◌, ◌*◌, inl, inr, ℕ, suc, ◌+◌, Bool, true, false, ◌==◌, nat_le, List, [], ◌∷◌, ◌++◌, All, length, refl, ap, sym, ◌∙◌, arith, append_assoc, length-append}
use Rattle.std.proofs.lemmas.Bool.Decides.{nat_tests}
use Rattle.std.proofs.lemmas.List.Sums.{AllPass-from_list_all}
use Rattle.std.specs.List.{flat_map, list_all}
use Rattle.byteorder.specs.Endian.{little_bytes}
use Rattle.byteorder.specs.Numbers.{length-bytes_low_first}
use Rattle.lib_types.specs.Abi.{class_of}
use Rattle.lib_types.specs.declared.abi.Abi.{Abi}
use Rattle.elf_headers.specs.Layout.{word_size, header_length, program_header_length}
use Rattle.elf_dynamic.specs.declared.kinds.DynamicEntry.{DynamicEntry}
use Rattle.elf_dynamic.specs.declared.kinds.Dynamic.{Dynamic}
use Rattle.elf_maker.specs.declared.kinds.Spec.{Spec}
use Rattle.elf_maker.specs.declared.layout.Layout.{Layout}
use Rattle.elf_maker.specs.declared.layout.TheConstants.{FILE_MAX}
use Rattle.elf_maker.specs.Fields.{Field, bytes_of}
use Rattle.elf_maker.specs.Texts.{Tagged, tagged, ended, strings, text_entries}
use Rattle.elf_maker.specs.Made.{width, base, identification, entry_count, entry_fields, entries, flag_entries, header_fields, program_header_fields, load_fields, dynamic_fields, section_fields, section_at, section_size, strings_at, size, made_of, made}
use Rattle.elf_maker.specs.Parts.{IsWidth, IsLayoutOf, entries_bytes}

-- ---- fields

pub sizes : List Field → ℕ
sizes [] = 0
sizes (f ∷ fields) = f.0 + sizes fields

pub length_fields : (fields : List Field) → length (bytes_of fields) ≡ sizes fields
unfolding bytes_of sizes
length_fields [] = refl
length_fields (f ∷ fields) =
    let ih = length_fields fields in
    omega (arith, ih, length-append (little_bytes f.0 f.1) (flat_map (λ (f : Field). little_bytes f.0 f.1) fields), length-bytes_low_first 0 f.0 f.1)

header_sizes : (w etype : ℕ) (abi : Abi) → IsWidth w → 16 + sizes (header_fields w etype abi) ≡ header_length w
unfolding sizes
header_sizes w etype abi (inl four) = rw four refl
header_sizes w etype abi (inr eight) = rw eight refl

program_header_sizes : (w kind offset size align : ℕ) → IsWidth w → sizes (program_header_fields w kind offset size align) ≡ program_header_length w
unfolding sizes
program_header_sizes w kind offset size align (inl four) = rw four refl
program_header_sizes w kind offset size align (inr eight) = rw eight refl

pub length_header : (w etype : ℕ) (abi : Abi) → IsWidth w → 16 + length (bytes_of (header_fields w etype abi)) ≡ header_length w
length_header w etype abi h = ap (λ n. 16 + n) (length_fields (header_fields w etype abi)) ∙ header_sizes w etype abi h

pub length_program_header : (w kind offset size align : ℕ) → IsWidth w → length (bytes_of (program_header_fields w kind offset size align)) ≡ program_header_length w
length_program_header w kind offset size align h = length_fields (program_header_fields w kind offset size align) ∙ program_header_sizes w kind offset size align h

-- ---- entries

section_sizes : (w : ℕ) (es : List DynamicEntry) → sizes (flat_map (entry_fields w) es) ≡ length es * (2 * w)
unfolding sizes
section_sizes w [] = omega arith
section_sizes w (e ∷ es) = let ih = section_sizes w es in let more : (1 + length es) * (2 * w) ≡ 2 * w + length es * (2 * w) = omega arith in omega (arith, ih, more)

pub length_texts : (at : ℕ) (texts : List Tagged) → length (text_entries at texts) ≡ length texts
length_texts at [] = refl
length_texts at (t ∷ texts) = ap suc (length_texts (at + length (ended t)) texts)

pub length_entries : (address : ℕ) (d : Dynamic) → length (entries address d) ≡ entry_count d
unfolding entries
length_entries address d =
    let a = length_texts 1 (tagged d) in
    let last : List DynamicEntry = record { tag = 5; value = address } ∷ record { tag = 10; value = length (strings d) } ∷ record { tag = 0; value = 0 } ∷ [] in
    let x = length-append (text_entries 1 (tagged d) ++ flag_entries d.nodeflib) last in
    let y = length-append (text_entries 1 (tagged d)) (flag_entries d.nodeflib) in
    omega (arith, a, x, y)

pub length_section : (w : ℕ) (d : Dynamic) → length (bytes_of (section_fields w d)) ≡ section_size w d
length_section w d =
    length_fields (section_fields w d)
    ∙ section_sizes w (entries (strings_at w d + base) d)
    ∙ ap (λ n. n * (2 * w)) (length_entries (strings_at w d + base) d)

-- ---- the file

length_six : (a b c d e f : List ℕ) → length (a ++ b ++ c ++ d ++ e ++ f) ≡ length a + length b + length c + length d + length e + length f
length_six a b c d e f = simp length-append refl

length_of : (w : ℕ) (spec : Spec) → IsWidth w → length (made_of w spec) ≡ size w spec.dynamic
length_of w spec h =
    let d = spec.dynamic in
    let all = length_six (identification (class_of spec.abi)) (bytes_of (header_fields w spec.etype spec.abi)) (bytes_of (load_fields w d)) (bytes_of (dynamic_fields w d)) (bytes_of (section_fields w d)) (strings d) in
    let head = length_header w spec.etype spec.abi h in
    let load = length_program_header w 1 0 (size w d) 0x1000 h in
    let dyn = length_program_header w 2 (section_at w) (section_size w d) w h in
    let section = length_section w d in
    omega (arith, all, head, load, dyn, section)

width_by : (b : Bool) → IsWidth (word_size b)
width_by true = inr refl
width_by false = inl refl

pub has_width : (spec : Spec) → IsWidth (width spec)
has_width spec = width_by (class_of spec.abi == 2)

pub made_length : (spec : Spec) → length (made spec) ≡ size (width spec) spec.dynamic
unfolding made
made_length spec = length_of (width spec) spec (has_width spec)

pub is_short : {l : Layout} {spec : Spec} → IsLayoutOf l spec → length (made spec) ≤ FILE_MAX
is_short {l = l} {spec = spec} h =
    let small : size l.w spec.dynamic ≤ FILE_MAX = omega (arith, h.strings_is, h.strings_size_is, h.small) in
    rw (made_length spec, sym h.of_abi) small

-- ---- the written fields

all_small : (fields : List Field) → list_all (λ f. nat_le f.0 8) fields ≡ true → All (λ f. f.0 ≤ 8) fields
all_small fields h k d l = let fits = AllPass-from_list_all (λ (f : Field). nat_le f.0 8) fields h k d l in grind (arith, nat_tests)

abbrev pub header_of : ℕ → ℕ → ℕ → ℕ → ℕ → ℕ → ℕ → ℕ → List Field
header_of w a b c e x y z = (2, a) ∷ (2, b) ∷ (4, c) ∷ (w, 0) ∷ (w, x) ∷ (w, 0) ∷ (4, e) ∷ (2, x) ∷ (2, y) ∷ (2, z) ∷ (2, 0) ∷ (2, 0) ∷ (2, 0) ∷ []

pub small_header : (w a b c e x y z : ℕ) → IsWidth w → All (λ (f : Field). f.0 ≤ 8) (header_of w a b c e x y z)
small_header w a b c e x y z (inl four) = all_small (header_of w a b c e x y z) (rw four refl)
small_header w a b c e x y z (inr eight) = all_small (header_of w a b c e x y z) (rw eight refl)

-- ---- all parts, after what was already written

six : (out a b c d e f : List ℕ) → out ++ a ++ b ++ c ++ d ++ e ++ f ≡ out ++ (a ++ b ++ c ++ d ++ e ++ f)
six out a b c d e f = simp append_assoc refl

pub file_is : {l : Layout} {spec : Spec} → IsLayoutOf l spec → (all address : ℕ) (out : List ℕ) → all ≡ l.strings + l.strings_size → address ≡ l.strings + base →
    out
    ++ identification (class_of spec.abi)
    ++ bytes_of (header_fields l.w spec.etype spec.abi)
    ++ bytes_of (program_header_fields l.w 1 0 all 0x1000)
    ++ bytes_of (program_header_fields l.w 2 l.section l.section_size l.w)
    ++ entries_bytes l.w (entries address spec.dynamic)
    ++ strings spec.dynamic
    ≡ out ++ made spec
unfolding made entries_bytes
file_is {l = l} {spec = spec} h all address out whole table =
    let d = spec.dynamic in
    let w = l.w in
    let size_is : all ≡ size w d = omega (arith, h.strings_is, h.strings_size_is) in
    let table_is : address ≡ strings_at w d + base = omega (arith, h.strings_is) in
    let joined = six out (identification (class_of spec.abi)) (bytes_of (header_fields w spec.etype spec.abi)) (bytes_of (load_fields w d)) (bytes_of (dynamic_fields w d)) (bytes_of (section_fields w d)) (strings d) in
    let width_is : made_of w spec ≡ made_of (width spec) spec = ap (λ w. made_of w spec) h.of_abi in
    rw (size_is, table_is, h.section_is, h.section_size_is) (joined ∙ ap (λ r. out ++ r) width_is)
