-- Reading a generated file back gives the spec that it was generated from.
use Rattle.std.proofs.Common.{◌≡◌, ◌≤◌, ◌<◌, ◌*◌, ◌-◌, ◌/◌, ◌^◌, inl, inr, ℕ, ◌+◌, true, false, not, ◌&&◌, ◌||◌, ◌==◌, nat_le, nat_lt, min, List, [], ◌∷◌, ◌++◌, length, map, find, take, drop, Some, None, is_some, is_none, Ok, refl, ap, sym, ◌∙◌, arith, append_assoc, length-append}
use Rattle.std.proofs.Math.Nat.{mul-div_cancel}
use Rattle.std.proofs.Math.Seq.{drop-append_seam}
use Rattle.std.proofs.lemmas.Bool.Decides.{nat_tests}
use Rattle.std.proofs.lemmas.List.{take_all}
use Rattle.std.specs.List.{range_with_len, take_while}
use Rattle.std.specs.Option.{option_map_or}
use Rattle.lib_types.specs.Abi.{machine_of, class_of, row_of, abi_of_elf}
use Rattle.lib_types.specs.Bytes.{field}
use Rattle.lib_types.proofs.Abis.{bits_small, known_abi, known_class, machine_small}
use Rattle.elf_headers.specs.declared.kinds.Segment.{Segment}
use Rattle.elf_headers.specs.Layout.{encoding, is_wide, word_size, at_class, header_length, etype, machine, eflags, phoff, phentsize, phnum, program_header_length, segment_at, segments}
use Rattle.elf_headers.specs.Header.{Sentence, first_defect, unless_defect, has_magic, has_class, abi, abi_in, is_loadable, has_bad_headers, header_sentences_of}
use Rattle.elf_dynamic.specs.declared.kinds.Dynamic.{Dynamic}
use Rattle.elf_dynamic.specs.Section.{is_dynamic, dynamic_segment, is_outside, entry_at, dynamic_entries, table_at}
use Rattle.elf_dynamic.specs.Object.{entries as read_entries, table as read_table, lacks_table, dynamic, dynamic_sentences, object_sentences, as_object, object}
use Rattle.elf_maker.specs.declared.kinds.Spec.{Spec}
use Rattle.elf_maker.specs.declared.layout.TheConstants.{FILE_MAX}
use Rattle.elf_maker.specs.Fields.{bytes_of}
use Rattle.elf_maker.specs.Texts.{strings}
use Rattle.elf_maker.specs.Made.{is_spec, width, base, identification, entry_count, entries, header_fields, load_fields, dynamic_fields, section_fields, section_at, section_size, strings_at, size, made_of, made, object_of}
use Rattle.elf_maker.specs.Parts.{IsWidth, entries_bytes}
use Rattle.elf_maker.proofs.Makeable.{Fits, fits}
use Rattle.elf_maker.proofs.Lengths.{has_width, made_length, length_header, length_program_header, length_entries}
use Rattle.elf_maker.proofs.Reading.{offset_of, nth_field, below, header_there, entries_there}
use Rattle.elf_maker.proofs.Info.{live_of, live_is, small_is, Says, says}
use Rattle.elf_maker.proofs.Steps.{strings_size}

-- ---- the parts of the file

split_two : (a b c d e f : List ℕ) → a ++ b ++ c ++ d ++ e ++ f ≡ a ++ (b ++ (c ++ (d ++ (e ++ f))))
split_two a b c d e f = simp append_assoc refl

split_three : (a b c d e f : List ℕ) → a ++ b ++ c ++ d ++ e ++ f ≡ (a ++ b) ++ (c ++ (d ++ (e ++ f)))
split_three a b c d e f = simp append_assoc refl

split_four : (a b c d e f : List ℕ) → a ++ b ++ c ++ d ++ e ++ f ≡ (a ++ b ++ c) ++ (d ++ (e ++ f))
split_four a b c d e f = simp append_assoc refl

split_five : (a b c d e f : List ℕ) → a ++ b ++ c ++ d ++ e ++ f ≡ (a ++ b ++ c ++ d) ++ (e ++ f)
split_five a b c d e f = simp append_assoc refl

-- ---- the file header

header_places : (w : ℕ) → IsWidth w →
    (at_class w 28 32 ≡ 16 + (2 + (2 + (4 + (w + 0)))))
    × (at_class w 42 54 ≡ 16 + (2 + (2 + (4 + (w + (w + (w + (4 + (2 + 0)))))))))
    × (at_class w 44 56 ≡ 16 + (2 + (2 + (4 + (w + (w + (w + (4 + (2 + (2 + 0))))))))))
    × (at_class w 36 48 ≡ 16 + (2 + (2 + (4 + (w + (w + (w + 0)))))))
header_places w (inl four) = rw four (refl, refl, refl, refl)
header_places w (inr eight) = rw eight (refl, refl, refl, refl)

lengths_small : (w : ℕ) → IsWidth w → (header_length w < 2 ^ 16) × (program_header_length w < 2 ^ 16) × (16 ≤ header_length w)
lengths_small w (inl four) = rw four (omega arith, omega arith, omega arith)
lengths_small w (inr eight) = rw eight (omega arith, omega arith, omega arith)

etype_small : (e : ℕ) → ((e == 2) || (e == 3)) ≡ true → e < 256 ^ 2
etype_small e h = grind (arith, nat_tests)

record Heads (w : ℕ) (bytes : List ℕ) (spec : Spec) : Type 0 where
  pub etype_is : etype bytes ≡ spec.etype
  pub machine_is : machine bytes ≡ machine_of spec.abi
  pub eflags_is : eflags w bytes ≡ (row_of spec.abi).bits
  pub phoff_is : phoff w bytes ≡ header_length w
  pub phentsize_is : phentsize w bytes ≡ program_header_length w
  pub phnum_is : phnum w bytes ≡ 2

heads : (w : ℕ) (spec : Spec) → IsWidth w → is_spec spec ≡ true → Heads w (made_of w spec) spec
unfolding offset_of
heads w spec width h =
    let d = spec.dynamic in
    let fields = header_fields w spec.etype spec.abi in
    let front = identification (class_of spec.abi) in
    let rest = bytes_of (load_fields w d) ++ (bytes_of (dynamic_fields w d) ++ (bytes_of (section_fields w d) ++ strings d)) in
    let all : made_of w spec ≡ front ++ (bytes_of fields ++ rest) = split_two front (bytes_of fields) (bytes_of (load_fields w d)) (bytes_of (dynamic_fields w d)) (bytes_of (section_fields w d)) (strings d) in
    let p = header_places w width in
    let s = lengths_small w width in
    record {
      etype_is = ap (λ bytes. field bytes 16 2) all ∙ nth_field fields 0 2 spec.etype 16 front rest refl (etype_small spec.etype (Fits.etype (fits spec h))) refl;
      machine_is = ap (λ bytes. field bytes 18 2) all ∙ nth_field fields 1 2 (machine_of spec.abi) 18 front rest refl (machine_small spec.abi) refl;
      phoff_is = ap (λ bytes. field bytes (at_class w 28 32) w) all ∙ nth_field fields 4 w (header_length w) (at_class w 28 32) front rest refl (below w (header_length w) width (omega arith)) p.0;
      phentsize_is = ap (λ bytes. field bytes (at_class w 42 54) 2) all ∙ nth_field fields 8 2 (program_header_length w) (at_class w 42 54) front rest refl (omega arith) p.1;
      phnum_is = ap (λ bytes. field bytes (at_class w 44 56) 2) all ∙ nth_field fields 9 2 2 (at_class w 44 56) front rest refl (omega arith) p.2;
      eflags_is = ap (λ bytes. field bytes (at_class w 36 48) 4) all ∙ nth_field fields 6 4 (row_of spec.abi).bits (at_class w 36 48) front rest refl (bits_small spec.abi) p.3;
    }

-- ---- the program headers

load : ℕ → Segment
load n = record { kind = 1; offset = 0; vaddr = 0 + base; filesz = n }

section : ℕ → Dynamic → Segment
section w d = record { kind = 2; offset = section_at w; vaddr = section_at w + base; filesz = section_size w d }

record Segments (w : ℕ) (bytes : List ℕ) (d : Dynamic) : Type 0 where
  pub first : segment_at w bytes (header_length w) ≡ load (size w d)
  pub second : segment_at w bytes (header_length w + program_header_length w) ≡ section w d

segments_there : (w : ℕ) (spec : Spec) → IsWidth w → size w spec.dynamic ≤ FILE_MAX → Segments w (made_of w spec) spec.dynamic
unfolding load section
segments_there w spec width short =
    let d = spec.dynamic in
    let a = identification (class_of spec.abi) in
    let b = bytes_of (header_fields w spec.etype spec.abi) in
    let c = bytes_of (load_fields w d) in
    let e = bytes_of (dynamic_fields w d) in
    let s = bytes_of (section_fields w d) in
    let t = strings d in
    let head_size = length_header w spec.etype spec.abi width in
    let load_size = length_program_header w 1 0 (size w d) 0x1000 width in
    let small = lengths_small w width in
    record {
      first =
          ap (λ bytes. segment_at w bytes (header_length w)) (split_three a b c e s t)
          ∙ header_there w 1 0 (size w d) 0x1000 (header_length w) (a ++ b) (e ++ (s ++ t)) width (omega arith) (omega arith) (omega arith) (omega (arith, length-append a b));
      second =
          ap (λ bytes. segment_at w bytes (header_length w + program_header_length w)) (split_four a b c e s t)
          ∙ header_there w 2 (section_at w) (section_size w d) w (header_length w + program_header_length w) (a ++ b ++ c) (s ++ t) width (omega arith) (omega arith) (omega arith) (omega (arith, length-append (a ++ b) c, length-append a b));
    }

segments_are : (w : ℕ) (bytes : List ℕ) (spec : Spec) → Heads w bytes spec → Segments w bytes spec.dynamic → segments w bytes ≡ load (size w spec.dynamic) ∷ section w spec.dynamic ∷ []
unfolding segments
segments_are w bytes spec h s =
    let first_at : phoff w bytes + 0 * program_header_length w ≡ header_length w = omega (arith, h.phoff_is) in
    let second_at : phoff w bytes + 1 * program_header_length w ≡ header_length w + program_header_length w = omega (arith, h.phoff_is) in
    ap (λ n. map (λ i. segment_at w bytes (phoff w bytes + i * program_header_length w)) (range_with_len 0 n)) h.phnum_is
    ∙ ap (λ at. segment_at w bytes at ∷ segment_at w bytes (phoff w bytes + 1 * program_header_length w) ∷ []) first_at
    ∙ ap (λ at. segment_at w bytes (header_length w) ∷ segment_at w bytes at ∷ []) second_at
    ∙ ap (λ s. s ∷ segment_at w bytes (header_length w + program_header_length w) ∷ []) s.first
    ∙ ap (λ x. load (size w spec.dynamic) ∷ x ∷ []) s.second

section_found : (w : ℕ) (bytes : List ℕ) (d : Dynamic) → segments w bytes ≡ load (size w d) ∷ section w d ∷ [] → dynamic_segment w bytes ≡ Some (section w d)
unfolding load section
section_found w bytes d h = ap (find is_dynamic) h

-- ---- the dynamic entries

count_is : (w : ℕ) (d : Dynamic) → IsWidth w → section_size w d / (2 * w) ≡ entry_count d
count_is w d (inl four) = mul-div_cancel (entry_count d) (rw four (omega arith))
count_is w d (inr eight) = mul-div_cancel (entry_count d) (rw eight (omega arith))

entries_are : (w : ℕ) (spec : Spec) → IsWidth w → is_spec spec ≡ true → size w spec.dynamic ≤ FILE_MAX →
    dynamic_entries w (made_of w spec) (section w spec.dynamic) ≡ live_of (strings_at w spec.dynamic + base) spec.dynamic
unfolding dynamic_entries section entries_bytes
entries_are w spec width h short =
    let d = spec.dynamic in
    let a = identification (class_of spec.abi) in
    let b = bytes_of (header_fields w spec.etype spec.abi) in
    let c = bytes_of (load_fields w d) in
    let e = bytes_of (dynamic_fields w d) in
    let t = strings d in
    let address = strings_at w d + base in
    let es = entries address d in
    let front = a ++ b ++ c ++ e in
    let split : made_of w spec ≡ front ++ (entries_bytes w es ++ t) = split_five a b c e (bytes_of (section_fields w d)) t in
    let head_size = length_header w spec.etype spec.abi width in
    let load_size = length_program_header w 1 0 (size w d) 0x1000 width in
    let dyn_size = length_program_header w 2 (section_at w) (section_size w d) w width in
    let here : length front ≡ section_at w + 0 * (2 * w) = omega (arith, length-append (a ++ b ++ c) e, length-append (a ++ b) c, length-append a b) in
    let small = small_is address d (omega arith) (omega arith) in
    let count : section_size w d / (2 * w) ≡ length es = count_is w d width ∙ sym (length_entries address d) in
    let there = entries_there w (section_at w) 0 es front t width small here in
    ap (take_while (λ e. not (e.tag == 0))) (ap (λ n. map (λ i. entry_at w (made_of w spec) (section_at w + i * (2 * w))) (range_with_len 0 n)) count
    ∙ ap (λ bytes. map (λ i. entry_at w bytes (section_at w + i * (2 * w))) (range_with_len 0 (length es))) split
    ∙ there)
    ∙ live_is address d

-- ---- the string table

table_there : (bytes front table : List ℕ) (other : Segment) (address : ℕ) → bytes ≡ front ++ table → 0 < length table → address ≡ length front + base →
    table_at bytes (load (length bytes) ∷ other ∷ []) address (length table) ≡ Some table
unfolding load
table_there bytes front table other address is long here =
    let n = length bytes in
    let parts : n ≡ length front + length table = ap length is ∙ length-append front table in
    let has : (nat_le (0 + base) address && nat_lt address (0 + base + n)) ≡ true = grind (arith, nat_tests) in
    let at : 0 + (address - (0 + base)) ≡ length front = omega arith in
    let in_file : nat_le (length front) n ≡ true = grind (arith, nat_tests) in
    let rest : min (0 + base + n - address) (n - length front) ≡ length table = omega arith in
    let whole : nat_le (length table) (length table) ≡ true = grind (arith, nat_tests) in
    let bytes_there : take (length table) (drop (length front) bytes) ≡ table = ap (λ xs. take (length table) (drop (length front) xs)) is ∙ ap (take (length table)) (drop-append_seam front table) ∙ take_all (length table) table (omega arith) in
    rw (has, at, in_file, rest, whole, bytes_there) refl

-- ---- none of the rules for defects applies

abbrev NoneHold : List Sentence → Type 0
NoneHold [] = Unit {0}
NoneHold (s ∷ rows) = (s.0 ≡ false) × NoneHold rows

none_first : (rows : List Sentence) → NoneHold rows → first_defect rows ≡ None
none_first [] h = refl
none_first (s ∷ rows) h = rw (h.0) (none_first rows h.1)

abbrev rows_of : ℕ → List ℕ → List Sentence
rows_of w bytes = header_sentences_of w (length bytes) bytes ++ dynamic_sentences w bytes

record Good (w address : ℕ) (bytes : List ℕ) (spec : Spec) (s : Segment) : Type 0 where
  pub width_is : word_size (is_wide bytes) ≡ w
  pub magic : has_magic bytes ≡ true
  pub long : nat_lt (length bytes) 16 ≡ false
  pub known : has_class bytes ≡ true
  pub little : (encoding bytes == 1) ≡ true
  pub full : nat_lt (length bytes) (header_length w) ≡ false
  pub abi_is : abi bytes ≡ Some spec.abi
  pub etype_is : etype bytes ≡ spec.etype
  pub loadable : is_loadable bytes ≡ true
  pub headers : has_bad_headers w (length bytes) bytes ≡ false
  pub segment_is : dynamic_segment w bytes ≡ Some s
  pub inside : is_outside bytes s ≡ false
  pub entries_is : read_entries w bytes ≡ live_of address spec.dynamic
  pub table_is : read_table w bytes ≡ Some (strings spec.dynamic)
  pub info : Says address spec.dynamic

none_hold : (w address : ℕ) (bytes : List ℕ) (spec : Spec) (s : Segment) → Good w address bytes spec s → NoneHold (rows_of w bytes)
none_hold w address bytes spec s g = (
  ap not g.magic,
  (
    g.long,
    (
      ap not g.known,
      (
        ap not g.little,
        (
          g.full,
          (
            ap (λ v. is_none (abi_in v bytes)) (sym g.width_is) ∙ ap is_none g.abi_is,
            (
              ap not g.loadable,
              (
                g.headers,
                (
                  ap (λ o. option_map_or (is_outside bytes) o false) g.segment_is ∙ g.inside,
                  (
                    ap lacks_table g.entries_is ∙ g.info.no_lack,
                    (
                      rw (g.entries_is, g.table_is) (g.info.not_outside),
                      (
                        rw (g.entries_is, g.table_is) (ap is_some g.info.none_bad_there),
                        (rw (g.entries_is, g.table_is) (ap not g.info.good_soname), tt),
                      ),
                    ),
                  ),
                ),
              ),
            ),
          ),
        ),
      ),
    ),
  ),
)

object_is : (w address : ℕ) (bytes : List ℕ) (spec : Spec) (s : Segment) → Good w address bytes spec s → object bytes ≡ Ok (object_of spec)
unfolding object
object_is w address bytes spec s g =
    let none : first_defect (object_sentences bytes) ≡ None = ap (λ w. first_defect (rows_of w bytes)) g.width_is ∙ none_first (rows_of w bytes) (none_hold w address bytes spec s g) in
    let info : dynamic w bytes ≡ Some spec.dynamic = rw (g.segment_is, g.entries_is, g.table_is) (ap Some g.info.all_there) in
    let there : as_object bytes ≡ Ok (object_of spec) = rw (g.abi_is, g.etype_is, g.width_is, info) refl in
    ap (λ o. unless_defect o (as_object bytes)) none ∙ there

-- ---- a generated file

not_less : (a n : ℕ) → a ≤ n → nat_lt n a ≡ false
not_less a n h = grind (arith, nat_tests)

headers_fit : (n each at l size : ℕ) → n ≡ 2 → each ≡ l → at + 2 * l ≤ size → ((n == 65535) || (not (n == 0) && (not (each == l) || nat_lt size (at + n * l)))) ≡ false
headers_fit n each at l size two same fit = rw (two, same) (grind (arith, nat_tests))

good : (w : ℕ) (spec : Spec) → w ≡ width spec → IsWidth w → is_spec spec ≡ true → length (made_of w spec) ≡ size w spec.dynamic → size w spec.dynamic ≤ FILE_MAX →
    Good w (strings_at w spec.dynamic + base) (made_of w spec) spec (section w spec.dynamic)
unfolding read_entries read_table section
good w spec of_abi width h length_is short =
    let d = spec.dynamic in
    let bytes = made_of w spec in
    let address = strings_at w d + base in
    let heads = heads w spec width h in
    let both = segments_are w bytes spec heads (segments_there w spec width short) in
    let found = section_found w bytes d both in
    let all_entries : read_entries w bytes ≡ live_of address d = ap (λ o. option_map_or (dynamic_entries w bytes) o []) found ∙ entries_are w spec width h short in
    let say = says address spec h in
    let small = lengths_small w width in
    let front = identification (class_of spec.abi) ++ bytes_of (header_fields w spec.etype spec.abi) ++ bytes_of (load_fields w d) ++ bytes_of (dynamic_fields w d) ++ bytes_of (section_fields w d) in
    let front_size : strings_at w d + base ≡ length front + base = omega (arith, length_is, length-append front (strings d)) in
    let in_load = table_there bytes front (strings d) (section w d) address refl (omega (arith, strings_size d)) front_size in
    let the_load : load (length bytes) ∷ section w d ∷ [] ≡ segments w bytes = ap (λ n. load n ∷ section w d ∷ []) length_is ∙ sym both in
    let size_is : header_length w ≤ length bytes = omega (arith, length_is) in
    let least : 16 ≤ header_length w = small.2 in
    record {
      width_is = sym of_abi;
      magic = refl;
      long = not_less 16 (length bytes) (omega arith);
      known = known_class spec.abi;
      little = refl;
      full = not_less (header_length w) (length bytes) size_is;
      abi_is = ap (λ m. abi_of_elf m (class_of spec.abi) (eflags (word_size (class_of spec.abi == 2)) bytes)) heads.machine_is
          ∙ ap (abi_of_elf (machine_of spec.abi) (class_of spec.abi)) (ap (λ v. eflags v bytes) (sym of_abi) ∙ heads.eflags_is)
          ∙ known_abi spec.abi;
      etype_is = heads.etype_is;
      loadable = ap (λ e. (e == 2) || (e == 3)) heads.etype_is ∙ Fits.etype (fits spec h);
      headers = headers_fit (phnum w bytes) (phentsize w bytes) (phoff w bytes) (program_header_length w) (length bytes) heads.phnum_is heads.phentsize_is (omega (arith, heads.phoff_is, length_is));
      segment_is = found;
      inside = not_less (section_at w + section_size w d) (length bytes) (omega (arith, length_is));
      entries_is = all_entries;
      table_is = rw (all_entries, say.strtab_there, say.strsz_there, sym the_load) in_load;
      info = say;
    }

pub read_back : (spec : Spec) (bytes : List ℕ) → is_spec spec ≡ true → bytes ≡ made spec → length (made spec) ≤ FILE_MAX → object bytes ≡ Ok (object_of spec)
unfolding made
read_back spec bytes h is short =
    let w = width spec in
    let length_is = made_length spec in
    ap object is ∙ object_is w (strings_at w spec.dynamic + base) (made_of w spec) spec (section w spec.dynamic) (good w spec refl (has_width spec) h length_is (omega arith))
