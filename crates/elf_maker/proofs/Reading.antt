-- Reading the numbers of a generated file back gives the numbers that were written.
use Rattle.std.proofs.Common.{◌≡◌, ◌<◌, ◌*◌, ◌^◌, inl, inr, ℕ, zero, suc, ◌+◌, List, [], ◌∷◌, ◌++◌, length, map, drop, Some, refl, ap, sym, ◌∙◌, arith, append_assoc, length-append}
use Rattle.std.proofs.Math.Seq.{drop-append_seam}
use Rattle.std.specs.List.{range_with_len, slice_get}
use Rattle.std.specs.Option.{option_map_or}
use Rattle.byteorder.specs.Endian.{little_bytes}
use Rattle.byteorder.specs.Numbers.{little_number-reads_back, length-bytes_low_first}
use Rattle.lib_types.specs.Bytes.{field}
use Rattle.elf_headers.specs.Layout.{at_class, segment_at}
use Rattle.lib_types.proofs.Fields.{field_drop}
use Rattle.elf_dynamic.specs.declared.kinds.DynamicEntry.{DynamicEntry}
use Rattle.elf_dynamic.specs.Section.{entry_at}
use Rattle.elf_maker.specs.Fields.{Field, bytes_of}
use Rattle.elf_maker.specs.Made.{base, entry_fields, program_header_fields}
use Rattle.elf_maker.specs.Parts.{IsWidth, entries_bytes}

-- ---- one number

pub field_there : (n x at : ℕ) (front rest : List ℕ) → x < 256 ^ n → at ≡ length front → field (front ++ (little_bytes n x ++ rest)) at n ≡ x
field_there n x at front rest small here =
    let all = front ++ (little_bytes n x ++ rest) in
    let following : drop at all ≡ little_bytes n x ++ rest = ap (λ k. drop k all) here ∙ drop-append_seam front (little_bytes n x ++ rest) in
    sym (field_drop n at all) ∙ ap (λ xs. field xs 0 n) following ∙ little_number-reads_back n x rest small

pub below : (w x : ℕ) → IsWidth w → x < 2 ^ 32 → x < 256 ^ w
below w x (inl four) h = rw four (omega arith)
below w x (inr eight) h = rw eight (omega arith)

-- ---- a number in a list of numbers

one_on : (f : Field) (fields : List Field) (front rest : List ℕ) → front ++ (bytes_of (f ∷ fields) ++ rest) ≡ front ++ (little_bytes f.0 f.1 ++ (bytes_of fields ++ rest))
unfolding bytes_of
one_on f fields front rest = ap (λ r. front ++ r) (append_assoc (little_bytes f.0 f.1) (bytes_of fields) rest)

-- the total size of the first i fields
unfoldable pub offset_of : ℕ → List Field → ℕ
offset_of i [] = 0
offset_of zero (f ∷ fields) = 0
offset_of (suc i) (f ∷ fields) = f.0 + offset_of i fields

pub nth_field : (fields : List Field) (i n x at : ℕ) (front rest : List ℕ) → slice_get fields i ≡ Some (n, x) → x < 256 ^ n → at ≡ length front + offset_of i fields →
    field (front ++ (bytes_of fields ++ rest)) at n ≡ x
unfolding offset_of
nth_field [] i n x at front rest is small here = absurd (cc)
nth_field (f ∷ fields) zero n x at front rest is small here =
    let size : f.0 ≡ n = ap (λ o. option_map_or (λ f. f.0) o 0) is in
    let value : f.1 ≡ x = ap (λ o. option_map_or (λ f. f.1) o 0) is in
    let there = field_there n x at front (bytes_of fields ++ rest) small (omega arith) in
    ap (λ bytes. field bytes at n) (one_on f fields front rest) ∙ (rw (size, value) there)
nth_field (f ∷ fields) (suc i) n x at front rest is small here =
    let next = front ++ little_bytes f.0 f.1 in
    let following : length next ≡ length front + f.0 = length-append front (little_bytes f.0 f.1) ∙ ap (λ k. length front + k) (length-bytes_low_first 0 f.0 f.1) in
    let ih = nth_field fields i n x at next rest is small (omega (arith, here, following)) in
    ap (λ bytes. field bytes at n) (one_on f fields front rest ∙ sym (append_assoc front (little_bytes f.0 f.1) (bytes_of fields ++ rest))) ∙ ih

-- ---- a program header

-- the offsets of its fields
places : (w : ℕ) → IsWidth w → (at_class w 4 8 ≡ 4 + (at_class w 0 4 + 0)) × (at_class w 8 16 ≡ 4 + (at_class w 0 4 + (w + 0))) × (at_class w 16 32 ≡ 4 + (at_class w 0 4 + (w + (w + (w + 0)))))
places w (inl four) = rw four (refl, refl, refl)
places w (inr eight) = rw eight (refl, refl, refl)

pub header_there : (w kind offset size align at : ℕ) (front rest : List ℕ) → IsWidth w → kind < 2 ^ 32 → offset + base < 2 ^ 32 → size < 2 ^ 32 → at ≡ length front →
    segment_at w (front ++ (bytes_of (program_header_fields w kind offset size align) ++ rest)) at
    ≡ record { kind = kind; offset = offset; vaddr = offset + base; filesz = size }
unfolding offset_of
header_there w kind offset size align at front rest width hk ho hs here =
    let fields = program_header_fields w kind offset size align in
    let p = places w width in
    let k = nth_field fields 0 4 kind at front rest refl (omega arith) (omega arith) in
    let o = nth_field fields 2 w offset (at + at_class w 4 8) front rest refl (below w offset width (omega arith)) (omega (arith, p)) in
    let v = nth_field fields 3 w (offset + base) (at + at_class w 8 16) front rest refl (below w (offset + base) width (omega arith)) (omega (arith, p)) in
    let s = nth_field fields 5 w size (at + at_class w 16 32) front rest refl (below w size width (omega arith)) (omega (arith, p)) in
    rw (k, o, v, s) refl

-- ---- the dynamic entries

-- the numbers in the entries are below 2^32
abbrev pub AreSmall : List DynamicEntry → Type 0
AreSmall [] = Unit {0}
AreSmall (e ∷ es) = (e.tag < 2 ^ 32) × (e.value < 2 ^ 32) × AreSmall es

entry_on : (w : ℕ) (e : DynamicEntry) (es : List DynamicEntry) (front rest : List ℕ) →
    front ++ (entries_bytes w (e ∷ es) ++ rest) ≡ (front ++ bytes_of (entry_fields w e)) ++ (entries_bytes w es ++ rest)
unfolding entries_bytes bytes_of
entry_on w e es front rest = simp append_assoc refl

length_entry : (w : ℕ) (e : DynamicEntry) → length (bytes_of (entry_fields w e)) ≡ 2 * w
unfolding bytes_of
length_entry w e = simp (length-append, length-bytes_low_first) (omega arith)

pub entries_there : (w at index : ℕ) (es : List DynamicEntry) (front rest : List ℕ) → IsWidth w → AreSmall es → length front ≡ at + index * (2 * w) →
    map (λ index. entry_at w (front ++ (entries_bytes w es ++ rest)) (at + index * (2 * w))) (range_with_len index (length es)) ≡ es
unfolding offset_of
entries_there w at index [] front rest width small here = refl
entries_there w at index (e ∷ es) front rest width small here =
    let next = front ++ bytes_of (entry_fields w e) in
    let all = entry_on w e es front rest in
    let place = at + index * (2 * w) in
    let following = length-append front (bytes_of (entry_fields w e)) in
    let more : at + (index + 1) * (2 * w) ≡ place + 2 * w = omega arith in
    let ih = entries_there w at (index + 1) es next rest width small.2 (omega (arith, following, length_entry w e)) in
    let same : front ++ (bytes_of (entry_fields w e) ++ (entries_bytes w es ++ rest)) ≡ next ++ (entries_bytes w es ++ rest) = sym (append_assoc front (bytes_of (entry_fields w e)) (entries_bytes w es ++ rest)) in
    let tag = nth_field (entry_fields w e) 0 w e.tag place front (entries_bytes w es ++ rest) refl (below w e.tag width small.0) (omega arith) in
    let value = nth_field (entry_fields w e) 1 w e.value (place + w) front (entries_bytes w es ++ rest) refl (below w e.value width small.1) (omega arith) in
    let split = next ++ (entries_bytes w es ++ rest) in
    let first : entry_at w split place ≡ e = ap (λ bytes. entry_at w bytes place) (sym same) ∙ rw (tag, value) refl in
    let others = range_with_len (index + 1) (length es) in
    ap (λ bytes. entry_at w bytes place ∷ map (λ i. entry_at w bytes (at + i * (2 * w))) others) all
    ∙ ap (λ x. x ∷ map (λ i. entry_at w split (at + i * (2 * w))) others) first
    ∙ ap (λ xs. e ∷ xs) ih
