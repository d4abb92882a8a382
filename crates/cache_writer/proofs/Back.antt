-- Reading back the header and the entries of a written cache.
use Rattle.std.proofs.Common.{◌≡◌, ℕ, suc, ◌+◌, ◌*◌, ◌^◌, ◌<◌, ◌≤◌, true, List, [], ◌∷◌, ◌++◌, length, flat_map, drop, get_or, slice_index, Option, Some, None, refl, sym, ap, ◌∙◌, append_assoc, arith, bytes_eq, length-append}
use Rattle.std.proofs.lemmas.List.{length-replicate}
use Rattle.std.proofs.lemmas.List.Sums.{prefix_len-le-length}
use Rattle.std.specs.List.{All, list_any, position_or_len}
use Rattle.lib_types.specs.Abi.{flags_of}
use Rattle.cache_layout.specs.declared.limits.TheConstants.{ENTRIES_MAX, STRINGS_LIMIT}
use Rattle.lib_types.proofs.Abis.{flags_small}
use Rattle.lib_types.specs.declared.entry.Entry.{Entry}
use Rattle.cache_layout.specs.Layout.{laid_out, number, header_fields, entry_fields}
use Rattle.cache_layout.proofs.Fields.{Fit, reads_back}
use Rattle.string_pool.specs.SharedEnds.{shared_table}
use Rattle.string_pool.proofs.Located.{offset_fits}
use Rattle.cache_reader.specs.Cache as read
use Rattle.cache_writer.specs.CacheText.{cache_text, header, entry_bytes, hwcap_of, hwcaps_names, strings, strings_bytes, strings_end, place, padding, extension_start, directory, name_bytes, generator}
use Rattle.cache_writer.specs.Numbers.{HasOwn, AreAmong}
use Rattle.cache_writer.proofs.Bounds.{few_names}
use Rattle.cache_writer.proofs.TextsAt.{HasText, string_there}
use Rattle.lib_types.proofs.OneSize.{following, part_there, length_parts}

-- the requirements of the writer on the entries and their strings
pub record IsLaidOut (es : List Entry) : Type 0 where
  pub few : length es ≤ ENTRIES_MAX
  pub small : length (strings_bytes es) < STRINGS_LIMIT
  pub own : All (HasOwn (strings es)) es
  pub names : AreAmong (strings es) (hwcaps_names es)

-- ---- the header

header_fit : (n s x : ℕ) → n < 2 ^ 32 → s < 2 ^ 32 → x < 2 ^ 32 → Fit header_fields (n ∷ s ∷ 2 ∷ 0 ∷ x ∷ 0 ∷ 0 ∷ 0 ∷ [])
header_fit n s x hn hs hx = (omega arith, (omega arith, (omega arith, (omega arith, (omega arith, (omega arith, (omega arith, (omega arith, tt))))))))

-- the parts of the file after the strings, after the entries, and after the header
abbrev pub after_strings : List Entry → List ℕ
after_strings es =
    padding (strings_end es)
    ++ (directory (extension_start es) (length (hwcaps_names es)) ++ (flat_map (name_bytes (place es)) (hwcaps_names es) ++ generator))

abbrev pub after_entries : List Entry → List ℕ
after_entries es = strings_bytes es ++ after_strings es

abbrev pub table : List Entry → List ℕ
table es = flat_map (entry_bytes (place es) (hwcaps_names es)) es

abbrev pub after_header : List Entry → List ℕ
after_header es = table es ++ after_entries es

abbrev pub front : List Entry → List ℕ
front es = header (length es) (length (strings_bytes es)) (extension_start es)

-- the file is its header and the parts after it
pub text_is : (es : List Entry) → cache_text es ≡ front es ++ after_header es
unfolding cache_text
text_is es = simp append_assoc

pub length_front : (es : List Entry) → length (front es) ≡ 48
unfolding header
length_front es = refl

pub length_padding : (n : ℕ) → length (padding n) < 4
length_padding n = rw length-replicate (omega arith)

pub start_small : (es : List Entry) → IsLaidOut es → extension_start es < 2 * STRINGS_LIMIT
start_small es l =
    let pad = length_padding (strings_end es) in
    omega (arith, pad, l.few, l.small)

header_there : (es : List Entry) → drop 20 (front es ++ after_header es) ≡ laid_out header_fields (length es ∷ length (strings_bytes es) ∷ 2 ∷ 0 ∷ extension_start es ∷ 0 ∷ 0 ∷ 0 ∷ []) ++ after_header es
unfolding header
header_there es = refl

pub header_back : (es : List Entry) → IsLaidOut es → (i : ℕ) → i < 8
    → read.header i (cache_text es) ≡ slice_index (length es ∷ length (strings_bytes es) ∷ 2 ∷ 0 ∷ extension_start es ∷ 0 ∷ 0 ∷ 0 ∷ []) i
header_back es l i h =
    let start = start_small es l in
    ap (λ bytes. number header_fields i (drop 20 bytes)) (text_is es) ∙ ap (number header_fields i) (header_there es)
    ∙ reads_back header_fields (length es ∷ length (strings_bytes es) ∷ 2 ∷ 0 ∷ extension_start es ∷ 0 ∷ 0 ∷ 0 ∷ []) (after_header es) i
    (header_fit (length es) (length (strings_bytes es)) (extension_start es) (omega (arith, l.few)) (omega (arith, l.small)) (omega (arith, start))) h

pub nlibs_back : (es : List Entry) → IsLaidOut es → read.nlibs (cache_text es) ≡ length es
nlibs_back es l = header_back es l 0 (omega arith)

-- ---- the entries

pub size_of_entry : (s : List ℕ → ℕ) (names : List (List ℕ)) (e : Entry) → length (entry_bytes s names e) ≡ 24
unfolding entry_bytes
size_of_entry s names e = refl

hwcap_small : (names : List (List ℕ)) (cap : Option (List ℕ)) → length names ≤ ENTRIES_MAX → hwcap_of names cap < 2 ^ 64
hwcap_small names None h = omega arith
hwcap_small names (Some cap) h = let within : position_or_len (bytes_eq cap) names ≤ length names = prefix_len-le-length _ names in omega (arith, within)

pub place_small : (es : List Entry) → IsLaidOut es → (t : List ℕ) → place es t < 2 ^ 32
place_small es l t = let within = offset_fits (strings es) t in omega (arith, within, l.few, l.small)

abbrev pub fields_of : List Entry → Entry → List ℕ
fields_of es e = flags_of e.abi ∷ place es e.soname ∷ place es e.path ∷ 0 ∷ hwcap_of (hwcaps_names es) e.cap ∷ []

entry_fit : (es : List Entry) → IsLaidOut es → (e : Entry) → Fit entry_fields (fields_of es e)
entry_fit es l e =
    let few = few_names es in
    let f = flags_small e.abi in
    let k = place_small es l e.soname in
    let v = place_small es l e.path in
    let w = hwcap_small (hwcaps_names es) e.cap (omega (arith, few, l.few)) in
    (omega (arith, f), (omega (arith, k), (omega (arith, v), (omega arith, (omega (arith, w), tt)))))

fields_there : (es : List Entry) (e : Entry) → entry_bytes (place es) (hwcaps_names es) e ≡ laid_out entry_fields (fields_of es e)
unfolding entry_bytes
fields_there es e = refl

pub entry_back : (es : List Entry) → IsLaidOut es → (i : ℕ) (d : Entry) → i < length es → (j : ℕ) → j < 5
    → number entry_fields j (read.from_entry (cache_text es) i) ≡ slice_index (fields_of es (get_or es i d)) j
entry_back es l i d h j inside =
    let write = entry_bytes (place es) (hwcaps_names es) in
    let e = get_or es i d in
    let others = flat_map write (drop (suc i) es) ++ after_entries es in
    let there : drop (48 + 24 * i) (front es ++ after_header es) ≡ write e ++ others =
    following (front es) (after_header es) 48 (24 * i) (length_front es) ∙ part_there write 24 (size_of_entry (place es) (hwcaps_names es)) es (after_entries es) i d h in
    ap (λ bytes. number entry_fields j (drop (48 + 24 * i) bytes)) (text_is es) ∙ ap (number entry_fields j) (there ∙ ap (λ xs. xs ++ others) (fields_there es e))
    ∙ reads_back entry_fields (fields_of es e) others j (entry_fit es l e) inside

-- ---- the strings

pub string_back : (es : List Entry) (t : List ℕ) → list_any (bytes_eq t) (strings es) ≡ true → HasText (cache_text es) (place es t) t
string_back es t among =
    let size : length (front es ++ table es) ≡ 48 + 24 * length es =
    length-append (front es) (table es) ∙ ap (λ n. n + length (table es)) (length_front es) ∙ ap (λ n. 48 + n) (length_parts (entry_bytes (place es) (hwcaps_names es)) 24 (size_of_entry (place es) (hwcaps_names es)) es) in
    let joined : (front es ++ table es) ++ (shared_table (strings es) ++ after_strings es) ≡ cache_text es = append_assoc (front es) (table es) (after_entries es) ∙ sym (text_is es) in
    rw (← joined) (string_there (front es ++ table es) (after_strings es) (strings es) t (48 + 24 * length es) size among)
