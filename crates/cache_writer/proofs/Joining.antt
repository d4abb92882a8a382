-- The parts of the file, one after another.
use Rattle.std.proofs.Common.{◌≡◌, ℕ, ◌+◌, ◌-◌, ◌*◌, ◌%◌, ◌<◌, ◌==◌, true, false, List, [], ◌∷◌, ◌++◌, length, map, replicate, flat_map, bytes_eq, refl, sym, ap, ◌∙◌, append_assoc, slice_index_or, subst, Option, IfSome}
use Rattle.std.proofs.lemmas.List.{length-map, length-replicate}
use Rattle.std.proofs.lemmas.List.Elements.{All-head, All-map, All-tail, All-weaker}
use Rattle.std.proofs.lemmas.Option.{get_or_from_slice_get, slice_get-get_or}
use Rattle.std.specs.List.{All, list_any, slice_get}
use Rattle.byteorder.specs.Endian.{little_bytes}
use Rattle.lib_types.specs.Abi.{flags_of}
use Rattle.lib_types.specs.declared.entry.Entry.{Entry}
use Rattle.cache_layout.specs.Layout.{extension_magic, generator_tag, names_tag}
use Rattle.string_pool.specs.Texts.{number_of}
use Rattle.string_pool.specs.InOrder.{Strings}
use Rattle.string_pool.specs.SharedEnds.{shared_place, shared_table}
use Rattle.string_pool.proofs.Located.{at_number}
use Rattle.string_pool.proofs.Numbers.{number_within}
use Rattle.cache_writer.specs.CacheText.{cache_text, header, directory, section, section_count, generator_start, names_start, generator, strings, strings_start, hwcaps_names, hwcap_of, entry_bytes, name_bytes}
use Rattle.cache_writer.specs.Joined.{joined, offset_bytes}
use Rattle.cache_writer.specs.Numbers.{AreAmong}
use Rattle.cache_writer.specs.declared.numbers.NumberedEntry.{NumberedEntry}

pub with_names : (out : List ℕ) (place names : ℕ) → (names == 0) ≡ false
    → (((out ++ little_bytes 4 extension_magic) ++ little_bytes 4 (section_count names)) ++ section generator_tag (generator_start place names) 42) ++ section names_tag (names_start place names) (4 * names)
    ≡ out ++ directory place names
unfolding directory generator
with_names out place names h = rw h (simp append_assoc)

pub without_names : (out : List ℕ) (place names : ℕ) → (names == 0) ≡ true
    → ((out ++ little_bytes 4 extension_magic) ++ little_bytes 4 (section_count names)) ++ section generator_tag (generator_start place names) 42 ≡ out ++ directory place names
unfolding directory generator
without_names out place names h = rw h (simp append_assoc)

-- the fields of an entry, one after another
pub put_fields : (s : Strings) (names : List (List ℕ)) (e : Entry) (out : List ℕ) (flags soname path hwcap : ℕ) → flags ≡ flags_of e.abi
    → soname ≡ shared_place s e.soname → path ≡ shared_place s e.path → hwcap ≡ hwcap_of names e.cap
    → out ++ (little_bytes 4 flags ++ little_bytes 4 soname ++ little_bytes 4 path ++ little_bytes 4 0 ++ little_bytes 8 hwcap) ≡ out ++ entry_bytes (shared_place s) names e
unfolding entry_bytes
put_fields s names e out flags soname path hwcap f k v h = rw (← f, ← k, ← v, ← h) refl

-- ---- the parts

-- the indexes of names that are in the list are in range
pub numbers_within : (texts names : List (List ℕ)) → AreAmong texts names → All (λ number. number < length texts) (map (number_of texts) names)
numbers_within texts names among =
    All-map (λ number. number < length texts) (number_of texts) names
    (All-weaker (λ text. list_any (bytes_eq text) texts ≡ true) (λ text. number_of texts text < length texts) (λ text h. number_within texts text h) names among)

pub entries_are : (s : Strings) (names : List (List ℕ)) (ns : List NumberedEntry)
    → flat_map (λ n. entry_bytes (shared_place s) names n.entry.now) ns ≡ flat_map (entry_bytes (shared_place s) names) (map (λ n. n.entry.now) ns)
entries_are s names [] = refl
entries_are s names (n ∷ ns) = ap (λ rest. entry_bytes (shared_place s) names n.entry.now ++ rest) (entries_are s names ns)

-- the offset of the string with this number
pub placed : (s : Strings) (number at : ℕ) (t : List ℕ) → number ≡ number_of s.texts t → list_any (bytes_eq t) s.texts ≡ true
    → IfSome (slice_get s.texts number) (λ text. at ≡ shared_place s text) → at ≡ shared_place s t
placed s number at t is among given =
    subst (λ (o : Option (List ℕ)). IfSome o (λ text. at ≡ shared_place s text)) (ap (slice_get s.texts) is ∙ at_number s.texts t among) given

pub placed_at : (s : Strings) (number at : ℕ) → number < length s.texts → IfSome (slice_get s.texts number) (λ text. at ≡ shared_place s text) → little_bytes 4 at ≡ offset_bytes s number
unfolding offset_bytes
placed_at s number at within given =
    let here : at ≡ shared_place s (slice_index_or s.texts number []) =
    subst (λ (o : Option (List ℕ)). IfSome o (λ text. at ≡ shared_place s text)) (slice_get-get_or s.texts number [] within) given in
    ap (little_bytes 4) here

-- the string with the number of a string
there : (texts : List (List ℕ)) (n : List ℕ) → list_any (bytes_eq n) texts ≡ true → slice_index_or texts (number_of texts n) [] ≡ n
there texts n among = get_or_from_slice_get texts (number_of texts n) n [] (at_number texts n among)

offset_is : (s : Strings) (n : List ℕ) → list_any (bytes_eq n) s.texts ≡ true → offset_bytes s (number_of s.texts n) ≡ name_bytes (shared_place s) n
unfolding name_bytes offset_bytes
offset_is s n among = ap (λ (t : List ℕ). little_bytes 4 (shared_place s t)) (there s.texts n among)

offsets_are : (s : Strings) (names : List (List ℕ)) → AreAmong s.texts names → flat_map (offset_bytes s) (map (number_of s.texts) names) ≡ flat_map (name_bytes (shared_place s)) names
offsets_are s [] among = refl
offsets_are s (n ∷ ns) among =
    let P : List ℕ → Type 0 = λ text. list_any (bytes_eq text) s.texts ≡ true in
    ap (λ (xs : List ℕ). xs ++ flat_map (offset_bytes s) (map (number_of s.texts) ns)) (offset_is s n (All-head P n ns among))
    ∙ ap (λ (rest : List ℕ). name_bytes (shared_place s) n ++ rest) (offsets_are s ns (All-tail P n ns among))

pub offsets_of : (s : Strings) (names : List (List ℕ)) (numbers : List ℕ) → AreAmong s.texts names → numbers ≡ map (number_of s.texts) names
    → flat_map (offset_bytes s) numbers ≡ flat_map (name_bytes (shared_place s)) names
offsets_of s names numbers among are = rw are (offsets_are s names among)

pub count_entries : (ns : List NumberedEntry) → length ns ≡ length (map (λ n. n.entry.now) ns)
count_entries ns = sym (length-map ns (λ (n : NumberedEntry). n.entry.now))

pub parts_joined : (s : Strings) (names : List (List ℕ)) (es : List Entry) (out table bytes offsets : List ℕ) (count many end pad start : ℕ) → out ≡ [] → count ≡ length es → many ≡ length names
    → table ≡ flat_map (entry_bytes (shared_place s) names) es → bytes ≡ shared_table s.texts → offsets ≡ flat_map (name_bytes (shared_place s)) names
    → end ≡ 48 + 24 * count + length bytes → pad ≡ (4 - end % 4) % 4 → start ≡ end + pad
    → (((((((out ++ header count (length bytes) start) ++ table) ++ bytes) ++ replicate pad 0) ++ directory start many) ++ offsets) ++ generator) ≡ joined s names es
unfolding joined
parts_joined s names es out table bytes offsets count many end pad start none c m t b o e p f =
    rw (none, f, p, e, c, m, t, b, o) (simp (append_assoc, length-replicate))

-- joining the strings of the entries gives their cache
is_cache : (es : List Entry) → joined (record { base = strings_start es; texts = strings es }) (hwcaps_names es) es ≡ cache_text es
unfolding cache_text joined
is_cache es = refl

pub whole : (s : Strings) (all names : List (List ℕ)) (es : List Entry) (ns : List NumberedEntry) → s ≡ record { base = 48 + 24 * length es; texts = all } → all ≡ strings es
    → names ≡ hwcaps_names es → map (λ n. n.entry.now) ns ≡ es → joined s names (map (λ n. n.entry.now) ns) ≡ cache_text es
whole s all names es ns is texts caps entries = rw (is, texts, caps, entries) (is_cache es)
