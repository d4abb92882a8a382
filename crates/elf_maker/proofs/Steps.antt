-- The parts of a string table and of the dynamic entries.
use Rattle.std.proofs.Common.{◌≡◌, ◌≤◌, ◌<◌, ◌*◌, inl, inr, ℕ, suc, ◌+◌, List, [], ◌∷◌, ◌++◌, length, drop-cons, drop, get_or, Option, Some, None, is_some, refl, ap, sym, ◌∙◌, arith, append_assoc, length-append}
use Rattle.std.proofs.lemmas.List.{append-nil, at_drop_all}
use Rattle.std.proofs.lemmas.Grind.{flat_map-append}
use Rattle.std.specs.List.{flat_map}
use Rattle.byteorder.specs.Endian.{little_bytes}
use Rattle.elf_dynamic.specs.declared.kinds.DynamicEntry.{DynamicEntry}
use Rattle.elf_dynamic.specs.declared.kinds.Dynamic.{Dynamic}
use Rattle.elf_dynamic.specs.Section.{soname, rpath, runpath}
use Rattle.elf_maker.specs.declared.layout.TheConstants.{FILE_MAX}
use Rattle.elf_maker.specs.Fields.{Field, bytes_of}
use Rattle.elf_maker.specs.Texts.{Tagged, tagged_if, tagged, ended, ended_texts, strings, text_entries}
use Rattle.elf_maker.specs.Made.{entry_fields, flag_entries, entries}
use Rattle.elf_maker.specs.Parts.{IsWidth, needed_texts, entries_bytes}
use Rattle.lib_types.proofs.Bools.{one_if}

-- ---- the string table

-- the string table doesn't depend on the tag
untagged : (a b : ℕ) (o : Option (List ℕ)) → ended_texts (tagged_if a o) ≡ ended_texts (tagged_if b o)
untagged a b None = refl
untagged a b (Some text) = refl

regrouped : {X : Type 0} (a b c d : List X) → a ++ b ++ c ++ d ≡ a ++ (b ++ (c ++ d))
regrouped a b c d = simp append_assoc

four_parts : (a b c d : List Tagged) → ended_texts (a ++ b ++ c ++ d) ≡ ended_texts a ++ (ended_texts b ++ (ended_texts c ++ ended_texts d))
four_parts a b c d =
    let first = flat_map-append ended a (b ++ (c ++ d)) in
    let second = flat_map-append ended b (c ++ d) in
    let third = flat_map-append ended c d in
    let all = ap ended_texts (regrouped a b c d) in
    cc

pub tagged_bytes : (d : Dynamic) →
    ended_texts (tagged d)
    ≡ ended_texts (needed_texts d.needed) ++ (ended_texts (tagged_if 0 d.soname) ++ (ended_texts (tagged_if 0 d.rpath) ++ ended_texts (tagged_if 0 d.runpath)))
unfolding tagged
tagged_bytes d =
    let parts = four_parts (needed_texts d.needed) (tagged_if soname d.soname) (tagged_if rpath d.rpath) (tagged_if runpath d.runpath) in
    let a = untagged soname 0 d.soname in
    let b = untagged rpath 0 d.rpath in
    let c = untagged runpath 0 d.runpath in
    cc

regroup : (out n a b c : List ℕ) → ((((out ++ 0 ∷ []) ++ n) ++ a) ++ b) ++ c ≡ out ++ 0 ∷ (n ++ (a ++ (b ++ c)))
regroup out n a b c = simp append_assoc

pub strings_are : (d : Dynamic) (out : List ℕ) →
    ((((out ++ 0 ∷ []) ++ ended_texts (needed_texts d.needed)) ++ ended_texts (tagged_if 0 d.soname)) ++ ended_texts (tagged_if 0 d.rpath)) ++ ended_texts (tagged_if 0 d.runpath) ≡ out ++ strings d
unfolding strings
strings_are d out = regroup out _ _ _ _ ∙ ap (λ r. out ++ 0 ∷ r) (sym (tagged_bytes d))

length_four : (a b c d : List ℕ) → length (a ++ (b ++ (c ++ d))) ≡ length a + (length b + length c + length d)
length_four a b c d = simp length-append (omega arith)

pub strings_length : (d : Dynamic) →
    length (strings d)
    ≡ 1 + length (ended_texts (needed_texts d.needed)) + (length (ended_texts (tagged_if 0 d.soname)) + length (ended_texts (tagged_if 0 d.rpath)) + length (ended_texts (tagged_if 0 d.runpath)))
unfolding strings
strings_length d =
    let e = ap length (tagged_bytes d) in
    let l = length_four (ended_texts (needed_texts d.needed)) (ended_texts (tagged_if 0 d.soname)) (ended_texts (tagged_if 0 d.rpath)) (ended_texts (tagged_if 0 d.runpath)) in
    omega (arith, e, l)

pub strings_size : (d : Dynamic) → length (strings d) ≡ 1 + length (ended_texts (tagged d))
unfolding strings
strings_size d = omega arith

-- ---- the number of entries

length_if : (tag : ℕ) (o : Option (List ℕ)) → length (tagged_if tag o) ≡ one_if (is_some o)
length_if tag None = refl
length_if tag (Some text) = refl

length_needed : (texts : List (List ℕ)) → length (needed_texts texts) ≡ length texts
length_needed [] = refl
length_needed (text ∷ texts) = ap suc (length_needed texts)

length_parts : (a b c d : List Tagged) → length (a ++ b ++ c ++ d) ≡ length a + (length b + length c + length d)
length_parts a b c d = simp length-append (omega arith)

pub tagged_length : (d : Dynamic) → length (tagged d) ≡ length d.needed + (one_if (is_some d.soname) + one_if (is_some d.rpath) + one_if (is_some d.runpath))
unfolding tagged
tagged_length d =
    let e = length_parts (needed_texts d.needed) (tagged_if soname d.soname) (tagged_if rpath d.rpath) (tagged_if runpath d.runpath) in
    let n = length_needed d.needed in
    omega (arith, e, n, length_if soname d.soname, length_if rpath d.rpath, length_if runpath d.runpath)

pub needed_within : (texts : List (List ℕ)) → length texts ≤ length (ended_texts (needed_texts texts))
needed_within [] = omega arith
needed_within (text ∷ texts) = let ih = needed_within texts in simp length-append (omega (arith, length-append text (0 ∷ [])))

pub few_texts : (d : Dynamic) → length d.needed < length (strings d)
few_texts d = let within = needed_within d.needed in omega (arith, strings_length d)

pub product : (n w : ℕ) → IsWidth w → n ≤ 4 * FILE_MAX → n * (2 * w) ≤ 64 * FILE_MAX
product n w (inl four) h = rw four (omega arith)
product n w (inr eight) h = rw eight (omega arith)

-- ---- one more text

one_more : (i : ℕ) (texts : List (List ℕ)) (text : List ℕ) → i < length texts → text ≡ get_or texts i text → drop i texts ≡ text ∷ drop (i + 1) texts
one_more i texts text h is =
    let step = drop-cons texts i text h in
    let next : suc i ≡ i + 1 = omega arith in
    cc

pub size_step : (size total i : ℕ) (texts : List (List ℕ)) (text : List ℕ) → i < length texts → text ≡ get_or texts i text → size + length (ended_texts (needed_texts (drop i texts))) ≡ total →
    (size + (length text + 1)) + length (ended_texts (needed_texts (drop (i + 1) texts))) ≡ total
size_step size total i texts text h is e =
    let rest = ended_texts (needed_texts (drop (i + 1) texts)) in
    let more : length (ended_texts (needed_texts (drop i texts))) ≡ length ((text ++ 0 ∷ []) ++ rest) = ap (λ ts. length (ended_texts (needed_texts ts))) (one_more i texts text h is) in
    omega (arith, more, length-append (text ++ 0 ∷ []) rest, length-append text (0 ∷ []))

-- ---- the dynamic entries

pub entries_append : (w : ℕ) (xs ys : List DynamicEntry) → entries_bytes w (xs ++ ys) ≡ entries_bytes w xs ++ entries_bytes w ys
unfolding entries_bytes bytes_of
entries_append w xs ys =
    ap (flat_map (λ (f : Field). little_bytes f.0 f.1)) (flat_map-append (entry_fields w) xs ys)
    ∙ flat_map-append (λ (f : Field). little_bytes f.0 f.1) (flat_map (entry_fields w) xs) (flat_map (entry_fields w) ys)

pub entry_step : (w next i : ℕ) (texts : List (List ℕ)) (text out total : List ℕ) → i < length texts → text ≡ get_or texts i text →
    out ++ entries_bytes w (text_entries next (needed_texts (drop i texts))) ≡ total →
    (out ++ entries_bytes w (record { tag = 1; value = next } ∷ [])) ++ entries_bytes w (text_entries (next + (length text + 1)) (needed_texts (drop (i + 1) texts))) ≡ total
entry_step w next i texts text out total h is e =
    let rest = needed_texts (drop (i + 1) texts) in
    let first : DynamicEntry = record { tag = 1; value = next } in
    let following : length (text ++ 0 ∷ []) ≡ length text + 1 = length-append text (0 ∷ []) in
    let split : entries_bytes w (text_entries next (needed_texts (drop i texts))) ≡ entries_bytes w (first ∷ text_entries (next + (length text + 1)) rest) =
    ap (λ ts. entries_bytes w (text_entries next (needed_texts ts))) (one_more i texts text h is) ∙ ap (λ n. entries_bytes w (first ∷ text_entries (next + n) rest)) following in
    let parts = entries_append w (first ∷ []) (text_entries (next + (length text + 1)) rest) in
    append_assoc out (entries_bytes w (first ∷ [])) (entries_bytes w (text_entries (next + (length text + 1)) rest)) ∙ ap (λ r. out ++ r) (sym (split ∙ parts)) ∙ e

pub none_left : (w next i : ℕ) (texts : List (List ℕ)) (out total : List ℕ) → length texts ≤ i → out ++ entries_bytes w (text_entries next (needed_texts (drop i texts))) ≡ total → out ≡ total
unfolding entries_bytes bytes_of
none_left w next i texts out total h e =
    sym (append-nil out) ∙ sym (at_drop_all (λ ts. out ++ entries_bytes w (text_entries next (needed_texts ts))) texts i h) ∙ e

pub texts_append : (at : ℕ) (xs ys : List Tagged) → text_entries at (xs ++ ys) ≡ text_entries at xs ++ text_entries (at + length (ended_texts xs)) ys
texts_append at [] ys = ap (λ n. text_entries n ys) (omega arith)
texts_append at (x ∷ xs) ys =
    let first : DynamicEntry = record { tag = x.0; value = at } in
    let e : at + length (ended x) + length (ended_texts xs) ≡ at + length (ended_texts (x ∷ xs)) = omega (arith, length-append (ended x) (ended_texts xs)) in
    ap (λ es. first ∷ es) (texts_append (at + length (ended x)) xs ys) ∙ ap (λ n. first ∷ (text_entries (at + length (ended x)) xs ++ text_entries n ys)) e

pub tagged_sizes : (d : Dynamic) →
    length (ended_texts (tagged d))
    ≡ length (ended_texts (needed_texts d.needed)) + (length (ended_texts (tagged_if soname d.soname)) + length (ended_texts (tagged_if rpath d.rpath)) + length (ended_texts (tagged_if runpath d.runpath)))
unfolding tagged
tagged_sizes d =
    ap length (four_parts (needed_texts d.needed) (tagged_if soname d.soname) (tagged_if rpath d.rpath) (tagged_if runpath d.runpath))
    ∙ length_four (ended_texts (needed_texts d.needed)) (ended_texts (tagged_if soname d.soname)) (ended_texts (tagged_if rpath d.rpath)) (ended_texts (tagged_if runpath d.runpath))

-- the entries of four lists of texts, one list after another
four_entries : (w at : ℕ) (a b c d : List Tagged) →
    entries_bytes w (text_entries at (a ++ b ++ c ++ d))
    ≡ entries_bytes w (text_entries at a)
    ++ (entries_bytes w (text_entries (at + length (ended_texts a)) b)
    ++ (entries_bytes w (text_entries (at + length (ended_texts a) + length (ended_texts b)) c)
    ++ entries_bytes w (text_entries (at + length (ended_texts a) + length (ended_texts b) + length (ended_texts c)) d)))
four_entries w at a b c d =
    let i = at + length (ended_texts a) in
    let j = i + length (ended_texts b) in
    let k = j + length (ended_texts c) in
    let all = ap (text_entries at) (regrouped a b c d) in
    let first = texts_append at a (b ++ (c ++ d)) in
    let second = texts_append i b (c ++ d) in
    let third = texts_append j c d in
    let one = entries_append w (text_entries at a) (text_entries i (b ++ (c ++ d))) in
    let two = entries_append w (text_entries i b) (text_entries j (c ++ d)) in
    let three = entries_append w (text_entries j c) (text_entries k d) in
    cc

left_four : (out a b c d : List ℕ) → (((out ++ a) ++ b) ++ c) ++ d ≡ out ++ (a ++ (b ++ (c ++ d)))
left_four out a b c d = simp append_assoc

pub texts_are : (w i j k : ℕ) (d : Dynamic) (out : List ℕ) →
    i ≡ 1 + length (ended_texts (needed_texts d.needed)) → j ≡ i + length (ended_texts (tagged_if soname d.soname)) → k ≡ j + length (ended_texts (tagged_if rpath d.rpath)) →
    (((out ++ entries_bytes w (text_entries 1 (needed_texts d.needed))) ++ entries_bytes w (text_entries i (tagged_if soname d.soname))) ++ entries_bytes w (text_entries j (tagged_if rpath d.rpath)))
    ++ entries_bytes w (text_entries k (tagged_if runpath d.runpath))
    ≡ out ++ entries_bytes w (text_entries 1 (tagged d))
unfolding tagged
texts_are w i j k d out hi hj hk =
    let parts = four_entries w 1 (needed_texts d.needed) (tagged_if soname d.soname) (tagged_if rpath d.rpath) (tagged_if runpath d.runpath) in
    let joined = left_four out (entries_bytes w (text_entries 1 (needed_texts d.needed))) (entries_bytes w (text_entries i (tagged_if soname d.soname))) (entries_bytes w (text_entries j (tagged_if rpath d.rpath))) (entries_bytes w (text_entries k (tagged_if runpath d.runpath))) in
    cc

left_five : (out a b c d e : List ℕ) → ((((out ++ a) ++ b) ++ c) ++ d) ++ e ≡ out ++ (a ++ (b ++ (c ++ (d ++ e))))
left_five out a b c d e = simp append_assoc

pub section_is : (w address : ℕ) (d : Dynamic) (out : List ℕ) →
    ((((out ++ entries_bytes w (text_entries 1 (tagged d))) ++ entries_bytes w (flag_entries d.nodeflib)) ++ entries_bytes w (record { tag = 5; value = address } ∷ []))
    ++ entries_bytes w (record { tag = 10; value = length (strings d) } ∷ []))
    ++ entries_bytes w (record { tag = 0; value = 0 } ∷ [])
    ≡ out ++ entries_bytes w (entries address d)
unfolding entries
section_is w address d out =
    let t = text_entries 1 (tagged d) in
    let f = flag_entries d.nodeflib in
    let x : DynamicEntry = record { tag = 5; value = address } in
    let y : DynamicEntry = record { tag = 10; value = length (strings d) } in
    let z : DynamicEntry = record { tag = 0; value = 0 } in
    let one = entries_append w (t ++ f) (x ∷ y ∷ z ∷ []) in
    let two = entries_append w t f in
    let three = entries_append w (x ∷ []) (y ∷ z ∷ []) in
    let four = entries_append w (y ∷ []) (z ∷ []) in
    let left = left_five out (entries_bytes w t) (entries_bytes w f) (entries_bytes w (x ∷ [])) (entries_bytes w (y ∷ [])) (entries_bytes w (z ∷ [])) in
    let group : entries_bytes w (t ++ f) ++ entries_bytes w (x ∷ y ∷ z ∷ []) ≡ entries_bytes w t ++ (entries_bytes w f ++ entries_bytes w (x ∷ y ∷ z ∷ [])) =
    ap (λ r. r ++ entries_bytes w (x ∷ y ∷ z ∷ [])) two ∙ append_assoc (entries_bytes w t) (entries_bytes w f) (entries_bytes w (x ∷ y ∷ z ∷ [])) in
    cc
