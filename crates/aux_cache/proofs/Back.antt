-- Reading a written file back.
use Rattle.std.proofs.Common.{◌≡◌, ℕ, zero, suc, ◌+◌, ◌*◌, ◌^◌, ◌<◌, ◌≤◌, ◌==◌, ◌&&◌, Bool, true, false, not, cond, nat_eq, nat_lt, List, [], ◌∷◌, ◌++◌, length, map, flat_map, drop, get_or, slice_index, Option, Some, None, IfSome, unwrap_or, refl, sym, ap, subst, ◌∙◌, append_assoc, arith, true≢false, length-append}
use Rattle.std.proofs.Math.Bool.{or-true}
use Rattle.std.proofs.Math.Seq.{drop-append-add}
use Rattle.std.proofs.lemmas.Bool.{and_parts}
use Rattle.std.proofs.lemmas.Bool.Decides.{nat_tests}
use Rattle.std.proofs.lemmas.List.{get_or-map, length-map}
use Rattle.std.proofs.lemmas.Map.Keys.{Less-from_sorted}
use Rattle.std.specs.List.{range_with_len, starts_with}
use Rattle.std.specs.Ordering.{is_lt}
use Rattle.std.specs.Str.{is_utf8}
use Rattle.std.specs.declared.cmp.Ordering.TheVariants.{Less}
use Rattle.lib_types.proofs.Abis.{flags_back, flags_small}
use Rattle.aux_cache.specs.declared.stamps.TheConstants.{STAMPS_MAX}
use Rattle.lib_types.specs.Name.{is_name, have_no_slash, slash}
use Rattle.lib_types.specs.declared.abi.Abi.{Abi}
use Rattle.lib_types.specs.declared.analysis.Analysis.{Analysis}
use Rattle.lib_types.specs.declared.analysis.Analysis.TheVariants.{Lib, Not}
use Rattle.lib_types.specs.declared.analysis.Defect.TheVariants.{NotElf}
use Rattle.cache_layout.specs.Layout.{laid_out, number}
use Rattle.cache_layout.proofs.Fields.{Fit, reads_back}
use Rattle.string_pool.specs.InOrder.{offset_of}
use Rattle.string_pool.proofs.InOrder.{place_of_le}
use Rattle.image_tree.specs.Node.{has_no_nul}
use Rattle.aux_cache.proofs.Adding.{own_there, strings_small}
use Rattle.aux_cache.proofs.DefectCodes.{code_not_zero, code_small, defect_back, value_small}
use Rattle.aux_cache.proofs.Damage.{before_next, none_damaged, AreRecords}
use Rattle.aux_cache.proofs.StringsAt.{string_read, last_nul}
use Rattle.lib_types.proofs.OneSize.{following, part_there, length_parts}
use Rattle.aux_cache.specs.AuxFile as read
use Rattle.aux_cache.specs.AuxLayout.{magic, header_fields, record_fields, record_place}
use Rattle.aux_cache.specs.AuxText.{analysis_fields, aux_text, header, numbers_of, record_bytes, soname_in, soname_of, strings, strings_bytes, place}
use Rattle.aux_cache.specs.Ids.{id_cmp}
use Rattle.aux_cache.specs.Range.{AreNumbers, AreInRange}
use Rattle.aux_cache.specs.Stamps.{IsRecordable, AreRecordable, IsSortedById}
use Rattle.aux_cache.specs.declared.fields.AnalysisFields.{AnalysisFields}
use Rattle.aux_cache.specs.declared.layout.Version.TheVariants.{V1_1}
use Rattle.aux_cache.specs.declared.stamps.Stamp.{Stamp}

-- what the writer requires of the stamps
pub record IsWritten (xs : List Stamp) : Type 0 where
  pub few : length xs ≤ STAMPS_MAX
  pub recordable : AreRecordable xs
  pub sorted : IsSortedById xs
  pub range : AreInRange xs

-- ---- the parts of the file

abbrev pub front : List Stamp → List ℕ
front xs = header (length xs) (length (strings_bytes xs))

abbrev pub records : List Stamp → List ℕ
records xs = flat_map (record_bytes (place xs)) xs

pub text_is : (xs : List Stamp) → aux_text xs ≡ front xs ++ (records xs ++ strings_bytes xs)
unfolding aux_text
text_is xs = append_assoc (front xs) (records xs) (strings_bytes xs)

length_front : (xs : List Stamp) → length (front xs) ≡ 32
unfolding header
length_front xs = refl

size_of_record : (s : List ℕ → ℕ) (x : Stamp) → length (record_bytes s x) ≡ 48
unfolding record_bytes
size_of_record s x = refl

length_records : (xs : List Stamp) → length (records xs) ≡ 48 * length xs
length_records xs = length_parts (record_bytes (place xs)) 48 (size_of_record (place xs)) xs

length_text : (xs : List Stamp) → length (aux_text xs) ≡ 32 + 48 * length xs + length (strings_bytes xs)
length_text xs =
    let all = ap length (text_is xs) ∙ length-append (front xs) (records xs ++ strings_bytes xs) in
    let rest = length-append (records xs) (strings_bytes xs) in
    omega (arith, all, rest, length_front xs, length_records xs)

pub written : (xs ys : List Stamp) → length xs ≤ STAMPS_MAX → AreRecordable xs → IsSortedById xs → ys ≡ xs → AreInRange ys → IsWritten xs
written xs ys few all sorted same range = record { few = few; recordable = all; sorted = sorted; range = rw same at range }

header_there : (xs : List Stamp) (rest : List ℕ) → drop 24 (front xs ++ rest) ≡ laid_out header_fields (length xs ∷ length (strings_bytes xs) ∷ []) ++ rest
unfolding header
header_there xs rest = refl

header_back : (xs : List Stamp) → IsWritten xs → (i : ℕ) → i < 2 → read.header_number i (aux_text xs) ≡ slice_index (length xs ∷ length (strings_bytes xs) ∷ []) i
header_back xs w i h =
    let small = strings_small xs w.recordable in
    let rest = records xs ++ strings_bytes xs in
    ap (λ bytes. number header_fields i (drop 24 bytes)) (text_is xs) ∙ ap (number header_fields i) (header_there xs rest)
    ∙ reads_back header_fields (length xs ∷ length (strings_bytes xs) ∷ []) rest i (omega (arith, w.few), (omega (arith, w.few, small), tt)) h

count_back : (xs : List Stamp) → IsWritten xs → read.count (aux_text xs) ≡ length xs
count_back xs w = header_back xs w 0 (omega arith)

length_back : (xs : List Stamp) → IsWritten xs → read.strings_length (aux_text xs) ≡ length (strings_bytes xs)
length_back xs w = header_back xs w 1 (omega arith)

strings_back : (xs : List Stamp) → IsWritten xs → read.strings_in (aux_text xs) ≡ strings_bytes xs
strings_back xs w =
    let n : 48 * length xs ≡ length (records xs) + 0 = omega (arith, length_records xs) in
    ap (λ n. drop (record_place n) (aux_text xs)) (count_back xs w) ∙ ap (drop (32 + 48 * length xs)) (text_is xs)
    ∙ following (front xs) (records xs ++ strings_bytes xs) 32 (48 * length xs) (length_front xs)
    ∙ ap (λ n. drop n (records xs ++ strings_bytes xs)) n ∙ drop-append-add (records xs) (strings_bytes xs) 0

-- ---- the fields of a record

abbrev pub analysis_fields_of : List Stamp → Stamp → AnalysisFields
analysis_fields_of xs x = analysis_fields x.analysis (place xs (soname_of x))

abbrev pub fields_of : List Stamp → Stamp → List ℕ
fields_of xs x = x.id.inode ∷ x.id.ctime ∷ x.id.size ∷ x.id.dev ∷ numbers_of (analysis_fields_of xs x)

fields_there : (xs : List Stamp) (x : Stamp) → record_bytes (place xs) x ≡ laid_out record_fields (fields_of xs x)
unfolding record_bytes
fields_there xs x = refl

place_small : (xs : List Stamp) → IsWritten xs → (t : List ℕ) → place xs t < 2 ^ 32
place_small xs w t = let within = place_of_le (strings xs) t in let small = strings_small xs w.recordable in omega (arith, within, small, w.few)

analysis_fit : (analysis : Analysis) (offset : ℕ) → IsRecordable analysis → offset < 2 ^ 32 → Fit (4 ∷ 4 ∷ 4 ∷ 4 ∷ []) (numbers_of (analysis_fields analysis offset))
analysis_fit (Lib abi soname) offset h small = let f = flags_small abi in (omega (arith, f), (omega (arith, small), (omega arith, (omega arith, tt))))
analysis_fit (Not defect) offset h small =
    let code = code_small defect in
    let value = value_small defect h in
    (omega arith, (omega arith, (omega (arith, code), (omega (arith, value), tt))))

fields_fit : (xs : List Stamp) → IsWritten xs → (x : Stamp) → IsRecordable x.analysis → AreNumbers x.id.inode x.id.ctime x.id.size x.id.dev → Fit record_fields (fields_of xs x)
fields_fit xs w x h r =
    let rest = analysis_fit x.analysis (place xs (soname_of x)) h (place_small xs w (soname_of x)) in
    (omega (arith, r.inode_fits), (omega (arith, r.ctime_fits), (omega (arith, r.size_fits), (omega (arith, r.dev_fits), rest))))

field_back : (xs : List Stamp) → IsWritten xs → (i : ℕ) (d : Stamp) → i < length xs → (j : ℕ) → j < 8
    → number record_fields j (read.from_record (aux_text xs) i) ≡ slice_index (fields_of xs (get_or xs i d)) j
field_back xs w i d h j inside =
    let put = record_bytes (place xs) in
    let x = get_or xs i d in
    let others = flat_map put (drop (suc i) xs) ++ strings_bytes xs in
    let there : drop (32 + 48 * i) (front xs ++ (records xs ++ strings_bytes xs)) ≡ put x ++ others =
    following (front xs) (records xs ++ strings_bytes xs) 32 (48 * i) (length_front xs) ∙ part_there put 48 (size_of_record (place xs)) xs (strings_bytes xs) i d h in
    ap (λ bytes. number record_fields j (drop (32 + 48 * i) bytes)) (text_is xs) ∙ ap (number record_fields j) (there ∙ ap (λ bs. bs ++ others) (fields_there xs x))
    ∙ reads_back record_fields (fields_of xs x) others j (fields_fit xs w x (w.recordable i d h) (w.range i d h)) inside

id_back : (xs : List Stamp) → IsWritten xs → (i : ℕ) (d : Stamp) → i < length xs → read.id_in (read.from_record (aux_text xs) i) ≡ (get_or xs i d).id
id_back xs w i d h =
    let inode = field_back xs w i d h 0 (omega arith) in
    let ctime = field_back xs w i d h 1 (omega arith) in
    let size = field_back xs w i d h 2 (omega arith) in
    let dev = field_back xs w i d h 3 (omega arith) in
    rw (inode, ctime, size, dev) refl

analysis_fields_back : (xs : List Stamp) → IsWritten xs → (i : ℕ) (d : Stamp) → i < length xs → read.fields_in (read.from_record (aux_text xs) i) ≡ analysis_fields_of xs (get_or xs i d)
analysis_fields_back xs w i d h =
    let flags = field_back xs w i d h 4 (omega arith) in
    let offset = field_back xs w i d h 5 (omega arith) in
    let code = field_back xs w i d h 6 (omega arith) in
    let value = field_back xs w i d h 7 (omega arith) in
    λ k. record { flags = flags k; offset = offset k; code = code k; value = value k }

-- ---- the soname

without_slash : (t : List ℕ) → have_no_slash t ≡ true → has_no_nul t ≡ true
without_slash [] h = refl
without_slash (b ∷ t) h =
    let parts = and_parts (not (b == slash) && not (b == 0)) (have_no_slash t) h in
    let here = (and_parts (not (b == slash)) (not (b == 0)) parts.0).1 in
    rw (here, without_slash t parts.1) refl

name_plain : (t : List ℕ) → is_name t ≡ true → has_no_nul t ≡ true
name_plain t h = without_slash t (and_parts _ (have_no_slash t) (and_parts _ (is_utf8 t) h).0).1

plain : (analysis : Analysis) → IsRecordable analysis → has_no_nul (soname_in analysis) ≡ true
plain (Lib abi None) h = refl
plain (Lib abi (Some soname)) h = name_plain soname h
plain (Not defect) h = refl

string_back : (xs : List Stamp) → IsWritten xs → (i : ℕ) (d : Stamp) → i < length xs
    → read.string_at (strings_bytes xs) (place xs (soname_of (get_or xs i d))) ≡ soname_of (get_or xs i d)
string_back xs w i d h =
    let x = get_or xs i d in
    let texts = strings xs in
    let at : place xs (soname_of x) ≡ offset_of texts (soname_of x) = omega arith in
    ap (read.string_at (strings_bytes xs)) at ∙ string_read texts (soname_of x) (plain x.analysis (w.recordable i d h)) (own_there xs i d h)

-- The offset is 0 exactly if the stamp has no soname.
soname_read : (strings : List ℕ) (rest : List ℕ) (soname : Option (List ℕ)) (place : ℕ) → strings ≡ 0 ∷ rest → IfSome soname (λ soname. is_name soname ≡ true) → (soname ≡ None → place ≡ 0)
    → read.string_at strings place ≡ unwrap_or soname [] → (read.soname_at strings place ≡ soname) × (read.is_soname strings place ≡ true)
soname_read strings rest None place begins named none is = let zero_is = none refl in (rw zero_is refl, rw zero_is refl)
soname_read strings rest (Some t) place begins named none is = by (place == 0) refl
  where
    there : (read.is_soname strings place ≡ true)
    there = rw (is, named) (or-true (place == 0))

    by : (b : Bool) → (place == 0) ≡ b → (cond b None (Some (read.string_at strings place)) ≡ Some t) × (read.is_soname strings place ≡ true)
    by false e = (ap Some is, there)
    by true e =
        let at : place ≡ 0 = grind (arith, nat_tests, e) in
        let empty : t ≡ [] = sym is ∙ ap (read.string_at strings) at ∙ ap (λ bytes. read.string_at bytes 0) begins in
        absurd (true≢false (sym named ∙ ap is_name empty))

-- ---- the analysis

library_back : (strings rest : List ℕ) (abi : Abi) (soname : Option (List ℕ)) (place : ℕ) → strings ≡ 0 ∷ rest → IsRecordable (Lib abi soname) → (soname ≡ None → place ≡ 0) → read.string_at strings place ≡ unwrap_or soname []
    → read.library_of strings (analysis_fields (Lib abi soname) place) ≡ Some (Lib abi soname)
library_back strings rest abi soname place begins named none is =
    let both = soname_read strings rest soname place begins named none is in
    rw (both.1, flags_back abi, both.0) refl

-- The numbers of an analysis give this analysis.
analysis_read : (strings rest : List ℕ) (analysis : Analysis) (place : ℕ) → strings ≡ 0 ∷ rest → IsRecordable analysis → (soname_in analysis ≡ [] → place ≡ 0) → read.string_at strings place ≡ soname_in analysis
    → read.analysis_of V1_1 strings (analysis_fields analysis place) ≡ Some analysis
unfolding read.analysis_of
analysis_read strings rest (Lib abi soname) place begins named none is = library_back strings rest abi soname place begins named (λ e. none (ap (λ o. unwrap_or o []) e)) is
analysis_read strings rest (Not defect) place begins named none is = rw (code_not_zero defect named, defect_back defect named) refl

begins_by_nul : (xs : List Stamp) → (rest : List ℕ) × (strings_bytes xs ≡ 0 ∷ rest)
begins_by_nul xs = (_, refl)

version_there : (xs : List Stamp) (rest : List ℕ) → read.version_of (front xs ++ rest) ≡ V1_1
unfolding header
version_there xs rest = refl

version_back : (xs : List Stamp) → read.version_of (aux_text xs) ≡ V1_1
version_back xs = ap read.version_of (text_is xs) ∙ version_there xs (records xs ++ strings_bytes xs)

analysis_back : (xs : List Stamp) → IsWritten xs → (i : ℕ) (d : Stamp) → i < length xs
    → read.analysis_in (read.version_of (aux_text xs)) (read.strings_in (aux_text xs)) (read.from_record (aux_text xs) i) ≡ Some (get_or xs i d).analysis
analysis_back xs w i d h =
    let x = get_or xs i d in
    let begins = begins_by_nul xs in
    rw (version_back xs, strings_back xs w, analysis_fields_back xs w i d h)
    (analysis_read (strings_bytes xs) begins.0 x.analysis (place xs (soname_of x)) begins.1 (w.recordable i d h) (λ e. ap (place xs) e) (string_back xs w i d h))

-- ---- the stamps

stamp_back : (xs : List Stamp) → IsWritten xs → (i : ℕ) (d : Stamp) → i < length xs → read.stamp_at (aux_text xs) i ≡ get_or xs i d
unfolding read.stamp_in
stamp_back xs w i d h =
    let id = id_back xs w i d h in
    let analysis = ap (λ o. unwrap_or o (Not NotElf)) (analysis_back xs w i d h) in
    λ k. record { id = id k; analysis = analysis k }

by_items : {X : Type 0} (f : ℕ → X) (xs : List X) (a : ℕ) → ((i : ℕ) (d : X) → i < length xs → f (a + i) ≡ get_or xs i d) → map f (range_with_len a (length xs)) ≡ xs
by_items f [] a h = refl
by_items f (x ∷ xs) a h =
    let here : a + 0 ≡ a = omega arith in
    let first : f a ≡ x = ap f (sym here) ∙ h 0 x (omega arith) in
    rw (first, by_items f xs (a + 1) (λ i d less. let next : a + 1 + i ≡ a + suc i = omega arith in ap f next ∙ h (suc i) d (omega arith))) refl

pub all_back : (xs : List Stamp) → IsWritten xs → read.stamps_in (aux_text xs) ≡ xs
all_back xs w =
    ap (λ n. map (read.stamp_at (aux_text xs)) (range_with_len 0 n)) (count_back xs w)
    ∙ by_items (read.stamp_at (aux_text xs)) xs 0 (λ i d h. let e : 0 + i ≡ i = omega arith in ap (read.stamp_at (aux_text xs)) e ∙ stamp_back xs w i d h)

-- ---- the file is not corrupt

is_same : (n m : ℕ) → n ≡ m → (n == m) ≡ true
is_same n m h = grind (arith, nat_tests)

pub not_below : (n m : ℕ) → m ≤ n → nat_lt n m ≡ false
not_below n m h = grind (arith, nat_tests)

magic_there : (xs : List Stamp) (rest : List ℕ) → starts_with nat_eq (front xs ++ rest) (magic V1_1) ≡ true
unfolding header
magic_there xs rest = refl

begins_by_magic : (xs : List Stamp) → starts_with nat_eq (aux_text xs) (magic (read.version_of (aux_text xs))) ≡ true
begins_by_magic xs =
    ap (λ v. starts_with nat_eq (aux_text xs) (magic v)) (version_back xs) ∙ ap (λ bytes. starts_with nat_eq bytes (magic V1_1)) (text_is xs)
    ∙ magic_there xs (records xs ++ strings_bytes xs)

good_strings : (xs : List Stamp) → read.are_strings (strings_bytes xs) ≡ true
good_strings xs = rw (last_nul [] _) refl

good_file : (xs : List Stamp) → IsWritten xs → read.first_place (read.file_sentences (read.version_of (aux_text xs)) (aux_text xs)) ≡ None
good_file xs w =
    let size = length_text xs in
    let long = not_below (length (aux_text xs)) 32 (omega (arith, size)) in
    let first = begins_by_magic xs in
    let sizes = is_same (length (aux_text xs)) (record_place (read.count (aux_text xs)) + read.strings_length (aux_text xs)) (omega (arith, size, count_back xs w, length_back xs w)) in
    let good : read.are_strings (read.strings_in (aux_text xs)) ≡ true = ap read.are_strings (strings_back xs w) ∙ good_strings xs in
    rw (long, first, sizes, good) refl

follows_back : (xs : List Stamp) → IsWritten xs → (i : ℕ) (d : Stamp) → i < length xs → read.follows (read.id_before (aux_text xs) i) (read.id_in (read.from_record (aux_text xs) i)) ≡ true
follows_back xs w zero d h = refl
follows_back xs w (suc i) d h =
    let last = id_back xs w i d (omega arith) in
    let this = id_back xs w (suc i) d h in
    let text = aux_text xs in
    let this_id = read.id_in (read.from_record text (suc i)) in
    let next : i + 1 ≡ suc i = omega arith in
    let before : read.id_before text (suc i) ≡ Some (read.id_in (read.from_record text i)) = subst (λ k. read.id_before text k ≡ Some (read.id_in (read.from_record text i))) next (before_next text i) in
    let first = get_or-map (λ (s : Stamp). s.id) xs i d d.id (omega arith) in
    let second = get_or-map (λ (s : Stamp). s.id) xs (suc i) d d.id h in
    let many : suc i < length (map (λ s. s.id) xs) = rw (length-map xs (λ (s : Stamp). s.id)) h in
    let less = Less-from_sorted id_cmp (map (λ s. s.id) xs) i (suc i) d.id w.sorted (omega arith) many in
    let rises : id_cmp (get_or xs i d).id (get_or xs (suc i) d).id ≡ Less = rw (first, second) at less in
    ap (λ o. read.follows o this_id) before ∙ ap (λ a. is_lt (id_cmp a this_id)) last ∙ ap (λ b. is_lt (id_cmp (get_or xs i d).id b)) this ∙ ap is_lt rises

good_records : (xs : List Stamp) → IsWritten xs → AreRecords (aux_text xs) (length xs)
good_records xs w i h = good (get_or xs i (item xs h))
  where
    item : (ys : List Stamp) → i < length ys → Stamp
    item [] h = absurd (omega arith)
    item (y ∷ ys) h = y

    good : Stamp → read.is_record (read.version_of (aux_text xs)) (read.strings_in (aux_text xs)) (read.id_before (aux_text xs) i) (read.from_record (aux_text xs) i) ≡ true
    good d =
        let first = follows_back xs w i d h in
        let analysis = analysis_back xs w i d h in
        rw (first, analysis) refl

pub undamaged : (xs : List Stamp) → IsWritten xs → read.damage (aux_text xs) ≡ None
undamaged xs w = none_damaged (aux_text xs) (good_file xs w) (subst (λ n. AreRecords (aux_text xs) n) (sym (count_back xs w)) (good_records xs w))
