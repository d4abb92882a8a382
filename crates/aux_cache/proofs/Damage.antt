-- The first corrupt part of a file, and the stamps of a file that is not corrupt.
use Rattle.std.proofs.Common.{◌≡◌, ℕ, zero, suc, ◌+◌, ◌-◌, ◌<◌, ◌≤◌, ◌==◌, ◌&&◌, ◌||◌, Bool, true, false, not, cond, if◌then◌else◌, subst, ⊎_elim, List, [], ◌∷◌, ◌++◌, map, find, Option, Some, None, IfSome, option_map, is_some, unwrap_or, Ordering, refl, sym, ap, ◌∙◌, true≢false, arith}
use Rattle.std.proofs.lemmas.Bool.Decides.{nat_tests}
use Rattle.std.proofs.lemmas.Bool.{and_parts, cases_lt}
use Rattle.std.proofs.lemmas.List.Elements.{All-nil, All-cons}
use Rattle.std.specs.Cmp.{IsTotalOrder}
use Rattle.std.specs.List.{range_with_len, AllByRecursion}
use Rattle.std.specs.List.Sorted.{IsStrictlySortedBy}
use Rattle.std.specs.Option.{option_or}
use Rattle.std.specs.Ordering.{is_lt}
use Rattle.std.specs.declared.cmp.Ordering.TheVariants.{Less, Equal, Greater}
use Rattle.std.specs.Int.{cast_signed, w32}
use Rattle.lib_types.specs.Abi.{abi_of_flags}
use Rattle.lib_types.specs.Name.{is_name}
use Rattle.lib_types.specs.declared.abi.Abi.{Abi}
use Rattle.lib_types.specs.declared.analysis.Analysis.{Analysis}
use Rattle.lib_types.specs.declared.analysis.Analysis.TheVariants.{Lib, Not}
use Rattle.lib_types.specs.declared.analysis.Defect.{Defect}
use Rattle.lib_types.specs.declared.analysis.Defect.TheVariants.{NotElf}
use Rattle.image_tree.specs.declared.node.Id.{Id}
use Rattle.aux_cache.proofs.DefectCodes.{found_in_range}
use Rattle.aux_cache.proofs.Sorted.{id_total}
use Rattle.aux_cache.specs.AuxFile.{Sentence, first_place, file_sentences, record_sentence, sentences, damage, fault, count, indexes, strings_in, from_record, version_of, id_before, id_in, fields_in, follows, has_defects, is_record, is_soname, soname_at, library_of, not_library_of, analysis_of, analysis_in, string_at, stamp_at, stamp_in}
use Rattle.aux_cache.specs.AuxLayout.{record_place}
use Rattle.aux_cache.specs.DefectCodes.{defect_of}
use Rattle.aux_cache.specs.Ids.{id_cmp}
use Rattle.aux_cache.specs.Stamps.{IsSortedById, IsRecordable, AreRecordable}
use Rattle.aux_cache.specs.declared.fault.AuxFault.{AuxFault}
use Rattle.aux_cache.specs.declared.fault.AuxFault.TheVariants.{Damaged}
use Rattle.aux_cache.specs.declared.fields.AnalysisFields.{AnalysisFields}
use Rattle.aux_cache.specs.declared.layout.Version.{Version}
use Rattle.aux_cache.specs.declared.stamps.Stamp.{Stamp}

-- ---- the first rule that applies

pub first-append : (xs ys : List Sentence) → first_place (xs ++ ys) ≡ option_or (first_place xs) (first_place ys)
first-append [] ys = refl
first-append (x ∷ xs) ys = let rest = first-append xs ys in elim x.0 as (λ b. option_map (λ s. s.1) (cond b (Some x) (find (λ s. s.0) (xs ++ ys))) ≡ option_or (option_map (λ s. s.1) (cond b (Some x) (find (λ s. s.0) xs))) (first_place ys)) [
  | true ↦ refl
  | false ↦ rest
]

-- no rule of a range applies
none_holds : (S : ℕ → Sentence) (a n : ℕ) → ((k : ℕ) → k < n → (S (a + k)).0 ≡ false) → first_place (map S (range_with_len a n)) ≡ None
none_holds S a zero h = refl
none_holds S a (suc n) h =
    let here : a + 0 ≡ a = omega arith in
    let first : (S a).0 ≡ false = ap (λ k. (S k).0) (sym here) ∙ h 0 (omega arith) in
    rw first (none_holds S (a + 1) n (λ k less. let next : a + 1 + k ≡ a + suc k = omega arith in ap (λ j. (S j).0) next ∙ h (suc k) (omega arith)))

-- the first rule that applies
first_holds : (S : ℕ → Sentence) (a n i : ℕ) → i < n → ((k : ℕ) → k < i → (S (a + k)).0 ≡ false) → (S (a + i)).0 ≡ true → first_place (map S (range_with_len a n)) ≡ Some (S (a + i)).1
first_holds S a zero i h before at = absurd (omega arith)
first_holds S a (suc n) zero h before at =
    let here : a + 0 ≡ a = omega arith in
    let first : (S a).0 ≡ true = ap (λ k. (S k).0) (sym here) ∙ at in
    rw (first, here) refl
first_holds S a (suc n) (suc i) h before at =
    let here : a + 0 ≡ a = omega arith in
    let first : (S a).0 ≡ false = ap (λ k. (S k).0) (sym here) ∙ before 0 (omega arith) in
    let next : a + 1 + i ≡ a + suc i = omega arith in
    rw first (first_holds S (a + 1) n i (omega arith) (λ k less. let later : a + 1 + k ≡ a + suc k = omega arith in ap (λ j. (S j).0) later ∙ before (suc k) (omega arith)) (ap (λ j. (S j).0) next ∙ at)
    ∙ ap (λ j. Some (S j).1) next)

-- ---- corrupt files

-- the records before this index are valid
abbrev pub AreRecords : List ℕ → ℕ → Type 0
AreRecords bytes n = (k : ℕ) → k < n → is_record (version_of bytes) (strings_in bytes) (id_before bytes k) (from_record bytes k) ≡ true

holds_not : (bytes : List ℕ) (n : ℕ) → AreRecords bytes n → (k : ℕ) → k < n → (record_sentence (version_of bytes) bytes (0 + k)).0 ≡ false
holds_not bytes n all k h = let e : 0 + k ≡ k = omega arith in rw (e, all k h) refl

pub none_damaged : (bytes : List ℕ) → first_place (file_sentences (version_of bytes) bytes) ≡ None → AreRecords bytes (count bytes) → damage bytes ≡ None
unfolding sentences
none_damaged bytes file all =
    first-append (file_sentences (version_of bytes) bytes) (map (record_sentence (version_of bytes) bytes) (indexes bytes))
    ∙ rw (file, none_holds (record_sentence (version_of bytes) bytes) 0 (count bytes) (holds_not bytes (count bytes) all)) refl

pub file_damaged : (bytes : List ℕ) (f : AuxFault) → option_map Damaged (first_place (file_sentences (version_of bytes) bytes)) ≡ Some f → fault bytes ≡ Some f
unfolding sentences
file_damaged bytes f h = by (first_place (file_sentences (version_of bytes) bytes)) refl h
  where
    by : (o : Option ℕ) → first_place (file_sentences (version_of bytes) bytes) ≡ o → option_map Damaged o ≡ Some f → fault bytes ≡ Some f
    by None e g = absurd cc
    by (Some at) e g =
        let whole : damage bytes ≡ Some at = first-append (file_sentences (version_of bytes) bytes) (map (record_sentence (version_of bytes) bytes) (indexes bytes)) ∙ rw e refl in
        ap (option_map Damaged) whole ∙ g

pub record_damaged : (bytes : List ℕ) (i : ℕ) → first_place (file_sentences (version_of bytes) bytes) ≡ None → AreRecords bytes i → i < count bytes
    → is_record (version_of bytes) (strings_in bytes) (id_before bytes i) (from_record bytes i) ≡ false → fault bytes ≡ Some (Damaged (record_place i))
unfolding sentences
record_damaged bytes i file all h bad =
    let e : 0 + i ≡ i = omega arith in
    let last : (record_sentence (version_of bytes) bytes (0 + i)).0 ≡ true = rw (e, bad) refl in
    let whole : damage bytes ≡ Some (record_place (0 + i)) =
    first-append (file_sentences (version_of bytes) bytes) (map (record_sentence (version_of bytes) bytes) (indexes bytes)) ∙ rw file (first_holds (record_sentence (version_of bytes) bytes) 0 (count bytes) i h (holds_not bytes i all) last) in
    ap (option_map Damaged) whole ∙ ap (λ k. Some (Damaged (record_place k))) e

-- ---- a range, one item at a time

range_push : {X : Type 0} (f : ℕ → X) (a n : ℕ) → map f (range_with_len a (n + 1)) ≡ map f (range_with_len a n) ++ f (a + n) ∷ []
range_push f a zero = let e : a + 0 ≡ a = omega arith in rw e refl
range_push f a (suc n) =
    let e : a + 1 + n ≡ a + suc n = omega arith in
    let m : suc n + 1 ≡ suc (n + 1) = omega arith in
    rw m (ap (λ xs. f a ∷ xs) (range_push f (a + 1) n ∙ ap (λ k. map f (range_with_len (a + 1) n) ++ f k ∷ []) e))

pub next_stamp : (bytes : List ℕ) (xs : List Stamp) (s : Stamp) (n : ℕ) → xs ≡ map (stamp_at bytes) (range_with_len 0 n) → s ≡ stamp_at bytes n
    → xs ++ s ∷ [] ≡ map (stamp_at bytes) (range_with_len 0 (n + 1))
next_stamp bytes xs s n is this = let e : 0 + n ≡ n = omega arith in rw (is, this, range_push (stamp_at bytes) 0 n, e) refl

not_zero : (n : ℕ) → (n + 1 == 0) ≡ false
not_zero n = grind (arith, nat_tests)

pub before_next : (bytes : List ℕ) (n : ℕ) → id_before bytes (n + 1) ≡ Some (id_in (from_record bytes n))
before_next bytes n = let m : n + 1 - 1 ≡ n = omega arith in rw (not_zero n, m) refl

pub next_before : (bytes : List ℕ) (n : ℕ) → Some (stamp_at bytes n).id ≡ id_before bytes (n + 1)
unfolding stamp_in
next_before bytes n = sym (before_next bytes n)

-- ---- the stamps

-- what a valid record has
pub record HasParts (version : Version) (strings : List ℕ) (before : Option Id) (record_bytes : List ℕ) : Type 0 where
  pub follows : follows before (id_in record_bytes) ≡ true
  pub analysis : is_some (analysis_in version strings record_bytes) ≡ true

pub parts : (version : Version) (strings : List ℕ) (before : Option Id) (record_bytes : List ℕ) → is_record version strings before record_bytes ≡ true → HasParts version strings before record_bytes
parts version strings before r h = let both = and_parts (follows before (id_in r)) (is_some (analysis_in version strings r)) h in record { follows = both.0; analysis = both.1 }

module _ {K : Type 0} {cmp : K → K → Ordering} (o : IsTotalOrder cmp) (f : ℕ → K) where
  climbs : (x : K) (k n : ℕ) → (0 < n → cmp x (f k) ≡ Less) → ((j : ℕ) → k ≤ j → j + 1 < k + n → cmp (f j) (f (j + 1)) ≡ Less) → AllByRecursion (λ y. cmp x y ≡ Less) (map f (range_with_len k n))
  climbs x k zero first steps = tt
  climbs x k (suc n) first steps =
      (first (omega arith), climbs x (k + 1) n (λ some. o.trans x (f k) (f (k + 1)) (first (omega arith)) (steps k (omega arith) (omega arith))) (λ j low high. steps j (omega arith) (omega arith)))

  rising : (k n : ℕ) → ((j : ℕ) → k ≤ j → j + 1 < k + n → cmp (f j) (f (j + 1)) ≡ Less) → IsStrictlySortedBy cmp (map f (range_with_len k n))
  unfolding IsStrictlySortedBy
  rising k zero steps = tt
  rising k (suc n) steps = (climbs (f k) (k + 1) n (λ some. steps k (omega arith) (omega arith)) (λ j low high. steps j (omega arith) (omega arith)), rising (k + 1) n (λ j low high. steps j (omega arith) (omega arith)))

is_less : (r : Ordering) → is_lt r ≡ true → r ≡ Less
is_less Less h = refl
is_less Equal h = absurd (true≢false (sym h))
is_less Greater h = absurd (true≢false (sym h))

-- The identity of a record is greater than that of the record before.
above : (bytes : List ℕ) (n : ℕ) → AreRecords bytes n → (j : ℕ) → j + 1 < n → id_cmp (id_in (from_record bytes j)) (id_in (from_record bytes (j + 1))) ≡ Less
above bytes n all j h =
    let has = parts (version_of bytes) (strings_in bytes) (id_before bytes (j + 1)) (from_record bytes (j + 1)) (all (j + 1) h) in
    is_less _ (rw (before_next bytes j) at has.follows)

ids_at : (bytes : List ℕ) (a n : ℕ) → map (λ s. s.id) (map (stamp_at bytes) (range_with_len a n)) ≡ map (λ k. id_in (from_record bytes k)) (range_with_len a n)
unfolding stamp_in
ids_at bytes a zero = refl
ids_at bytes a (suc n) = ap (λ xs. id_in (from_record bytes a) ∷ xs) (ids_at bytes (a + 1) n)

pub sorted_stamps : (bytes : List ℕ) (n : ℕ) → AreRecords bytes n → IsSortedById (map (stamp_at bytes) (range_with_len 0 n))
sorted_stamps bytes n all = rw (ids_at bytes 0 n) (rising id_total (λ k. id_in (from_record bytes k)) 0 n (λ j low high. above bytes n all j (omega arith)))

-- an analysis that is read can be written again
recordable_soname : (strings : List ℕ) (abi : Abi) (offset : ℕ) → is_soname strings offset ≡ true → IsRecordable (Lib abi (soname_at strings offset))
recordable_soname strings abi offset h = by (offset == 0) h
  where
    by : (b : Bool) → (b || is_name (string_at strings offset)) ≡ true → IfSome (cond b None (Some (string_at strings offset))) (λ soname. is_name soname ≡ true)
    by true g = tt
    by false g = g

recordable_library : (strings : List ℕ) (f : AnalysisFields) → IfSome (library_of strings f) IsRecordable
recordable_library strings f = by (f.code == 0 && f.value == 0) (is_soname strings f.offset) refl (abi_of_flags (cast_signed w32 f.flags))
  where
    by : (a b : Bool) → is_soname strings f.offset ≡ b → (o : Option Abi) → IfSome (if a && b then option_map (λ abi. Lib abi (soname_at strings f.offset)) o else None) IsRecordable
    by true true e None = tt
    by true true e (Some abi) = recordable_soname strings abi f.offset e
    by true false e o = tt
    by false b e o = tt

recordable_defect : (f : AnalysisFields) → IfSome (not_library_of f) IsRecordable
recordable_defect f = by (f.flags == 0 && f.offset == 0) (defect_of f.code f.value) refl
  where
    by : (b : Bool) (o : Option Defect) → defect_of f.code f.value ≡ o → IfSome (if b then option_map Not o else None) IsRecordable
    by true None e = tt
    by true (Some d) e = found_in_range f.code f.value d e
    by false o e = tt

recordable_analysis : (version : Version) (strings : List ℕ) (f : AnalysisFields) → IfSome (analysis_of version strings f) IsRecordable
unfolding analysis_of
recordable_analysis version strings f = by (has_defects version && not (f.code == 0))
  where
    by : (b : Bool) → IfSome (if b then not_library_of f else library_of strings f) IsRecordable
    by true = recordable_defect f
    by false = recordable_library strings f

recordable_stamp : (version : Version) (strings record_bytes : List ℕ) → is_some (analysis_in version strings record_bytes) ≡ true → IsRecordable (stamp_in version strings record_bytes).analysis
unfolding stamp_in
recordable_stamp version strings r h = by (analysis_in version strings r) h (recordable_analysis version strings (fields_in r))
  where
    by : (o : Option Analysis) → is_some o ≡ true → IfSome o IsRecordable → IsRecordable (unwrap_or o (Not NotElf))
    by None some all = absurd cc
    by (Some analysis) some all = all

pub recordable_stamps : (bytes : List ℕ) (n : ℕ) → AreRecords bytes n → AreRecordable (map (stamp_at bytes) (range_with_len 0 n))
recordable_stamps bytes n all = recordable_from 0 n (λ k low high. all k (omega arith))
  where
    recordable_from : (a n : ℕ) → ((k : ℕ) → a ≤ k → k < a + n → is_record (version_of bytes) (strings_in bytes) (id_before bytes k) (from_record bytes k) ≡ true)
        → AreRecordable (map (stamp_at bytes) (range_with_len a n))
    recordable_from a zero all = All-nil (λ (s : Stamp). IsRecordable s.analysis)
    recordable_from a (suc n) all =
        All-cons (λ (s : Stamp). IsRecordable s.analysis) (stamp_at bytes a) (map (stamp_at bytes) (range_with_len (a + 1) n))
        (recordable_stamp (version_of bytes) (strings_in bytes) (from_record bytes a) (parts (version_of bytes) (strings_in bytes) (id_before bytes a) (from_record bytes a) (all a (omega arith) (omega arith))).analysis)
        (recordable_from (a + 1) n (λ k low high. all k (omega arith) (omega arith)))

-- ---- reading one record

module _ (bytes : List ℕ) (i : ℕ) (version : Version) (strings record_bytes : List ℕ) (before : Option Id) where
  -- the result of reading these bytes: a stamp if they are a valid record
  abbrev pub Reads : Option Stamp → Type 0
  Reads o = o ≡ (if is_record version strings before record_bytes then Some (stamp_in version strings record_bytes) else None)

  -- these bytes are the record with this index
  abbrev pub IsAt : Type 0
  IsAt = (version ≡ version_of bytes) × (strings ≡ strings_in bytes) × (record_bytes ≡ from_record bytes i) × (before ≡ id_before bytes i)

  at_index : (o : Option Stamp) → IsAt → Reads o → o ≡ (if is_record (version_of bytes) (strings_in bytes) (id_before bytes i) (from_record bytes i) then Some (stamp_at bytes i) else None)
  at_index o at h =
      h
      ∙ ap (λ v. if is_record v strings before record_bytes then Some (stamp_in v strings record_bytes) else None) at.0
      ∙ ap (λ s. if is_record (version_of bytes) s before record_bytes then Some (stamp_in (version_of bytes) s record_bytes) else None) at.1
      ∙ ap (λ r. if is_record (version_of bytes) (strings_in bytes) before r then Some (stamp_in (version_of bytes) (strings_in bytes) r) else None) at.2
      ∙ ap (λ b. if is_record (version_of bytes) (strings_in bytes) b (from_record bytes i) then Some (stamp_at bytes i) else None) at.3

  pub was_read : (s : Stamp) → IsAt → Reads (Some s) → (is_record (version_of bytes) (strings_in bytes) (id_before bytes i) (from_record bytes i) ≡ true) × (s ≡ stamp_at bytes i)
  was_read s at h = by (is_record (version_of bytes) (strings_in bytes) (id_before bytes i) (from_record bytes i)) (at_index (Some s) at h)
    where
      by : (b : Bool) → Some s ≡ (if b then Some (stamp_at bytes i) else None) → (b ≡ true) × (s ≡ stamp_at bytes i)
      by true e = (refl, cc)
      by false e = absurd cc

  pub not_read : IsAt → Reads None → is_record (version_of bytes) (strings_in bytes) (id_before bytes i) (from_record bytes i) ≡ false
  not_read at h = by (is_record (version_of bytes) (strings_in bytes) (id_before bytes i) (from_record bytes i)) (at_index None at h)
    where
      by : (b : Bool) → None ≡ (if b then Some (stamp_at bytes i) else None) → b ≡ false
      by true e = absurd cc
      by false e = refl

pub records_more : (bytes : List ℕ) (n : ℕ) → AreRecords bytes n → is_record (version_of bytes) (strings_in bytes) (id_before bytes n) (from_record bytes n) ≡ true → AreRecords bytes (n + 1)
records_more bytes n all last k h =
    ⊎_elim (λ less. all k less) (λ more. let e : n ≡ k = omega arith in subst (λ j. is_record (version_of bytes) (strings_in bytes) (id_before bytes j) (from_record bytes j) ≡ true) e last) (cases_lt k n)
