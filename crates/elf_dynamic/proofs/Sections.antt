-- A section's texts, or its first defect.
use Rattle.std.proofs.Common.{◌≡◌, ℕ, ◌+◌, ◌*◌, ◌≤◌, ◌<◌, length, subst, Bool, true, false, cond, not, ◌||◌, List, [], ◌∷◌, map, filter, find, Option, Some, None, is_none, is_some, ok_or, Result, Ok, Err, refl, ap, sym, ◌∙◌, arith}
use Rattle.std.specs.List.{list_any}
use Rattle.std.specs.Option.{option_map_or}
use Rattle.lib_types.specs.Name.{is_name}
use Rattle.lib_types.specs.declared.analysis.Defect.{Defect}
use Rattle.lib_types.specs.declared.analysis.Defect.TheVariants.{DynOutside, NoStrtab, OutsideLoad, BadString, BadSoname}
use Rattle.elf_headers.specs.Header.{first_defect, unless_defect}
use Rattle.elf_dynamic.specs.declared.kinds.DynamicEntry.{DynamicEntry}
use Rattle.elf_dynamic.specs.declared.kinds.Dynamic.{Dynamic}
use Rattle.elf_dynamic.specs.declared.gather.Keep.{Keep}
use Rattle.elf_dynamic.specs.Kept.{kept, kept_of}
use Rattle.elf_dynamic.specs.Section.{bytes_of, strtab, strsz, has_tag, value_of, has_text, string_table, table_at, dynamic_segment, is_outside, dynamic_entries, counting_after, counting_entries, has_text_at, text_at}
use Rattle.elf_dynamic.specs.Object.{entries, table, section_sentences, dynamic_sentences, bad_entry, text_in, soname_of, needed_of, has_nodeflib, nodeflib_of, dynamic_of}
use Rattle.elf_dynamic.specs.Texts.{no_texts, gathered, counted}
use Rattle.elf_dynamic.specs.Sections.{section_of, section_in, sections_in, counting_in, table_by, name_of, has_good_name}
use Rattle.lib_types.specs.Counts.{raised}
use Rattle.elf_dynamic.specs.declared.kinds.Place.{Place}
use Rattle.elf_dynamic.specs.declared.fault.ObjectFault.{ObjectFault}
use Rattle.elf_dynamic.specs.declared.fault.ObjectFault.TheVariants as faults
use Rattle.elf_dynamic.specs.Faults.{IfBad}
use Rattle.tree_face.specs.Known.{IfKnown}
use Rattle.tree_face.specs.Store.{StoreState}
use Rattle.tree_face.specs.StoreUse.{Ending}
use Rattle.tree_face.proofs.StoreUse.{raised-add, raised-mono}
use Rattle.elf_headers.specs.Reading.{known_content, OfKnown, OnlyReads, TakesAtMost}
use Rattle.elf_headers.specs.declared.kinds.Segment.{Segment}
use Rattle.elf_headers.specs.Layout.{segments}
use Rattle.elf_dynamic.specs.declared.values.Values.{Values}
use Rattle.elf_dynamic.specs.Values.{texts_in, values_of}
use Rattle.elf_dynamic.proofs.Known.{before, with, both, three}
use Rattle.elf_dynamic.proofs.Kept.{unkept, soname_alike, name_alike, with_name, ok_of}
use Rattle.elf_dynamic.proofs.Gathered.{all_texts, picked, gathered_all, counted_all}
use Rattle.elf_dynamic.specs.declared.text.TheConstants.{TEXT_LIMIT}

-- ---- whether an entry has a text

none_with_text : (es : List DynamicEntry) → texts_in es ≡ 0 → list_any has_text es ≡ false
none_with_text [] h = refl
none_with_text (e ∷ rest) h = by (none_with_text rest) (has_text e) h
  where
    by : (texts_in rest ≡ 0 → list_any has_text rest ≡ false) → (b : Bool) → length (cond b (e ∷ filter has_text rest) (filter has_text rest)) ≡ 0 → (b || list_any has_text rest) ≡ false
    by ih true h = absurd (omega (arith, h))
    by ih false h = ih h

pub some_with_text : (es : List DynamicEntry) → 0 < texts_in es → list_any has_text es ≡ true
some_with_text [] h = absurd (omega (arith, h))
some_with_text (e ∷ rest) h = by (some_with_text rest) (has_text e) h
  where
    by : (0 < texts_in rest → list_any has_text rest ≡ true) → (b : Bool) → 0 < length (cond b (e ∷ filter has_text rest) (filter has_text rest)) → (b || list_any has_text rest) ≡ true
    by ih true h = refl
    by ih false h = ih h

none_counts : (p : DynamicEntry → Bool) (earlier es : List DynamicEntry) → list_any has_text es ≡ false → find p (counting_after earlier es) ≡ None
none_counts p earlier [] h = refl
none_counts p earlier (e ∷ rest) h =
    let here : has_text e ≡ false = grind arith in
    let there : list_any has_text rest ≡ false = grind arith in
    rw here (none_counts p (e ∷ earlier) rest there)

none_bad : (t : Option (List ℕ)) (es : List DynamicEntry) → list_any has_text es ≡ false → bad_entry t es ≡ None
unfolding counting_entries
none_bad None es h = refl
none_bad (Some t) es h = none_counts (λ e. not (has_text_at t e.value)) [] es h

-- the tags whose entries have texts
data IsText : ℕ → Type 0 where
  is_needed : IsText 1
  is_soname : IsText 14
  is_rpath : IsText 15
  is_runpath : IsText 29

no_tag : (tag : ℕ) (e : DynamicEntry) → IsText tag → has_text e ≡ false → has_tag tag e ≡ false
no_tag _ e is_needed h = grind arith
no_tag _ e is_soname h = grind arith
no_tag _ e is_rpath h = grind arith
no_tag _ e is_runpath h = grind arith

none_of : (tag : ℕ) (es : List DynamicEntry) → IsText tag → list_any has_text es ≡ false → value_of tag es ≡ None
none_of tag [] i h = refl
none_of tag (e ∷ rest) i h =
    let here : has_text e ≡ false = grind arith in
    let there : list_any has_text rest ≡ false = grind arith in
    rw (no_tag tag e i here) (none_of tag rest i there)

none_needed : (es : List DynamicEntry) → list_any has_text es ≡ false → filter (has_tag 1) es ≡ []
none_needed [] h = refl
none_needed (e ∷ rest) h =
    let here : has_text e ≡ false = grind arith in
    let there : list_any has_text rest ≡ false = grind arith in
    rw (no_tag 1 e is_needed here) (none_needed rest there)

no_text_in : (t : Option (List ℕ)) → text_in t None ≡ None
no_text_in None = refl
no_text_in (Some t) = refl

none_named : (t : Option (List ℕ)) (es : List DynamicEntry) → list_any has_text es ≡ false → needed_of t es ≡ []
none_named None es h = refl
none_named (Some t) es h = ap (map (λ e. text_at t e.value)) (none_needed es h)

pub textless : (t : Option (List ℕ)) (es : List DynamicEntry) → list_any has_text es ≡ false → section_of t es ≡ Ok (no_texts (nodeflib_of es))
unfolding section_of
textless t es h = rw (h, none_bad t es h, none_of 14 es is_soname h, none_of 15 es is_rpath h, none_of 29 es is_runpath h, no_text_in t, none_named t es h) refl

-- ---- the table

pub lacking : (t : Option (List ℕ)) (es : List DynamicEntry) → list_any has_text es ≡ true → (is_none (value_of strtab es) || is_none (value_of strsz es)) ≡ true → section_of t es ≡ Err NoStrtab
unfolding section_of
lacking t es h k = rw (h, k) refl

pub outside : (es : List DynamicEntry) → list_any has_text es ≡ true → (is_none (value_of strtab es) || is_none (value_of strsz es)) ≡ false → section_of None es ≡ Err OutsideLoad
unfolding section_of
outside es h k = rw (h, k) refl

-- ---- the texts

pub with_table : (t : List ℕ) (es : List DynamicEntry) → list_any has_text es ≡ true → (is_none (value_of strtab es) || is_none (value_of strsz es)) ≡ false →
    section_of (Some t) es
    ≡ cond (is_some (bad_entry (Some t) es)) (Err (BadString (option_map_or (λ e. e.tag) (bad_entry (Some t) es) 0)))
    (cond (not (option_map_or is_name (soname_of (Some t) es) true)) (Err BadSoname) (Ok (dynamic_of (Some t) es)))
unfolding section_of
with_table t es h k = rw (h, k) (by (is_some (bad_entry (Some t) es)) (not (option_map_or is_name (soname_of (Some t) es) true)))
  where
    by : (a b : Bool) →
        unless_defect (first_defect ((false, NoStrtab) ∷ (false, OutsideLoad) ∷ (a, BadString (option_map_or (λ e. e.tag) (bad_entry (Some t) es) 0)) ∷ (b, BadSoname) ∷ [])) (Ok (dynamic_of (Some t) es))
        ≡ cond a (Err (BadString (option_map_or (λ e. e.tag) (bad_entry (Some t) es) 0))) (cond b (Err BadSoname) (Ok (dynamic_of (Some t) es)))
    by true b = refl
    by false true = refl
    by false false = refl

bad_by : (o : Option DynamicEntry) (d : Dynamic) (x : Defect) (rest : Result Dynamic Defect) → picked o d ≡ Err x → cond (is_some o) (Err (BadString (option_map_or (λ e. e.tag) o 0))) rest ≡ Err x
bad_by None d x rest h = absurd (cc)
bad_by (Some e) d x rest h = h

pub bad_text : (t : List ℕ) (es : List DynamicEntry) (f : Bool) (x : Defect) → list_any has_text es ≡ true → (is_none (value_of strtab es) || is_none (value_of strsz es)) ≡ false →
    gathered t (no_texts f) es ≡ Err x → section_of (Some t) es ≡ Err x
bad_text t es f x h k g = with_table t es h k ∙ bad_by (bad_entry (Some t) es) (all_texts t f es) x _ (sym (gathered_all t f es) ∙ g)

good_by : (o : Option DynamicEntry) (d new : Dynamic) (rest : Result Dynamic Defect) (x : Defect) → picked o d ≡ Ok new → (cond (is_some o) (Err x) rest ≡ rest) × (d ≡ new)
good_by None d new rest x h = (refl, cc)
good_by (Some e) d new rest x h = absurd (cc)

pub bad_name : (t : List ℕ) (es : List DynamicEntry) (f : Bool) (d : Dynamic) → list_any has_text es ≡ true → (is_none (value_of strtab es) || is_none (value_of strsz es)) ≡ false →
    gathered t (no_texts f) es ≡ Ok d → has_good_name d.soname ≡ false → section_of (Some t) es ≡ Err BadSoname
bad_name t es f d h k g bad =
    let good = good_by (bad_entry (Some t) es) (all_texts t f es) d _ _ (sym (gathered_all t f es) ∙ g) in
    let named : option_map_or is_name (soname_of (Some t) es) true ≡ false = ap (λ d. has_good_name d.soname) good.1 ∙ bad in
    with_table t es h k ∙ good.0 ∙ rw named refl

pub good_name : (t : List ℕ) (es : List DynamicEntry) (d : Dynamic) → list_any has_text es ≡ true → (is_none (value_of strtab es) || is_none (value_of strsz es)) ≡ false →
    gathered t (no_texts (nodeflib_of es)) es ≡ Ok d → has_good_name d.soname ≡ true → section_of (Some t) es ≡ Ok (record d { soname = name_of d.soname })
good_name t es d h k g fine =
    let good = good_by (bad_entry (Some t) es) (all_texts t (nodeflib_of es) es) d _ _ (sym (gathered_all t (nodeflib_of es) es) ∙ g) in
    let named : option_map_or is_name (soname_of (Some t) es) true ≡ true = ap (λ d. has_good_name d.soname) good.1 ∙ fine in
    with_table t es h k ∙ good.0 ∙ rw named (ap (λ (d : Dynamic). ok_of (with_name d)) good.1)

-- ---- the table by its address and size

abbrev err_of : Defect → Result Dynamic Defect
err_of d = Err d

strings_by : (w : ℕ) (bytes : List ℕ) (a n : Option ℕ) (d : Defect) (es : List DynamicEntry) → value_of strtab es ≡ a → value_of strsz es ≡ n → list_any has_text es ≡ true → table_by w bytes a n ≡ Err d →
    section_of (string_table bytes (segments w bytes) es) es ≡ Err d
strings_by w bytes None n d es ea en h e = let same : NoStrtab ≡ d = cc in lacking (string_table bytes (segments w bytes) es) es h (rw ea refl) ∙ ap err_of same
strings_by w bytes (Some a) None d es ea en h e = let same : NoStrtab ≡ d = cc in lacking (string_table bytes (segments w bytes) es) es h (rw (ea, en) refl) ∙ ap err_of same
strings_by w bytes (Some a) (Some n) d es ea en h e = by (table_at bytes (segments w bytes) a n) refl e
  where
    by : (o : Option (List ℕ)) → table_at bytes (segments w bytes) a n ≡ o → ok_or o OutsideLoad ≡ Err d → section_of (string_table bytes (segments w bytes) es) es ≡ Err d
    by None eo e =
        let none : string_table bytes (segments w bytes) es ≡ None = rw (ea, en) eo in
        let same : OutsideLoad ≡ d = cc in
        ap (λ t. section_of t es) none ∙ outside es h (rw (ea, en) refl) ∙ ap err_of same
    by (Some t) eo e = absurd (cc)

pub strings_there : (w : ℕ) (bytes : List ℕ) (a n : Option ℕ) (t : List ℕ) (es : List DynamicEntry) → value_of strtab es ≡ a → value_of strsz es ≡ n → table_by w bytes a n ≡ Ok t →
    (string_table bytes (segments w bytes) es ≡ Some t) × ((is_none (value_of strtab es) || is_none (value_of strsz es)) ≡ false)
strings_there w bytes None n t es ea en e = absurd (cc)
strings_there w bytes (Some a) None t es ea en e = absurd (cc)
strings_there w bytes (Some a) (Some n) t es ea en e = by (table_at bytes (segments w bytes) a n) refl e
  where
    by : (o : Option (List ℕ)) → table_at bytes (segments w bytes) a n ≡ o → ok_or o OutsideLoad ≡ Ok t → (string_table bytes (segments w bytes) es ≡ Some t) × ((is_none (value_of strtab es) || is_none (value_of strsz es)) ≡ false)
    by None eo e = absurd (cc)
    by (Some u) eo e = (rw (ea, en) (eo ∙ cc), rw (ea, en) refl)

-- ---- the bytes that were read

pub known_taken : (known : Option (List ℕ)) (a b c n m w : ℕ) (s : Segment) (f : Bool) (first : Dynamic) (table : List ℕ → List ℕ) → first ≡ no_texts f → b ≤ raised a n →
    IfKnown known (λ bytes. c ≤ raised b (m + TEXT_LIMIT * counted (table bytes) first (dynamic_entries w bytes s))) → IfKnown known (λ bytes. c ≤ raised a (n + m + TEXT_LIMIT * counting_in w bytes s))
unfolding counting_in
known_taken None a b c n m w s f first table new h k = tt
known_taken (Some bytes) a b c n m w s f first table new h k =
    let count : counted (table bytes) first (dynamic_entries w bytes s) ≡ length (counting_entries (dynamic_entries w bytes s)) =
    ap (λ d. counted (table bytes) d (dynamic_entries w bytes s)) new ∙ counted_all (table bytes) f (dynamic_entries w bytes s) in
    raised-mono a c (n + (m + TEXT_LIMIT * counted (table bytes) first (dynamic_entries w bytes s))) (n + m + TEXT_LIMIT * length (counting_entries (dynamic_entries w bytes s))) (omega (arith, count))
    (raised-add a b c n (m + TEXT_LIMIT * counted (table bytes) first (dynamic_entries w bytes s)) h k)

-- the same over stores, with the table before the texts
pub texts_taken_by : {e : Ending} (s t u : StoreState) (n m w : ℕ) (d : Segment) (f : Bool) (first : Dynamic) (table : Place) → first ≡ no_texts f → OnlyReads e s t → TakesAtMost n s t →
    OfKnown t (λ bytes. TakesAtMost (m + TEXT_LIMIT * counted (bytes_of table bytes) first (dynamic_entries w bytes d)) t u) → OfKnown s (λ bytes. TakesAtMost (n + m + TEXT_LIMIT * counting_in w bytes d) s u)
texts_taken_by s t u n m w d f first table new reads before_texts taken =
    known_taken (known_content s) s.taken t.taken u.taken n m w d f first (bytes_of table) new before_texts
    (before (λ bytes. TakesAtMost (m + TEXT_LIMIT * counted (bytes_of table bytes) first (dynamic_entries w bytes d)) t u) s t reads taken)

-- ---- the section, if the content is known

module _ (keep : Keep) (known : Option (List ℕ)) (w : ℕ) (s : Segment) (v : Values) (is : IfKnown known (λ bytes. v ≡ values_of (dynamic_entries w bytes s))) where
  pub known_textless : v.texts ≡ 0 → IfKnown known (λ bytes. kept_of keep (section_in w bytes s) ≡ Ok (kept keep (no_texts (option_map_or has_nodeflib v.flags_1 false))))
  unfolding section_in
  known_textless h =
      with {P = λ bytes. v ≡ values_of (dynamic_entries w bytes s)} {Q = λ bytes. kept_of keep (section_in w bytes s) ≡ Ok (kept keep (no_texts (option_map_or has_nodeflib v.flags_1 false)))} known is
      (λ bytes e.
      let es = dynamic_entries w bytes s in
      let none = none_with_text es (sym (ap (λ v. v.texts) e) ∙ h) in
      ap (kept_of keep) (textless (string_table bytes (segments w bytes) es) es none ∙ ap (λ f. ok_of (no_texts (option_map_or has_nodeflib f false))) (sym (ap (λ v. v.flags_1) e))))

  pub known_bad_table : (d : Defect) → 0 < v.texts → IfKnown known (λ bytes. table_by w bytes v.strtab v.strsz ≡ Err d) → IfKnown known (λ bytes. section_in w bytes s ≡ Err d)
  unfolding section_in
  known_bad_table d h bad =
      both {P = λ bytes. v ≡ values_of (dynamic_entries w bytes s)} {Q = λ bytes. table_by w bytes v.strtab v.strsz ≡ Err d} {R = λ bytes. section_in w bytes s ≡ Err d} known is bad
      (λ bytes e bad.
      let es = dynamic_entries w bytes s in
      strings_by w bytes v.strtab v.strsz d es (sym (ap (λ v. v.strtab) e)) (sym (ap (λ v. v.strsz) e)) (some_with_text es (subst (λ n. 0 < n) (ap (λ v. v.texts) e) h)) bad)

  pub known_bad_text : (t : List ℕ → List ℕ) (x : Defect) → 0 < v.texts → IfKnown known (λ bytes. table_by w bytes v.strtab v.strsz ≡ Ok (t bytes)) →
      IfKnown known (λ bytes. gathered (t bytes) (no_texts (option_map_or has_nodeflib v.flags_1 false)) (dynamic_entries w bytes s) ≡ Err x) → IfKnown known (λ bytes. section_in w bytes s ≡ Err x)
  unfolding section_in
  known_bad_text t x h there bad =
      three {P = λ bytes. v ≡ values_of (dynamic_entries w bytes s)} {Q = λ bytes. table_by w bytes v.strtab v.strsz ≡ Ok (t bytes)}
      {R = λ bytes. gathered (t bytes) (no_texts (option_map_or has_nodeflib v.flags_1 false)) (dynamic_entries w bytes s) ≡ Err x} {X = λ bytes. section_in w bytes s ≡ Err x} known is there bad
      (λ bytes e there bad.
      let es = dynamic_entries w bytes s in
      let strings = strings_there w bytes v.strtab v.strsz (t bytes) es (sym (ap (λ v. v.strtab) e)) (sym (ap (λ v. v.strsz) e)) there in
      ap (λ t. section_of t es) strings.0 ∙ bad_text (t bytes) es (option_map_or has_nodeflib v.flags_1 false) x (some_with_text es (subst (λ n. 0 < n) (ap (λ v. v.texts) e) h)) strings.1 bad)

  pub known_bad_name : (t : List ℕ → List ℕ) (d : Dynamic) → 0 < v.texts → has_good_name d.soname ≡ false → IfKnown known (λ bytes. table_by w bytes v.strtab v.strsz ≡ Ok (t bytes)) →
      IfKnown known (λ bytes. kept_of keep (gathered (t bytes) (no_texts (option_map_or has_nodeflib v.flags_1 false)) (dynamic_entries w bytes s)) ≡ Ok (kept keep d)) → IfKnown known (λ bytes. section_in w bytes s ≡ Err BadSoname)
  unfolding section_in
  known_bad_name t d h name there good =
      three {P = λ bytes. v ≡ values_of (dynamic_entries w bytes s)} {Q = λ bytes. table_by w bytes v.strtab v.strsz ≡ Ok (t bytes)}
      {R = λ bytes. kept_of keep (gathered (t bytes) (no_texts (option_map_or has_nodeflib v.flags_1 false)) (dynamic_entries w bytes s)) ≡ Ok (kept keep d)} {X = λ bytes. section_in w bytes s ≡ Err BadSoname} known is there good
      (λ bytes e there good.
      let es = dynamic_entries w bytes s in
      let (x, gathers, alike) = unkept keep (gathered (t bytes) (no_texts (option_map_or has_nodeflib v.flags_1 false)) es) d good in
      let strings = strings_there w bytes v.strtab v.strsz (t bytes) es (sym (ap (λ v. v.strtab) e)) (sym (ap (λ v. v.strsz) e)) there in
      ap (λ t. section_of t es) strings.0 ∙ bad_name (t bytes) es (option_map_or has_nodeflib v.flags_1 false) x (some_with_text es (subst (λ n. 0 < n) (ap (λ v. v.texts) e) h)) strings.1 gathers (ap has_good_name (soname_alike keep x d alike) ∙ name))

  pub known_good : (t : List ℕ → List ℕ) (d new : Dynamic) → 0 < v.texts → has_good_name d.soname ≡ true → new ≡ record d { soname = name_of d.soname } → IfKnown known (λ bytes. table_by w bytes v.strtab v.strsz ≡ Ok (t bytes)) →
      IfKnown known (λ bytes. kept_of keep (gathered (t bytes) (no_texts (option_map_or has_nodeflib v.flags_1 false)) (dynamic_entries w bytes s)) ≡ Ok (kept keep d)) → IfKnown known (λ bytes. kept_of keep (section_in w bytes s) ≡ Ok (kept keep new))
  unfolding section_in
  known_good t d new h name is_new there good =
      three {P = λ bytes. v ≡ values_of (dynamic_entries w bytes s)} {Q = λ bytes. table_by w bytes v.strtab v.strsz ≡ Ok (t bytes)}
      {R = λ bytes. kept_of keep (gathered (t bytes) (no_texts (option_map_or has_nodeflib v.flags_1 false)) (dynamic_entries w bytes s)) ≡ Ok (kept keep d)} {X = λ bytes. kept_of keep (section_in w bytes s) ≡ Ok (kept keep new)} known is there good
      (λ bytes e there good.
      let es = dynamic_entries w bytes s in
      let (x, gathers, alike) = unkept keep (gathered (t bytes) (no_texts (option_map_or has_nodeflib v.flags_1 false)) es) d good in
      let strings = strings_there w bytes v.strtab v.strsz (t bytes) es (sym (ap (λ v. v.strtab) e)) (sym (ap (λ v. v.strsz) e)) there in
      let flags : gathered (t bytes) (no_texts (nodeflib_of es)) es ≡ Ok x = ap (λ f. gathered (t bytes) (no_texts (option_map_or has_nodeflib f false)) es) (sym (ap (λ v. v.flags_1) e)) ∙ gathers in
      let fine : has_good_name x.soname ≡ true = ap has_good_name (soname_alike keep x d alike) ∙ name in
      ap (kept_of keep) (ap (λ t. section_of t es) strings.0 ∙ good_name (t bytes) es x (some_with_text es (subst (λ n. 0 < n) (ap (λ v. v.texts) e) h)) strings.1 flags fine)
      ∙ ap ok_of (name_alike keep x d alike ∙ ap (kept keep) (sym is_new)))

-- ---- the faults of other calls

pub table_fault : (keep : Keep) (known : Option (List ℕ)) (w : ℕ) (s : Segment) (v : Values) (fault : ObjectFault) → IfKnown known (λ bytes. v ≡ values_of (dynamic_entries w bytes s)) → 0 < v.texts →
    IfBad {X = Place} (Err fault) (λ d. IfKnown known (λ bytes. table_by w bytes v.strtab v.strsz ≡ Err d)) → IfBad {X = Unit {0}} (Err fault) (λ d. IfKnown known (λ bytes. section_in w bytes s ≡ Err d))
table_fault keep known w s v (faults.Bad d) is h bad = known_bad_table keep known w s v is d h bad
table_fault keep known w s v faults.StoreFault is h bad = tt
table_fault keep known w s v faults.NoMemory is h bad = tt

pub text_fault : (keep : Keep) (known mid : Option (List ℕ)) (w : ℕ) (s : Segment) (v : Values) (t : List ℕ → List ℕ) (first : Dynamic) (fault : ObjectFault) → mid ≡ known → first ≡ no_texts (option_map_or has_nodeflib v.flags_1 false) →
    IfKnown known (λ bytes. v ≡ values_of (dynamic_entries w bytes s)) → 0 < v.texts → IfKnown known (λ bytes. table_by w bytes v.strtab v.strsz ≡ Ok (t bytes)) →
    IfBad {X = Unit {0}} (Err fault) (λ d. IfKnown mid (λ bytes. gathered (t bytes) first (dynamic_entries w bytes s) ≡ Err d)) → IfBad {X = Unit {0}} (Err fault) (λ d. IfKnown known (λ bytes. section_in w bytes s ≡ Err d))
text_fault keep known mid w s v t first (faults.Bad d) same new is h there bad =
    known_bad_text keep known w s v is t d h there
    (subst (λ x. IfKnown known (λ bytes. gathered (t bytes) x (dynamic_entries w bytes s) ≡ Err d)) new
    (subst (λ o. IfKnown o (λ bytes. gathered (t bytes) first (dynamic_entries w bytes s) ≡ Err d)) same bad))
text_fault keep known mid w s v t first faults.StoreFault same new is h there bad = tt
text_fault keep known mid w s v t first faults.NoMemory same new is h there bad = tt

pub flagged : (keep : Keep) (known : Option (List ℕ)) (w : ℕ) (s : Segment) (t : List ℕ → List ℕ) (first : Dynamic) (v : Values) (d : Dynamic) → first ≡ no_texts (option_map_or has_nodeflib v.flags_1 false) →
    IfKnown known (λ bytes. kept_of keep (gathered (t bytes) first (dynamic_entries w bytes s)) ≡ Ok (kept keep d)) → IfKnown known (λ bytes. kept_of keep (gathered (t bytes) (no_texts (option_map_or has_nodeflib v.flags_1 false)) (dynamic_entries w bytes s)) ≡ Ok (kept keep d))
flagged keep known w s t first v d e h = subst (λ x. IfKnown known (λ bytes. kept_of keep (gathered (t bytes) x (dynamic_entries w bytes s)) ≡ Ok (kept keep d))) e h

-- ---- the section of a file

abbrev pub some_of : Result Dynamic Defect → Result (Option Dynamic) Defect
some_of (Ok d) = Ok (Some d)
some_of (Err x) = Err x

unless_some : (o : Option Defect) (d : Dynamic) (r : Result Dynamic Defect) → unless_defect o (Ok d) ≡ r → unless_defect {X = Option Dynamic} o (Ok (Some d)) ≡ some_of r
unless_some None d r h = ap some_of h
unless_some (Some x) d r h = ap some_of h

unless_none : {X : Type 0} (o : Option Defect) (d x : X) → unless_defect o (Ok d) ≡ Ok x → o ≡ None
unless_none None d x h = refl
unless_none (Some y) d x h = absurd (cc)

no_sentence : (t : Option (List ℕ)) (es : List DynamicEntry) → es ≡ [] → first_defect (section_sentences t es) ≡ None
unfolding section_of
no_sentence t es e = subst (λ es. first_defect (section_sentences t es) ≡ None) (sym e) (unless_none _ _ _ (textless t [] refl))

no_entries : (w : ℕ) (bytes : List ℕ) → dynamic_segment w bytes ≡ None → entries w bytes ≡ []
unfolding entries
no_entries w bytes none = rw none refl

module _ (w : ℕ) (bytes : List ℕ) where
  pub no_section : dynamic_segment w bytes ≡ None → first_defect (dynamic_sentences w bytes) ≡ None
  no_section none = rw none (no_sentence (table w bytes) (entries w bytes) (no_entries w bytes none))

  pub without : dynamic_segment w bytes ≡ None → sections_in w bytes ≡ Ok None
  unfolding sections_in
  without none = rw (no_section none, none) refl

  pub outside_file : (s : Segment) → dynamic_segment w bytes ≡ Some s → is_outside bytes s ≡ true → sections_in w bytes ≡ Err DynOutside
  unfolding sections_in
  outside_file s there h = rw (there, h) refl

  pub in_file : (s : Segment) (r : Result Dynamic Defect) → dynamic_segment w bytes ≡ Some s → is_outside bytes s ≡ false → section_in w bytes s ≡ r → sections_in w bytes ≡ some_of r
  unfolding sections_in section_in section_of entries table
  in_file s r there h e = rw (there, h) (unless_some (first_defect (section_sentences (string_table bytes (segments w bytes) (dynamic_entries w bytes s)) (dynamic_entries w bytes s))) (dynamic_of (string_table bytes (segments w bytes) (dynamic_entries w bytes s)) (dynamic_entries w bytes s)) r e)
