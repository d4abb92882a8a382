-- Facts about a file without a defect, and about the first defect of a file.
use Rattle.std.proofs.Common.{◌≡◌, ℕ, zero, suc, ◌+◌, ◌*◌, ◌%◌, ◌<◌, ◌≤◌, ◌==◌, ◌&&◌, ◌||◌, not, Bool, true, false, cond, nat_lt, nat_le, List, [], ◌∷◌, ◌++◌, length, flat_map, Option, Some, None, refl, sym, ap, ◌∙◌, true≢false, arith}
use Rattle.std.proofs.lemmas.Bool.Decides.{nat_tests}
use Rattle.std.specs.List.{range_with_len, list_all}
use Rattle.std.specs.Option.{option_or, option_map_or}
use Rattle.cache_layout.specs.Layout.{names_tag, is_named, name_index}
use Rattle.cache_reader.specs.declared.defect.CacheDefect.{CacheDefect}
use Rattle.cache_reader.specs.declared.defect.CacheDefect.TheVariants.{BadEndian, EntriesOutside, StringOutside, NoNul, BadExtension, BadHwcap}
use Rattle.cache_reader.specs.declared.extension.Section.{Section}
use Rattle.cache_reader.specs.Cache.{Sentence, first_defect, sentences, defect, magic_sentences, header_sentences, entry_sentences, extension_sentences, hwcap_sentences, indexes, nlibs, strings_length, flags, key, value, hwcap, extension, sections_at, with_tag, name_offsets, numbers_in, is_inside, is_ended, has_bad_offsets, is_no_directory, is_bad_directory}
use Rattle.cache_reader.specs.Checks.{IsSound, HasEntries}
use Rattle.cache_reader.proofs.Ranges.{first-append}

-- ---- the first defect of a file, from the parts of the rules

abbrev of_magic : List ℕ → Option CacheDefect
of_magic bytes = first_defect (magic_sentences bytes)

abbrev of_header : List ℕ → Option CacheDefect
of_header bytes = first_defect (header_sentences bytes)

abbrev of_entries : List ℕ → Option CacheDefect
of_entries bytes = first_defect (flat_map (entry_sentences bytes) (indexes bytes))

abbrev of_extension : List ℕ → Option CacheDefect
of_extension bytes = first_defect (extension_sentences bytes)

abbrev of_hwcaps : List ℕ → Option CacheDefect
of_hwcaps bytes = first_defect (flat_map (hwcap_sentences bytes) (indexes bytes))

by_parts : (m h e x w : List Sentence) → first_defect (m ++ h ++ e ++ x ++ w) ≡ option_or (option_or (option_or (option_or (first_defect m) (first_defect h)) (first_defect e)) (first_defect x)) (first_defect w)
by_parts m h e x w =
    first-append (m ++ h ++ e ++ x) w
    ∙ ap (λ (o : Option CacheDefect). option_or o (first_defect w)) (first-append (m ++ h ++ e) x
    ∙ ap (λ (o : Option CacheDefect). option_or o (first_defect x)) (first-append (m ++ h) e
    ∙ ap (λ (o : Option CacheDefect). option_or o (first_defect e)) (first-append m h)))

pub defect_by_parts : (bytes : List ℕ) → defect bytes ≡ option_or (option_or (option_or (option_or (of_magic bytes) (of_header bytes)) (of_entries bytes)) (of_extension bytes)) (of_hwcaps bytes)
unfolding sentences
defect_by_parts bytes = by_parts (magic_sentences bytes) (header_sentences bytes) (flat_map (entry_sentences bytes) (indexes bytes)) (extension_sentences bytes) (flat_map (hwcap_sentences bytes) (indexes bytes))

-- ---- If a check fails, it returns the first defect.

pub bad_magic : (bytes : List ℕ) (d : CacheDefect) → of_magic bytes ≡ Some d → defect bytes ≡ Some d
bad_magic bytes d m = defect_by_parts bytes ∙ rw m refl

pub bad_header : (bytes : List ℕ) (d : CacheDefect) → of_magic bytes ≡ None → of_header bytes ≡ Some d → defect bytes ≡ Some d
bad_header bytes d m h = defect_by_parts bytes ∙ rw (m, h) refl

pub bad_entries : (bytes : List ℕ) (d : CacheDefect) → of_magic bytes ≡ None → of_header bytes ≡ None → of_entries bytes ≡ Some d → defect bytes ≡ Some d
bad_entries bytes d m h e = defect_by_parts bytes ∙ rw (m, h, e) refl

pub bad_extension : (bytes : List ℕ) (d : CacheDefect) → of_magic bytes ≡ None → of_header bytes ≡ None → of_entries bytes ≡ None → of_extension bytes ≡ Some d → defect bytes ≡ Some d
bad_extension bytes d m h e x = defect_by_parts bytes ∙ rw (m, h, e, x) refl

pub last_part : (bytes : List ℕ) (o : Option CacheDefect) → of_magic bytes ≡ None → of_header bytes ≡ None → of_entries bytes ≡ None → of_extension bytes ≡ None → of_hwcaps bytes ≡ o → defect bytes ≡ o
last_part bytes o m h e x w = defect_by_parts bytes ∙ rw (m, h, e, x) w

-- ---- facts about a file without a defect

both_none : (a b : Option CacheDefect) → option_or a b ≡ None → (a ≡ None) × (b ≡ None)
both_none None b h = (refl, h)
both_none (Some x) b h = cc

head_false : (t : Bool) (d : CacheDefect) (rest : List Sentence) → first_defect ((t, d) ∷ rest) ≡ None → (t ≡ false) × (first_defect rest ≡ None)
head_false true d rest h = cc
head_false false d rest h = (refl, h)

neither : (a b : Bool) → (a || b) ≡ false → (a ≡ false) × (b ≡ false)
neither true b h = absurd (true≢false h)
neither false b h = (refl, h)

passed : (a : Bool) → not a ≡ false → a ≡ true
passed true h = refl
passed false h = absurd (true≢false h)

not_with : (a b : Bool) → a ≡ true → (a && b) ≡ false → b ≡ false
not_with true b e h = h
not_with false b e h = absurd (true≢false (sym e))

-- If a range has no defect, none of its indexes has one.
in_each : (S : ℕ → List Sentence) (a n i : ℕ) → first_defect (flat_map S (range_with_len a n)) ≡ None → a ≤ i → i < a + n → first_defect (S i) ≡ None
in_each S a zero i h low high = absurd (omega arith)
in_each S a (suc n) i h low high =
    let parts = both_none (first_defect (S a)) (first_defect (flat_map S (range_with_len (a + 1) n))) (sym (first-append (S a) (flat_map S (range_with_len (a + 1) n))) ∙ h) in
    by (nat_lt a i) refl parts.0 (λ less. in_each S (a + 1) n i parts.1 (omega arith) (omega arith))
  where
    by : (b : Bool) → nat_lt a i ≡ b → first_defect (S a) ≡ None → (a < i → first_defect (S i) ≡ None) → first_defect (S i) ≡ None
    by true e first rest = rest (grind (arith, nat_tests, e))
    by false e first rest =
        let most : i ≤ a = grind (arith, nat_tests, e) in
        let same : a ≡ i = omega arith in
        rw (← same) first

-- If the extension has no defect, its directory is good.
good_directory : (bytes : List ℕ) → not (extension bytes == 0) ≡ true → of_extension bytes ≡ None → is_bad_directory bytes (extension bytes) ≡ false
good_directory bytes there h =
    not_with (not (extension bytes == 0)) (is_bad_directory bytes (extension bytes)) there (head_false (not (extension bytes == 0) && is_bad_directory bytes (extension bytes)) (BadExtension (extension bytes)) [] h).0

inside : (bytes : List ℕ) (b : Bool) → (extension bytes == 0) ≡ b → of_extension bytes ≡ None → list_all (is_inside bytes) (cond b [] (sections_at bytes (extension bytes))) ≡ true
inside bytes true e h = refl
inside bytes false e h =
    let all = list_all (is_inside bytes) (sections_at bytes (extension bytes)) in
    let names = option_map_or (has_bad_offsets bytes) (with_tag names_tag (sections_at bytes (extension bytes))) false in
    let good = neither (is_no_directory bytes (extension bytes) || not all) names (good_directory bytes (rw e refl) h) in
    passed all (neither (is_no_directory bytes (extension bytes)) (not all) good.0).1

ended_in : (bytes : List ℕ) (o : Option Section) (s : Section) → option_map_or (has_bad_offsets bytes) o false ≡ false → o ≡ Some s → list_all (is_ended bytes) (numbers_in bytes s) ≡ true
ended_in bytes o s h e =
    let here : has_bad_offsets bytes s ≡ false = rw e at h in
    let all = list_all (is_ended bytes) (numbers_in bytes s) in
    passed all (neither (not (s.offset % 4 == 0) || not (s.size % 4 == 0)) (not all) here).1

ended : (bytes : List ℕ) (s : Section) (b : Bool) → (extension bytes == 0) ≡ b → of_extension bytes ≡ None → with_tag names_tag (cond b [] (sections_at bytes (extension bytes))) ≡ Some s
    → list_all (is_ended bytes) (numbers_in bytes s) ≡ true
ended bytes s true e h found = cc
ended bytes s false e h found =
    let all = list_all (is_inside bytes) (sections_at bytes (extension bytes)) in
    let names = option_map_or (has_bad_offsets bytes) (with_tag names_tag (sections_at bytes (extension bytes))) false in
    let good = neither (is_no_directory bytes (extension bytes) || not all) names (good_directory bytes (rw e refl) h) in
    ended_in bytes (with_tag names_tag (sections_at bytes (extension bytes))) s good.1 found

-- the sizes in the header fit in the file
fits : (bytes : List ℕ) → of_header bytes ≡ None → HasEntries bytes
fits bytes h =
    let size : Bool = nat_lt (length bytes) (48 + 24 * nlibs bytes + strings_length bytes) in
    let following = head_false (flags bytes % 2 == 1) (BadEndian (flags bytes)) ((size, EntriesOutside (nlibs bytes)) ∷ []) h in
    let enough = (head_false size (EntriesOutside (nlibs bytes)) [] following.1).0 in
    grind (arith, nat_tests, enough)

-- If the strings of an entry have no defect, their offsets are in the file.
begin_inside : (bytes : List ℕ) (i : ℕ) → first_defect (entry_sentences bytes i) ≡ None → (key bytes i < length bytes) × (value bytes i < length bytes)
begin_inside bytes i h =
    let ends : Sentence = (not (is_ended bytes (key bytes i) && is_ended bytes (value bytes i)), NoNul i) in
    let both = neither (nat_le (length bytes) (key bytes i)) (nat_le (length bytes) (value bytes i)) (head_false _ (StringOutside i) (ends ∷ []) h).0 in
    let first = both.0 in
    let second = both.1 in (
      grind (arith, nat_tests, first),
      grind (arith, nat_tests, second),
    )

-- If the hwcap of an entry has no defect, its index is the index of a hwcaps name.
named_within : (bytes : List ℕ) (i : ℕ) → first_defect (hwcap_sentences bytes i) ≡ None → is_named (hwcap bytes i) ≡ true → name_index (hwcap bytes i) < length (name_offsets bytes)
named_within bytes i h named =
    let bad = not_with (is_named (hwcap bytes i)) (nat_le (length (name_offsets bytes)) (name_index (hwcap bytes i))) named (head_false _ (BadHwcap i) [] h).0 in
    grind (arith, nat_tests, bad)

pub sound : (bytes : List ℕ) → defect bytes ≡ None → IsSound bytes
sound bytes h =
    let whole = both_none (option_or (option_or (option_or (of_magic bytes) (of_header bytes)) (of_entries bytes)) (of_extension bytes)) (of_hwcaps bytes) (sym (defect_by_parts bytes) ∙ h) in
    let four = both_none (option_or (option_or (of_magic bytes) (of_header bytes)) (of_entries bytes)) (of_extension bytes) whole.0 in
    let three = both_none (option_or (of_magic bytes) (of_header bytes)) (of_entries bytes) four.0 in
    let two = both_none (of_magic bytes) (of_header bytes) three.0 in
    record {
      entries = fits bytes two.1;
      keys = λ i below. (begin_inside bytes i (in_each (entry_sentences bytes) 0 (nlibs bytes) i three.1 (omega arith) (omega arith))).0;
      values = λ i below. (begin_inside bytes i (in_each (entry_sentences bytes) 0 (nlibs bytes) i three.1 (omega arith) (omega arith))).1;
      names = λ i below named. named_within bytes i (in_each (hwcap_sentences bytes) 0 (nlibs bytes) i whole.1 (omega arith) (omega arith)) named;
      inside = inside bytes (extension bytes == 0) refl four.1;
      ended = λ s found. ended bytes s (extension bytes == 0) refl four.1 found;
    }
