-- The stamps of a file that is not corrupt can be recorded again.
use Rattle.std.proofs.Common.{◌≡◌, ℕ, zero, suc, ◌+◌, ◌<◌, Bool, true, false, cond, not, List, find, map, Option, Some, None, option_map, is_some, refl, sym, ap, ◌∙◌, arith}
use Rattle.std.specs.List.{range_with_len}
use Rattle.std.specs.Option.{option_or}
use Rattle.aux_cache.proofs.Damage.{AreRecords, first-append, recordable_stamps}
use Rattle.aux_cache.specs.AuxFile.{Sentence, count, damage, file_sentences, first_place, from_record, id_before, indexes, is_record, record_sentence, sentences, stamps_in, strings_in, version_of}
use Rattle.aux_cache.specs.Stamps.{AreRecordable}

-- If no rule of a range applies, the first doesn't apply, and none of the others does.
first_fails : (S : ℕ → Sentence) (a n : ℕ) → is_some (first_place (map S (range_with_len a (suc n)))) ≡ false → ((S a).0 ≡ false) × (is_some (first_place (map S (range_with_len (a + 1) n))) ≡ false)
first_fails S a n none = by (S a).0 refl
  where
    chosen : Bool → Option ℕ
    chosen b = option_map (λ (s : Sentence). s.1) (cond b (Some (S a)) (find (λ s. s.0) (map S (range_with_len (a + 1) n))))

    by : (b : Bool) → (S a).0 ≡ b → ((S a).0 ≡ false) × (is_some (first_place (map S (range_with_len (a + 1) n))) ≡ false)
    by true e = let z : true ≡ false = sym (ap (λ b. is_some (chosen b)) e) ∙ none in absurd (cc)
    by false e = (e, sym (ap (λ b. is_some (chosen b)) e) ∙ none)

-- If no rule of a range applies, this rule doesn't.
none_applies : (S : ℕ → Sentence) (a n : ℕ) → is_some (first_place (map S (range_with_len a n))) ≡ false → (k : ℕ) → k < n → (S (a + k)).0 ≡ false
none_applies S a zero none k h = absurd (omega (arith, h))
none_applies S a (suc n) none zero h = let here : a + 0 ≡ a = omega arith in rw here (first_fails S a n none).0
none_applies S a (suc n) none (suc k) h =
    let next : a + suc k ≡ a + 1 + k = omega arith in
    rw next (none_applies S (a + 1) n (first_fails S a n none).1 k (omega (arith, h)))

second_none : (o p : Option ℕ) → is_some (option_or o p) ≡ false → is_some p ≡ false
second_none None p e = e
second_none (Some place) p e = absurd (cc)

is_true : (b : Bool) → not b ≡ false → b ≡ true
is_true true e = refl
is_true false e = absurd (cc)

valid_records : (bytes : List ℕ) → is_some (damage bytes) ≡ false → AreRecords bytes (count bytes)
unfolding sentences
valid_records bytes none k h =
    let records = map (record_sentence (version_of bytes) bytes) (indexes bytes) in
    let whole : is_some (option_or (first_place (file_sentences (version_of bytes) bytes)) (first_place records)) ≡ false =
    sym (ap is_some (first-append (file_sentences (version_of bytes) bytes) records)) ∙ none in
    let rest = second_none (first_place (file_sentences (version_of bytes) bytes)) (first_place records) whole in
    let e : 0 + k ≡ k = omega arith in
    let at : not (is_record (version_of bytes) (strings_in bytes) (id_before bytes (0 + k)) (from_record bytes (0 + k))) ≡ false = none_applies (record_sentence (version_of bytes) bytes) 0 (count bytes) rest k h in
    is_true (is_record (version_of bytes) (strings_in bytes) (id_before bytes k) (from_record bytes k)) (rw e at at)

pub recordable_file : (bytes : List ℕ) → is_some (damage bytes) ≡ false → AreRecordable (stamps_in bytes)
recordable_file bytes none = recordable_stamps bytes (count bytes) (valid_records bytes none)
