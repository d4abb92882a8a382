-- The offsets of hwcaps names.
use Rattle.std.proofs.Common.{◌≡◌, ℕ, ◌+◌, ◌*◌, ◌/◌, ◌<◌, ◌≤◌, Bool, true, false, nat_le, List, [], length, get_or, slice_index, Option, Some, None, refl, sym, ap, ◌∙◌, true≢false, arith}
use Rattle.std.proofs.lemmas.Bool.Decides.{nat_tests}
use Rattle.std.proofs.Math.ListN.{drop_of_length-le}
use Rattle.std.proofs.lemmas.List.Folds.{list_all_at}
use Rattle.std.proofs.lemmas.List.FromFn.{length-map-range_with_len, get_or-map-range_with_len}
use Rattle.std.specs.List.{list_all}
use Rattle.std.specs.Option.{option_map_or}
use Rattle.lib_types.specs.Bytes.{field}
use Rattle.cache_reader.specs.declared.extension.Section.{Section}
use Rattle.cache_reader.specs.Cache.{names_section, name_offsets, numbers_in, is_ended, is_inside, sections, with_tag}
use Rattle.cache_reader.specs.Checks.{IsSound}
use Rattle.cache_reader.proofs.Finding.{found_passes}

counted : (bytes : List ℕ) (o : Option Section) → option_map_or (λ s. s.size / 4) o 0 ≡ length (option_map_or (numbers_in bytes) o [])
counted bytes None = refl
counted bytes (Some s) = sym (length-map-range_with_len (λ index. field bytes (s.offset + 4 * index) 4) 0 (s.size / 4))

-- The number of hwcaps names is the number of 4-byte numbers in the section.
pub count_of_names : (bytes : List ℕ) → option_map_or (λ s. s.size / 4) (names_section bytes) 0 ≡ length (name_offsets bytes)
count_of_names bytes = counted bytes (names_section bytes)

offsets_in : (bytes : List ℕ) (o : Option Section) (s : Section) → o ≡ Some s → option_map_or (numbers_in bytes) o [] ≡ numbers_in bytes s
offsets_in bytes o s e = rw e refl

pub offsets_are : (bytes : List ℕ) (s : Section) → names_section bytes ≡ Some s → name_offsets bytes ≡ numbers_in bytes s
offsets_are bytes s e = offsets_in bytes (names_section bytes) s e

pub length_is : (bytes : List ℕ) (s : Section) → names_section bytes ≡ Some s → length (name_offsets bytes) ≡ s.size / 4
length_is bytes s e = ap length (offsets_are bytes s e) ∙ length-map-range_with_len (λ index. field bytes (s.offset + 4 * index) 4) 0 (s.size / 4)

-- the offset of the name with this index is the number with this index in the section
pub offset_is : (bytes : List ℕ) (s : Section) (i : ℕ) → names_section bytes ≡ Some s → i < s.size / 4 → slice_index (name_offsets bytes) i ≡ field bytes (s.offset + 4 * i) 4
offset_is bytes s i e below =
    ap (λ xs. slice_index xs i) (offsets_are bytes s e)
    ∙ get_or-map-range_with_len (λ index. field bytes (s.offset + 4 * index) 4) 0 (s.size / 4) i i 0 below (omega arith)

all_at : {X : Type 0} (p : X → Bool) (xs : List X) (i : ℕ) (d : X) → i < length xs → list_all p xs ≡ true → p (get_or xs i d) ≡ true
all_at p xs i d below h = by (p (get_or xs i d)) refl
  where
    by : (b : Bool) → p (get_or xs i d) ≡ b → p (get_or xs i d) ≡ true
    by true e = e
    by false e = absurd (true≢false (sym h ∙ list_all_at p xs i d below e))

ended_within : (bytes : List ℕ) (at : ℕ) → is_ended bytes at ≡ true → at ≤ length bytes
ended_within bytes at h = by (nat_le at (length bytes)) refl
  where
    by : (b : Bool) → nat_le at (length bytes) ≡ b → at ≤ length bytes
    by true e = grind (arith, nat_tests, e)
    by false e =
        let past : length bytes ≤ at = grind (arith, nat_tests, e) in
        absurd (true≢false (sym h ∙ rw (drop_of_length-le bytes past) refl))

-- the text of a hwcaps name starts inside the file
pub offset_within : (bytes : List ℕ) (s : Section) (i : ℕ) → IsSound bytes → names_section bytes ≡ Some s → i < length (name_offsets bytes) → slice_index (name_offsets bytes) i ≤ length bytes
offset_within bytes s i sound e below =
    let same = offsets_are bytes s e in
    ended_within bytes _ (all_at (is_ended bytes) (name_offsets bytes) i 0 below (rw same (sound.ended s e)))

-- the section with this tag is inside the file
pub tagged_inside : (bytes : List ℕ) (tag : ℕ) (s : Section) → IsSound bytes → with_tag tag (sections bytes) ≡ Some s → is_inside bytes s ≡ true
tagged_inside bytes tag s sound e = found_passes (is_inside bytes) _ (sections bytes) s sound.inside e
