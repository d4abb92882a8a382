-- What a crate uses that writes a table and reads it back.
use Rattle.std.proofs.Common.{◌≡◌, ℕ, suc, ◌+◌, ◌≤◌, true, List, [], ◌∷◌, ◌++◌, length, Option, Some, None, bytes_eq, refl, sym, ap, ◌∙◌, arith}
use Rattle.std.proofs.lemmas.List.{length-append}
use Rattle.std.proofs.lemmas.List.Concat.{flat_map-append}
use Rattle.std.proofs.lemmas.Slice.Eq.{bytes_eq-Decides}
use Rattle.std.specs.List.{before_first, find, list_any, position_or_len, slice_get}
use Rattle.std.specs.Option.{unwrap_or}
use Rattle.lib_types.proofs.SortedPairs.{by_test}
use Rattle.string_pool.specs.InOrder.{table_of}
use Rattle.string_pool.specs.Texts.{IsTextAt, number_of, with_nul}
use Rattle.string_pool.proofs.InOrder.{length_table_take}
use Rattle.string_pool.specs.SharedEnds.{ends_in, first_ending_in, shared_offset, shared_table, written}
use Rattle.string_pool.proofs.Laying.{length_table_filter}
use Rattle.string_pool.proofs.Offsets.{around, located}

-- the string with the number of a string
pub at_number : (ts : List (List ℕ)) (t : List ℕ) → list_any (bytes_eq t) ts ≡ true → slice_get ts (number_of ts t) ≡ Some t
at_number [] t h = absurd (cc)
at_number (u ∷ us) t h = by_test (bytes_eq t u)
    (λ same. let is : u ≡ t = sym ((bytes_eq-Decides t u).0 same) in rw same (ap (λ (v : List ℕ). Some v) is))
    (λ other.
    let one : 1 + number_of us t ≡ suc (number_of us t) = omega arith in
    rw (other, one) (at_number us t (rw other at h)))

-- a string of the list is in the table at its offset
pub string_located : (ts : List (List ℕ)) (t : List ℕ) → list_any (bytes_eq t) ts ≡ true → IsTextAt (shared_table ts) (shared_offset ts t) t
string_located ts t among = located ts (number_of ts t) t (at_number ts t among)

-- the table is at most as long as all strings, each with its NUL
pub table_fits : (ts : List (List ℕ)) → length (shared_table ts) ≤ length (table_of ts)
table_fits ts = length_table_filter _ ts

-- each offset is at most the length of the table
pub offset_fits : (ts : List (List ℕ)) (t : List ℕ) → shared_offset ts t ≤ length (shared_table ts)
offset_fits ts t = by (find (ends_in t) (written ts)) refl
  where
    by : (o : Option (List ℕ)) → find (ends_in t) (written ts) ≡ o → shared_offset ts t ≤ length (shared_table ts)
    by None e =
        let same : first_ending_in ts t ≡ t = ap (λ o. unwrap_or o t) e in
        omega (arith, ap length same, length_table_take (position_or_len (ends_in t) (written ts)) (written ts))
    by (Some s) e =
        let same : first_ending_in ts t ≡ s = ap (λ o. unwrap_or o t) e in
        let split = around (ends_in t) (written ts) s e in
        let before = before_first (ends_in t) (written ts) in
        let table : length (shared_table ts) ≡ length (table_of before ++ (with_nul s ++ table_of split.0)) = ap length (ap table_of split.1 ∙ flat_map-append with_nul before (s ∷ split.0)) in
        omega (arith, ap length same, table, length-append (table_of before) (with_nul s ++ table_of split.0), length-append (with_nul s) (table_of split.0), length-append s (0 ∷ []))
