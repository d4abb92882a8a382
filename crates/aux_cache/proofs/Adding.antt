-- The strings of stamps, while they are gathered.
use Rattle.std.proofs.Common.{◌≡◌, ℕ, zero, suc, ◌+◌, ◌*◌, ◌<◌, ◌≤◌, true, ◌&&◌, not, nat_le, List, [], ◌∷◌, ◌++◌, length, map, fold, take, get_or, Some, None, sym, ap, subst, ◌∙◌, bytes_eq, arith}
use Rattle.std.proofs.lemmas.Bool.{and_parts}
use Rattle.std.proofs.lemmas.Bool.Decides.{nat_tests}
use Rattle.std.proofs.lemmas.List.{map-append, length-map, get_or-map, take_more}
use Rattle.std.proofs.lemmas.List.Elements.{All-head, All-tail, All-push, All-weaker}
use Rattle.std.specs.List.{All, list_any}
use Rattle.std.specs.Str.{is_utf8}
use Rattle.indexmap.specs.IndexSet.{insert_key}
use Rattle.lib_types.specs.Name.{is_name, are_dots, have_no_slash}
use Rattle.lib_types.specs.declared.name.TheConstants.{NAME_MAX}
use Rattle.lib_types.specs.declared.analysis.Analysis.{Analysis}
use Rattle.lib_types.specs.declared.analysis.Analysis.TheVariants.{Lib, Not}
use Rattle.string_pool.specs.Texts.{number_of}
use Rattle.string_pool.specs.InOrder.{table_of}
use Rattle.string_pool.proofs.Numbers.{among, among_more, among_all, number_more, length_distinct}
use Rattle.string_pool.proofs.InOrder.{length_table_insert}
use Rattle.string_pool.proofs.WithoutRepeats.{distinct_folded, distinct_push}
use Rattle.string_pool.specs.Distinct.{distinct}
use Rattle.aux_cache.specs.AuxText.{soname_in, soname_of, strings}
use Rattle.aux_cache.specs.Numbers.{HasNumber}
use Rattle.aux_cache.specs.Stamps.{IsRecordable, AreRecordable}
use Rattle.aux_cache.specs.declared.numbers.NumberedStamp.{NumberedStamp}
use Rattle.aux_cache.specs.declared.stamps.Stamp.{Stamp}

-- ---- the strings of stamps

pub strings_push : (xs : List Stamp) (x : Stamp) → strings (xs ++ x ∷ []) ≡ insert_key bytes_eq (strings xs) (soname_of x)
strings_push xs x =
    ap (λ ts. distinct ([] ∷ ts)) (map-append soname_of xs (x ∷ [])) ∙ distinct_push ([] ∷ map soname_of xs) (soname_of x)

-- each of the added texts is in the list afterwards
there : (ss ts : List (List ℕ)) (i : ℕ) (d : List ℕ) → i < length ts → list_any (bytes_eq (get_or ts i d)) (fold (insert_key bytes_eq) ss ts) ≡ true
there ss [] i d h = absurd (omega arith)
there ss (t ∷ ts) zero d h = among_all (insert_key bytes_eq ss t) ts t (among ss t)
there ss (t ∷ ts) (suc i) d h = there (insert_key bytes_eq ss t) ts i d (omega arith)

-- the soname of each stamp is among the strings
pub own_there : (xs : List Stamp) → All (λ x. list_any (bytes_eq (soname_of x)) (strings xs) ≡ true) xs
own_there xs i d h =
    let at : get_or (map soname_of xs) i (soname_of d) ≡ soname_of (get_or xs i d) = get_or-map soname_of xs i d (soname_of d) h in
    let many : length (map soname_of xs) ≡ length xs = length-map xs soname_of in
    let found = there [] ([] ∷ map soname_of xs) (suc i) (soname_of d) (omega (arith, many)) in
    ap (list_any (bytes_eq (soname_of (get_or xs i d)))) (distinct_folded ([] ∷ map soname_of xs)) ∙ rw at at found

-- ---- their size

pub short : (name : List ℕ) → is_name name ≡ true → length name ≤ 255
short name h =
    let utf8 = and_parts (nat_le 1 (length name) && nat_le (length name) NAME_MAX && not (are_dots name) && have_no_slash name) (is_utf8 name) h in
    let slash = and_parts (nat_le 1 (length name) && nat_le (length name) NAME_MAX && not (are_dots name)) (have_no_slash name) utf8.0 in
    let dots = and_parts (nat_le 1 (length name) && nat_le (length name) NAME_MAX) (not (are_dots name)) slash.0 in
    let sizes = and_parts (nat_le 1 (length name)) (nat_le (length name) NAME_MAX) dots.0 in
    let most = sizes.1 in
    grind (arith, nat_tests, most)

short_soname : (analysis : Analysis) → IsRecordable analysis → length (soname_in analysis) ≤ 255
short_soname (Lib abi None) h = omega arith
short_soname (Lib abi (Some soname)) h = short soname h
short_soname (Not defect) h = omega arith

pub soname_short : (xs : List Stamp) → AreRecordable xs → All (λ x. length (soname_of x) ≤ 255) xs
soname_short xs all = All-weaker (λ (x : Stamp). IsRecordable x.analysis) (λ x. length (soname_of x) ≤ 255) (λ x h. short_soname x.analysis h) xs all

table_small : (ss : List (List ℕ)) (xs : List Stamp) → All (λ x. length (soname_of x) ≤ 255) xs → length (table_of (fold (insert_key bytes_eq) ss (map soname_of xs))) ≤ length (table_of ss) + 256 * length xs
table_small ss [] h = omega arith
table_small ss (x ∷ xs) h =
    let P : Stamp → Type 0 = λ x. length (soname_of x) ≤ 255 in
    let here = All-head P x xs h in
    let more = length_table_insert ss (soname_of x) in
    let rest = table_small (insert_key bytes_eq ss (soname_of x)) xs (All-tail P x xs h) in
    omega (arith, here, more, rest)

pub strings_small : (xs : List Stamp) → AreRecordable xs → length (table_of (strings xs)) ≤ 256 * length xs + 1
strings_small xs all =
    let small : length (table_of (fold (insert_key bytes_eq) ([] ∷ []) (map soname_of xs))) ≤ 1 + 256 * length xs = table_small ([] ∷ []) xs (soname_short xs all) in
    let same : length (table_of (strings xs)) ≡ length (table_of (fold (insert_key bytes_eq) ([] ∷ []) (map soname_of xs))) = ap (λ ts. length (table_of ts)) (distinct_folded ([] ∷ map soname_of xs)) in
    subst (λ n. n ≤ 256 * length xs + 1) (sym same) (omega (arith, small))

-- ---- stamps with the indexes of their sonames

pub numbered : (old new : List (List ℕ)) (n : NumberedStamp) (t : List ℕ) → new ≡ insert_key bytes_eq old t → t ≡ soname_of n.stamp.now → n.soname ≡ number_of new t → HasNumber new n
numbered old new n t added is number = record {
  among = rw (added, is) (among old (soname_of n.stamp.now));
  number = rw (← is) number;
}

-- adding another text doesn't change the index of a soname
number_kept : (texts : List (List ℕ)) (t : List ℕ) (n : NumberedStamp) → HasNumber texts n → HasNumber (insert_key bytes_eq texts t) n
number_kept texts t n h = record {
  among = among_more texts (soname_of n.stamp.now) t h.among;
  number = h.number ∙ sym (number_more texts (soname_of n.stamp.now) t h.among);
}

-- the first i + 1 stamps are the first i and the stamp at index i
pub next_taken : (xs : List Stamp) (i : ℕ) (x : Stamp) → i < length xs → x ≡ get_or xs i x → take (i + 1) xs ≡ take i xs ++ x ∷ []
next_taken xs i x h is = take_more xs i x h ∙ ap (λ y. take i xs ++ y ∷ []) (sym is)

-- a step of the loop over the stamps
pub strings_step : (xs more : List Stamp) (x : Stamp) (old new : List (List ℕ)) → more ≡ xs ++ x ∷ [] → old ≡ strings xs → new ≡ insert_key bytes_eq old (soname_of x) → new ≡ strings more
strings_step xs more x old new next is added = rw (next, added, is) (sym (strings_push xs x))

pub stamps_step : (xs more : List Stamp) (x : Stamp) (ns new : List NumberedStamp) (n : NumberedStamp) → more ≡ xs ++ x ∷ [] → map (λ n. n.stamp.now) ns ≡ xs → n.stamp.now ≡ x → new ≡ ns ++ n ∷ []
    → map (λ n. n.stamp.now) new ≡ more
stamps_step xs more x ns new n next are is added = rw (added, next, ← are, ← is) (map-append (λ (n : NumberedStamp). n.stamp.now) ns (n ∷ []))

pub numbers_step : (old new : List (List ℕ)) (t : List ℕ) (ns more : List NumberedStamp) (n : NumberedStamp) → new ≡ insert_key bytes_eq old t → more ≡ ns ++ n ∷ [] → All (HasNumber old) ns → HasNumber new n → All (HasNumber new) more
numbers_step old new t ns more n added next all last =
    rw next (All-push (HasNumber new) ns n (rw added (All-weaker (HasNumber old) (HasNumber (insert_key bytes_eq old t)) (λ x h. number_kept old t x h) ns all)) last)

-- each stamp adds at most one string
pub few_strings : (xs : List Stamp) → length (strings xs) ≤ length xs + 1
few_strings xs = omega (arith, length_distinct ([] ∷ map soname_of xs), length-map xs soname_of)
