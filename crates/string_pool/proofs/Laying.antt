-- The written texts one after another, and where each text is.
use Rattle.std.proofs.Common.{◌≡◌, ℕ, ◌+◌, ◌≤◌, Bool, true, false, cond, eqb, ◌&&◌, List, [], ◌∷◌, ◌++◌, length, take, filter, get_or, map, Some, refl, sym, ap, subst, ◌∙◌, true≢false, arith, ltb}
use Rattle.std.proofs.lemmas.Bool.{and_parts}
use Rattle.std.proofs.lemmas.Bool.Decides.{Decides-eqb, nat_tests}
use Rattle.std.proofs.lemmas.List.{append-nil, get_or-map, length-append, take_more}
use Rattle.std.proofs.lemmas.List.Elements.{filter-append}
use Rattle.std.proofs.lemmas.Option.{get_or_from_slice_get, slice_get_within}
use Rattle.std.specs.List.{slice_get}
use Rattle.lib_types.proofs.SortedPairs.{by_test}
use Rattle.string_pool.specs.InOrder.{table_of}
use Rattle.string_pool.specs.Texts.{with_nul}
use Rattle.string_pool.proofs.InOrder.{table_push, length_table_take}
use Rattle.string_pool.specs.Hosts.{AreDifferent, host_of}
use Rattle.string_pool.specs.Laid.{AreEnds, table_to}
use Rattle.string_pool.specs.SharedEnds.{ends_in, is_written}
use Rattle.string_pool.proofs.Ends.{ends_itself}
use Rattle.string_pool.proofs.Gets.{first_is, first_passes, get_before, get_last}
use Rattle.string_pool.proofs.Written.{written_same}

-- ---- the table so far

-- a filter keeps at most all bytes
pub length_table_filter : (keep : List ℕ → Bool) (ts : List (List ℕ)) → length (table_of (filter keep ts)) ≤ length (table_of ts)
length_table_filter keep [] = omega arith
length_table_filter keep (t ∷ ts) = by_test (keep t)
    (λ kept. rw kept (omega (arith, length-append (with_nul t) (table_of ts), length-append (with_nul t) (table_of (filter keep ts)), length_table_filter keep ts)))
    (λ left. rw left (omega (arith, length-append (with_nul t) (table_of ts), length_table_filter keep ts)))

pub table_to_fits : (ts : List (List ℕ)) (count : ℕ) → length (table_to ts count) ≤ length (table_of ts)
table_to_fits ts count = omega (arith, length_table_filter (is_written ts) (take count ts), length_table_take count ts)

module _ (ts : List (List ℕ)) (i : ℕ) (t : List ℕ) (there : slice_get ts i ≡ Some t) where
  one_more : take (i + 1) ts ≡ take i ts ++ t ∷ []
  one_more = take_more ts i t (slice_get_within ts i t there) ∙ ap (λ (u : List ℕ). take i ts ++ u ∷ []) (get_or_from_slice_get ts i t t there)

  kept_more : filter (is_written ts) (take (i + 1) ts) ≡ filter (is_written ts) (take i ts) ++ filter (is_written ts) (t ∷ [])
  kept_more = ap (filter (is_written ts)) one_more ∙ filter-append (is_written ts) (take i ts) (t ∷ [])

  pub table_written : is_written ts t ≡ true → table_to ts (i + 1) ≡ table_to ts i ++ with_nul t
  table_written w =
      let last : filter (is_written ts) (t ∷ []) ≡ t ∷ [] = rw w refl in
      ap table_of (kept_more ∙ ap (λ (xs : List (List ℕ)). filter (is_written ts) (take i ts) ++ xs) last) ∙ table_push (filter (is_written ts) (take i ts)) t

  pub table_same : is_written ts t ≡ false → table_to ts (i + 1) ≡ table_to ts i
  table_same w =
      let last : filter (is_written ts) (t ∷ []) ≡ [] = rw w refl in
      ap table_of (kept_more ∙ ap (λ (xs : List (List ℕ)). filter (is_written ts) (take i ts) ++ xs) last ∙ append-nil (filter (is_written ts) (take i ts)))

  -- a text is written if it is its own host
  pub own_host : host_of ts t ≡ i → is_written ts t ≡ true
  own_host same =
      let at : slice_get ts (host_of ts t) ≡ Some t = subst (λ n. slice_get ts n ≡ Some t) (sym same) there in
      (and_parts (is_written ts t) (ends_in t t) (first_passes (λ other. is_written ts other && ends_in t other) ts t at)).0

  pub other_host : AreDifferent ts → (host_of ts t ≡ i → ⊥) → is_written ts t ≡ false
  other_host apart other = by_test (is_written ts t)
      (λ w. absurd (other (first_is (λ u. is_written ts u && ends_in t u) ts i t there (rw (w, ends_itself t) refl) (λ j u at both.
      let parts = and_parts (is_written ts u) (ends_in t u) both in
      let same : t ≡ u = written_same ts t u j w at parts.1 in
      let index : i ≡ j = apart i j t there (at ∙ ap (λ (v : List ℕ). Some v) (sym same)) in
      omega (arith, index)))))
      (λ w. w)

  pub table_next : AreDifferent ts → (hosts : List ℕ) → hosts ≡ map (host_of ts) ts → (number : ℕ) → number ≡ i
      → table_to ts i ++ cond (eqb (get_or hosts number 0) number) (with_nul t) [] ≡ table_to ts (i + 1)
  table_next apart hosts is number at = by_test (eqb (get_or hosts number 0) number)
      (λ same. rw same (sym (table_written (own_host (sym value ∙ (Decides-eqb (get_or hosts number 0) number).0 same ∙ at)))))
      (λ other. rw other (append-nil (table_to ts i) ∙ sym (table_same (other_host apart (λ e.
      let wrong : eqb (get_or hosts number 0) number ≡ true = (Decides-eqb (get_or hosts number 0) number).1 (value ∙ e ∙ sym at) in
      true≢false (sym wrong ∙ other))))))
    where
      value : get_or hosts number 0 ≡ host_of ts t
      value = ap (λ (xs : List ℕ). get_or xs number 0) is ∙ ap (λ n. get_or (map (host_of ts) ts) n 0) at
          ∙ get_or-map (host_of ts) ts i t 0 (slice_get_within ts i t there) ∙ ap (host_of ts) (get_or_from_slice_get ts i t t there)

-- the ends with one more
pub ends_more : (ts : List (List ℕ)) (count : ℕ) (ends new : List ℕ) (end : ℕ) → length ends ≡ count → AreEnds ts count ends → new ≡ ends ++ end ∷ [] → end ≡ length (table_to ts (count + 1)) → AreEnds ts (count + 1) new
ends_more ts count ends new end many known pushed is number within = by_test (ltb number count)
    (λ less. subst (λ (xs : List ℕ). slice_get xs number ≡ Some (length (table_to ts (number + 1)))) (sym pushed) (get_before ends (end ∷ []) number _ (known number (grind (arith, nat_tests, less)))))
    (λ more.
    let last : number ≡ count = grind (arith, nat_tests, more, within) in
    let at : number ≡ length ends = last ∙ sym many in
    subst (λ (xs : List ℕ). slice_get xs number ≡ Some (length (table_to ts (number + 1)))) (sym pushed)
    (ap (slice_get (ends ++ end ∷ [])) at ∙ get_last ends end ∙ ap (λ n. Some n) (is ∙ ap (λ n. length (table_to ts (n + 1))) (sym last))))
