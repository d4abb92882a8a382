-- Adding a string to a pool, and reading an offset.
use Rattle.std.proofs.Common.{◌≡◌, ℕ, ◌-◌, ◌<◌, false, List, [], ◌∷◌, ◌++◌, length, map, take, get_or, Some, IfSome, Bor, bytes_eq, ⊎_elim, sym, ap, subst, ◌∙◌, true≢false, arith}
use Rattle.std.proofs.lemmas.List.{get_or-map, length-append, length-map, map_push, take_all, take_at}
use Rattle.std.proofs.lemmas.Option.{get_or_from_slice_get}
use Rattle.std.proofs.lemmas.Slice.Eq.{bytes_eq-Decides}
use Rattle.std.specs.List.{list_any, slice_get}
use Rattle.indexmap.specs.IndexSet.{insert_key}
use Rattle.lib_types.proofs.SortedPairs.{by_test}
use Rattle.string_pool.specs.InOrder.{Strings}
use Rattle.string_pool.specs.Texts.{IsTextAt}
use Rattle.string_pool.specs.Hosts.{AreDifferent}
use Rattle.string_pool.specs.SharedEnds.{shared_offset, shared_place, shared_table}
use Rattle.string_pool.proofs.Gets.{get_pushed, get_there, none_passes}
use Rattle.string_pool.proofs.Offsets.{located}

-- ---- different texts

pub none_differ : AreDifferent []
none_differ i j text one two = absurd (cc)

pub differ_more : (ts new : List (List ℕ)) (t : List ℕ) → AreDifferent ts → new ≡ insert_key bytes_eq ts t → AreDifferent new
differ_more ts new t apart is = by_test (list_any (bytes_eq t) ts)
    (λ there. let same : new ≡ ts = rw there at is in subst AreDifferent (sym same) apart)
    (λ absent.
    let pushed : new ≡ ts ++ t ∷ [] = rw absent at is in
    subst AreDifferent (sym pushed) (λ i j text at_i at_j. ⊎_elim
    (λ old_i. ⊎_elim
    (λ old_j. apart i j text old_i old_j)
    (λ last_j. absurd (not_there absent i text old_i last_j.1))
    (get_pushed ts t j text at_j))
    (λ last_i. ⊎_elim
    (λ old_j. absurd (not_there absent j text old_j last_i.1))
    (λ last_j. last_i.0 ∙ sym last_j.0)
    (get_pushed ts t j text at_j))
    (get_pushed ts t i text at_i)))
  where
    not_there : list_any (bytes_eq t) ts ≡ false → (k : ℕ) (text : List ℕ) → slice_get ts k ≡ Some text → text ≡ t → ⊥
    not_there absent k text at same =
        let differs = none_passes (bytes_eq t) ts k text absent at in
        true≢false (sym ((bytes_eq-Decides t text).1 (sym same)) ∙ differs)

-- ---- the list of the strings

module _ (list : List (Bor (List ℕ))) (t : Bor (List ℕ)) (ts : List (List ℕ)) (known : map (λ text. text.now) list ≡ ts) where
  many : length list ≡ length ts
  many = omega (arith, ap length known, length-map list (λ text. text.now))

  pub list_same : (count : ℕ) → count ≡ length ts → map (λ text. text.now) (take count (list ++ t ∷ [])) ≡ ts
  list_same count is = ap (map (λ text. text.now)) (take_at list (t ∷ []) count (omega (arith, many, is))) ∙ known

  pub list_added : (new : List (List ℕ)) (count : ℕ) → count ≡ length new → new ≡ insert_key bytes_eq ts t.now → map (λ text. text.now) (take count (list ++ t ∷ [])) ≡ new
  list_added new count is added = by_test (list_any (bytes_eq t.now) ts)
      (λ there. let same : new ≡ ts = rw there at added in list_same count (is ∙ ap length same) ∙ sym same)
      (λ absent.
      let pushed : new ≡ ts ++ t.now ∷ [] = rw absent at added in
      let all : take count (list ++ t ∷ []) ≡ list ++ t ∷ [] = take_all count (list ++ t ∷ []) (omega (arith, many, is, ap length pushed, length-append ts (t.now ∷ []), length-append list (t ∷ []))) in
      ap (map (λ text. text.now)) all ∙ map_push (λ text. text.now) list t ∙ ap (λ (xs : List (List ℕ)). xs ++ t.now ∷ []) known ∙ sym pushed)

-- ---- the stored offset of a string

module _ (strings : Strings) (offsets : List ℕ) (are : offsets ≡ map (shared_place strings) strings.texts) (number : ℕ) (within : number < length strings.texts) where
  pub offset_index : number < length offsets
  offset_index = omega (arith, within, ap length are, length-map strings.texts (shared_place strings))

  module _ (r : ℕ) (is : r ≡ get_or offsets number r) where
    read : (text : List ℕ) → slice_get strings.texts number ≡ Some text → r ≡ shared_place strings text
    read text there = is ∙ ap (λ (xs : List ℕ). get_or xs number r) are ∙ get_or-map (shared_place strings) strings.texts number text r within ∙ ap (shared_place strings) (get_or_from_slice_get strings.texts number text text there)

    pub offset_is : IfSome (slice_get strings.texts number) (λ text. r ≡ shared_place strings text)
    offset_is =
        let found = get_there strings.texts number within in
        subst (λ o. IfSome o (λ text. r ≡ shared_place strings text)) (sym found.1) (read found.0 found.1)

    pub offset_located : IfSome (slice_get strings.texts number) (λ text. IsTextAt (shared_table strings.texts) (r - strings.base) text)
    offset_located =
        let found = get_there strings.texts number within in
        let at : r - strings.base ≡ shared_offset strings.texts found.0 = omega (arith, read found.0 found.1) in
        subst (λ o. IfSome o (λ text. IsTextAt (shared_table strings.texts) (r - strings.base) text)) (sym found.1)
        (subst (λ n. IsTextAt (shared_table strings.texts) n found.0) (sym at) (located strings.texts number found.0 found.1))
