-- Adding a text to different texts, and its number.
use Rattle.std.proofs.Common.{◌≡◌, ℕ, ◌+◌, ◌<◌, ◌≤◌, Bool, true, false, cond, not, ◌||◌, List, [], ◌∷◌, ◌++◌, length, refl, sym, ap, ◌∙◌, true≢false, arith, bytes_eq, if◌then◌else◌}
use Rattle.std.proofs.lemmas.List.{length-append}
use Rattle.std.proofs.lemmas.Slice.Eq.{bytes_eq-Decides}
use Rattle.std.specs.List.{list_any, fold}
use Rattle.indexmap.specs.IndexSet.{insert_key}
use Rattle.string_pool.specs.Texts.{number_of}
use Rattle.string_pool.proofs.WithoutRepeats.{distinct_folded}
use Rattle.string_pool.specs.Distinct.{distinct}

-- a string that was added is in the list
pub among : (ts : List (List ℕ)) (t : List ℕ) → list_any (bytes_eq t) (insert_key bytes_eq ts t) ≡ true
among ts t = by (list_any (bytes_eq t) ts) refl
  where
    itself : bytes_eq t t ≡ true
    itself = (bytes_eq-Decides t t).1 refl

    last : (xs : List (List ℕ)) → list_any (bytes_eq t) (xs ++ t ∷ []) ≡ true
    last [] = rw itself refl
    last (x ∷ xs) = elim (bytes_eq t x) as (λ b. (b || list_any (bytes_eq t) (xs ++ t ∷ [])) ≡ true) [ true ↦ refl | false ↦ last xs ]

    by : (b : Bool) → list_any (bytes_eq t) ts ≡ b → list_any (bytes_eq t) (if b then ts else ts ++ t ∷ []) ≡ true
    by true e = e
    by false e = last ts

-- a string stays in the list when others are added
pub among_more : (ts : List (List ℕ)) (t u : List ℕ) → list_any (bytes_eq t) ts ≡ true → list_any (bytes_eq t) (insert_key bytes_eq ts u) ≡ true
among_more ts t u h = elim (list_any (bytes_eq u) ts) as (λ b. list_any (bytes_eq t) (if b then ts else ts ++ u ∷ []) ≡ true) [ true ↦ h | false ↦ following ts h ]
  where
    following : (xs : List (List ℕ)) → list_any (bytes_eq t) xs ≡ true → list_any (bytes_eq t) (xs ++ u ∷ []) ≡ true
    following [] e = absurd (true≢false (sym e))
    following (x ∷ xs) e = by (bytes_eq t x) e (following xs)
      where
        by : (b : Bool) → (b || list_any (bytes_eq t) xs) ≡ true → (list_any (bytes_eq t) xs ≡ true → list_any (bytes_eq t) (xs ++ u ∷ []) ≡ true)
            → (b || list_any (bytes_eq t) (xs ++ u ∷ [])) ≡ true
        by true e rest = refl
        by false e rest = rest e

pub among_all : (ts us : List (List ℕ)) (t : List ℕ) → list_any (bytes_eq t) ts ≡ true → list_any (bytes_eq t) (fold (insert_key bytes_eq) ts us) ≡ true
among_all ts [] t h = h
among_all ts (u ∷ us) t h = among_all (insert_key bytes_eq ts u) us t (among_more ts t u h)

-- ---- numbers

-- the number of a text in the list is below the length
pub number_within : (ts : List (List ℕ)) (t : List ℕ) → list_any (bytes_eq t) ts ≡ true → number_of ts t < length ts
number_within [] t h = absurd (true≢false (sym h))
number_within (x ∷ xs) t h = by (bytes_eq t x) h (number_within xs t)
  where
    by : (b : Bool) → (b || list_any (bytes_eq t) xs) ≡ true → (list_any (bytes_eq t) xs ≡ true → number_of xs t < length xs)
        → cond (not b) (1 + number_of xs t) 0 < length (x ∷ xs)
    by true e rest = omega arith
    by false e rest = omega (arith, rest e)

-- adding other texts doesn't change a text's number
pub number_more : (ts : List (List ℕ)) (t u : List ℕ) → list_any (bytes_eq t) ts ≡ true → number_of (insert_key bytes_eq ts u) t ≡ number_of ts t
number_more ts t u h = elim (list_any (bytes_eq u) ts) as (λ b. number_of (if b then ts else ts ++ u ∷ []) t ≡ number_of ts t) [ true ↦ refl | false ↦ before ts h ]
  where
    before : (xs : List (List ℕ)) → list_any (bytes_eq t) xs ≡ true → number_of (xs ++ u ∷ []) t ≡ number_of xs t
    before [] e = absurd (true≢false (sym e))
    before (x ∷ xs) e = by (bytes_eq t x) e (before xs)
      where
        by : (b : Bool) → (b || list_any (bytes_eq t) xs) ≡ true → (list_any (bytes_eq t) xs ≡ true → number_of (xs ++ u ∷ []) t ≡ number_of xs t)
            → cond (not b) (1 + number_of (xs ++ u ∷ []) t) 0 ≡ cond (not b) (1 + number_of xs t) 0
        by true e rest = refl
        by false e rest = ap (λ n. 1 + n) (rest e)

pub number_stays : (ts us : List (List ℕ)) (t : List ℕ) → list_any (bytes_eq t) ts ≡ true → number_of (fold (insert_key bytes_eq) ts us) t ≡ number_of ts t
number_stays ts [] t h = refl
number_stays ts (u ∷ us) t h = number_stays (insert_key bytes_eq ts u) us t (among_more ts t u h) ∙ number_more ts t u h

-- the number of a new text is the number that the lookup gives before the text is added
new_number : (ts : List (List ℕ)) (t : List ℕ) → list_any (bytes_eq t) ts ≡ false → number_of (ts ++ t ∷ []) t ≡ number_of ts t
new_number [] t h = rw ((bytes_eq-Decides t t).1 refl) refl
new_number (x ∷ xs) t h = by (bytes_eq t x) h (new_number xs t)
  where
    by : (b : Bool) → (b || list_any (bytes_eq t) xs) ≡ false → (list_any (bytes_eq t) xs ≡ false → number_of (xs ++ t ∷ []) t ≡ number_of xs t)
        → cond (not b) (1 + number_of (xs ++ t ∷ []) t) 0 ≡ cond (not b) (1 + number_of xs t) 0
    by true e rest = refl
    by false e rest = ap (λ n. 1 + n) (rest e)

-- the number of a text is the same before and after it is added
pub number_added : (ts : List (List ℕ)) (t : List ℕ) → number_of ts t ≡ number_of (insert_key bytes_eq ts t) t
number_added ts t = by (list_any (bytes_eq t) ts) refl
  where
    by : (b : Bool) → list_any (bytes_eq t) ts ≡ b → number_of ts t ≡ number_of (if b then ts else ts ++ t ∷ []) t
    by true e = refl
    by false e = sym (new_number ts t e)

-- ---- the number of texts

length_insert : (ts : List (List ℕ)) (t : List ℕ) → length (insert_key bytes_eq ts t) ≤ length ts + 1
length_insert ts t = elim (list_any (bytes_eq t) ts) as (λ b. length (if b then ts else ts ++ t ∷ []) ≤ length ts + 1) [ true ↦ omega arith | false ↦ omega (arith, length-append ts (t ∷ [])) ]

pub length_all : (ts us : List (List ℕ)) → length (fold (insert_key bytes_eq) ts us) ≤ length ts + length us
length_all ts [] = omega arith
length_all ts (u ∷ us) = omega (arith, length_insert ts u, length_all (insert_key bytes_eq ts u) us)

pub length_distinct : (ts : List (List ℕ)) → length (distinct ts) ≤ length ts
length_distinct ts = omega (arith, ap length (distinct_folded ts), length_all [] ts)
