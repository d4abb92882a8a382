-- The first part of some bytes.
use Rattle.std.proofs.Common.{◌≡◌, ◌<◌, ◌≤◌, ◌+◌, ◌-◌, ℕ, Bool, true, false, not, cond, ltb, List, [], ◌∷◌, length, take, drop, Some, None, ap, sym, refl, ◌∙◌, arith}
use Rattle.std.specs.List.{slice_split, onto_first, position, position_or_len}
use Rattle.std.proofs.lemmas.Bool.{ltb-true, ltb-false}
use Rattle.std.proofs.lemmas.List.{take_all, length-drop, length-take-le}
use Rattle.std.proofs.lemmas.List.Splits.{slice_split_first, slice_split-cons_no}

module _ (p : ℕ → Bool) where
  -- if no byte of b ∷ bytes passes, the first part is the whole list
  unpassed : (b : ℕ) (bytes : List ℕ) (t : Bool) → p b ≡ t → length (b ∷ bytes) ≤ cond (not t) (1 + position_or_len p bytes) 0 → (length bytes ≤ position_or_len p bytes → slice_split p bytes ≡ bytes ∷ []) → slice_split p (b ∷ bytes) ≡ (b ∷ bytes) ∷ []
  unpassed b bytes true e all rest = absurd (omega arith)
  unpassed b bytes false e all rest = slice_split-cons_no p b bytes e ∙ ap (onto_first b) (rest (omega arith))

  -- no byte passes
  not_found : (bytes : List ℕ) → length bytes ≤ position_or_len p bytes → slice_split p bytes ≡ bytes ∷ []
  not_found [] all = refl
  not_found (b ∷ bytes) all = unpassed b bytes (p b) refl all (not_found bytes)

  by_position : (bytes : List ℕ) (t : Bool) → ltb (position_or_len p bytes) (length bytes) ≡ t → (n : ℕ) → cond t (Some (position_or_len p bytes)) None ≡ Some n → slice_split p bytes ≡ take n bytes ∷ slice_split p (drop (n + 1) bytes)
  by_position bytes true e n h =
      let at : position_or_len p bytes ≡ n = cc in
      slice_split_first p bytes 0 (ltb-true _ _ e) ∙ ap (λ k. take k bytes ∷ slice_split p (drop (k + 1) bytes)) at
  by_position bytes false e n h = absurd (cc)

  pub cut_at : (bytes : List ℕ) (n : ℕ) → n < length bytes → position p bytes ≡ Some n → slice_split p bytes ≡ take n bytes ∷ slice_split p (take (length bytes - (n + 1)) (drop (n + 1) bytes))
  cut_at bytes n lt e =
      let whole : take (length bytes - (n + 1)) (drop (n + 1) bytes) ≡ drop (n + 1) bytes = take_all _ _ (omega (arith, length-drop (n + 1) bytes)) in
      by_position bytes (ltb (position_or_len p bytes) (length bytes)) refl n e ∙ ap (λ rest. take n bytes ∷ slice_split p rest) (sym whole)

  at_end : (bytes : List ℕ) (t : Bool) → ltb (position_or_len p bytes) (length bytes) ≡ t → cond t (Some (position_or_len p bytes)) None ≡ None → length bytes ≤ position_or_len p bytes
  at_end bytes true e h = absurd (cc)
  at_end bytes false e h = ltb-false _ _ e

  pub cut_not_found : (bytes : List ℕ) → position p bytes ≡ None → slice_split p bytes ≡ bytes ∷ []
  cut_not_found bytes e = not_found bytes (at_end bytes (ltb (position_or_len p bytes) (length bytes)) refl e)

-- the bytes after index n, as a slice and as a drop
pub rest_is : (bytes : List ℕ) (n : ℕ) → n < length bytes → take (length bytes - (n + 1)) (drop (n + 1) bytes) ≡ drop (length (take n bytes) + 1) bytes
rest_is bytes n lt =
    let whole : take (length bytes - (n + 1)) (drop (n + 1) bytes) ≡ drop (n + 1) bytes = take_all _ _ (omega (arith, length-drop (n + 1) bytes)) in
    let count : length (take n bytes) ≡ n = length-take-le n bytes (omega arith) in
    whole ∙ ap (λ k. drop (k + 1) bytes) (sym count)
