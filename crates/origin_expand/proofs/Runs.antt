-- The longest run at the front of some bytes ends at the first byte outside it.
use Rattle.std.proofs.Common.{◌≡◌, ◌+◌, ℕ, Bool, true, false, not, cond, ltb, List, [], ◌∷◌, length, take, Some, None, refl, ap, sym, ◌∙◌}
use Rattle.std.proofs.lemmas.Bool.{ltb-false}
use Rattle.std.proofs.lemmas.List.{take_all}
use Rattle.std.specs.List.{position, position_or_len, prefix_len, take_while}
use Rattle.lib_types.proofs.Ends.{some_of, none_of}

module _ (p : ℕ → Bool) where
  abbrev outside : ℕ → Bool
  outside b = not (p b)

  run_len : (xs : List ℕ) → position_or_len outside xs ≡ prefix_len p xs
  run_len [] = refl
  run_len (x ∷ xs) = elim (p x) as (λ b. cond (not (not b)) (1 + position_or_len outside xs) 0 ≡ cond b (1 + prefix_len p xs) 0)
      [ true ↦ ap (λ n. 1 + n) (run_len xs) | false ↦ refl ]

  pub run_ends : (xs : List ℕ) (n : ℕ) → position (λ b. not (p b)) xs ≡ Some n → take n xs ≡ take_while p xs
  run_ends xs n e =
      let at = some_of (ltb (position_or_len outside xs) (length xs)) (position_or_len outside xs) n e in
      ap (λ k. take k xs) (sym at ∙ run_len xs)

  pub run_is_all : (xs : List ℕ) → position (λ b. not (p b)) xs ≡ None → xs ≡ take_while p xs
  run_is_all xs e =
      let far = ltb-false _ _ (none_of (ltb (position_or_len outside xs) (length xs)) (position_or_len outside xs) e) in
      sym (take_all (position_or_len outside xs) xs far) ∙ ap (λ k. take k xs) (run_len xs)
