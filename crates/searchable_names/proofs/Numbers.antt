-- Numbers in a name, from the middle of a number on.
use Rattle.std.proofs.Common.{◌≡◌, ℕ, zero, suc, ◌+◌, ◌<◌, ◌≤◌, Bool, true, false, not, get_or, ◌||◌, nat_le, List, [], ◌∷◌, length, drop, refl, ap, sym, subst, ◌∙◌, add-one, arith}
use Rattle.std.proofs.Math.Nat.{zero-add}
use Rattle.std.proofs.lemmas.Bool.Decides.{nat_tests}
use Rattle.std.specs.Char.{is_ascii_digit}
use Rattle.std.specs.List.{prefix_len}
use Rattle.searchable_names.specs.Searchable.{digits_len, has_long_number}

-- a number that has these digits so far becomes too long, or a later one is
abbrev pub is_long_from : ℕ → List ℕ → Bool
is_long_from digits name = not (nat_le (digits + digits_len name) 9) || has_long_number name

absorb : (a b c : Bool) → (a ≡ false → b ≡ false) → a || (b || c) ≡ a || c
absorb true b c less = refl
absorb false b c less = ap (λ x. x || c) (less refl)

-- at the front of a name no number has begun
pub from_front : (name : List ℕ) → is_long_from 0 name ≡ has_long_number name
from_front [] = refl
from_front (b ∷ rest) =
    ap (λ n. not (nat_le n 9) || has_long_number (b ∷ rest)) (zero-add (digits_len (b ∷ rest)))
    ∙ absorb (not (nat_le (digits_len (b ∷ rest)) 9)) (not (nat_le (digits_len (b ∷ rest)) 9)) (has_long_number rest) (λ e. e)
    ∙ refl

module _ (digits : ℕ) where
  -- a byte that isn't a digit ends the number
  other_first : (b : ℕ) (rest : List ℕ) → digits ≤ 9 → is_ascii_digit b ≡ false → is_long_from digits (b ∷ rest) ≡ is_long_from 0 rest
  other_first b rest few other =
      let none : digits_len (b ∷ rest) ≡ 0 = simp other in
      let short : not (nat_le (digits + digits_len (b ∷ rest)) 9) ≡ false = grind (arith, nat_tests, none) in
      let first : not (nat_le (digits_len (b ∷ rest)) 9) ≡ false = grind (arith, nat_tests, none) in
      ap (λ x. x || has_long_number (b ∷ rest)) short ∙ ap (λ x. x || has_long_number rest) first ∙ sym (from_front rest)

  digit_first : (b : ℕ) (rest : List ℕ) → is_ascii_digit b ≡ true → digits_len (b ∷ rest) ≡ 1 + digits_len rest
  digit_first b rest digit = simp digit

  tenth_first : (b : ℕ) (rest : List ℕ) → digits ≡ 9 → is_ascii_digit b ≡ true → is_long_from digits (b ∷ rest) ≡ true
  tenth_first b rest nine digit =
      let one = digit_first b rest digit in
      let long : not (nat_le (digits + digits_len (b ∷ rest)) 9) ≡ true = grind (arith, nat_tests, one) in
      ap (λ x. x || has_long_number (b ∷ rest)) long

  -- one more digit; a number of the rest alone that is too long is too long with these digits before it
  more_first : (b : ℕ) (rest : List ℕ) → is_ascii_digit b ≡ true → is_long_from digits (b ∷ rest) ≡ is_long_from (digits + 1) rest
  more_first b rest digit =
      let one = digit_first b rest digit in
      let sum : digits + digits_len (b ∷ rest) ≡ (digits + 1) + digits_len rest = omega (arith, one) in
      ap (λ n. not (nat_le n 9) || has_long_number (b ∷ rest)) sum
      ∙ absorb (not (nat_le ((digits + 1) + digits_len rest) 9)) (not (nat_le (digits_len (b ∷ rest)) 9)) (has_long_number rest) (λ short. grind (arith, nat_tests, one, short))

  -- ---- at an index

  first_at : (P : List ℕ → List ℕ → Type 0) → ((b : ℕ) (rest : List ℕ) → is_ascii_digit b ≡ true → P (b ∷ rest) rest)
      → (name : List ℕ) (i : ℕ) → i < length name → is_ascii_digit (get_or name i 0) ≡ true → P (drop i name) (drop (i + 1) name)
  first_at P first [] i h digit = absurd (omega arith)
  first_at P first (b ∷ rest) zero h digit = first b rest digit
  first_at P first (b ∷ rest) (suc i) h digit = rw add-one (subst (λ n. P (drop i rest) (drop n rest)) (add-one i) (first_at P first rest i (omega arith) digit))

  pub at_tenth : (name : List ℕ) (i : ℕ) → digits ≡ 9 → i < length name → is_ascii_digit (get_or name i 0) ≡ true → is_long_from digits (drop i name) ≡ true
  at_tenth name i nine h digit = first_at (λ here rest. is_long_from digits here ≡ true) (λ b rest d. tenth_first b rest nine d) name i h digit

  pub at_digit : (name : List ℕ) (i : ℕ) → i < length name → is_ascii_digit (get_or name i 0) ≡ true → is_long_from digits (drop i name) ≡ is_long_from (digits + 1) (drop (i + 1) name)
  at_digit name i h digit = first_at (λ here rest. is_long_from digits here ≡ is_long_from (digits + 1) rest) more_first name i h digit

  pub at_other : (name : List ℕ) (i : ℕ) → digits ≤ 9 → i < length name → is_ascii_digit (get_or name i 0) ≡ false
      → is_long_from digits (drop i name) ≡ is_long_from 0 (drop (i + 1) name)
  at_other [] i few h other = absurd (omega arith)
  at_other (b ∷ rest) zero few h other = other_first b rest few other
  at_other (b ∷ rest) (suc i) few h other = rw add-one (subst (λ n. is_long_from digits (drop i rest) ≡ is_long_from 0 (drop n rest)) (add-one i) (at_other rest i few (omega arith) other))

pub ruleset number_laws = (from_front, at_other, at_tenth, at_digit)
