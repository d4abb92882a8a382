-- The number of texts in a sorted list without repetitions, before and after adding a text.
use Rattle.std.proofs.Common.{◌≡◌, ◌≤◌, ◌+◌, ℕ, Bool, true, false, not, ◌&&◌, ◌||◌, List, [], ◌∷◌, length, filter, refl, ap, sym, subst, ◌∙◌, arith}
use Rattle.std.proofs.lemmas.Slice.Eq.{bytes_eq-Decides}
use Rattle.std.specs.Str.{bytes_eq}
use Rattle.lib_types.proofs.SortedPairs.{by_test}
use Rattle.string_pool.proofs.InByteOrder.{ascending_sorted, count_more, in_ascending}
use Rattle.string_pool.proofs.Members.{is_in, kept_in, same_members}
use Rattle.string_pool.specs.Order.{ascending}

-- the number of texts that are added: 1, or 0 if the text is there already
abbrev pub unless_there : Bool → ℕ
unless_there true = 0
unless_there false = 1

module _ (x : List ℕ) (xs : List (List ℕ)) where
  abbrev differs : List ℕ → Bool
  differs y = not (bytes_eq y x)

  -- a text that is already there changes nothing
  known : is_in xs x ≡ true → ascending (x ∷ xs) ≡ ascending xs
  known there = same_members (ascending (x ∷ xs)) (ascending xs) (ascending_sorted (x ∷ xs)) (ascending_sorted xs)
      (λ z. in_ascending (x ∷ xs) z ∙ by_test (bytes_eq z x)
      (λ e.
      let same : x ≡ z = sym ((bytes_eq-Decides z x).0 e) in
      ap (λ b. b || is_in xs z) e ∙ sym (subst (λ (q : List ℕ). is_in xs q ≡ true) same there))
      (λ e. ap (λ b. b || is_in xs z) e) ∙ sym (in_ascending xs z))

  others : is_in xs x ≡ false → ascending (filter differs xs) ≡ ascending xs
  others none = same_members (ascending (filter differs xs)) (ascending xs) (ascending_sorted (filter differs xs)) (ascending_sorted xs)
      (λ z. in_ascending (filter differs xs) z ∙ kept_in differs z xs ∙ by_test (bytes_eq z x)
      (λ e.
      let same : x ≡ z = sym ((bytes_eq-Decides z x).0 e) in
      ap (λ b. not b && is_in xs z) e ∙ sym (subst (λ (q : List ℕ). is_in xs q ≡ false) same none))
      (λ e. ap (λ b. not b && is_in xs z) e) ∙ sym (in_ascending xs z))

  pub count_next : length (ascending (x ∷ xs)) ≡ unless_there (is_in xs x) + length (ascending xs)
  count_next = by_test (is_in xs x)
      (λ e. let same = ap length (known e) in rw e (omega (arith, same)))
      (λ e. let same = ap length (others e) in let more = count_more x xs in rw e (omega (arith, same, more)))

pub none_there : length (ascending []) ≡ 0
unfolding ascending
none_there = refl

-- removing repetitions adds no texts
pub count_few : (xs : List (List ℕ)) → length (ascending xs) ≤ length xs
count_few [] = let none = none_there in omega (arith, none)
count_few (x ∷ xs) = by_test (is_in xs x)
    (λ e. let n = count_next x xs in let rest = count_few xs in let one : unless_there (is_in xs x) ≡ 0 = ap unless_there e in omega (arith, n, rest, one))
    (λ e. let n = count_next x xs in let rest = count_few xs in let one : unless_there (is_in xs x) ≡ 1 = ap unless_there e in omega (arith, n, rest, one))
