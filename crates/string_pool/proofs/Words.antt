-- The eight bytes before two places, compared as two numbers.
use Rattle.std.proofs.Common.{◌≡◌, ◌≢◌, ℕ, zero, suc, ◌+◌, ◌-◌, ◌*◌, ◌<◌, ◌≤◌, List, ◌∷◌, length, take, get_or, reverse, slice_index, refl, sym, ap, ◌∙◌, subst, arith}
use Rattle.std.proofs.lemmas.Cmp.{nat_cmp_total, ranked, tied_itself}
use Rattle.std.specs.Ordering.{MatchOrdering, nat_cmp, ordering_then}
use Rattle.std.specs.declared.cmp.Ordering.{Ordering}
use Rattle.std.specs.declared.cmp.Ordering.TheVariants.{Less, Equal, Greater}
use Rattle.byteorder.specs.Endian.{little_from}
use Rattle.lib_types.proofs.SortedPairs.{by_ordering}
use Rattle.string_pool.specs.Backward.{back_cmp}
use Rattle.string_pool.proofs.Ends.{nat_same}
use Rattle.string_pool.proofs.Tops.{less_is, more_is, top_of}

is_less : (x y : ℕ) → nat_cmp x y ≡ Less → x < y
is_less x y h = subst (λ o. MatchOrdering o (x < y) (x ≡ y) (y < x)) h (ranked x y (nat_cmp x y) refl)

is_more : (x y : ℕ) → nat_cmp x y ≡ Greater → y < x
is_more x y h = subst (λ o. MatchOrdering o (x < y) (x ≡ y) (y < x)) h (ranked x y (nat_cmp x y) refl)

-- the higher digits decide, and then the lowest one
module _ (x y u v : ℕ) (p : x < 256) (q : y < 256) where
  lowest : u ≡ v → nat_cmp (x + 256 * u) (y + 256 * v) ≡ nat_cmp x y
  lowest same = by_ordering (nat_cmp x y)
      (λ less. less_is (x + 256 * u) (y + 256 * v) (omega (arith, same, is_less x y less)) ∙ sym less)
      (λ tied.
      let all : x + 256 * u ≡ y + 256 * v = omega (arith, same, nat_same x y tied) in
      subst (λ n. nat_cmp (x + 256 * u) n ≡ Equal) all (tied_itself nat_cmp_total (x + 256 * u)) ∙ sym tied)
      (λ more. more_is (x + 256 * u) (y + 256 * v) (omega (arith, same, is_more x y more)) ∙ sym more)

  digits : (rest : Ordering) → ordering_then (nat_cmp u v) (ordering_then (nat_cmp x y) rest) ≡ ordering_then (nat_cmp (x + 256 * u) (y + 256 * v)) rest
  digits rest = by_ordering (nat_cmp u v)
      (λ less.
      let all : nat_cmp (x + 256 * u) (y + 256 * v) ≡ Less = less_is (x + 256 * u) (y + 256 * v) (omega (arith, p, q, is_less u v less)) in
      ap (λ o. ordering_then o (ordering_then (nat_cmp x y) rest)) less ∙ sym (ap (λ o. ordering_then o rest) all))
      (λ tied.
      let all = lowest (nat_same u v tied) in
      ap (λ o. ordering_then o (ordering_then (nat_cmp x y) rest)) tied ∙ sym (ap (λ o. ordering_then o rest) all))
      (λ more.
      let all : nat_cmp (x + 256 * u) (y + 256 * v) ≡ Greater = more_is (x + 256 * u) (y + 256 * v) (omega (arith, p, q, is_more u v more)) in
      ap (λ o. ordering_then o (ordering_then (nat_cmp x y) rest)) more ∙ sym (ap (λ o. ordering_then o rest) all))

top : (a : List ℕ) (s : ℕ) → s < length a → reverse (take (suc s) a) ≡ slice_index a s ∷ reverse (take s a)
top a s h = subst (λ n. reverse (take (suc s) a) ≡ get_or a n 0 ∷ reverse (take n a)) (omega arith) (top_of a (suc s) 0 (omega arith) (omega (arith, h)))

module _ (a b : List ℕ) (p : (k : ℕ) → slice_index a k < 256) (q : (k : ℕ) → slice_index b k < 256) where
  last_byte : (s t : ℕ) → s < length a → t < length b
      → back_cmp (take (suc s) a) (take (suc t) b) ≡ ordering_then (nat_cmp (slice_index a s) (slice_index b t)) (back_cmp (take s a) (take t b))
  last_byte s t h k =
      let left = top a s h in
      let right = top b t k in
      rw (left, right) refl

  -- the numbers in the last n bytes decide, and then the bytes before them
  by_numbers : (n s t : ℕ) → s + n ≤ length a → t + n ≤ length b
      → back_cmp (take (s + n) a) (take (t + n) b) ≡ ordering_then (nat_cmp (little_from s n a) (little_from t n b)) (back_cmp (take s a) (take t b))
  by_numbers zero s t h k =
      let left : s + zero ≡ s = omega arith in
      let right : t + zero ≡ t = omega arith in
      rw (left, right) refl
  by_numbers (suc n) s t h k =
      let left : s + suc n ≡ suc s + n = omega arith in
      let right : t + suc n ≡ suc t + n = omega arith in
      ap (λ i. back_cmp (take i a) (take (t + suc n) b)) left
      ∙ ap (λ j. back_cmp (take (suc s + n) a) (take j b)) right
      ∙ by_numbers n (suc s) (suc t) (omega (arith, h)) (omega (arith, k))
      ∙ ap (ordering_then (nat_cmp (little_from (suc s) n a) (little_from (suc t) n b))) (last_byte s t (omega (arith, h)) (omega (arith, k)))
      ∙ digits (slice_index a s) (slice_index b t) (little_from (suc s) n a) (little_from (suc t) n b) (p s) (q t) (back_cmp (take s a) (take t b))

  module _ (i j x y : ℕ) (low_i : 8 ≤ i) (high_i : i ≤ length a) (low_j : 8 ≤ j) (high_j : j ≤ length b) (is_x : x ≡ little_from (i - 8) 8 a) (is_y : y ≡ little_from (j - 8) 8 b) where
    words : back_cmp (take i a) (take j b) ≡ ordering_then (nat_cmp x y) (back_cmp (take (i - 8) a) (take (j - 8) b))
    words =
        let left : i ≡ i - 8 + 8 = omega (arith, low_i) in
        let right : j ≡ j - 8 + 8 = omega (arith, low_j) in
        ap (λ m. back_cmp (take m a) (take j b)) left
        ∙ ap (λ m. back_cmp (take (i - 8 + 8) a) (take m b)) right
        ∙ by_numbers 8 (i - 8) (j - 8) (omega (arith, low_i, high_i)) (omega (arith, low_j, high_j))
        ∙ ap (λ m. ordering_then (nat_cmp m (little_from (j - 8) 8 b)) (back_cmp (take (i - 8) a) (take (j - 8) b))) (sym is_x)
        ∙ ap (λ m. ordering_then (nat_cmp x m) (back_cmp (take (i - 8) a) (take (j - 8) b))) (sym is_y)

    -- equal words don't decide
    pub equal_words : x ≡ y → back_cmp (take (i - 8) a) (take (j - 8) b) ≡ back_cmp (take i a) (take j b)
    equal_words same =
        let tied : nat_cmp x y ≡ Equal = subst (λ n. nat_cmp x n ≡ Equal) same (tied_itself nat_cmp_total x) in
        sym (words ∙ ap (λ o. ordering_then o (back_cmp (take (i - 8) a) (take (j - 8) b))) tied)

    -- other words decide
    pub other_words : x ≢ y → nat_cmp x y ≡ back_cmp (take i a) (take j b)
    other_words other = sym (words ∙ by_ordering (nat_cmp x y)
        (λ less. rw less refl)
        (λ tied. absurd (other (nat_same x y tied)))
        (λ more. rw more refl))
