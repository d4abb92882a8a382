-- A list that is read from its end.
use Rattle.std.proofs.Common.{◌≡◌, ◌≢◌, ℕ, zero, suc, ◌+◌, ◌-◌, ◌<◌, ◌≤◌, List, [], ◌∷◌, ◌++◌, length, take, get_or, reverse, refl, sym, ap, ◌∙◌, subst, arith}
use Rattle.std.proofs.lemmas.Cmp.{nat_cmp_total, ranked, tied_itself}
use Rattle.std.proofs.lemmas.List.{reverse-append, take_more}
use Rattle.std.specs.Cmp.Lexicographic.{slice_cmp}
use Rattle.std.specs.Ordering.{MatchOrdering, nat_cmp}
use Rattle.std.specs.declared.cmp.Ordering.TheVariants.{Less, Equal, Greater}
use Rattle.lib_types.proofs.SortedPairs.{by_ordering, flipped}
use Rattle.string_pool.specs.Backward.{back_cmp}
use Rattle.string_pool.proofs.Ends.{nat_same}

-- the last of the first i items
pub top_of : {X : Type 0} (xs : List X) (i : ℕ) (d : X) → 0 < i → i ≤ length xs → reverse (take i xs) ≡ get_or xs (i - 1) d ∷ reverse (take (i - 1) xs)
top_of xs i d low high =
    let e : i - 1 + 1 ≡ i = omega (arith, low) in
    let more : take i xs ≡ take (i - 1) xs ++ get_or xs (i - 1) d ∷ [] = subst (λ n. take n xs ≡ take (i - 1) xs ++ get_or xs (i - 1) d ∷ []) e (take_more xs (i - 1) d (omega (arith, low, high))) in
    ap reverse more ∙ reverse-append (take (i - 1) xs) (get_or xs (i - 1) d ∷ [])

module _ (a b : List ℕ) (i j x y : ℕ) (low_i : 0 < i) (high_i : i ≤ length a) (low_j : 0 < j) (high_j : j ≤ length b) (is_x : x ≡ get_or a (i - 1) x) (is_y : y ≡ get_or b (j - 1) y) where
  split : back_cmp (take i a) (take j b) ≡ slice_cmp nat_cmp (x ∷ reverse (take (i - 1) a)) (y ∷ reverse (take (j - 1) b))
  split =
      let left : reverse (take i a) ≡ x ∷ reverse (take (i - 1) a) = top_of a i x low_i high_i ∙ ap (λ n. n ∷ reverse (take (i - 1) a)) (sym is_x) in
      let right : reverse (take j b) ≡ y ∷ reverse (take (j - 1) b) = top_of b j y low_j high_j ∙ ap (λ n. n ∷ reverse (take (j - 1) b)) (sym is_y) in
      rw (left, right) refl

  -- equal bytes don't decide
  pub equal_bytes : x ≡ y → back_cmp (take (i - 1) a) (take (j - 1) b) ≡ back_cmp (take i a) (take j b)
  equal_bytes same =
      let tied : nat_cmp x y ≡ Equal = subst (λ n. nat_cmp x n ≡ Equal) same (tied_itself nat_cmp_total x) in
      sym (split ∙ rw tied refl)

  -- other bytes decide
  pub other_bytes : x ≢ y → nat_cmp x y ≡ back_cmp (take i a) (take j b)
  other_bytes other = sym (split ∙ by_ordering (nat_cmp x y)
      (λ less. rw less refl)
      (λ tied. absurd (other (nat_same x y tied)))
      (λ greater. rw greater refl))

pub less_is : (x y : ℕ) → x < y → nat_cmp x y ≡ Less
less_is x y h = by_ordering (nat_cmp x y)
    (λ less. less)
    (λ tied. absurd (omega (arith, h, nat_same x y tied)))
    (λ greater. absurd (omega (arith, h, subst (λ o. MatchOrdering o (x < y) (x ≡ y) (y < x)) greater (ranked x y (nat_cmp x y) refl))))

pub more_is : (x y : ℕ) → y < x → nat_cmp x y ≡ Greater
more_is x y h = flipped nat_cmp_total y x Less (less_is y x h)

-- if one text is used up, the longer one is greater
pub used_up : (a b : List ℕ) (i j : ℕ) → i ≤ length a → j ≤ length b → (0 < i → 0 < j → ⊥) → nat_cmp i j ≡ back_cmp (take i a) (take j b)
used_up a b zero zero high_i high_j none = refl
used_up a b zero (suc j) high_i high_j none = less_is 0 (suc j) (omega arith) ∙ sym (ap (λ (xs : List ℕ). slice_cmp nat_cmp [] xs) (top_of b (suc j) 0 (omega arith) high_j))
used_up a b (suc i) zero high_i high_j none = more_is (suc i) 0 (omega arith) ∙ sym (ap (λ (xs : List ℕ). slice_cmp nat_cmp xs []) (top_of a (suc i) 0 (omega arith) high_i))
used_up a b (suc i) (suc j) high_i high_j none = absurd (none (omega arith) (omega arith))
