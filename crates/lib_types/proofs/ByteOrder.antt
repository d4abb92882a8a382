-- The order of lists by the ranks of their bytes. The first bytes that differ decide. If all bytes of the shorter list agree, the
-- lengths decide.
use Rattle.std.proofs.Common.{◌≡◌, ℕ, suc, zero, ◌<◌, ◌≤◌, List, [], ◌∷◌, length, take, get_or, map, map-id, arith, Ordering, refl, sym, ap, subst, ◌∙◌}
use Rattle.std.proofs.lemmas.Cmp.{ranked}
use Rattle.std.specs.declared.cmp.Ordering.TheVariants.{Less, Equal, Greater}
use Rattle.std.specs.Ordering.{MatchOrdering, nat_cmp, ordering_then}
use Rattle.std.specs.Cmp.{nat_cmp_is}
use Rattle.std.specs.Cmp.Lexicographic.{slice_cmp}

module _ (rank : ℕ → ℕ) (differ : (x y : ℕ) → nat_cmp (rank x) (rank y) ≡ Equal → x ≡ y) where
  abbrev pub ranked_cmp : List ℕ → List ℕ → Ordering
  ranked_cmp a b = slice_cmp nat_cmp (map rank a) (map rank b)

  pub byte_decides : (a b : List ℕ) (n : ℕ) → n < length a → n < length b → take n a ≡ take n b → (get_or a n 0 ≡ get_or b n 0 → ⊥)
      → nat_cmp (rank (get_or a n 0)) (rank (get_or b n 0)) ≡ ranked_cmp a b
  byte_decides [] b n h k same other = absurd (omega arith)
  byte_decides (x ∷ a) [] n h k same other = absurd (omega arith)
  byte_decides (x ∷ a) (y ∷ b) zero h k same other = by (nat_cmp (rank x) (rank y)) refl
    where
      by : (r : Ordering) → nat_cmp (rank x) (rank y) ≡ r → nat_cmp (rank x) (rank y) ≡ ordering_then (nat_cmp (rank x) (rank y)) (ranked_cmp a b)
      by Less e = rw e refl
      by Equal e = absurd (other (differ x y e))
      by Greater e = rw e refl
  byte_decides (x ∷ a) (y ∷ b) (suc n) h k same other =
      let first : x ≡ y = cc in
      let rest : take n a ≡ take n b = cc in
      let tied : Equal ≡ nat_cmp (rank x) (rank y) = nat_cmp_is _ _ _ (ap rank first) in
      byte_decides a b n (omega arith) (omega arith) rest other ∙ ap (λ r. ordering_then r (ranked_cmp a b)) tied

  pub lengths_decide : (a b : List ℕ) (n : ℕ) → n ≤ length a → n ≤ length b → take n a ≡ take n b → (n < length a → n < length b → ⊥)
      → nat_cmp (length a) (length b) ≡ ranked_cmp a b
  lengths_decide a b n h k same ended = sym (nat_cmp_is _ _ _ (by_length a b n h k same ended))
    where
      longer_by_one : (r : Ordering) (m n : ℕ) → MatchOrdering r (m < n) (m ≡ n) (n < m) → MatchOrdering r (suc m < suc n) (suc m ≡ suc n) (suc n < suc m)
      longer_by_one Less m n h = omega arith
      longer_by_one Equal m n h = omega arith
      longer_by_one Greater m n h = omega arith

      by_length : (a b : List ℕ) (n : ℕ) → n ≤ length a → n ≤ length b → take n a ≡ take n b → (n < length a → n < length b → ⊥)
          → MatchOrdering (ranked_cmp a b) (length a < length b) (length a ≡ length b) (length b < length a)
      by_length [] [] zero h k same e = refl
      by_length [] (y ∷ b) zero h k same e = omega arith
      by_length (x ∷ a) [] zero h k same e = omega arith
      by_length (x ∷ a) (y ∷ b) zero h k same e = absurd (e (omega arith) (omega arith))
      by_length [] b (suc n) h k same e = absurd (omega arith)
      by_length (x ∷ a) [] (suc n) h k same e = absurd (omega arith)
      by_length (x ∷ a) (y ∷ b) (suc n) h k same e =
          let first : x ≡ y = cc in
          let rest : take n a ≡ take n b = cc in
          let tied : Equal ≡ nat_cmp (rank x) (rank y) = nat_cmp_is _ _ _ (ap rank first) in
          subst (λ r. MatchOrdering (ordering_then r (ranked_cmp a b)) (length (x ∷ a) < length (y ∷ b)) (length (x ∷ a) ≡ length (y ∷ b)) (length (y ∷ b) < length (x ∷ a))) tied
          (longer_by_one _ _ _ (by_length a b n (omega arith) (omega arith) rest (λ p q. e (omega arith) (omega arith))))

-- ---- the rank of a byte is the byte itself

own_rank : (x y : ℕ) → nat_cmp x y ≡ Equal → x ≡ y
own_rank x y e = subst (λ r. MatchOrdering r (x < y) (x ≡ y) (y < x)) e (ranked x y _ refl)

own_cmp : (a b : List ℕ) → ranked_cmp (λ x. x) own_rank a b ≡ slice_cmp nat_cmp a b
own_cmp a b = rw (map-id a, map-id b) refl

pub byte_decides_order : (a b : List ℕ) (n : ℕ) → n < length a → n < length b → take n a ≡ take n b → (get_or a n 0 ≡ get_or b n 0 → ⊥)
    → nat_cmp (get_or a n 0) (get_or b n 0) ≡ slice_cmp nat_cmp a b
byte_decides_order a b n h k same other = byte_decides (λ x. x) own_rank a b n h k same other ∙ own_cmp a b

pub lengths_decide_order : (a b : List ℕ) (n : ℕ) → n ≤ length a → n ≤ length b → take n a ≡ take n b → (n < length a → n < length b → ⊥)
    → nat_cmp (length a) (length b) ≡ slice_cmp nat_cmp a b
lengths_decide_order a b n h k same ended = lengths_decide (λ x. x) own_rank a b n h k same ended ∙ own_cmp a b
