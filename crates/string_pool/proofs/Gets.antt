-- The item at an index of a list.
use Rattle.std.proofs.Common.{◌≡◌, ℕ, zero, suc, ◌+◌, ◌<◌, ◌≤◌, Bool, true, false, List, [], ◌∷◌, ◌++◌, length, Some, inl, inr, ⊎_elim, refl, sym, ap, subst, ◌∙◌, true≢false, arith, set}
use Rattle.std.specs.Prelude.{◌⊎◌}
use Rattle.std.specs.List.{list_any, position_or_len, slice_get}
use Rattle.lib_types.proofs.SortedPairs.{by_test}

module _ {X : Type 0} where
  -- after a push
  pub get_before : (xs ys : List X) (i : ℕ) (z : X) → slice_get xs i ≡ Some z → slice_get (xs ++ ys) i ≡ Some z
  get_before [] ys i z h = absurd (cc)
  get_before (x ∷ xs) ys zero z h = h
  get_before (x ∷ xs) ys (suc i) z h = get_before xs ys i z h

  pub get_last : (xs : List X) (y : X) → slice_get (xs ++ y ∷ []) (length xs) ≡ Some y
  get_last [] y = refl
  get_last (x ∷ xs) y = get_last xs y

  pub get_pushed : (xs : List X) (y : X) (i : ℕ) (z : X) → slice_get (xs ++ y ∷ []) i ≡ Some z → (slice_get xs i ≡ Some z) ⊎ ((i ≡ length xs) × (z ≡ y))
  get_pushed [] y zero z h = let same : z ≡ y = cc in inr (refl, same)
  get_pushed [] y (suc i) z h = absurd (cc)
  get_pushed (x ∷ xs) y zero z h = inl h
  get_pushed (x ∷ xs) y (suc i) z h = ⊎_elim (λ a. inl a) (λ b. inr (ap suc b.0, b.1)) (get_pushed xs y i z h)

  pub get_same : (xs : List X) (i : ℕ) (x y : X) → slice_get xs i ≡ Some x → slice_get xs i ≡ Some y → x ≡ y
  get_same xs i x y h g = let same : Some x ≡ Some y = sym h ∙ g in cc

  pub get_there : (xs : List X) (i : ℕ) → i < length xs → (x : X) × (slice_get xs i ≡ Some x)
  get_there [] i h = absurd (omega arith)
  get_there (x ∷ xs) zero h = (x, refl)
  get_there (x ∷ xs) (suc i) h = get_there xs i (omega (arith, h))

  -- after a write
  pub get_set_same : (xs : List X) (i : ℕ) (y : X) → i < length xs → slice_get (set xs i y) i ≡ Some y
  get_set_same [] i y h = absurd (omega arith)
  get_set_same (x ∷ xs) zero y h = refl
  get_set_same (x ∷ xs) (suc i) y h = get_set_same xs i y (omega (arith, h))

  pub get_set : (xs : List X) (i j : ℕ) (y z : X) → slice_get xs j ≡ Some z → (slice_get (set xs i y) j ≡ Some z) ⊎ ((j ≡ i) × (slice_get (set xs i y) j ≡ Some y))
  get_set [] i j y z h = absurd (cc)
  get_set (x ∷ xs) zero zero y z h = inr (refl, refl)
  get_set (x ∷ xs) zero (suc j) y z h = inl h
  get_set (x ∷ xs) (suc i) zero y z h = inl h
  get_set (x ∷ xs) (suc i) (suc j) y z h = ⊎_elim (λ a. inl a) (λ b. inr (ap suc b.0, b.1)) (get_set xs i j y z h)

  -- lists with the same items at the same indexes
  pub same_gets : (xs ys : List X) → length xs ≡ length ys → ((i : ℕ) (y : X) → slice_get ys i ≡ Some y → slice_get xs i ≡ Some y) → xs ≡ ys
  same_gets [] [] e h = refl
  same_gets [] (y ∷ ys) e h = absurd (omega (arith, e))
  same_gets (x ∷ xs) [] e h = absurd (omega (arith, e))
  same_gets (x ∷ xs) (y ∷ ys) e h =
      let first : Some x ≡ Some y = h 0 y refl in
      let head : x ≡ y = cc in
      let tail : xs ≡ ys = same_gets xs ys (omega (arith, e)) (λ i. h (suc i)) in
      cc

module _ {X : Type 0} (p : X → Bool) where
  -- a test that fails for all items fails for each of them
  pub none_passes : (xs : List X) (i : ℕ) (x : X) → list_any p xs ≡ false → slice_get xs i ≡ Some x → p x ≡ false
  none_passes [] i x h g = absurd (cc)
  none_passes (y ∷ ys) zero x h g =
      let same : y ≡ x = cc in
      by_test (p y) (λ t. let wrong : true ≡ false = rw t at h in absurd (true≢false wrong)) (λ f. ap p (sym same) ∙ f)
  none_passes (y ∷ ys) (suc i) x h g =
      by_test (p y) (λ t. let wrong : true ≡ false = rw t at h in absurd (true≢false wrong)) (λ f. none_passes ys i x (rw f at h) g)

  -- an item that passes a test
  pub record Passing (xs : List X) : Type 0 where
    pub index : ℕ
    pub item : X
    pub there : slice_get xs index ≡ Some item
    pub passes : p item ≡ true

  pub some_passes : (xs : List X) → list_any p xs ≡ true → Passing xs
  some_passes [] h = absurd (cc)
  some_passes (x ∷ xs) h = by_test (p x)
      (λ t. record { index = 0; item = x; there = refl; passes = t })
      (λ f.
      let rest = some_passes xs (rw f at h) in
      record { index = suc rest.index; item = rest.item; there = rest.there; passes = rest.passes })

  -- the first item that passes
  pub first_is : (xs : List X) (i : ℕ) (x : X) → slice_get xs i ≡ Some x → p x ≡ true → ((j : ℕ) (y : X) → slice_get xs j ≡ Some y → p y ≡ true → i ≤ j) → position_or_len p xs ≡ i
  first_is [] i x there passes first = absurd (cc)
  first_is (z ∷ zs) zero x there passes first =
      let same : z ≡ x = cc in
      let yes : p z ≡ true = ap p same ∙ passes in rw yes refl
  first_is (z ∷ zs) (suc i) x there passes first = by_test (p z)
      (λ yes. absurd (omega (arith, first 0 z refl yes)))
      (λ no. let rest = first_is zs i x there passes (λ j y g h. omega (arith, first (suc j) y g h)) in rw no (omega (arith, rest)))

  pub first_passes : (xs : List X) (x : X) → slice_get xs (position_or_len p xs) ≡ Some x → p x ≡ true
  first_passes [] x h = absurd (cc)
  first_passes (z ∷ zs) x h = by_test (p z)
      (λ yes. let here : Some z ≡ Some x = rw yes at h in let same : z ≡ x = cc in ap p (sym same) ∙ yes)
      (λ no.
      let next : slice_get (z ∷ zs) (1 + position_or_len p zs) ≡ Some x = rw no at h in
      let one : 1 + position_or_len p zs ≡ suc (position_or_len p zs) = omega arith in
      first_passes zs x (subst (λ n. slice_get (z ∷ zs) n ≡ Some x) one next))
