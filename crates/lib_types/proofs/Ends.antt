-- The bytes that pass a test at the front and at the end of a list, and the bytes before the first one that passes.
use Rattle.std.proofs.Common.{◌≡◌, ◌<◌, ◌≤◌, ◌+◌, ℕ, Bool, true, false, cond, ltb, List, ◌∷◌, length, take, drop, get_or, reverse, Some, None, refl, ap, sym, arith, add-one, drop-cons}
use Rattle.std.proofs.lemmas.List.{take_more, take_all, drop_all, reverse-append}
use Rattle.std.proofs.lemmas.Bool.{ltb-false}
use Rattle.std.specs.List.{before_first, position, position_or_len, prefix_len, suffix_len}

pub some_of : (b : Bool) (x y : ℕ) → cond b (Some x) None ≡ Some y → x ≡ y
some_of true x y e = cc
some_of false x y e = absurd (cc)

pub none_of : (b : Bool) (x : ℕ) → cond b (Some x) None ≡ None → b ≡ false
none_of true x e = absurd (cc)
none_of false x e = refl

module _ (p : ℕ → Bool) where
  pub before_position : (xs : List ℕ) (n : ℕ) → position p xs ≡ Some n → take n xs ≡ before_first p xs
  before_position xs n e = ap (λ k. take k xs) (sym (some_of (ltb (position_or_len p xs) (length xs)) (position_or_len p xs) n e))

  pub before_none : (xs : List ℕ) → position p xs ≡ None → xs ≡ before_first p xs
  before_none xs e =
      let far = ltb-false _ _ (none_of (ltb (position_or_len p xs) (length xs)) (position_or_len p xs) e) in
      sym (take_all (position_or_len p xs) xs far)

  pub front_more : (xs : List ℕ) (n : ℕ) → n < length xs → p (get_or xs n 0) ≡ true → prefix_len p (drop n xs) ≡ 1 + prefix_len p (drop (n + 1) xs)
  front_more xs n lt e = rw (drop-cons xs n 0 lt, e, add-one) refl

  pub front_stops : (xs : List ℕ) (n : ℕ) → n < length xs → p (get_or xs n 0) ≡ false → prefix_len p (drop n xs) ≡ 0
  front_stops xs n lt e = rw (drop-cons xs n 0 lt, e) refl

  pub front_ends : (xs : List ℕ) (n : ℕ) → length xs ≤ n → prefix_len p (drop n xs) ≡ 0
  front_ends xs n le = rw (drop_all n xs le) refl

  -- the reversed front of a list, with one more byte
  last : (xs : List ℕ) (n m : ℕ) → n ≡ m + 1 → n ≤ length xs → reverse (take n xs) ≡ get_or xs m 0 ∷ reverse (take m xs)
  last xs n m e le = rw (e, take_more xs m 0 (omega arith), reverse-append) refl

  pub end_more : (xs : List ℕ) (n m : ℕ) → n ≡ m + 1 → n ≤ length xs → p (get_or xs m 0) ≡ true → suffix_len p (take n xs) ≡ 1 + suffix_len p (take m xs)
  end_more xs n m e le h = rw (last xs n m e le, h) refl

  pub end_stops : (xs : List ℕ) (n m : ℕ) → n ≡ m + 1 → n ≤ length xs → p (get_or xs m 0) ≡ false → suffix_len p (take n xs) ≡ 0
  end_stops xs n m e le h = rw (last xs n m e le, h) refl

  pub whole_end : (xs : List ℕ) → suffix_len p (take (length xs) xs) ≡ suffix_len p xs
  whole_end xs = ap (suffix_len p) (take_all (length xs) xs (omega arith))
