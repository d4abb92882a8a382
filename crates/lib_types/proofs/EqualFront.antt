-- How many bytes two lists have in common at the front.
use Rattle.std.proofs.Common.{◌≡◌, ⊎_elim, ℕ, suc, zero, ◌+◌, ◌*◌, ◌/◌, ◌%◌, ◌<◌, ◌≤◌, List, [], ◌∷◌, length, take, slice_index, arith, refl, sym, ap, subst}
use Rattle.std.proofs.lemmas.Bool.{cases_lt}
use Rattle.std.specs.Int.{abs_diff, trailing_zeros, w64}
use Rattle.std.specs.Int.Count.{count_trailing_zeros, under}
use Rattle.byteorder.specs.Endian.{little_from}
use Rattle.lib_types.specs.Words.{AreZeroBytes}

-- ---- zeros at the low end

-- half of an even number has one trailing zero less
half : (k m n : ℕ) → suc m ≤ count_trailing_zeros k n → (l : ℕ) × (q : ℕ) × (n ≡ 2 * q) × (m ≤ count_trailing_zeros l q)
unfolding count_trailing_zeros
half zero m n h = absurd (omega arith)
half (suc k) m n h = by (n % 2) refl h
  where
    by : (d : ℕ) → n % 2 ≡ d → suc m ≤ under d (count_trailing_zeros k (n / 2)) → (l : ℕ) × (q : ℕ) × (n ≡ 2 * q) × (m ≤ count_trailing_zeros l q)
    by zero e less = (k, n / 2, omega (arith, e), omega (arith, less))
    by (suc d) e less = absurd (omega (arith, less))

twice : (n q r : ℕ) → n ≡ 2 * q → q ≡ 2 * r → n ≡ 4 * r
twice n q r e f = omega (arith, e, f)

four_times : (n q r : ℕ) → n ≡ 4 * q → q ≡ 4 * r → n ≡ 16 * r
four_times n q r e f = omega (arith, e, f)

sixteen_times : (n q r : ℕ) → n ≡ 16 * q → q ≡ 16 * r → n ≡ 256 * r
sixteen_times n q r e f = omega (arith, e, f)

quarter : (k m n : ℕ) → 2 + m ≤ count_trailing_zeros k n → (l : ℕ) × (q : ℕ) × (n ≡ 4 * q) × (m ≤ count_trailing_zeros l q)
quarter k m n h =
    let a = half k (1 + m) n (omega (arith, h)) in
    let b = half a.0 m a.1 (omega (arith, a.3)) in
    (b.0, b.1, twice n a.1 b.1 a.2 b.2, b.3)

sixteenth : (k m n : ℕ) → 4 + m ≤ count_trailing_zeros k n → (l : ℕ) × (q : ℕ) × (n ≡ 16 * q) × (m ≤ count_trailing_zeros l q)
sixteenth k m n h =
    let a = quarter k (2 + m) n (omega (arith, h)) in
    let b = quarter a.0 m a.1 (omega (arith, a.3)) in
    (b.0, b.1, four_times n a.1 b.1 a.2 b.2, b.3)

byte_zero : (k m n : ℕ) → 8 + m ≤ count_trailing_zeros k n → (l : ℕ) × (q : ℕ) × (n ≡ 256 * q) × (m ≤ count_trailing_zeros l q)
byte_zero k m n h =
    let a = sixteenth k (4 + m) n (omega (arith, h)) in
    let b = sixteenth a.0 m a.1 (omega (arith, a.3)) in
    (b.0, b.1, sixteen_times n a.1 b.1 a.2 b.2, b.3)

zeros_of : (j k n : ℕ) → 8 * j ≤ count_trailing_zeros k n → AreZeroBytes j n
zeros_of zero k n h = tt
zeros_of (suc j) k n h =
    let b = byte_zero k (8 * j) n (omega (arith, h)) in
    (b.1, b.2, zeros_of j b.0 b.1 b.3)

pub zero_bytes : (n : ℕ) → AreZeroBytes (trailing_zeros w64 n / 8) n
zero_bytes n = zeros_of (trailing_zeros w64 n / 8) 64 n (omega arith)

-- ---- equal bytes

pub byte_equal : (a b : List ℕ) (i : ℕ) → i < length a → i < length b → slice_index a i ≡ slice_index b i → take i a ≡ take i b → take (suc i) a ≡ take (suc i) b
byte_equal [] b i h k e same = absurd (omega arith)
byte_equal (x ∷ a) [] i h k e same = absurd (omega arith)
byte_equal (x ∷ a) (y ∷ b) zero h k e same = ap (λ z. z ∷ []) e
byte_equal (x ∷ a) (y ∷ b) (suc i) h k e same =
    let first : x ≡ y = cc in
    let rest : take i a ≡ take i b = cc in
    (λ j. first j ∷ byte_equal a b i (omega arith) (omega arith) e rest j)

module _ (a b : List ℕ) (p : (k : ℕ) → slice_index a k < 256) (q : (k : ℕ) → slice_index b k < 256) where
  -- if the j lowest bytes of the difference are zero, the next j bytes of both lists are equal
  low_equal : (j n i d : ℕ) → j ≤ n → i + n ≤ length a → i + n ≤ length b → little_from i n a ≡ little_from i n b + d → AreZeroBytes j d
      → take i a ≡ take i b → take (i + j) a ≡ take (i + j) b
  low_equal zero n i d l h k e zeros same = let none : i ≡ i + zero = omega arith in subst (λ m. take m a ≡ take m b) none same
  low_equal (suc j) zero i d l h k e zeros same = absurd (omega arith)
  low_equal (suc j) (suc n) i d l h k e zeros same =
      let x = p i in
      let y = q i in
      let first : slice_index a i ≡ slice_index b i = omega (arith, e, zeros.1) in
      let rest : little_from (suc i) n a ≡ little_from (suc i) n b + zeros.0 = omega (arith, e, zeros.1) in
      let next : suc i + j ≡ i + suc j = omega arith in
      subst (λ m. take m a ≡ take m b) next
      (low_equal j n (suc i) zeros.0 (omega arith) (omega arith) (omega arith) rest zeros.2 (byte_equal a b i (omega arith) (omega arith) first same))

-- equal words have equal bytes
module _ (a b : List ℕ) (p : (k : ℕ) → slice_index a k < 256) (q : (k : ℕ) → slice_index b k < 256) where
  all_zero : (j : ℕ) → AreZeroBytes j 0
  all_zero zero = tt
  all_zero (suc j) = (0, refl, all_zero j)

  pub words_equal : (n i : ℕ) → i + n ≤ length a → i + n ≤ length b → little_from i n a ≡ little_from i n b → take i a ≡ take i b → take (i + n) a ≡ take (i + n) b
  words_equal n i h k e same = low_equal a b p q n n i 0 (omega arith) h k (omega (arith, e)) (all_zero n) same

  -- if two words differ, the low zero bytes of their difference count the equal bytes
  pub words_differ : (n i j x y : ℕ) → j ≤ n → i + n ≤ length a → i + n ≤ length b → x ≡ little_from i n a → y ≡ little_from i n b → AreZeroBytes j (abs_diff x y)
      → take i a ≡ take i b → take (i + j) a ≡ take (i + j) b
  words_differ n i j x y l h k e f zeros same = ⊎_elim
      (λ less. sym (low_equal b a q p j n i (abs_diff x y) l k h (omega (arith, less, e, f)) zeros (sym same)))
      (λ more. low_equal a b p q j n i (abs_diff x y) l h k (omega (arith, more, e, f)) zeros same)
      (cases_lt x y)
