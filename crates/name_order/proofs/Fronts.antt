-- Names that begin with different numbers compare by these numbers.
use Rattle.std.proofs.Common.{◌≡◌, ℕ, zero, suc, ◌⊎◌, inl, inr, ⊎_elim, Some, ◌<◌, ◌≤◌, Bool, true, false, get_or, List, [], ◌∷◌, None, length, drop, refl, ap, sym, subst, ◌∙◌, one-add, arith}
use Rattle.std.specs.declared.cmp.Ordering.{Ordering}
use Rattle.std.specs.declared.cmp.Ordering.TheVariants.{Less, Equal, Greater}
use Rattle.std.specs.Ordering.{MatchOrdering, nat_cmp, ordering_then}
use Rattle.std.specs.Cmp.{nat_cmp_is}
use Rattle.std.specs.Cmp.Lexicographic.{slice_cmp}
use Rattle.std.proofs.lemmas.Cmp.{ranked}
use Rattle.std.specs.Char.{IsAsciiDigit, is_ascii_digit}
use Rattle.std.specs.List.{fold, prefix_len}
use Rattle.std.proofs.lemmas.Bool.Decides.{nat_tests}
use Rattle.name_order.specs.Order.{token_cmp, token_order, tokens, tokens_after, with_digit}
use Rattle.name_order.specs.Digits.{AreDigits, AreEqualDigits, BeginsByNumber}
use Rattle.name_order.specs.Numbers.{GoOnWithNumbers}
use Rattle.name_order.proofs.Numbers.{stays_above}
use Rattle.name_order.proofs.Runs.{AreDigits-run, following, goes_on, run}

pub known_digit : (x : ℕ) → is_ascii_digit x ≡ true → IsAsciiDigit x
known_digit x e = grind (arith, nat_tests)

digit_known : (x : ℕ) → IsAsciiDigit x → is_ascii_digit x ≡ true
digit_known x d = grind (arith, nat_tests)

-- ---- runs of digits

-- the length of the run is the number of digits at the front
length-run : (xs : List ℕ) → length (run xs) ≡ prefix_len is_ascii_digit xs
length-run [] = refl
length-run (x ∷ xs) = by (is_ascii_digit x) refl (length-run xs)
  where
    by : (b : Bool) → is_ascii_digit x ≡ b → length (run xs) ≡ prefix_len is_ascii_digit xs → length (run (x ∷ xs)) ≡ prefix_len is_ascii_digit (x ∷ xs)
    by true e rest = rw (e, one-add (prefix_len is_ascii_digit xs)) (ap suc rest)
    by false e rest = rw e refl

-- a run begins with the first byte of the name
first-run : (xs : List ℕ) → 0 < prefix_len is_ascii_digit xs → (get_or (run xs) 0 0 ≡ get_or xs 0 0) × (48 ≤ get_or xs 0 0)
first-run [] some = absurd (omega arith)
first-run (x ∷ xs) some = by (is_ascii_digit x) refl
  where
    by : (b : Bool) → is_ascii_digit x ≡ b → (get_or (run (x ∷ xs)) 0 0 ≡ x) × (48 ≤ x)
    by true e = (rw (e, one-add (prefix_len is_ascii_digit xs)) refl, let d = known_digit x e in omega (arith, d.0, d.1))
    by false e = absurd (let none : prefix_len is_ascii_digit (x ∷ xs) ≡ 0 = simp e in omega arith)

-- a name that begins with a digit has the same tokens after a number that is 0 so far
from_nothing : (xs : List ℕ) → 0 < prefix_len is_ascii_digit xs → tokens xs ≡ tokens_after (Some 0) xs
unfolding tokens
from_nothing [] some = absurd (omega arith)
from_nothing (x ∷ xs) some = by (is_ascii_digit x) refl
  where
    by : (b : Bool) → is_ascii_digit x ≡ b → tokens (x ∷ xs) ≡ tokens_after (Some 0) (x ∷ xs)
    by true e = rw e refl
    by false e = absurd (let none : prefix_len is_ascii_digit (x ∷ xs) ≡ 0 = simp e in omega arith)

-- ---- numbers that continue the same number

-- the number with fewer digits is smaller, unless it continues 0 and the longer one begins with a zero
fewer_below : (n : ℕ) (xs ys : List ℕ) → AreDigits xs → (0 < n ⊎ 48 < get_or ys 0 0) → length xs < length ys → fold with_digit n xs < fold with_digit n ys
fewer_below n xs [] digits begun less = absurd (omega arith)
fewer_below n xs (y ∷ ys) digits begun less = stays_above n (with_digit n y) xs ys digits (⊎_elim (λ p. omega (arith, p)) (λ p. omega (arith, p)) begun) (omega arith)

-- if two numbers continue n with equally many digits, and the first of these digits differs, it decides
first_below : (n : ℕ) (xs ys : List ℕ) → AreDigits xs → length xs ≡ length ys → 0 < length xs → get_or xs 0 0 < get_or ys 0 0 → 48 ≤ get_or xs 0 0 → fold with_digit n xs < fold with_digit n ys
first_below n [] ys digits long some below least = absurd (omega arith)
first_below n (x ∷ xs) [] digits long some below least = absurd (omega arith)
first_below n (x ∷ xs) (y ∷ ys) digits long some below least = stays_above (with_digit n x) (with_digit n y) xs ys digits.1 (omega arith) (omega arith)

module _ (n : ℕ) (a b : List ℕ) where
  number_below : fold with_digit n (run a) < fold with_digit n (run b) → Less ≡ slice_cmp token_cmp (tokens_after (Some n) a) (tokens_after (Some n) b)
  number_below h = rw (goes_on n a, goes_on n b) (ap (λ r. ordering_then r (slice_cmp token_cmp (tokens_after None (following a)) (tokens_after None (following b)))) (nat_cmp_is (fold with_digit n (run a)) (fold with_digit n (run b)) Less h))

  number_above : fold with_digit n (run b) < fold with_digit n (run a) → Greater ≡ slice_cmp token_cmp (tokens_after (Some n) a) (tokens_after (Some n) b)
  number_above h = rw (goes_on n a, goes_on n b) (ap (λ r. ordering_then r (slice_cmp token_cmp (tokens_after None (following a)) (tokens_after None (following b)))) (nat_cmp_is (fold with_digit n (run a)) (fold with_digit n (run b)) Greater h))

  counts_decide : (0 < n ⊎ ((48 < get_or (run a) 0 0) × (48 < get_or (run b) 0 0))) → (prefix_len is_ascii_digit a ≡ prefix_len is_ascii_digit b → ⊥)
      → nat_cmp (prefix_len is_ascii_digit a) (prefix_len is_ascii_digit b) ≡ slice_cmp token_cmp (tokens_after (Some n) a) (tokens_after (Some n) b)
  counts_decide begun other = by (nat_cmp (prefix_len is_ascii_digit a) (prefix_len is_ascii_digit b)) (ranked (prefix_len is_ascii_digit a) (prefix_len is_ascii_digit b) _ refl)
    where
      p : length (run a) ≡ prefix_len is_ascii_digit a
      p = length-run a

      q : length (run b) ≡ prefix_len is_ascii_digit b
      q = length-run b

      by : (r : Ordering) → MatchOrdering r (prefix_len is_ascii_digit a < prefix_len is_ascii_digit b) (prefix_len is_ascii_digit a ≡ prefix_len is_ascii_digit b) (prefix_len is_ascii_digit b < prefix_len is_ascii_digit a)
          → r ≡ slice_cmp token_cmp (tokens_after (Some n) a) (tokens_after (Some n) b)
      by Less h = number_below (fewer_below n (run a) (run b) (AreDigits-run a) (⊎_elim inl (λ f. inr f.1) begun) (omega (arith, p, q, h)))
      by Equal h = absurd (other h)
      by Greater h = number_above (fewer_below n (run b) (run a) (AreDigits-run b) (⊎_elim inl (λ f. inr f.0) begun) (omega (arith, p, q, h)))

  first_decides : prefix_len is_ascii_digit a ≡ prefix_len is_ascii_digit b → 0 < prefix_len is_ascii_digit a → (get_or a 0 0 ≡ get_or b 0 0 → ⊥)
      → nat_cmp (get_or a 0 0) (get_or b 0 0) ≡ slice_cmp token_cmp (tokens_after (Some n) a) (tokens_after (Some n) b)
  first_decides long some other = by (nat_cmp (get_or a 0 0) (get_or b 0 0)) (ranked (get_or a 0 0) (get_or b 0 0) _ refl)
    where
      p : length (run a) ≡ prefix_len is_ascii_digit a
      p = length-run a

      q : length (run b) ≡ prefix_len is_ascii_digit b
      q = length-run b

      x : (get_or (run a) 0 0 ≡ get_or a 0 0) × (48 ≤ get_or a 0 0)
      x = first-run a some

      y : (get_or (run b) 0 0 ≡ get_or b 0 0) × (48 ≤ get_or b 0 0)
      y = first-run b (omega arith)

      by : (r : Ordering) → MatchOrdering r (get_or a 0 0 < get_or b 0 0) (get_or a 0 0 ≡ get_or b 0 0) (get_or b 0 0 < get_or a 0 0)
          → r ≡ slice_cmp token_cmp (tokens_after (Some n) a) (tokens_after (Some n) b)
      by Less h = number_below (first_below n (run a) (run b) (AreDigits-run a) (omega (arith, p, q, long)) (omega (arith, p, some)) (omega (arith, x.0, y.0, h)) (omega (arith, x.0, x.1)))
      by Equal h = absurd (other h)
      by Greater h = number_above (first_below n (run b) (run a) (AreDigits-run b) (omega (arith, p, q, long)) (omega (arith, p, q, long, some)) (omega (arith, x.0, y.0, h)) (omega (arith, y.0, y.1)))

-- ---- after equal digits

at_front : (k : ℕ) (xs : List ℕ) → get_or xs k 0 ≡ get_or (drop k xs) 0 0
at_front zero xs = refl
at_front (suc k) [] = refl
at_front (suc k) (x ∷ xs) = at_front k xs

-- the order of the names is the order of the tokens after k digits, with the number n read so far
abbrev After : ℕ → ℕ → List ℕ → List ℕ → Ordering → Type 0
After k n a b order = order ≡ slice_cmp token_cmp (tokens_after (Some n) (drop k a)) (tokens_after (Some n) (drop k b))

passed : (k n : ℕ) (a b : List ℕ) → 0 < n → AreEqualDigits k a b → (m : ℕ) × (0 < m) × After k m a b (slice_cmp token_cmp (tokens_after (Some n) a) (tokens_after (Some n) b))
passed zero n a b p e = (n, p, refl)
passed (suc k) n [] b p e = absurd e
passed (suc k) n (x ∷ a) [] p e = absurd e
passed (suc k) n (x ∷ a) (y ∷ b) p e =
    let dx : is_ascii_digit x ≡ true = digit_known x e.1 in
    let dy : is_ascii_digit y ≡ true = subst (λ z. is_ascii_digit z ≡ true) e.0 dx in
    let r = passed k (with_digit n x) a b (omega (arith, p)) e.2 in
    (r.0, r.1, rw (dx, dy) (ap (λ z. slice_cmp token_cmp (tokens_after (Some (with_digit n x)) a) (tokens_after (Some (with_digit n z)) b)) (sym e.0) ∙ r.2))

-- a number at the front has at least one digit
some_digit : (xs : List ℕ) → BeginsByNumber xs → 0 < prefix_len is_ascii_digit xs
some_digit [] p = absurd (omega (arith, p.0))
some_digit (x ∷ xs) p = let d : is_ascii_digit x ≡ true = grind (arith, nat_tests, p.0, p.1) in by (is_ascii_digit x) refl d
  where
    by : (b : Bool) → is_ascii_digit x ≡ b → b ≡ true → 0 < prefix_len is_ascii_digit (x ∷ xs)
    by true e d = rw e (omega arith)
    by false e d = absurd (cc)

first_above : (xs : List ℕ) → BeginsByNumber xs → 48 < get_or (run xs) 0 0
first_above xs p = let x = first-run xs (some_digit xs p) in omega (arith, x.0, p.0)

-- names that begin with numbers continue them after their equal digits
pub after_equal : (k : ℕ) (a b : List ℕ) → AreEqualDigits k a b → BeginsByNumber a → BeginsByNumber b → GoOnWithNumbers k a b
unfolding tokens
after_equal zero a b e first second = record {
  number = 0;
  begun = inr (first, second);
  order = rw (from_nothing a (some_digit a first), from_nothing b (some_digit b second)) refl;
}
after_equal (suc k) [] b e first second = absurd e
after_equal (suc k) (x ∷ a) [] e first second = absurd e
after_equal (suc k) (x ∷ a) (y ∷ b) e first second =
    let dx : is_ascii_digit x ≡ true = digit_known x e.1 in
    let dy : is_ascii_digit y ≡ true = subst (λ z. is_ascii_digit z ≡ true) e.0 dx in
    let r = passed k (with_digit 0 x) a b (omega (arith, first.0)) e.2 in
    record {
      number = r.0;
      begun = inl r.1;
      order = rw (dx, dy) (ap (λ z. slice_cmp token_cmp (tokens_after (Some (with_digit 0 x)) a) (tokens_after (Some (with_digit 0 z)) b)) (sym e.0) ∙ r.2);
    }

module _ (k : ℕ) (a b : List ℕ) (e : GoOnWithNumbers k a b) where
  pub more_digits : (prefix_len is_ascii_digit (drop k a) ≡ prefix_len is_ascii_digit (drop k b) → ⊥)
      → nat_cmp (prefix_len is_ascii_digit (drop k a)) (prefix_len is_ascii_digit (drop k b)) ≡ token_order a b
  more_digits other =
      counts_decide e.number (drop k a) (drop k b) (⊎_elim inl (λ f. inr (first_above (drop k a) f.0, first_above (drop k b) f.1)) e.begun) other ∙ sym e.order

  pub other_digit : prefix_len is_ascii_digit (drop k a) ≡ prefix_len is_ascii_digit (drop k b) → 0 < prefix_len is_ascii_digit (drop k a) → (get_or a k 0 ≡ get_or b k 0 → ⊥)
      → nat_cmp (get_or a k 0) (get_or b k 0) ≡ token_order a b
  other_digit long more other =
      let x = at_front k a in
      let y = at_front k b in
      (λ i. nat_cmp (x i) (y i)) ∙ first_decides e.number (drop k a) (drop k b) long more (λ same. other (x ∙ same ∙ sym y)) ∙ sym e.order
