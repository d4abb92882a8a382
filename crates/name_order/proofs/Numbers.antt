-- The comparison of two runs of digits, without a copy, gives the order of their numbers.
use Rattle.std.proofs.Common.{◌≡◌, ℕ, ◌+◌, ◌<◌, ◌≤◌, Bool, true, false, cond, ◌==◌, List, [], ◌∷◌, length, drop, refl, ◌∙◌, ap, one-add, arith}
use Rattle.std.specs.declared.cmp.Ordering.{Ordering}
use Rattle.std.specs.declared.cmp.Ordering.TheVariants.{Less, Equal, Greater}
use Rattle.std.specs.Ordering.{MatchOrdering, nat_cmp, ordering_then}
use Rattle.std.specs.Cmp.{nat_cmp_is}
use Rattle.std.specs.Cmp.Lexicographic.{slice_cmp}
use Rattle.std.specs.List.{fold, prefix_len}
use Rattle.std.specs.Bool.{⊤}
use Rattle.std.specs.Str.{byte}
use Rattle.std.proofs.lemmas.Cmp.{ranked}
use Rattle.std.proofs.lemmas.Bool.Decides.{nat_tests}
use Rattle.name_order.specs.Order.{value, with_digit}
use Rattle.name_order.specs.Digits.{AreDigits, significant}

-- the greater number stays greater if at least as many digits follow it
pub stays_above : (m n : ℕ) (xs ys : List ℕ) → AreDigits xs → m < n → length xs ≤ length ys → fold with_digit m xs < fold with_digit n ys
stays_above m n [] [] digits above short = above
stays_above m n [] (y ∷ ys) digits above short = stays_above m (with_digit n y) [] ys digits (omega arith) (omega arith)
stays_above m n (x ∷ xs) [] digits above short = absurd (omega arith)
stays_above m n (x ∷ xs) (y ∷ ys) digits above short =
    stays_above (with_digit m x) (with_digit n y) xs ys digits.1 (omega arith) (omega arith)

-- runs of equal length compare by their bytes
same_length : (n : ℕ) (xs ys : List ℕ) → AreDigits xs → AreDigits ys → length xs ≡ length ys → slice_cmp nat_cmp xs ys ≡ nat_cmp (fold with_digit n xs) (fold with_digit n ys)
same_length n [] [] first second long = nat_cmp_is n n Equal refl
same_length n [] (y ∷ ys) first second long = absurd (omega arith)
same_length n (x ∷ xs) [] first second long = absurd (omega arith)
same_length n (x ∷ xs) (y ∷ ys) first second long =
    by (nat_cmp x y) (ranked x y _ refl) (same_length (with_digit n x) xs ys first.1 second.1 (omega arith))
  where
    by : (r : Ordering) → MatchOrdering r (x < y) (x ≡ y) (y < x)
        → slice_cmp nat_cmp xs ys ≡ nat_cmp (fold with_digit (with_digit n x) xs) (fold with_digit (with_digit n x) ys)
        → ordering_then r (slice_cmp nat_cmp xs ys) ≡ nat_cmp (fold with_digit (with_digit n x) xs) (fold with_digit (with_digit n y) ys)
    by Less h rest = nat_cmp_is _ _ Less (stays_above (with_digit n x) (with_digit n y) xs ys first.1 (omega arith) (omega arith))
    by Equal h rest = rest ∙ ap (λ z. nat_cmp (fold with_digit (with_digit n x) xs) (fold with_digit (with_digit n z) ys)) h
    by Greater h rest = nat_cmp_is _ _ Greater (stays_above (with_digit n y) (with_digit n x) ys xs second.1 (omega arith) (omega arith))

-- the first digit isn't zero
abbrev IsTrimmed : List ℕ → Type 0
IsTrimmed [] = ⊤
IsTrimmed (x ∷ xs) = byte "0" < x

-- a run without a leading zero is above any shorter run
longer : (xs ys : List ℕ) → AreDigits xs → IsTrimmed ys → length xs < length ys → value xs < value ys
longer xs [] digits trimmed short = absurd (omega arith)
longer xs (y ∷ ys) digits trimmed short = stays_above 0 (with_digit 0 y) xs ys digits (omega arith) (omega arith)

significant-cons : (x : ℕ) (xs : List ℕ) → significant (x ∷ xs) ≡ cond (x == 48) (significant xs) (x ∷ xs)
significant-cons x xs = by (x == 48)
  where
    by : (b : Bool) → drop (cond b (1 + prefix_len (λ digit. digit == byte "0") xs) 0) (x ∷ xs) ≡ cond b (significant xs) (x ∷ xs)
    by true = ap (λ n. drop n (x ∷ xs)) (one-add _)
    by false = refl

-- ys is xs without the leading zeros: it has no leading zero, and the same value
record Trims (xs ys : List ℕ) : Type 0 where
  digits : AreDigits ys
  trimmed : IsTrimmed ys
  value : value ys ≡ value xs

trims : (xs : List ℕ) → AreDigits xs → Trims xs (significant xs)
trims [] digits = record { digits = digits; trimmed = tt; value = refl }
trims (x ∷ xs) digits = by (x == 48) refl (trims xs digits.1)
  where
    by : (b : Bool) → (x == 48) ≡ b → Trims xs (significant xs) → Trims (x ∷ xs) (significant (x ∷ xs))
    by true e rest = rw (significant-cons x xs, e) (record { digits = rest.digits; trimmed = rest.trimmed; value = grind (arith, nat_tests) })
    by false e rest = rw (significant-cons x xs, e) (record { digits = digits; trimmed = grind (arith, nat_tests); value = refl })

trimmed_compared : (xs ys : List ℕ) → AreDigits xs → AreDigits ys → IsTrimmed xs → IsTrimmed ys →
    ordering_then (nat_cmp (length xs) (length ys)) (slice_cmp nat_cmp xs ys) ≡ nat_cmp (value xs) (value ys)
trimmed_compared xs ys first second x_trimmed y_trimmed = by (nat_cmp (length xs) (length ys)) (ranked (length xs) (length ys) _ refl)
  where
    by : (r : Ordering) → MatchOrdering r (length xs < length ys) (length xs ≡ length ys) (length ys < length xs)
        → ordering_then r (slice_cmp nat_cmp xs ys) ≡ nat_cmp (value xs) (value ys)
    by Less h = nat_cmp_is _ _ Less (longer xs ys first y_trimmed h)
    by Equal h = same_length 0 xs ys first second h
    by Greater h = nat_cmp_is _ _ Greater (longer ys xs second x_trimmed h)

-- without leading zeros, the longer run of digits is the greater number
pub compared : (a b : List ℕ) → AreDigits a → AreDigits b →
    ordering_then (nat_cmp (length (significant a)) (length (significant b))) (slice_cmp nat_cmp (significant a) (significant b)) ≡ nat_cmp (value a) (value b)
compared a b first second =
    let x = trims a first in
    let y = trims b second in
    trimmed_compared (significant a) (significant b) x.digits y.digits x.trimmed y.trimmed ∙ λ i. nat_cmp (x.value i) (y.value i)

pub ruleset number_laws = (compared)
