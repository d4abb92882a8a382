-- A run of digits at the front of a name is its first token.
use Rattle.std.proofs.Common.{◌≡◌, ℕ, ◌+◌, ◌<◌, Bool, true, false, get_or, ◌-◌, List, [], ◌∷◌, Some, None, length, take, drop, refl, one-add, arith}
use Rattle.std.specs.declared.cmp.Ordering.{Ordering}
use Rattle.std.specs.declared.cmp.Ordering.TheVariants.{Less, Equal, Greater}
use Rattle.std.specs.Ordering.{MatchOrdering, nat_cmp, ordering_then}
use Rattle.std.proofs.lemmas.Cmp.{ranked}
use Rattle.std.specs.Char.{IsAsciiDigit, is_ascii_digit}
use Rattle.std.specs.List.{fold, prefix_len}
use Rattle.std.specs.Cmp.Lexicographic.{slice_cmp}
use Rattle.std.proofs.lemmas.Bool.Decides.{nat_tests}
use Rattle.std.proofs.lemmas.List.{take_rest}
use Rattle.name_order.specs.Order.{Byte, Number, token_cmp, token_order, tokens, tokens_after, value, with_digit}
use Rattle.name_order.specs.Digits.{AreDigits}

-- the digits at the front, and the bytes after them
abbrev pub run : List ℕ → List ℕ
run xs = take (prefix_len is_ascii_digit xs) xs

abbrev pub following : List ℕ → List ℕ
following xs = drop (prefix_len is_ascii_digit xs) xs

-- a number that has begun continues to the last digit of the run
pub goes_on : (n : ℕ) (xs : List ℕ) → tokens_after (Some n) xs ≡ Number (fold with_digit n (run xs)) ∷ tokens_after None (following xs)
goes_on n [] = refl
goes_on n (x ∷ xs) = by (is_ascii_digit x) refl (goes_on (with_digit n x) xs)
  where
    by : (b : Bool) → is_ascii_digit x ≡ b
        → tokens_after (Some (with_digit n x)) xs ≡ Number (fold with_digit (with_digit n x) (run xs)) ∷ tokens_after None (following xs)
        → tokens_after (Some n) (x ∷ xs) ≡ Number (fold with_digit n (run (x ∷ xs))) ∷ tokens_after None (following (x ∷ xs))
    by true e rest = rw (e, one-add (prefix_len is_ascii_digit xs)) rest
    by false e rest = simp e

-- each byte of the run is a digit
pub AreDigits-run : (xs : List ℕ) → AreDigits (run xs)
AreDigits-run [] = tt
AreDigits-run (x ∷ xs) = by (is_ascii_digit x) refl (AreDigits-run xs)
  where
    digit : is_ascii_digit x ≡ true → IsAsciiDigit x
    digit e = grind (arith, nat_tests)

    by : (b : Bool) → is_ascii_digit x ≡ b → AreDigits (run xs) → AreDigits (run (x ∷ xs))
    by true e rest = rw (e, one-add (prefix_len is_ascii_digit xs)) (digit e, rest)
    by false e rest = rw e tt

-- the first token of a name that begins with a digit
pub tokens-run : (name : List ℕ) → 0 < prefix_len is_ascii_digit name → tokens name ≡ Number (value (run name)) ∷ tokens (following name)
unfolding tokens
tokens-run [] some = absurd (omega arith)
tokens-run (x ∷ xs) some = by (is_ascii_digit x) refl
  where
    by : (b : Bool) → is_ascii_digit x ≡ b → tokens (x ∷ xs) ≡ Number (value (run (x ∷ xs))) ∷ tokens (following (x ∷ xs))
    by true e = rw (e, one-add (prefix_len is_ascii_digit xs)) (goes_on (with_digit 0 x) xs)
    by false e = absurd (let none : prefix_len is_ascii_digit (x ∷ xs) ≡ 0 = simp e in omega arith)

-- the first token of any other name
pub tokens-byte : (name : List ℕ) → 0 < length name → prefix_len is_ascii_digit name ≡ 0 → tokens name ≡ Byte (get_or name 0 0) ∷ tokens (take (length name - 1) (drop 1 name))
unfolding tokens
tokens-byte [] some none = absurd (omega arith)
tokens-byte (x ∷ xs) some none = by (is_ascii_digit x) refl
  where
    by : (b : Bool) → is_ascii_digit x ≡ b → tokens (x ∷ xs) ≡ Byte x ∷ tokens (take (length (x ∷ xs) - 1) xs)
    by true e = absurd (let more : prefix_len is_ascii_digit (x ∷ xs) ≡ 1 + prefix_len is_ascii_digit xs = simp e in omega arith)
    by false e = rw (e, take_rest (x ∷ xs) 1) refl

-- an empty name is below any other name
pub end_below : (xs : List ℕ) → 0 < length xs → token_order [] xs ≡ Less
unfolding tokens
end_below [] some = absurd (omega arith)
end_below (x ∷ xs) some = by (is_ascii_digit x) refl
  where
    by : (b : Bool) → is_ascii_digit x ≡ b → slice_cmp token_cmp [] (tokens_after None (x ∷ xs)) ≡ Less
    by true e = rw (e, goes_on (with_digit 0 x) xs) refl
    by false e = rw e refl

-- if the first bytes differ and neither is a digit, they decide
pub first_decides : (a b : List ℕ) → 0 < length a → 0 < length b → (get_or a 0 0 ≡ get_or b 0 0 → ⊥) → is_ascii_digit (get_or a 0 0) ≡ false → is_ascii_digit (get_or b 0 0) ≡ false
    → nat_cmp (get_or a 0 0) (get_or b 0 0) ≡ token_order a b
unfolding tokens
first_decides [] b h k other first second = absurd (omega arith)
first_decides (x ∷ a) [] h k other first second = absurd (omega arith)
first_decides (x ∷ a) (y ∷ b) h k other first second = rw (first, second) (by (nat_cmp x y) (ranked x y _ refl))
  where
    by : (r : Ordering) → MatchOrdering r (x < y) (x ≡ y) (y < x) → r ≡ ordering_then r (slice_cmp token_cmp (tokens_after None a) (tokens_after None b))
    by Less e = refl
    by Equal e = absurd (other e)
    by Greater e = refl

pub ruleset run_laws = (AreDigits-run, tokens-run, tokens-byte)

pub ruleset end_laws = (end_below)
