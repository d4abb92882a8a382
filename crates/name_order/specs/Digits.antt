-- Properties of runs of digits, for the contracts of private functions.
use Rattle.std.specs.Prelude.{◌≡◌, ◌<◌, ◌≤◌, false, slice_index_or, ℕ, zero, suc, List, [], ◌∷◌, drop, ◌==◌}
use Rattle.std.specs.Bool.{⊤}
use Rattle.std.specs.List.{AllByRecursion, prefix_len}
use Rattle.std.specs.Char.{IsAsciiDigit, is_ascii_digit}
use Rattle.std.specs.Str.{byte}

abbrev pub AreDigits : List ℕ → Type 0
AreDigits bytes = AllByRecursion IsAsciiDigit bytes

-- the digits without the zeros at the front
abbrev pub significant : List ℕ → List ℕ
significant digits = drop (prefix_len (λ digit. digit == byte "0") digits) digits

-- both lists begin with n equal digits
abbrev pub AreEqualDigits : ℕ → List ℕ → List ℕ → Type 0
AreEqualDigits zero a b = ⊤
AreEqualDigits (suc n) [] b = ⊥
AreEqualDigits (suc n) (x ∷ a) [] = ⊥
AreEqualDigits (suc n) (x ∷ a) (y ∷ b) = (x ≡ y) × IsAsciiDigit x × AreEqualDigits n a b

-- the first byte is a digit other than zero
abbrev pub BeginsByNumber : List ℕ → Type 0
BeginsByNumber name = (byte "0" < slice_index_or name 0 0) × (slice_index_or name 0 0 ≤ byte "9")

-- each byte from `begin` to before `end` is a digit
abbrev pub AreDigitsWithin : List ℕ → ℕ → ℕ → Type 0
AreDigitsWithin name begin end = (k : ℕ) → begin ≤ k → k < end → IsAsciiDigit (slice_index_or name k 0)

-- the byte directly before this offset isn't a digit
abbrev pub IsFree : ℕ → List ℕ → Type 0
IsFree zero name = ⊤
IsFree (suc n) name = is_ascii_digit (slice_index_or name n 0) ≡ false

-- neither name has a digit at this offset
abbrev pub HaveNoDigit : ℕ → List ℕ → List ℕ → Type 0
HaveNoDigit n a b = (is_ascii_digit (slice_index_or a n 0) ≡ false) × (is_ascii_digit (slice_index_or b n 0) ≡ false)

-- the byte directly before this offset is a digit other than zero
abbrev pub EndsInNumber : ℕ → List ℕ → Type 0
EndsInNumber zero name = ⊥
EndsInNumber (suc n) name = (byte "0" < slice_index_or name n 0) × (slice_index_or name n 0 ≤ byte "9")
