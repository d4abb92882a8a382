-- Numbers and their digits.
use Rattle.std.proofs.Common.{◌≡◌, ℕ, ◌<◌, ◌^◌, true, cond, ltb, List, length, Some, None, Ok, Err, Result, ap, sym, ◌∙◌, rules, arith, ◌≤◌, ◌+◌, ◌*◌, ◌-◌, leb, false, take, get_or, length-take}
use Rattle.std.specs.Char.{is_ascii_digit}
use Rattle.std.specs.List.{list_all}
use Rattle.std.specs.Result.{result_ok, OkIff}
use Rattle.std.specs.Str.{IsUtf8}
use Rattle.std.specs.Str.Parse.{digits_value, ParsesUnsigned}
use Rattle.std.proofs.lemmas.Bool.{cond-true, cond-false, lt-ltb, ltb-true, false_from_ne_true, and_parts, and_from, leb-true}
use Rattle.std.proofs.lemmas.Fmt.{IsAscii-from_digits}
use Rattle.std.proofs.lemmas.Str.{IsUtf8-from_ascii, digit_value_digit}
use Rattle.std.proofs.lemmas.Str.Parse.{IsNumeralModel, numerals_by_value, parse_digits, digits_value_short}
use Rattle.std.proofs.lemmas.Int.Digits.{digits_value_more}
use Rattle.std.proofs.lemmas.List.Folds.{list_all_at, list_all_more}

pub digits_model : IsNumeralModel (λ ds. list_all is_ascii_digit ds ≡ true) (digits_value 10)
digits_model = numerals_by_value _ (search rules)

module _ {E : Type 0} (m n : ℕ) where
  below_or_not : (r : Result ℕ E) → OkIff r (m < n) m → result_ok r ≡ cond (ltb m n) (Some m) None
  below_or_not (Ok x) h = ap Some h.1 ∙ sym (cond-true (ltb m n) (Some m) None (lt-ltb m n h.0))
  below_or_not (Err e) h = sym (cond-false (ltb m n) (Some m) None (false_from_ne_true (ltb m n) (λ t. h (ltb-true m n t))))

  without_some : (P : Type 0) (r : Result ℕ E) → P → OkIff r (P × (m < n)) m → OkIff r (m < n) m
  without_some P (Ok x) p h = (h.0.1, h.1)
  without_some P (Err e) p h = λ lt. h (p, lt)

-- the result of parsing digits
pub parsed : {E : Type 0} (bs : List ℕ) (r : Result ℕ E) → ParsesUnsigned 64 10 bs r → list_all is_ascii_digit bs ≡ true → 0 < length bs → result_ok r ≡ cond (ltb (digits_value 10 bs) (2 ^ 64)) (Some (digits_value 10 bs)) None
parsed bs r h digits some =
    below_or_not (digits_value 10 bs) (2 ^ 64) r
    (without_some (digits_value 10 bs) (2 ^ 64) (0 < length bs) r some (parse_digits digits_model 64 bs r h digits))

-- digits are valid UTF-8
pub digits_text : (bs : List ℕ) → list_all is_ascii_digit bs ≡ true → IsUtf8 bs
digits_text bs digits = IsUtf8-from_ascii bs (IsAscii-from_digits bs ((digits_model).to bs digits))

-- at most 19 digits represent a number below 10^19
short_value : (bs : List ℕ) → length bs ≤ 19 → list_all is_ascii_digit bs ≡ true → digits_value 10 bs < 10 ^ 19
short_value bs few digits = digits_value_short digits_model bs 19 digits few

pub short_fits : (bs : List ℕ) → length bs ≤ 19 → list_all is_ascii_digit bs ≡ true → digits_value 10 bs < 2 ^ 64
short_fits bs few digits = omega (arith, short_value bs few digits)

-- ---- one more digit of such a number

pub one_more_digit : (bs : List ℕ) (i : ℕ) → i < length bs → list_all is_ascii_digit (take i bs) ≡ true → is_ascii_digit (get_or bs i 0) ≡ true → list_all is_ascii_digit (take (i + 1) bs) ≡ true
one_more_digit bs i lt digits test =
    list_all_more is_ascii_digit bs i 0 lt ∙ and_from (list_all is_ascii_digit (take i bs)) (is_ascii_digit (get_or bs i 0)) digits test

pub record IsDigitStep (number digit more : ℕ) : Type 0 where
  pub low : 48 ≤ digit
  pub value : 10 * number + (digit - 48) ≡ more
  pub fits : more < 2 ^ 64

pub digit_step : (bs : List ℕ) (i : ℕ) → i < length bs → length bs ≤ 19 → list_all is_ascii_digit (take i bs) ≡ true → is_ascii_digit (get_or bs i 0) ≡ true → IsDigitStep (digits_value 10 (take i bs)) (get_or bs i 0) (digits_value 10 (take (i + 1) bs))
digit_step bs i lt few digits test =
    let bounds = and_parts (leb 48 (get_or bs i 0)) (leb (get_or bs i 0) 57) test in
    let low = leb-true 48 (get_or bs i 0) bounds.0 in
    let worth = digit_value_digit (get_or bs i 0) (low, leb-true (get_or bs i 0) 57 bounds.1) in
    let more = digits_value_more 10 bs i lt in
    record {
      low = low;
      value = omega arith;
      fits = omega (arith, short_value (take (i + 1) bs) (omega (arith, length-take (i + 1) bs)) (one_more_digit bs i lt digits test));
    }

-- if one byte isn't a digit, the bytes aren't all digits
pub no_digits : (bs : List ℕ) (i : ℕ) → i < length bs → is_ascii_digit (get_or bs i 0) ≡ false → list_all is_ascii_digit bs ≡ false
no_digits bs i lt test = list_all_at is_ascii_digit bs i 0 lt test
