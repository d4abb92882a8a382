-- Names with a common prefix compare by the rest of the names, if the rest begins at a part.
use Rattle.std.proofs.Common.{◌≡◌, ◌⊎◌, inl, inr, ⊎_elim, ℕ, zero, suc, ◌-◌, ◌<◌, ◌≤◌, Bool, true, false, get_or, List, [], ◌∷◌, ◌++◌, Option, Some, None, unwrap_or, length, take, drop, refl, ap, sym, subst, ◌∙◌, arith}
use Rattle.std.proofs.lemmas.Bool.{cases_lt}
use Rattle.std.proofs.lemmas.Bool.Decides.{nat_tests}
use Rattle.std.proofs.lemmas.Cmp.{nat_cmp_total, tied_itself}
use Rattle.std.specs.declared.cmp.Ordering.{Ordering}
use Rattle.std.specs.Char.{IsAsciiDigit, is_ascii_digit}
use Rattle.std.specs.Cmp.Lexicographic.{slice_cmp}
use Rattle.std.specs.Ordering.{ordering_then}
use Rattle.name_order.specs.Digits.{AreDigitsWithin, AreEqualDigits, EndsInNumber, HaveNoDigit, IsFree}
use Rattle.name_order.specs.Numbers.{GoOnWithNumbers}
use Rattle.name_order.specs.Order.{Byte, Number, Token, number_token, token_cmp, token_order, tokens, tokens_after, with_digit}
use Rattle.name_order.proofs.Fronts.{known_digit}

-- ---- from the start of a part

-- a number that is read so far ends before this offset
abbrev Ends : Option ℕ → ℕ → List ℕ → Type 0
Ends number zero a = number ≡ None
Ends number (suc n) a = IsFree (suc n) a

-- the number ends before this offset, or no digit follows at it in either name
abbrev Parts : Option ℕ → ℕ → List ℕ → List ℕ → Type 0
Parts number n a b = Ends number n a ⊎ ((is_ascii_digit (get_or a n 0) ≡ false) × (is_ascii_digit (get_or b n 0) ≡ false))

same_first : (t : Token) (a b : List Token) → slice_cmp token_cmp (t ∷ a) (t ∷ b) ≡ slice_cmp token_cmp a b
same_first (Byte n) a b = ap (λ o. ordering_then o (slice_cmp token_cmp a b)) (tied_itself nat_cmp_total n)
same_first (Number n) a b = ap (λ o. ordering_then o (slice_cmp token_cmp a b)) (tied_itself nat_cmp_total n)

same_number : (number : Option ℕ) (a b : List Token) → slice_cmp token_cmp (number_token number ++ a) (number_token number ++ b) ≡ slice_cmp token_cmp a b
same_number None a b = refl
same_number (Some n) a b = same_first (Number n) a b

-- if no digit follows a number, its token is complete
number_ended : (n : ℕ) (xs : List ℕ) → is_ascii_digit (get_or xs 0 0) ≡ false → tokens_after (Some n) xs ≡ Number n ∷ tokens_after None xs
number_ended n [] h = refl
number_ended n (x ∷ xs) h = rw h refl

after_byte : (number : Option ℕ) (n x y : ℕ) (a b : List ℕ) → is_ascii_digit x ≡ false → Parts number (suc n) (x ∷ a) (y ∷ b) → Parts None n a b
after_byte number zero x y a b e parts = inl refl
after_byte number (suc n) x y a b e parts = parts

after_digit : (number next : Option ℕ) (n x y : ℕ) (a b : List ℕ) → is_ascii_digit x ≡ true → Parts number (suc n) (x ∷ a) (y ∷ b) → Parts next n a b
after_digit number next zero x y a b e (inl f) = absurd (cc)
after_digit number next zero x y a b e (inr f) = inr f
after_digit number next (suc n) x y a b e parts = parts

-- one more equal byte doesn't change the order
one_passed : (number : Option ℕ) (n x y : ℕ) (a b : List ℕ) (order : Ordering) → x ≡ y
    → ((next : Option ℕ) → Parts next n a b → slice_cmp token_cmp (tokens_after next a) (tokens_after next b) ≡ order)
    → Parts number (suc n) (x ∷ a) (y ∷ b) → slice_cmp token_cmp (tokens_after number (x ∷ a)) (tokens_after number (y ∷ b)) ≡ order
one_passed number n x y a b order same rest parts = by (is_ascii_digit x) refl
  where
    other : (d : Bool) → is_ascii_digit x ≡ d → is_ascii_digit y ≡ d
    other d e = subst (λ z. is_ascii_digit z ≡ d) same e

    by : (d : Bool) → is_ascii_digit x ≡ d → slice_cmp token_cmp (tokens_after number (x ∷ a)) (tokens_after number (y ∷ b)) ≡ order
    by true e =
        let next = with_digit (unwrap_or number 0) x in
        rw (e, other true e) (ap (λ z. slice_cmp token_cmp (tokens_after (Some next) a) (tokens_after (Some (with_digit (unwrap_or number 0) z)) b)) (sym same)
        ∙ rest (Some next) (after_digit number (Some next) n x y a b e parts))
    by false e =
        rw (e, other false e) (same_number number (Byte x ∷ tokens_after None a) (Byte y ∷ tokens_after None b)
        ∙ ap (λ z. slice_cmp token_cmp (Byte x ∷ tokens_after None a) (Byte z ∷ tokens_after None b)) (sym same)
        ∙ same_first (Byte x) (tokens_after None a) (tokens_after None b)
        ∙ rest None (after_byte number n x y a b e parts))

passed : (n : ℕ) (number : Option ℕ) (a b : List ℕ) → n ≤ length a → n ≤ length b → take n a ≡ take n b → Parts number n a b
    → slice_cmp token_cmp (tokens_after number a) (tokens_after number b) ≡ slice_cmp token_cmp (tokens_after None (drop n a)) (tokens_after None (drop n b))
passed zero None a b h k same parts = refl
passed zero (Some m) a b h k same (inl e) = absurd (cc)
passed zero (Some m) a b h k same (inr p) = rw (number_ended m a p.0, number_ended m b p.1) (same_first (Number m) (tokens_after None a) (tokens_after None b))
passed (suc n) number [] b h k same parts = absurd (omega arith)
passed (suc n) number (x ∷ a) [] h k same parts = absurd (omega arith)
passed (suc n) number (x ∷ a) (y ∷ b) h k same parts =
    let first : x ≡ y = cc in
    let rest : take n a ≡ take n b = cc in
    one_passed number n x y a b (slice_cmp token_cmp (tokens_after None (drop n a)) (tokens_after None (drop n b))) first
    (λ next p. passed n next a b (omega arith) (omega arith) rest p) parts

fewer_alike : (m n : ℕ) (a b : List ℕ) → m ≤ n → take n a ≡ take n b → take m a ≡ take m b
fewer_alike zero n a b h same = refl
fewer_alike (suc m) zero a b h same = absurd (omega arith)
fewer_alike (suc m) (suc n) [] [] h same = refl
fewer_alike (suc m) (suc n) [] (y ∷ b) h same = absurd (cc)
fewer_alike (suc m) (suc n) (x ∷ a) [] h same = absurd (cc)
fewer_alike (suc m) (suc n) (x ∷ a) (y ∷ b) h same =
    let first : x ≡ y = cc in
    let rest : take n a ≡ take n b = cc in
    (λ j. first j ∷ fewer_alike m n a b (omega arith) rest j)

-- the common prefix doesn't change the order if no digit follows it
pub passed_to_byte : (a b : List ℕ) (n : ℕ) → n ≤ length a → n ≤ length b → take n a ≡ take n b → is_ascii_digit (get_or a n 0) ≡ false → is_ascii_digit (get_or b n 0) ≡ false
    → token_order (drop n a) (drop n b) ≡ token_order a b
unfolding tokens
passed_to_byte a b n h k same x y = sym (passed n None a b h k same (inr (x, y)))

-- the same, stated for the rest of the names
pub in_bytes : (a b : List ℕ) (n : ℕ) → n ≤ length a → n ≤ length b → take n a ≡ take n b → HaveNoDigit 0 (drop n a) (drop n b)
    → token_order (drop n a) (drop n b) ≡ token_order a b
in_bytes a b n h k same free = passed_to_byte a b n h k same (at n a free.0) (at n b free.1)
  where
    at : (n : ℕ) (xs : List ℕ) → is_ascii_digit (get_or (drop n xs) 0 0) ≡ false → is_ascii_digit (get_or xs n 0) ≡ false
    at zero xs f = f
    at (suc n) [] f = f
    at (suc n) (x ∷ xs) f = at n xs f

-- the first m bytes don't change the order if byte m - 1 isn't a digit
pub passed_to_number : (a b : List ℕ) (m n : ℕ) → m ≤ n → n ≤ length a → n ≤ length b → take n a ≡ take n b → IsFree m a
    → token_order (drop m a) (drop m b) ≡ token_order a b
unfolding tokens
passed_to_number a b m n l h k same free = sym (passed m None a b (omega arith) (omega arith) (fewer_alike m n a b l same) (inl (ends m free)))
  where
    ends : (m : ℕ) → IsFree m a → Ends None m a
    ends zero f = refl
    ends (suc m) f = f

-- ---- in the middle of a number

-- a number that ends in a digit other than zero is above zero
above_nothing : (n x : ℕ) → 48 < x → 0 < with_digit n x
above_nothing n x h = omega arith

-- after the first n bytes, both names have read the same number m > 0
abbrev GoesOn : ℕ → List ℕ → List ℕ → Ordering → Type 0
GoesOn n a b order = (m : ℕ) × (0 < m) × (order ≡ slice_cmp token_cmp (tokens_after (Some m) (drop n a)) (tokens_after (Some m) (drop n b)))

one_more : (number : Option ℕ) (n x y : ℕ) (a b : List ℕ) → x ≡ y → ((next : Option ℕ) → GoesOn n a b (slice_cmp token_cmp (tokens_after next a) (tokens_after next b)))
    → GoesOn n a b (slice_cmp token_cmp (tokens_after number (x ∷ a)) (tokens_after number (y ∷ b)))
one_more number n x y a b same rest = by (is_ascii_digit x) refl
  where
    other : (d : Bool) → is_ascii_digit x ≡ d → is_ascii_digit y ≡ d
    other d e = subst (λ z. is_ascii_digit z ≡ d) same e

    by : (d : Bool) → is_ascii_digit x ≡ d → GoesOn n a b (slice_cmp token_cmp (tokens_after number (x ∷ a)) (tokens_after number (y ∷ b)))
    by true e =
        let next = with_digit (unwrap_or number 0) x in
        let r = rest (Some next) in
        (r.0, r.1, rw (e, other true e) (ap (λ z. slice_cmp token_cmp (tokens_after (Some next) a) (tokens_after (Some (with_digit (unwrap_or number 0) z)) b)) (sym same) ∙ r.2))
    by false e =
        let r = rest None in (
          r.0,
          r.1,
          rw (e, other false e) (same_number number (Byte x ∷ tokens_after None a) (Byte y ∷ tokens_after None b)
              ∙ ap (λ z. slice_cmp token_cmp (Byte x ∷ tokens_after None a) (Byte z ∷ tokens_after None b)) (sym same)
              ∙ same_first (Byte x) (tokens_after None a) (tokens_after None b) ∙ r.2),
        )

goes_on_with : (n : ℕ) (number : Option ℕ) (a b : List ℕ) → n < length a → n < length b → take (suc n) a ≡ take (suc n) b → EndsInNumber (suc n) a
    → GoesOn (suc n) a b (slice_cmp token_cmp (tokens_after number a) (tokens_after number b))
goes_on_with n number [] b h k same e = absurd (omega arith)
goes_on_with n number (x ∷ a) [] h k same e = absurd (omega arith)
goes_on_with zero number (x ∷ a) (y ∷ b) h k same e =
    let first : x ≡ y = cc in
    let dx : is_ascii_digit x ≡ true = grind (arith, nat_tests, e.0, e.1) in
    let dy : is_ascii_digit y ≡ true = subst (λ z. is_ascii_digit z ≡ true) first dx in
    let next = with_digit (unwrap_or number 0) x in (
      next,
      above_nothing (unwrap_or number 0) x e.0,
      rw (dx, dy) (ap (λ z. slice_cmp token_cmp (tokens_after (Some next) a) (tokens_after (Some (with_digit (unwrap_or number 0) z)) b)) (sym first)),
    )
goes_on_with (suc n) number (x ∷ a) (y ∷ b) h k same e =
    let first : x ≡ y = cc in
    let rest : take (suc n) a ≡ take (suc n) b = cc in
    one_more number (suc n) x y a b first (λ next. goes_on_with n next a b (omega arith) (omega arith) rest e)

-- names whose common prefix ends in a number continue with that number
pub in_numbers : (n : ℕ) (a b : List ℕ) → n ≤ length a → n ≤ length b → take n a ≡ take n b → EndsInNumber n a → GoOnWithNumbers n a b
unfolding tokens
in_numbers zero a b h k same e = absurd e
in_numbers (suc n) a b h k same e =
    let r = goes_on_with n None a b (omega arith) (omega arith) same e in
    record { number = r.0; begun = inl r.1; order = r.2 }

-- ---- equal digits

digits_alike_first : (n : ℕ) (a b : List ℕ) → n ≤ length a → n ≤ length b → take n a ≡ take n b → AreDigitsWithin a 0 n → AreEqualDigits n a b
digits_alike_first zero a b h k same d = tt
digits_alike_first (suc n) [] b h k same d = absurd (omega arith)
digits_alike_first (suc n) (x ∷ a) [] h k same d = absurd (omega arith)
digits_alike_first (suc n) (x ∷ a) (y ∷ b) h k same d =
    let first : x ≡ y = cc in
    let rest : take n a ≡ take n b = cc in
    (first, d 0 (omega arith) (omega arith), digits_alike_first n a b (omega arith) (omega arith) rest (λ k low high. d (suc k) (omega arith) (omega arith)))

-- equal bytes that are digits are equal digits
pub digits_alike : (a b : List ℕ) (m n : ℕ) → m ≤ n → n ≤ length a → n ≤ length b → take n a ≡ take n b → AreDigitsWithin a m n → AreEqualDigits (n - m) (drop m a) (drop m b)
digits_alike a b zero n l h k same d = let e : n - zero ≡ n = omega arith in rw e (digits_alike_first n a b h k same d)
digits_alike a b (suc m) zero l h k same d = absurd (omega arith)
digits_alike [] b (suc m) (suc n) l h k same d = absurd (omega arith)
digits_alike (x ∷ a) [] (suc m) (suc n) l h k same d = absurd (omega arith)
digits_alike (x ∷ a) (y ∷ b) (suc m) (suc n) l h k same d =
    let rest : take n a ≡ take n b = cc in
    let e : suc n - suc m ≡ n - m = omega arith in
    rw e (digits_alike a b m n (omega arith) (omega arith) (omega arith) rest (λ k low high. d (suc k) (omega arith) (omega arith)))

pub none_alike : (a b : List ℕ) (n : ℕ) → AreEqualDigits (n - n) a b
none_alike a b n = let e : n - n ≡ 0 = omega arith in rw e tt

-- a digit directly before a run of digits extends the run
pub digit_before : (name : List ℕ) (begin end : ℕ) → 0 < begin → is_ascii_digit (get_or name (begin - 1) 0) ≡ true → AreDigitsWithin name begin end → AreDigitsWithin name (begin - 1) end
digit_before name begin end some d digits k low high = ⊎_elim
    (λ before. let e : begin - 1 ≡ k = omega arith in subst (λ n. IsAsciiDigit (get_or name n 0)) e (known_digit (get_or name (begin - 1) 0) d))
    (λ later. digits k later high)
    (cases_lt k begin)

pub none_before : (name : List ℕ) (begin : ℕ) → (0 < begin → ⊥) → IsFree begin name
none_before name zero none = tt
none_before name (suc n) none = absurd (none (omega arith))

pub byte_before : (name : List ℕ) (begin : ℕ) → 0 < begin → is_ascii_digit (get_or name (begin - 1) 0) ≡ false → IsFree begin name
byte_before name zero some other = absurd (omega arith)
byte_before name (suc n) some other = let e : suc n - 1 ≡ n = omega arith in subst (λ k. is_ascii_digit (get_or name k 0) ≡ false) e other

pub ruleset front_laws = (passed_to_byte, passed_to_number, digits_alike, none_alike)

pub ruleset digit_laws = (digit_before, none_before, byte_before)
