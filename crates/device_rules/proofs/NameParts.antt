-- The parts of a temporary file's name.
use Rattle.std.specs.Prelude.{ℕ, List, Option, Some, None, codes, MatchOption}
use Rattle.std.proofs.Common.{◌≡◌, ◌≢◌, ◌∷◌, ◌++◌, ◌&&◌, ◌<◌, [], true, length, ap, sym, refl, ◌∙◌, ◌==◌, ◌+◌, Bool, false, get_or, take, drop, subst, arith}
use Rattle.std.proofs.lemmas.Grind.{common_steps}
use Rattle.std.proofs.lemmas.List.{append_cancel_left, length-append}
use Rattle.std.proofs.Math.Seq.{take-append_seam, drop-append-add}
use Rattle.device_rules.specs.Temporary.{IsMadeBy, is_number}
use Rattle.std.specs.Borrow.{Bor}
use Rattle.std.specs.List.{after_first, before_first, list_all, position_or_len}
use Rattle.std.specs.Char.{is_ascii_digit}
use Rattle.std.proofs.lemmas.List.Sums.{passes_at_first, split_at_first}
use Rattle.std.proofs.lemmas.Bool.Decides.{nat_tests}
use Rattle.std.specs.Str.Pattern.{FindsTextPrefix, StripsPrefix}
use Rattle.std.proofs.lemmas.Str.Pattern.{IsSplitOnceResult, split_once_first}
use Rattle.lib_types.specs.Bytes.{is_byte}

pub stripped : (front text : List ℕ) (r : Option (Bor (List ℕ))) → MatchOption r (FindsTextPrefix front text None) (λ x. StripsPrefix (FindsTextPrefix front) text x.now)
    → MatchOption r ((rest : List ℕ) → text ≢ front ++ rest) (λ rest. text ≡ front ++ rest.now)
stripped front text None h = h
stripped front text (Some x) h = h.1.1 ∙ ap (λ z. front ++ z) (sym h.2)

pub at_first : (text : List ℕ) (r : Option (Bor (List ℕ) × Bor (List ℕ))) → IsSplitOnceResult 46 text r
    → MatchOption r (position_or_len (is_byte 46) text ≡ length text) (λ parts. (parts.0.now ≡ before_first (is_byte 46) text) × (parts.1.now ≡ after_first (is_byte 46) text) × (position_or_len (is_byte 46) text < length text))
at_first text None h = split_once_first 46 text None h (omega arith)
at_first text (Some x) h = let s = split_once_first 46 text (Some x) h (omega arith) in (s.1, s.2, s.0)

-- a text is what comes before its first dot, the dot, and what comes after it
pub at_dot_is : (text front rest : List ℕ) → front ≡ before_first (is_byte 46) text → rest ≡ after_first (is_byte 46) text → position_or_len (is_byte 46) text < length text → text ≡ front ++ (46 ∷ rest)
at_dot_is text front rest a b less =
    let dot : get_or text (position_or_len (is_byte 46) text) 0 ≡ 46 = is_dot _ (passes_at_first (is_byte 46) text 0 less) in
    rw a (rw b (split_at_first (is_byte 46) text 0 less ∙ ap (λ z. before_first (is_byte 46) text ++ (z ∷ after_first (is_byte 46) text)) dot))
  where
    is_dot : (b : ℕ) → (b == 46) ≡ true → b ≡ 46
    is_dot b h = grind (arith, nat_tests, h)

-- digits have no dot
pub first_dot : (tag rest : List ℕ) → list_all is_ascii_digit tag ≡ true → position_or_len (is_byte 46) (tag ++ (46 ∷ rest)) ≡ length tag
first_dot [] rest h = refl
first_dot (x ∷ xs) rest h = grind (arith, nat_tests, common_steps, first_dot xs rest, h)

pub is_made_by : (file name tail numbers tag rest process random : List ℕ) → name ≡ file ++ tail → tail ≡ codes ".tmp" ++ numbers → numbers ≡ tag ++ (46 ∷ rest) → rest ≡ process ++ (46 ∷ random) → is_number tag && is_number process && is_number random ≡ true → IsMadeBy file process name
is_made_by file name tail numbers tag rest process random a b c d e =
    record {
      tag = tag;
      random = random;
      numbers = e;
      is = a ∙ ap (λ z. file ++ z) (b ∙ ap (λ z. codes ".tmp" ++ z) (c ∙ ap (λ z. tag ++ (46 ∷ z)) d));
    }

are_digits : (text : List ℕ) → is_number text ≡ true → list_all is_ascii_digit text ≡ true
are_digits text h = (all_true _ _ h).1
  where
    all_true : (a b : Bool) → (a && b) ≡ true → (a ≡ true) × (b ≡ true)
    all_true true true h = (refl, refl)
    all_true true false h = absurd (cc)
    all_true false b h = absurd (cc)

all_numbers : (a b c : Bool) → (a && b && c) ≡ true → (a ≡ true) × (b ≡ true) × (c ≡ true)
all_numbers true true true h = (refl, refl, refl)
all_numbers true true false h = absurd (cc)
all_numbers true false c h = absurd (cc)
all_numbers false b c h = absurd (cc)

-- the parts of a text at its first dot, if they are a number and a rest
module _ (number rest text : List ℕ) (digits : is_number number ≡ true) (is : text ≡ number ++ (46 ∷ rest)) where
  position_is : position_or_len (is_byte 46) text ≡ length number
  position_is = subst (λ t. position_or_len (is_byte 46) t ≡ length number) (sym is) (first_dot number rest (are_digits number digits))

  pub has_dot : position_or_len (is_byte 46) text ≡ length text → ⊥
  has_dot e = absurd (omega (arith, position_is, e, ap length is, length-append number (46 ∷ rest)))

  pub before_is : before_first (is_byte 46) text ≡ number
  before_is = ap (λ n. take n text) position_is ∙ ap (take (length number)) is ∙ take-append_seam number (46 ∷ rest)

  pub after_is : after_first (is_byte 46) text ≡ rest
  after_is = ap (λ n. drop (n + 1) text) position_is ∙ ap (drop (length number + 1)) is ∙ drop-append-add number (46 ∷ rest) 1

-- the parts of a name, which some process made
module _ (file process name : List ℕ) (made : IsMadeBy file process name) where
  tail_is : (tail : List ℕ) → name ≡ file ++ tail → tail ≡ codes ".tmp" ++ (made.tag ++ (46 ∷ (process ++ (46 ∷ made.random))))
  tail_is tail e = append_cancel_left file _ _ (sym e ∙ made.is)

  numbers_are : (tail numbers : List ℕ) → name ≡ file ++ tail → tail ≡ codes ".tmp" ++ numbers → numbers ≡ made.tag ++ (46 ∷ (process ++ (46 ∷ made.random)))
  numbers_are tail numbers e f = append_cancel_left (codes ".tmp") _ _ (sym f ∙ tail_is tail e)

  each : (is_number made.tag ≡ true) × (is_number process ≡ true) × (is_number made.random ≡ true)
  each = all_numbers _ _ _ made.numbers

  pub no_numbers : (tail : List ℕ) → name ≡ file ++ tail → ((rest : List ℕ) → tail ≢ codes ".tmp" ++ rest) → ⊥
  no_numbers tail e none = none _ (tail_is tail e)

  module _ (tail numbers : List ℕ) (e : name ≡ file ++ tail) (f : tail ≡ codes ".tmp" ++ numbers) where
    abbrev after : List ℕ
    after = process ++ (46 ∷ made.random)

    pub no_tag : position_or_len (is_byte 46) numbers ≡ length numbers → ⊥
    no_tag none = has_dot made.tag after numbers each.0 (numbers_are tail numbers e f) none

    module _ (tag rest : List ℕ) (a : tag ≡ before_first (is_byte 46) numbers) (b : rest ≡ after_first (is_byte 46) numbers) where
      tag_is : tag ≡ made.tag
      tag_is = a ∙ before_is made.tag after numbers each.0 (numbers_are tail numbers e f)

      rest_is : rest ≡ process ++ (46 ∷ made.random)
      rest_is = b ∙ after_is made.tag after numbers each.0 (numbers_are tail numbers e f)

      pub no_process : position_or_len (is_byte 46) rest ≡ length rest → ⊥
      no_process none = has_dot process made.random rest each.1 rest_is none

      pub not_all : (first last : List ℕ) → first ≡ before_first (is_byte 46) rest → last ≡ after_first (is_byte 46) rest → (is_number tag && is_number first && is_number last) ≡ false → ⊥
      not_all first last x y = one_false _ _ _ (ap is_number tag_is ∙ each.0)
          (ap is_number (x ∙ before_is process made.random rest each.1 rest_is) ∙ each.1)
          (ap is_number (y ∙ after_is process made.random rest each.1 rest_is) ∙ each.2)
        where
          one_false : (a b c : Bool) → a ≡ true → b ≡ true → c ≡ true → (a && b && c) ≡ false → ⊥
          one_false true true true x y z h = absurd (cc)
          one_false true true false x y z h = absurd (cc)
          one_false true false c x y z h = absurd (cc)
          one_false false b c x y z h = absurd (cc)
