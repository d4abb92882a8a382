-- Reading a stack from its top.
use Rattle.std.proofs.Common.{◌≡◌, ℕ, ◌-◌, ◌<◌, ◌≤◌, true, false, List, ◌∷◌, length, take, get_or, reverse, Option, Some, refl, sym, ap, ◌∙◌, arith}
use Rattle.string_pool.specs.Hosts.{least, left_below, least_above}
use Rattle.string_pool.specs.SharedEnds.{ends_in}
use Rattle.string_pool.specs.declared.backward.Numbered.{Numbered}
use Rattle.string_pool.proofs.Tops.{top_of}

module _ (t : List ℕ) (stack : List Numbered) (n : ℕ) (top : Numbered) (low : 0 < n) (high : n ≤ length stack) (is : top ≡ get_or stack (n - 1) top) where
  on_top : reverse (take n stack) ≡ top ∷ reverse (take (n - 1) stack)
  on_top = top_of stack n top low high ∙ ap (λ (b : Numbered). b ∷ reverse (take (n - 1) stack)) (sym is)

  -- a text on top that ends in the text is taken
  pub taken_left : ends_in t top.text.now ≡ true → left_below t (reverse (take (n - 1) stack)) ≡ left_below t (reverse (take n stack))
  taken_left found = sym (ap (left_below t) on_top ∙ rw found refl)

  pub taken_least : (f : Option ℕ) → ends_in t top.text.now ≡ true
      → least_above t (Some (least f top.number)) (reverse (take (n - 1) stack)) ≡ least_above t f (reverse (take n stack))
  taken_least f found = sym (ap (least_above t f) on_top ∙ rw found refl)

  -- another one stays
  pub stays_left : ends_in t top.text.now ≡ false → reverse (take n stack) ≡ left_below t (reverse (take n stack))
  stays_left other = sym (ap (left_below t) on_top ∙ rw other refl ∙ sym on_top)

  pub stays_least : (f : Option ℕ) → ends_in t top.text.now ≡ false → f ≡ least_above t f (reverse (take n stack))
  stays_least f other = sym (ap (least_above t f) on_top ∙ rw other refl)

-- an empty stack
pub empty_left : (t : List ℕ) (stack : List Numbered) (n : ℕ) → n ≤ 0 → reverse (take n stack) ≡ left_below t (reverse (take n stack))
empty_left t stack n h = let none : n ≡ 0 = omega (arith, h) in rw none refl

pub empty_least : (t : List ℕ) (stack : List Numbered) (n : ℕ) (f : Option ℕ) → n ≤ 0 → f ≡ least_above t f (reverse (take n stack))
empty_least t stack n f h = let none : n ≡ 0 = omega (arith, h) in rw none refl
