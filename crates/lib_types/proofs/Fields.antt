-- Numbers in a part of a list of bytes.
use Rattle.std.proofs.Common.{◌≡◌, ℕ, zero, suc, ◌+◌, ◌≤◌, List, take, drop, refl, ap, sym, ◌∙◌, arith, get_or-drop}
use Rattle.byteorder.specs.Numbers.{little_from-take}
use Rattle.lib_types.specs.Bytes.{field}

-- bytes i to i + n of the rest after `at` bytes are bytes at + i to at + i + n of the list
pub drop_from : (i n at : ℕ) (xs : List ℕ) → field (drop at xs) i n ≡ field xs (at + i) n
drop_from i zero at xs = refl
drop_from i (suc n) at xs =
    let e : at + suc i ≡ suc (at + i) = omega arith in
    rw (get_or-drop at xs i 0, drop_from (suc i) n at xs, e) refl

-- the same for i = 0
pub field_drop : (n at : ℕ) (xs : List ℕ) → field (drop at xs) 0 n ≡ field xs at n
field_drop n at xs = drop_from 0 n at xs ∙ ap (λ k. field xs k n) (omega arith)

-- the same for a window of m bytes at `at`
pub field_window : (m at i j n : ℕ) (xs : List ℕ) → i + n ≤ m → j ≡ at + i → field (take m (drop at xs)) i n ≡ field xs j n
field_window m at i j n xs h e = little_from-take i n m (drop at xs) h ∙ drop_from i n at xs ∙ ap (λ k. field xs k n) (sym e)
