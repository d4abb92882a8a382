-- The position of `.so` in a name.
use Rattle.std.proofs.Common.{◌≡◌, ℕ, zero, suc, ◌-◌, ◌<◌, ◌≤◌, true, false, get_or, ◌&&◌, ◌||◌, nat_eq, List, [], ◌∷◌, length, drop, refl, ap, sym, subst, ◌∙◌, arith}
use Rattle.std.specs.Prelude.{codes}
use Rattle.std.proofs.Math.Bool.{or-true}
use Rattle.std.proofs.lemmas.Bool.Decides.{nat_tests}
use Rattle.std.specs.List.{starts_with}
use Rattle.name_order.specs.LibraryName.{contains}

-- if the first byte isn't a dot, `.so` doesn't begin here
pub other_first : (name : List ℕ) (at : ℕ) → at < length name → (get_or name at 0 ≡ 46 → ⊥) → false ≡ starts_with nat_eq (drop at name) (codes ".so")
other_first [] at h other = absurd (omega arith)
other_first (x ∷ xs) zero h other =
    let e : nat_eq 46 x ≡ false = grind (arith, nat_tests) in
    ap (λ b. b && starts_with nat_eq xs (codes "so")) (sym e)
other_first (x ∷ xs) (suc at) h other = other_first xs at (omega arith) other

-- if `.so` begins at i - 1, the name contains it
pub so_here : (name : List ℕ) (i : ℕ) → 0 < i → i ≤ length name → starts_with nat_eq (drop (i - 1) name) (codes ".so") ≡ true → true ≡ contains (codes ".so") name
so_here name zero some h e = absurd (omega arith)
so_here name (suc i) some h e = let d : suc i - 1 ≡ i = omega arith in at name i (omega arith) (subst (λ n. starts_with nat_eq (drop n name) (codes ".so") ≡ true) d e)
  where
    at : (name : List ℕ) (i : ℕ) → i < length name → starts_with nat_eq (drop i name) (codes ".so") ≡ true → true ≡ contains (codes ".so") name
    at [] i h e = absurd (omega arith)
    at (x ∷ xs) zero h e = ap (λ b. b || contains (codes ".so") xs) (sym e)
    at (x ∷ xs) (suc i) h e = sym (ap (λ b. starts_with nat_eq (x ∷ xs) (codes ".so") || b) (sym (at xs i (omega arith) e)) ∙ or-true (starts_with nat_eq (x ∷ xs) (codes ".so")))

-- if `.so` doesn't begin at i - 1 and isn't in the bytes from i on, it isn't in the bytes from i - 1 on
pub so_after : (name : List ℕ) (i : ℕ) → 0 < i → i ≤ length name → starts_with nat_eq (drop (i - 1) name) (codes ".so") ≡ false
    → contains (codes ".so") (drop i name) ≡ false → contains (codes ".so") (drop (i - 1) name) ≡ false
so_after name zero some h e following = absurd (omega arith)
so_after name (suc i) some h e following =
    let d : suc i - 1 ≡ i = omega arith in
    subst (λ n. contains (codes ".so") (drop n name) ≡ false) (sym d) (at name i (omega arith) (subst (λ n. starts_with nat_eq (drop n name) (codes ".so") ≡ false) d e) following)
  where
    at : (name : List ℕ) (i : ℕ) → i < length name → starts_with nat_eq (drop i name) (codes ".so") ≡ false → contains (codes ".so") (drop (suc i) name) ≡ false
        → contains (codes ".so") (drop i name) ≡ false
    at [] i h e following = absurd (omega arith)
    at (x ∷ xs) zero h e following = ap (λ b. b || contains (codes ".so") xs) e ∙ following
    at (x ∷ xs) (suc i) h e following = at xs i (omega arith) e following

-- the empty rest of a name doesn't contain `.so`
pub so_at_end : (name : List ℕ) → contains (codes ".so") (drop (length name) name) ≡ false
so_at_end [] = refl
so_at_end (x ∷ xs) = so_at_end xs

pub ruleset so_laws = (so_after, so_at_end)
