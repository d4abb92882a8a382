-- The longest prefix of a list whose items pass a test.
use Rattle.std.proofs.Common.{◌≡◌, ℕ, zero, suc, ◌+◌, ◌≤◌, Bool, true, false, cond, List, [], ◌∷◌, take, refl, arith}
use Rattle.std.proofs.lemmas.Bool.{and_from}
use Rattle.std.specs.List.{list_all, prefix_len}

pub all_pass : {X : Type 0} (p : X → Bool) (n : ℕ) (xs : List X) → n ≤ prefix_len p xs → list_all p (take n xs) ≡ true
all_pass p zero xs h = refl
all_pass p (suc n) [] h = refl
all_pass p (suc n) (x ∷ xs) h = elim (p x) as (λ b. p x ≡ b → suc n ≤ cond b (1 + prefix_len p xs) 0 → list_all p (take (suc n) (x ∷ xs)) ≡ true) [
  | true ↦ λ e k. and_from _ _ e (all_pass p n xs (omega arith))
  | false ↦ λ e k. absurd (omega arith)
] refl h
