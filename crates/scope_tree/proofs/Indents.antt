-- One level of indentation.
use Rattle.std.proofs.Common.{◌≡◌, ◌<◌, ◌-◌, ◌++◌, ℕ, zero, suc, codes, refl, arith}
use Rattle.scope_tree.specs.Printed.{indent}

pub indent_next : (n : ℕ) → 0 < n → indent n ≡ codes "    " ++ indent (n - 1)
indent_next zero some = absurd (omega (arith, some))
indent_next (suc n) some = let same : suc n - 1 ≡ n = omega arith in rw same refl
