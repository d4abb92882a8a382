-- Lines that are continued on the next line.
use Rattle.std.proofs.Common.{◌≡◌, ◌-◌, ℕ, zero, suc, true, List, [], ◌∷◌, length, drop, subst, arith}
use Rattle.manifest_words.specs.Lines.{goes_on}

less : (n : ℕ) → suc n - 1 ≡ n
less n = omega arith

-- a line that is continued is continued with one more byte in front, too
following : (b : ℕ) (bytes : List ℕ) → goes_on bytes ≡ true → goes_on (b ∷ bytes) ≡ true
following b [] e = absurd (cc)
following b (c ∷ rest) e = rw (less (suc (length rest))) (rw (less (length rest)) at e)

dropped : (k : ℕ) (bytes : List ℕ) → goes_on (drop k bytes) ≡ true → goes_on bytes ≡ true
dropped zero bytes e = e
dropped (suc k) [] e = e
dropped (suc k) (b ∷ bytes) e = following b bytes (dropped k bytes e)

-- the bytes after the first n bytes are continued only if the line is
pub rest_ends : (bytes rest : List ℕ) (n : ℕ) → rest ≡ drop n bytes → goes_on rest ≡ true → goes_on bytes ≡ true
rest_ends bytes rest n whole e = dropped n bytes (subst (λ r. goes_on r ≡ true) whole e)
