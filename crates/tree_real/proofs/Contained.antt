-- The position of a text in bytes.
use Rattle.std.proofs.Common.{◌≡◌, ℕ, ◌<◌, true, false, ◌||◌, nat_eq, List, [], ◌∷◌, length, drop, refl, ap, sym, arith}
use Rattle.std.specs.List.{starts_with}
use Rattle.name_order.specs.LibraryName.{contains}

-- bytes that begin with the text contain it
pub begins : (text bytes : List ℕ) → starts_with nat_eq bytes text ≡ true → contains text bytes ≡ true
begins text [] e = e
begins text (x ∷ xs) e = ap (λ b. b || contains text xs) e

-- bytes that don't begin with the text contain it exactly if those after the first byte do
pub goes_on : (text bytes : List ℕ) → 0 < length bytes → starts_with nat_eq bytes text ≡ false → contains text (drop 1 bytes) ≡ contains text bytes
goes_on text [] some e = absurd (omega arith)
goes_on text (x ∷ xs) some e = sym (ap (λ b. b || contains text xs) e)

-- no bytes contain a text exactly if they begin with it
pub ends : (text bytes : List ℕ) → length bytes ≡ 0 → starts_with nat_eq bytes text ≡ contains text bytes
ends text [] none = refl
ends text (x ∷ xs) none = absurd (omega arith)

pub ruleset contained_laws = (begins, goes_on, ends)
