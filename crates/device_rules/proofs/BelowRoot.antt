-- A path without a leading slash is its own path below the root.
use Rattle.std.proofs.Common.{◌≡◌, ◌==◌, ℕ, false, List, [], ◌∷◌, refl, arith}
use Rattle.std.proofs.lemmas.Bool.Decides.{nat_tests}
use Rattle.device_rules.specs.Places.{below_root}

pub not_slash : (b : ℕ) → (b ≡ 47 → ⊥) → (b == 47) ≡ false
not_slash b none = grind (arith, nat_tests, none)

pub kept : (path : List ℕ) → ((rest : List ℕ) → path ≡ 47 ∷ rest → ⊥) → path ≡ below_root path
kept [] none = refl
kept (b ∷ path) none =
    let other : (b == 47) ≡ false = not_slash b (λ is. none path (rw is refl)) in
    rw other refl
