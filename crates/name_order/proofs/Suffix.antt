-- A name with a suffix ends with the last byte of the suffix.
use Rattle.std.proofs.Common.{◌≡◌, ℕ, ◌+◌, ◌-◌, ◌<◌, ◌≤◌, Bool, true, false, nat_eq, List, ◌++◌, length, take, get_or, refl, ap, sym, ◌∙◌, arith}
use Rattle.std.proofs.lemmas.Bool.Decides.{Decides-eqb}
use Rattle.std.proofs.lemmas.List.{get_or-append-add, length-append}
use Rattle.std.proofs.lemmas.Slice.Eq.{ends_is}
use Rattle.std.specs.List.{ends_with}

by_test : (b : Bool) {X : Type 0} → (b ≡ true → X) → (b ≡ false → X) → X
by_test true some none = some refl
by_test false some none = none refl

parted : (name suffix : List ℕ) → ends_with nat_eq name suffix ≡ true → (front : List ℕ) × (name ≡ front ++ suffix)
parted name suffix e = (take (length name - length suffix) name, (ends_is Decides-eqb name suffix (ends_with nat_eq name suffix) refl).0 e)

pub too_short : (name suffix : List ℕ) → length name < length suffix → false ≡ ends_with nat_eq name suffix
too_short name suffix less = by_test (ends_with nat_eq name suffix)
    (λ e. let p = parted name suffix e in absurd (omega (arith, ap length p.1 ∙ length-append p.0 suffix)))
    sym

pub other_end : (name suffix : List ℕ) → 0 < length suffix → length suffix ≤ length name → (get_or name (length name - 1) 0 ≡ get_or suffix (length suffix - 1) 0 → ⊥) → false ≡ ends_with nat_eq name suffix
other_end name suffix some long other = by_test (ends_with nat_eq name suffix)
    (λ e.
    let p = parted name suffix e in
    let last : length name - 1 ≡ length p.0 + (length suffix - 1) = omega (arith, ap length p.1 ∙ length-append p.0 suffix) in
    absurd (other (ap (λ n. get_or name n 0) last ∙ ap (λ z. get_or z (length p.0 + (length suffix - 1)) 0) p.1 ∙ get_or-append-add p.0 suffix (length suffix - 1) 0)))
    sym
