-- Texts that are tested for equality.
use Rattle.std.proofs.Common.{◌≡◌, ℕ, true, List, refl, sym, ◌∙◌}
use Rattle.std.proofs.lemmas.Slice.Eq.{bytes_eq-Decides}
use Rattle.std.specs.Str.{bytes_eq}
use Rattle.lib_types.proofs.SortedPairs.{by_test}

pub itself : (x : List ℕ) → bytes_eq x x ≡ true
itself x = (bytes_eq-Decides x x).1 refl

pub exact : (x y : List ℕ) → bytes_eq x y ≡ true → x ≡ y
exact x y e = (bytes_eq-Decides x y).0 e

pub turned : (x z : List ℕ) → bytes_eq z x ≡ bytes_eq x z
turned x z = by_test (bytes_eq x z)
    (λ e. let same : x ≡ z = (bytes_eq-Decides x z).0 e in (bytes_eq-Decides z x).1 (sym same) ∙ sym e)
    (λ e. by_test (bytes_eq z x)
    (λ f. let same : z ≡ x = (bytes_eq-Decides z x).0 f in let there : bytes_eq x z ≡ true = (bytes_eq-Decides x z).1 (sym same) in absurd (cc))
    (λ f. f ∙ sym e))
