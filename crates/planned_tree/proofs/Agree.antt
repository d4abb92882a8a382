-- Functions that agree are one.
use Rattle.std.proofs.Common.{◌≡◌}

pub agree : {A B : Type 0} (f g : A → B) → ((x : A) → f x ≡ g x) → f ≡ g
agree f g same = λ i x. same x i
