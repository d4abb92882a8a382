-- What follows in the cases of a result.
use Rattle.std.proofs.Common.{Result, Ok, Err, OnOk}
use Rattle.std.specs.Prelude.{IfOk}

pub on_ok_by : {A E : Type 0} (P Q : Type 0) (r : Result A E) → (P → Q) → OnOk r P → OnOk r Q
on_ok_by P Q (Ok x) f p = f p
on_ok_by P Q (Err e) f p = tt

pub ok_then : {A E : Type 0} (P Q : A → Type 0) (r : Result A E) → ((a : A) → P a → Q a) → IfOk r P → IfOk r Q
ok_then P Q (Ok a) f p = f a p
ok_then P Q (Err e) f p = tt
