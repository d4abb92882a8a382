-- Consequences of the postconditions of a result.
use Rattle.std.proofs.Common.{Result, Ok, Err}
use Rattle.std.specs.Result.{IfErr}

pub if_err_by : {A E : Type 0} (P Q : E → Type 0) (r : Result A E) → ((e : E) → P e → Q e) → IfErr r P → IfErr r Q
if_err_by P Q (Ok x) f p = tt
if_err_by P Q (Err e) f p = f e p
