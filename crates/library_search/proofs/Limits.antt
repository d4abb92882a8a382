-- The meaning of a limit's test.
use Rattle.std.proofs.Common.{◌≡◌, ◌<◌, ℕ, true, nat_lt, arith}
use Rattle.std.proofs.lemmas.Bool.Decides.{nat_tests}

pub over : (n m : ℕ) → n < m → nat_lt n m ≡ true
over n m h = grind (arith, nat_tests)
