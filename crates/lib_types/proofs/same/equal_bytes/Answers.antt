use Rattle.std.proofs.Common.{◌/◌, subst}
use Rattle.std.specs.Int.{trailing_zeros, w64}
use Rattle.lib_types.proofs.EqualFront.{zero_bytes}
use Rattle.lib_types.specs.Words.{AreZeroBytes}
use Rattle.lib_types.proofs.same.equal_bytes.Goals as goal

pub returns-clause-zeros : goal.returns-clause-zeros
returns-clause-zeros c = subst (AreZeroBytes (trailing_zeros w64 c.abs_diff.result / 8)) c.abs_diff.ensures (zero_bytes c.abs_diff.result)
