use Rattle.std.specs.Prelude.{◌≡◌, length}
use Rattle.command_runs_fixture.proofs.libraries.all.Given as goal

abbrev pub invariant-loop-one : goal.invariant-loop-one
invariant-loop-one l = length l.pairs.items ≡ l.one-index
