-- How the output ends with the text of a sample.
use Rattle.std.proofs.Common.{◌≡◌, ℕ, true, false, List, Result, Ok, Err, refl, inl, inr}
use Rattle.std.specs.Result.{is_err}
use Rattle.lib_types.specs.declared.fault.Failed.{Failed}
use Rattle.tree_face.specs.Stream.{SinkState, TakesAll}
use Rattle.command_status.specs.declared.status.Status.TheVariants.{Done, OutputFault}
use Rattle.sample_runs.specs.Sample.{EndsBy}

module _ (text : List ℕ) (a b : SinkState) where
  pub whole : (r : Result (Unit {0}) Failed) → false ≡ is_err r → TakesAll a b text r → EndsBy (Ok text) Done a b
  whole (Ok done) e takes = inl (refl, (takes.done, takes.no_fault))
  whole (Err fault) e takes = absurd (cc)

  pub part : (r : Result (Unit {0}) Failed) → true ≡ is_err r → TakesAll a b text r → EndsBy (Ok text) OutputFault a b
  part (Ok done) e takes = absurd (cc)
  part (Err fault) e takes = inr (refl, (takes.failed, takes.cause))
