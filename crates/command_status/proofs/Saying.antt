-- What is written part by part.
use Rattle.std.proofs.Common.{◌++◌, ℕ, List, Result, Ok, Err, arith, ◌∙◌}
use Rattle.lib_types.specs.declared.fault.Failed.{Failed}
use Rattle.tree_face.proofs.Follows.{follow, follow_part, part_of}
use Rattle.tree_face.proofs.Known.{relates_by, relates_on}
use Rattle.tree_face.specs.Stream.{SinkState, TakesAll}

module _ (xs ys : List ℕ) (a b c : SinkState) where
  -- one text, and then another
  pub takes_on : (r : Result (Unit {0}) Failed) → TakesAll a b xs (Ok tt) → TakesAll b c ys r → TakesAll a c (xs ++ ys) r
  takes_on (Ok done) first next = record {
    done = relates_on _ _ _ (follow xs ys) _ _ _ first.done next.done;
    failed = tt;
    faults = omega (arith, first.faults, next.faults);
    no_fault = next.no_fault ∙ first.no_fault;
    cause = tt;
  }
  takes_on (Err fault) first next = record {
    done = tt;
    failed = relates_on _ _ _ (follow_part xs ys) _ _ _ first.done next.failed;
    faults = omega (arith, first.faults, next.faults);
    no_fault = tt;
    cause = rw (← first.no_fault) next.cause;
  }

module _ (xs ys : List ℕ) (a b : SinkState) where
  -- the first text isn't written whole
  pub takes_part : (fault : Failed) → TakesAll a b xs (Err fault) → TakesAll a b (xs ++ ys) (Err fault)
  takes_part fault first = record {
    done = tt;
    failed = relates_by _ _ (part_of xs ys) _ _ first.failed;
    faults = first.faults;
    no_fault = tt;
    cause = first.cause;
  }
