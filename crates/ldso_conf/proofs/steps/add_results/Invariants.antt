use Rattle.std.proofs.Common.{◌≡◌, ◌++◌, map}
use Rattle.ldso_conf.specs.declared.steps.Step.TheVariants as step
use Rattle.ldso_conf.proofs.steps.add_results.Given as goal

-- the remaining results give the rest
abbrev pub invariant-loop-file : goal.invariant-loop-file
invariant-loop-file l = l.steps.items ++ map step.Include l.file-iterator.rest.items ≡ l.fn.steps.items ++ map step.Include l.fn.found.items
