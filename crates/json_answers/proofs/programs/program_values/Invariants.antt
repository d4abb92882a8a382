use Rattle.std.proofs.Common.{◌≡◌, ◌++◌, drop, map}
use Rattle.serde_json.specs.View.{view}
use Rattle.json_answers.specs.Programs.{program_data}
use Rattle.json_answers.proofs.programs.program_values.Given as goal

-- the values so far and those of the programs that are left are all values
abbrev pub invariant-loop-program : goal.invariant-loop-program
invariant-loop-program l = map view l.values.items ++ map program_data (drop l.program-index l.programs) ≡ map program_data l.programs
