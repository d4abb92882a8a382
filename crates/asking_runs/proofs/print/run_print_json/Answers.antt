use Rattle.std.proofs.Common.{refl}
use Rattle.asking_runs.proofs.Asking.{makes}
use Rattle.asking_runs.specs.Print.{json_print_answer}
use Rattle.asking_runs.proofs.print.run_print_json.Goals as goal

pub returns-clause-runs : goal.returns-clause-runs
returns-clause-runs g c store source =
    makes _ _ c.end.result (json_print_answer c.args.name.now) c.read_slot-held.result c.print_json.result c.read_slot-held.ensures c.print_json.ensures c.end.ensures.ends refl refl
