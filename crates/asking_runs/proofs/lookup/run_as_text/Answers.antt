use Rattle.std.proofs.Common.{option_map, refl}
use Rattle.asking_runs.proofs.Asking.{asks}
use Rattle.asking_runs.specs.Lookup.{lookup_answer, path_answer}
use Rattle.asking_runs.proofs.lookup.run_as_text.Goals as goal

pub returns-clause-runs : goal.returns-clause-runs
returns-clause-runs g c store source =
    asks _ _ c.end.result (λ found. path_answer (option_map (λ path. path.now) found.path)) (lookup_answer c.args.asked.now) c.read_slot-read.result c.look_up.result
    c.read_slot-read.ensures c.look_up.ensures c.end.ensures.ends refl refl
