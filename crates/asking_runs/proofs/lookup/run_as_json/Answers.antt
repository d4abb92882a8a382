use Rattle.std.proofs.Common.{refl}
use Rattle.asking_runs.proofs.Asking.{makes}
use Rattle.asking_runs.specs.Lookup.{json_lookup_answer}
use Rattle.asking_runs.proofs.lookup.run_as_json.Goals as goal

pub returns-clause-runs : goal.returns-clause-runs
returns-clause-runs g c store source =
    makes _ _ c.end.result (json_lookup_answer c.args.asked.now) c.read_slot-held.result c.look_up_json.result c.read_slot-held.ensures c.look_up_json.ensures c.end.ensures.ends refl refl
