use Rattle.std.proofs.Common.{rules, ◌≡◌, true, false}
use Rattle.asking_runs.proofs.lookup.run_lookup.Goals as goal

pub returns-then-json-clause-runs : goal.returns-then-json-clause-runs
returns-then-json-clause-runs g c store source =
    let is : c.args.asked.now.json ≡ true = search rules in
    rw is (c.run_as_json.ensures.runs store source)

pub returns-else-json-clause-runs : goal.returns-else-json-clause-runs
returns-else-json-clause-runs g c store source =
    let is : c.args.asked.now.json ≡ false = search rules in
    rw is (c.run_as_text.ensures.runs store source)
