use Rattle.std.proofs.Common.{rules, ◌≡◌, true, false}
use Rattle.asking_runs.proofs.print.run_print.Goals as goal

pub returns-then-json-clause-runs : goal.returns-then-json-clause-runs
returns-then-json-clause-runs g c store source =
    let is : c.args.json ≡ true = search rules in
    rw is (rw c.cache_name-name.ensures at (c.run_print_json.ensures.runs store source))

pub returns-else-json-clause-runs : goal.returns-else-json-clause-runs
returns-else-json-clause-runs g c store source =
    let is : c.args.json ≡ false = search rules in
    rw is (rw c.cache_name-name.ensures at (c.run_print_named.ensures.runs store source))
