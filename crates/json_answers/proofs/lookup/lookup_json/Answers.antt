use Rattle.json_answers.proofs.Plain.{lookup_depth, lookup_float, read_as, written_as}
use Rattle.json_answers.proofs.lookup.lookup_json.Goals as goal

pub returns-clause-text : goal.returns-clause-text
returns-clause-text c = written_as _ _ _ c.in_ok-value.ensures (lookup_float c.args.name.now c.args.abi _) c.in_ok-line.ensures.text

pub returns-clause-reads_back : goal.returns-clause-reads_back
returns-clause-reads_back c = read_as _ _ c.in_ok-value.ensures (lookup_float c.args.name.now c.args.abi _) (lookup_depth c.args.name.now c.args.abi _) c.in_ok-line.ensures.reads_back
