use Rattle.json_answers.proofs.Plain.{programs_depth, programs_float, read_as, written_as}
use Rattle.json_answers.proofs.programs.programs_json.Goals as goal

pub returns-clause-text : goal.returns-clause-text
returns-clause-text c = written_as _ _ _ c.in_ok-value.ensures (programs_float c.args.programs.now) c.in_ok-line.ensures.text

pub returns-clause-reads_back : goal.returns-clause-reads_back
returns-clause-reads_back c = read_as _ _ c.in_ok-value.ensures (programs_float c.args.programs.now) (programs_depth c.args.programs.now) c.in_ok-line.ensures.reads_back
