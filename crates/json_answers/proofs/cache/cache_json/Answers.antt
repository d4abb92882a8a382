use Rattle.json_answers.proofs.Plain.{cache_depth, cache_float, read_as, written_as}
use Rattle.json_answers.proofs.cache.cache_json.Goals as goal

pub returns-clause-text : goal.returns-clause-text
returns-clause-text c = written_as _ _ _ c.in_ok-value.ensures (cache_float c.args.name.now c.args.cache.now) c.in_ok-line.ensures.text

pub returns-clause-reads_back : goal.returns-clause-reads_back
returns-clause-reads_back c = read_as _ _ c.in_ok-value.ensures (cache_float c.args.name.now c.args.cache.now) (cache_depth c.args.name.now c.args.cache.now) c.in_ok-line.ensures.reads_back
