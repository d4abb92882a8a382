use Rattle.root_words.proofs.Parsed.{accepted, fits, found}
use Rattle.root_words.proofs.reading.parse.Goals as goal

pub returns-in-Ok-clause-found : goal.returns-in-Ok-clause-found
returns-in-Ok-clause-found c = found _ _ c.in_ok-command.ensures c.in-Ok.matches c.in-Ok.ensures.matches

pub returns-in-Ok-clause-accepted : goal.returns-in-Ok-clause-accepted
returns-in-Ok-clause-accepted c = accepted _ _ c.in_ok-command.ensures c.in-Ok.ensures.kinds

pub returns-in-Err-clause-refused : goal.returns-in-Err-clause-refused
returns-in-Err-clause-refused c = fits _ _ c.in_ok-command.ensures c.in-Err.error c.refusal.result c.in-Err.ensures.kinds c.refusal.ensures
