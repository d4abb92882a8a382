use Rattle.device_rules.proofs.LastName.{last_name, no_slash}
use Rattle.device_rules.proofs.paths.divided.Goals as goal

pub returns-in-Some-clause-last : goal.returns-in-Some-clause-last
returns-in-Some-clause-last c = last_name _ _ _ c.in-Some.ensures.cases

pub returns-in-None-clause-last : goal.returns-in-None-clause-last
returns-in-None-clause-last c = no_slash _ c.in-None.ensures.cases
