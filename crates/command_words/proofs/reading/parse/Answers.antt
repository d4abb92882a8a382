use Rattle.std.proofs.Common.{◌∙◌}
use Rattle.command_words.proofs.Parsed.{accepted, found, no_rejection, only, refused}
use Rattle.command_words.proofs.reading.parse.Goals as goal

pub returns-in-Ok-clause-found : goal.returns-in-Ok-clause-found
returns-in-Ok-clause-found c = rw (← c.as_slice.ensures.value) (found c.args.verb _ _ c.in_ok-command.ensures c.in-Ok.matches c.in-Ok.ensures.matches)

pub returns-in-Ok-clause-accepted : goal.returns-in-Ok-clause-accepted
returns-in-Ok-clause-accepted c = rw (← c.as_slice.ensures.value) (accepted c.args.verb _ _ c.in_ok-command.ensures c.in-Ok.ensures.kinds)

pub returns-in-Err-clause-refused : goal.returns-in-Err-clause-refused
returns-in-Err-clause-refused c = rw (← c.as_slice.ensures.value) (λ rejected none. no_rejection _ _ c.refusal.ensures (refused c.args.verb _ _ c.in_ok-command.ensures c.in-Err.error c.in-Err.ensures.kinds none) rejected)

pub returns-in-Err-clause-only : goal.returns-in-Err-clause-only
returns-in-Err-clause-only c = rw (← c.as_slice.ensures.value) (λ rejected taken. no_rejection _ _ c.refusal.ensures (only c.args.verb _ _ c.in_ok-command.ensures c.in-Err.error c.in-Err.ensures.passes taken) rejected)
