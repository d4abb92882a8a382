use Rattle.sample_runs.proofs.Twice.{text_stops}
use Rattle.sample_runs.proofs.Written.{is_sample}
use Rattle.sample_runs.proofs.sample.sample.Goals as goal

pub returns-in-Ok-text_of-clause-text : goal.returns-in-Ok-text_of-clause-text
returns-in-Ok-text_of-clause-text g c =
    rw c.in-Ok-text_of.ensures (is_sample c.args.n c.in-Ok-update_twice.updates.0 c.in-Ok-update_twice.updates.1 _ _ _ _ c.in-Ok-update_twice.ensures.updates)

pub returns-clause-part : goal.returns-clause-part
returns-clause-part g c = text_stops c.args.n c.in-Ok-update_twice.updates _ _ _ _ c.in-Ok-update_twice.ensures.updates
