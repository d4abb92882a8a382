use Rattle.sample_runs.proofs.Twice.{both_by, first_stops_by, second_fails_by, second_stops_by, stops_between}
use Rattle.sample_runs.proofs.sample.update_twice.Goals as goal

pub returns-in-Ok-update-2-clause-updates : goal.returns-in-Ok-update-2-clause-updates
returns-in-Ok-update-2-clause-updates g c =
    both_by c.args.n c.in-Ok.image c.in-Ok-update.updated.0 c.in-Ok-replace_all.image c.in-Ok-update.updated.1 _ _ _ _ _ c.in-Ok.ensures c.in-Ok-replace_all.ensures c.in-Ok-update.ensures.updated
    c.in-Ok-update.ensures.goes c.in-Ok-update-2.field-0-0 c.in-Ok-update-2.second _ c.in-Ok-update-2.ensures.updated

pub returns-in-Err-update-clause-failed : goal.returns-in-Err-update-clause-failed
returns-in-Err-update-clause-failed g c =
    second_fails_by c.args.n c.in-Ok.image c.in-Ok-update.updated.0 c.in-Ok-replace_all.image c.in-Ok-update.updated.1 _ _ _ _ _ c.in-Ok.ensures c.in-Ok-replace_all.ensures c.in-Ok-update.ensures.updated
    c.in-Ok-update.ensures.goes _ c.in-Err-update.fault c.in-Err-update.ensures.failed

pub returns-in-Err-update-clause-part : goal.returns-in-Err-update-clause-part
returns-in-Err-update-clause-part g c =
    second_stops_by c.args.n c.in-Ok.image c.in-Ok-update.updated.0 c.in-Ok-replace_all.image c.in-Ok-update.updated.1 _ _ _ _ _ _ c.in-Ok.ensures c.in-Ok-replace_all.ensures c.in-Ok-update.ensures.updated
    c.in-Ok-update.ensures.goes c.in-Err-update.ensures.part

pub returns-in-Err-clause-part : goal.returns-in-Err-clause-part
returns-in-Err-clause-part g c = first_stops_by c.args.n _ _ _ _ c.in-Ok.image c.in-Ok.ensures c.in-Err.ensures.part

pub returns-in_default-replace_all-clause-part : goal.returns-in_default-replace_all-clause-part
returns-in_default-replace_all-clause-part g c =
    stops_between c.args.n c.in-Ok.image c.in-Ok-update.updated.0 c.in-Ok-update.updated.1 _ _ _ _ c.in-Ok.ensures c.in-Ok-update.ensures.updated
