-- An update does what a script of the single line `update` does.
use Rattle.std.proofs.Common.{Result, Ok, Err, refl, inl}
use Rattle.image_session.specs.Session.{Loaded}
use Rattle.tree_face.specs.declared.disk.Tag.{Tag}
use Rattle.update_runs.specs.Update.{States, UpdatesTo}
use Rattle.update_runs.specs.declared.fault.UpdatingFault.{UpdatingFault}
use Rattle.script_runs.specs.declared.fault.LineFault.TheVariants as lines_end
use Rattle.script_runs.specs.declared.fault.ScriptFault.{ScriptFault}
use Rattle.script_runs.specs.declared.fault.ScriptFault.TheVariants.{Updating}
use Rattle.script_runs.specs.Run.{RunsLines}
use Rattle.script_runs.specs.Stored.{one_update}

abbrev pub ended : Result Loaded UpdatingFault → Result Loaded ScriptFault
ended (Ok session) = Ok session
ended (Err fault) = Err (Updating fault)

pub one_line : (tag : Tag) (s : Loaded) (one : Result Loaded UpdatingFault) (old new : States) → UpdatesTo tag s one old new → RunsLines tag 1 one_update s (ended one) old new
one_line tag s (Ok session) old new u = (Ok session, (new, (inl (Ok session, (u, refl)), (refl, refl))))
one_line tag s (Err fault) old new u = (Err (lines_end.Updating fault), (new, (inl (Err fault, (u, refl)), (refl, refl))))
