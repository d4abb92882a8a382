-- Which calls of an in-memory directory are made to fail.
use Rattle.tree_face.specs.Failures.{Plan}
use Rattle.root_folder.specs.declared.memory.failures.Failures.{Failures}

abbrev pub plan_of : Failures → Plan
plan_of f = record { fail = f.fail.items; next = f.calls; left = f.stop }
