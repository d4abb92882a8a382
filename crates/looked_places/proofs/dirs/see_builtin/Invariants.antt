use Rattle.std.proofs.Common.{[], drop, length}
use Rattle.hwcap_dirs.specs.Places.{builtin_dirs}
use Rattle.looked_tree.specs.Looked.{LoadsPart}
use Rattle.seen_places.specs.Looked.{texts_looked}
use Rattle.looked_places.proofs.dirs.see_builtin.Given as goal

-- the remaining directories give the rest
abbrev pub invariant-loop-dir : goal.invariant-loop-dir
invariant-loop-dir g l =
    LoadsPart (λ t. texts_looked t (builtin_dirs l.scope)) (λ t. texts_looked t (drop l.done (builtin_dirs l.scope))) (λ t. []) (λ t. [])
    (g.F.Folder.state l.fn.folder) (g.F.Folder.state l.folder) l.fn.looked l.looked

abbrev pub decreases-loop-dir : goal.decreases-loop-dir
decreases-loop-dir g l = length (drop l.done (builtin_dirs l.scope))
