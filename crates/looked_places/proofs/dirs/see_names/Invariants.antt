use Rattle.std.proofs.Common.{[], drop, flat_map}
use Rattle.image_tree.specs.Paths.{join}
use Rattle.looked_tree.specs.Looked.{LoadsPart}
use Rattle.path_walk.specs.declared.walk.Mode.TheVariants.{Plain}
use Rattle.seen_tree.specs.Part.{looked_by}
use Rattle.looked_places.proofs.dirs.see_names.Given as goal

-- the remaining names give the rest
abbrev pub invariant-loop-name : goal.invariant-loop-name
invariant-loop-name g l =
    LoadsPart (λ t. flat_map (λ name. looked_by t (join l.fn.dir name) Plain) l.fn.names) (λ t. flat_map (λ name. looked_by t (join l.fn.dir name) Plain) (drop l.name-index l.fn.names)) (λ t. []) (λ t. [])
    (g.F.Folder.state l.fn.folder) (g.F.Folder.state l.folder) l.fn.looked l.looked
