use Rattle.std.specs.Option.{option_copied}
use Rattle.image_tree.specs.Paths.{components}
use Rattle.lib_types.specs.Splits.{size_of}
use Rattle.path_walk.specs.Rest.{names_in}
use Rattle.looked_tree.proofs.Halts.{IsWalking}
use Rattle.looked_tree.proofs.looked.LookedPart.walk.Given as goal

abbrev pub invariant-loop-name : goal.invariant-loop-name
invariant-loop-name g l =
    IsWalking l.mode (components l.fn.text) l.fn.start (names_in (option_copied l.left)) l.place
    (g.F.Folder.state l.fn.folder) (g.F.Folder.state l.folder) l.fn.self l.self

abbrev pub decreases-loop-name : goal.decreases-loop-name
decreases-loop-name g l = size_of (option_copied l.left)
