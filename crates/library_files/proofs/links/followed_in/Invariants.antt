use Rattle.std.proofs.Common.{◌≡◌, ◌++◌}
use Rattle.std.specs.List.{AllByRecursion, filter_map}
use Rattle.library_files.specs.Children.{IsChild}
use Rattle.library_files.specs.Search.{followed_by, followed_in}
use Rattle.library_files.proofs.links.followed_in.Given as goal

-- the remaining children give the rest
abbrev pub invariant-loop-name : goal.invariant-loop-name
invariant-loop-name l =
    (l.links ++ filter_map (λ child. followed_by l.tree l.folder child.0) l.name-iterator ≡ followed_in l.tree l.folder)
    × AllByRecursion (IsChild l.tree l.folder) l.name-iterator
