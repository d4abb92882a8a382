use Rattle.std.proofs.Common.{◌≡◌, ◌++◌, drop, map}
use Rattle.library_files.specs.Search.{links_at}
use Rattle.library_files.proofs.links.followed_each.Given as goal

-- the remaining directories give the rest
abbrev pub invariant-loop-folder : goal.invariant-loop-folder
invariant-loop-folder l = l.followed.items ++ map (links_at l.tree) (drop l.folder-index l.folders) ≡ map (links_at l.tree) l.folders
