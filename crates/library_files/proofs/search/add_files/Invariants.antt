use Rattle.std.proofs.Common.{◌≡◌, ◌++◌}
use Rattle.std.specs.List.{filter_map}
use Rattle.image_tree.specs.Tree.{listing_of}
use Rattle.library_files.specs.Children.{found_of}
use Rattle.library_files.proofs.search.add_files.Given as goal

-- the remaining children give the rest
abbrev pub invariant-loop-name : goal.invariant-loop-name
invariant-loop-name l = l.files.items ++ filter_map (found_of l.folder) l.name-iterator ≡ l.fn.files.items ++ filter_map (found_of l.folder) (listing_of l.tree l.folder)
