use Rattle.std.proofs.Common.{◌≡◌, ◌++◌}
use Rattle.std.specs.List.{filter_map}
use Rattle.rpath_search.specs.Places.{dirs_of, item_dir}
use Rattle.rpath_search.proofs.dirs.dirs_of.Given as goal

-- the directories so far and those of the remaining items are all directories
abbrev pub invariant-loop-item : goal.invariant-loop-item
invariant-loop-item l = l.dirs ++ filter_map (item_dir l.env l.origin) l.item-iterator ≡ dirs_of l.fn.env l.fn.separators l.fn.origin l.fn.text
