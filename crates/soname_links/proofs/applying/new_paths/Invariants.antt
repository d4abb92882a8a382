use Rattle.std.proofs.Common.{◌≡◌, ◌++◌, drop}
use Rattle.std.specs.List.{filter_map}
use Rattle.soname_links.specs.Apply.{new_path}
use Rattle.soname_links.proofs.applying.new_paths.Given as goal

-- the links that are left give the rest
abbrev pub invariant-loop-planned : goal.invariant-loop-planned
invariant-loop-planned l = l.paths.items ++ filter_map (new_path l.tree) (drop l.planned-index l.plan) ≡ filter_map (new_path l.tree) l.plan
