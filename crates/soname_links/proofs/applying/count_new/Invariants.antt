use Rattle.std.proofs.Common.{◌≡◌, ◌+◌, ◌≤◌, drop, length}
use Rattle.std.specs.List.{filter_map}
use Rattle.soname_links.specs.Apply.{new_path}
use Rattle.soname_links.proofs.applying.count_new.Given as goal

-- the links that are left give the rest
abbrev pub invariant-loop-planned : goal.invariant-loop-planned
invariant-loop-planned l = record {
  rest : l.count + length (filter_map (new_path l.tree) (drop l.planned-index l.plan)) ≡ length (filter_map (new_path l.tree) l.plan);
  few : l.count ≤ l.planned-index;
}
