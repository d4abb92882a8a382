use Rattle.std.proofs.Common.{◌≡◌, drop}
use Rattle.std.specs.List.{list_any}
use Rattle.soname_links.specs.Apply.{is_at_path}
use Rattle.soname_links.proofs.applying.has_path.Given as goal

-- the links that are left decide
abbrev pub invariant-loop-planned : goal.invariant-loop-planned
invariant-loop-planned l = list_any (is_at_path l.path) (drop l.planned-index l.plan) ≡ list_any (is_at_path l.path) l.plan
