use Rattle.std.proofs.Common.{◌≡◌, ◌++◌, drop}
use Rattle.std.specs.List.{flat_map}
use Rattle.conf_patterns.specs.Patterns.{go_on}
use Rattle.conf_patterns.proofs.patterns.extended_by.Given as goal

-- the remaining texts give the rest
abbrev pub invariant-loop-text : goal.invariant-loop-text
invariant-loop-text l = l.more.items ++ flat_map (go_on l.tree l.component) (drop l.text-index l.texts) ≡ flat_map (go_on l.tree l.component) l.texts
