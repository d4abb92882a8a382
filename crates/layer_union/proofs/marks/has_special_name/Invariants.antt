use Rattle.std.proofs.Common.{◌≡◌, nat_eq}
use Rattle.std.specs.List.{list_any, starts_with}
use Rattle.layer_union.specs.Whiteouts.{is_special, prefix}
use Rattle.layer_union.proofs.marks.has_special_name.Given as goal

-- the names that are left decide
abbrev pub invariant-loop-name : goal.invariant-loop-name
invariant-loop-name l = is_special l.path ≡ list_any (λ name. starts_with nat_eq name prefix) l.name-iterator
