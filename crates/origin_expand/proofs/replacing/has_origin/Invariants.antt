use Rattle.std.proofs.Common.{◌≡◌}
use Rattle.std.specs.List.{list_any}
use Rattle.std.specs.Option.{option_copied}
use Rattle.lib_types.specs.Splits.{parts_of, size_of}
use Rattle.origin_expand.specs.Tokens.{begins_with_origin, has_origin, is_dollar}
use Rattle.origin_expand.proofs.replacing.has_origin.Given as goal

-- `$ORIGIN` is in the remaining parts exactly if it is in the text
abbrev pub invariant-loop-left : goal.invariant-loop-left
invariant-loop-left l = list_any begins_with_origin (parts_of is_dollar (option_copied l.left)) ≡ has_origin l.text

abbrev pub decreases-loop-left : goal.decreases-loop-left
decreases-loop-left l = size_of (option_copied l.left)
