use Rattle.std.proofs.Common.{◌≡◌, ◌++◌}
use Rattle.std.specs.List.{flat_map, slice_split}
use Rattle.std.specs.Option.{option_copied}
use Rattle.lib_types.specs.Splits.{parts_of, size_of}
use Rattle.origin_expand.specs.Tokens.{is_dollar, join_replaced, replaced, value_of}
use Rattle.origin_expand.proofs.replacing.expand.Given as goal

-- the output so far and the remaining parts give the whole output
abbrev pub invariant-loop-left : goal.invariant-loop-left
invariant-loop-left l =
    l.out.items ++ flat_map (replaced (value_of l.values.origin.now l.values.lib.now l.values.platform.now)) (parts_of is_dollar (option_copied l.left))
    ≡ join_replaced (value_of l.fn.origin l.fn.lib l.fn.platform) (slice_split is_dollar l.fn.text)

abbrev pub decreases-loop-left : goal.decreases-loop-left
decreases-loop-left l = size_of (option_copied l.left)
