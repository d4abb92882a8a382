use Rattle.std.proofs.Common.{◌≡◌, ◌++◌}
use Rattle.scope_tree.specs.Printed.{indent}
use Rattle.scope_tree.proofs.printing.add_indent.Given as goal

-- the text so far and the remaining blanks are the whole text
abbrev pub invariant-loop-left : goal.invariant-loop-left
invariant-loop-left l = l.text.items ++ indent l.left ≡ l.fn.text.items ++ indent l.fn.depth

abbrev pub decreases-loop-left : goal.decreases-loop-left
decreases-loop-left l = l.left
