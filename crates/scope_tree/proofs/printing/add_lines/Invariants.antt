use Rattle.std.proofs.Common.{◌≡◌, ◌++◌, drop, map}
use Rattle.scope_tree.specs.Printed.{rows_text}
use Rattle.scope_tree.specs.Stack.{row_of}
use Rattle.scope_tree.proofs.printing.add_lines.Given as goal

-- the text so far and the remaining lines are the whole text
abbrev pub invariant-loop-line : goal.invariant-loop-line
invariant-loop-line l = l.text.items ++ rows_text l.members l.seen (map row_of (drop l.line-index l.lines)) ≡ l.fn.text.items ++ rows_text l.fn.members l.fn.seen (map row_of l.fn.lines)
