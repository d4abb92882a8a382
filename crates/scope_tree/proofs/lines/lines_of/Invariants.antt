use Rattle.std.proofs.Common.{◌≡◌, ◌++◌, ◌+◌, ◌*◌, length, map}
use Rattle.scope_tree.specs.Rows.{tree_rows}
use Rattle.scope_tree.specs.Stack.{groups_now, row_of, rows_left}
use Rattle.scope_tree.proofs.lines.lines_of.Given as goal

-- the lines so far and those that remain are all lines
abbrev pub invariant-loop-frame : goal.invariant-loop-frame
invariant-loop-frame l = map row_of l.lines.items ++ rows_left (groups_now l.groups.items) l.stack.items ≡ tree_rows l.fn.scope.members l.fn.scope.replies

-- each step takes a line, or a group without lines
abbrev pub decreases-loop-frame : goal.decreases-loop-frame
decreases-loop-frame l = 2 * length (rows_left (groups_now l.groups.items) l.stack.items) + length l.stack.items
