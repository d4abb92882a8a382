use Rattle.std.proofs.Common.{◌≡◌, ◌++◌, drop}
use Rattle.scope_tree.specs.Rows.{groups_of}
use Rattle.scope_tree.specs.Stack.{groups_now}
use Rattle.scope_tree.proofs.lines.groups_of.Given as goal

-- the groups so far and those of the remaining members are all groups
abbrev pub invariant-loop-member : goal.invariant-loop-member
invariant-loop-member l = groups_now l.groups.items ++ groups_of (drop l.member-index l.members) l.rest ≡ groups_of l.fn.members l.fn.replies
