use Rattle.std.proofs.Common.{◌≡◌, ◌<◌, ◌-◌, ◌++◌, ◌∷◌, [], refl, rules}
use Rattle.scope_tree.specs.Rows.{group_at}
use Rattle.scope_tree.specs.Stack.{group_now, groups_now}
use Rattle.scope_tree.specs.declared.lines.Frame.{Frame}
use Rattle.scope_tree.proofs.Left.{puts_group}
use Rattle.scope_tree.proofs.lines.put_group.Goals as goal

pub returns-in_ok-push : goal.returns-in_ok-push
returns-in_ok-push c =
    let groups = groups_now c.args.groups.now in
    let group = c.group_at-group.result in
    let f : Frame = record { levels = c.args.levels - 1; depth = c.args.depth; group = group } in
    let some : 0 < c.args.levels = search rules in
    let is : group_now group ≡ group_at groups c.args.index = search rules in
    let more : c.push.new.self.items ≡ c.args.stack.now.items ++ f ∷ [] = search rules in
    puts_group groups c.args.stack.now.items c.push.new.self.items f c.args.levels c.args.depth c.args.index some refl refl is more
