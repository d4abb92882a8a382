use Rattle.std.proofs.Common.{rules, ◌≡◌}
use Rattle.root_tree.proofs.Added.{grows}
use Rattle.root_tree.specs.SoFar.{so_far, with_node}
use Rattle.root_tree.proofs.looking.add_node.Goals as goal

pub returns-clause-grows : goal.returns-clause-grows
returns-clause-grows c =
    let same : so_far c.put.new.self c.if-is_dir.todo.items ≡ with_node (so_far c.args.tree.now c.args.todo.now.items) c.args.path c.args.node = search rules in
    grows c.args.tree.now c.args.todo.now.items c.args.path c.args.node _ c.know.ensures c.requires same
