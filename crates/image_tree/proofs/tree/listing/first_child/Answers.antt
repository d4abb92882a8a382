use Rattle.std.proofs.Common.{◌≡◌, true, nat_eq, List, ℕ, Option, ap, sym, subst, ◌∙◌}
use Rattle.std.specs.List.{dedup, starts_with}
use Rattle.std.specs.Option.{option_copied}
use Rattle.image_tree.proofs.AllOfChild.{after_child}
use Rattle.image_tree.proofs.Names.{child_taken}
use Rattle.image_tree.specs.Runs.{children_after, is_same_child}
use Rattle.image_tree.specs.Tree.{IsPathSorted}
use Rattle.image_tree.specs.declared.node.Node.{Node}
use Rattle.image_tree.proofs.tree.listing.first_child.Goals as goal

pub skip_child-requires : goal.skip_child-requires
skip_child-requires c =
    let folder = c.args.folder.now in
    let e : List ℕ × Node = (c.in_ok-first.first.path.now, c.in_ok-first.first.node.now) in
    let starts : starts_with nat_eq e.0 folder ≡ true = sym c.begins_with.ensures ∙ c.if-not-begins_with.false in
    after_child folder _ _ e c.in_ok-first.others c.path_of_child-path.ensures starts (ap (λ (x : List ℕ × Option Node). x.0) c.child_at-child.ensures)
    (subst IsPathSorted c.in_ok-first.ensures c.requires)

pub returns-clause-children : goal.returns-clause-children
returns-clause-children c =
    let folder = c.args.folder.now in
    let e : List ℕ × Node = (c.in_ok-first.first.path.now, c.in_ok-first.first.node.now) in
    let starts : starts_with nat_eq e.0 folder ≡ true = sym c.begins_with.ensures ∙ c.if-not-begins_with.false in
    let child = c.child_at-child.result in
    let node = option_copied child.1 in
    ap (λ t. dedup is_same_child (children_after folder t)) c.in_ok-first.ensures
    ∙ child_taken folder e c.in_ok-first.others c.skip_child.result (child.0.now, node) starts c.child_at-child.ensures (c.skip_child.ensures.children folder child.0.now node c.path_of_child-path.ensures)
