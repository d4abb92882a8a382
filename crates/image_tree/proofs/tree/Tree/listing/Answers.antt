use Rattle.std.proofs.Common.{ap, length, map, ◌∙◌}
use Rattle.std.specs.List.{dedup}
use Rattle.image_tree.proofs.Listed.{listed, names_listed, none_listed}
use Rattle.image_tree.proofs.Rising.{children_sorted}
use Rattle.image_tree.specs.Paths.{folder}
use Rattle.image_tree.specs.Runs.{joined, child_at, is_same_child}
use Rattle.image_tree.specs.Tree.{Nodes}
use Rattle.image_tree.proofs.tree.Tree.listing.Goals as goal

pub returns-in-Some-clause-list : goal.returns-in-Some-clause-list
returns-in-Some-clause-list c =
    let path = c.args.path.now in
    rw (← c.self.view_is)
    (c.of.ensures ∙ ap (λ (es : Nodes). dedup is_same_child (map (child_at (length (folder path))) es)) c.in-Some.ensures.entries.below
    ∙ listed (joined c.self.inside.runs.items) path c.self.invariant.0.tree.sorted c.in-Some.ensures.entries.dir)

pub returns-in-Some-clause-sorted : goal.returns-in-Some-clause-sorted
returns-in-Some-clause-sorted c =
    rw (returns-in-Some-clause-list c, names_listed c.args.self.now c.args.path.now)
    (children_sorted c.args.self.now c.args.path.now (rw (← c.self.view_is) c.self.invariant.0.tree.sorted))

pub returns-in-None-clause-list : goal.returns-in-None-clause-list
returns-in-None-clause-list c = rw (← c.self.view_is) (c.none.ensures ∙ none_listed (joined c.self.inside.runs.items) c.args.path.now c.in-None.ensures.entries)

pub returns-in-None-clause-sorted : goal.returns-in-None-clause-sorted
returns-in-None-clause-sorted c =
    rw (returns-in-None-clause-list c, names_listed c.args.self.now c.args.path.now)
    (children_sorted c.args.self.now c.args.path.now (rw (← c.self.view_is) c.self.invariant.0.tree.sorted))
