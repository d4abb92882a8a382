use Rattle.std.proofs.Common.{◌≡◌, ◌∷◌, ◌∙◌, sym, subst}
use Rattle.image_tree.specs.Tree.{children_of}
use Rattle.layer_union.proofs.Children.{no_children, some_child}
use Rattle.layer_union.proofs.clear.first_child.Goals as goal
use Rattle.layer_union.specs.Steps.{IsChild}

pub returns-in_ok-join-in-Some : goal.returns-in_ok-join-in-Some
returns-in_ok-join-in-Some c =
    let t = c.args.tree.now in
    let q = c.args.path.now in
    let names : children_of t q ≡ c.in-Some.name.now ∷ c.next.new.self = sym c.children.ensures.names ∙ c.in-Some.ensures.steps in
    subst (IsChild t q) (sym c.in_ok-join-in-Some.ensures) (some_child t q c.in-Some.name.now c.next.new.self c.know.ensures names)

pub returns-in-None : goal.returns-in-None
returns-in-None c = no_children c.args.tree.now c.know.ensures c.args.path.now c.requires (sym c.children.ensures.names ∙ c.in-None.ensures.steps.0)
