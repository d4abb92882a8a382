use Rattle.std.proofs.Common.{◌≡◌, ◌<◌, ◌∙◌, false, filter, length, not, None, ap, rules, sym, subst}
use Rattle.image_tree.specs.Paths.{is_below}
use Rattle.image_tree.specs.Tree.{Nodes, has_below}
use Rattle.layer_union.proofs.Children.{cleared, fewer_left, same_left}
use Rattle.layer_union.proofs.Lists.{none_dropped}
use Rattle.layer_union.proofs.clear.+clear_below.Goals as goal
use Rattle.layer_union.specs.Steps.{IsChild}

pub loop-child-smaller : goal.loop-child-smaller
loop-child-smaller t c =
    let tree = c.loop-child.tree in
    let q = c.args.path.now in
    let child = c.as_bytes-child.result.now in
    let is : IsChild tree q c.in-Some.child = rw c.in-Some.is at c.in_ok-child.ensures in
    let own : IsChild tree q child = subst (IsChild tree q) (sym c.as_bytes-child.ensures) is in
    let new : c.clear_below.new.tree ≡ cleared tree q child own = c.in_ok-clear_below.ensures ∙ ap (filter (λ e. not (is_below child e.0))) c.remove.ensures.list in
    subst (λ (z : Nodes). length z < length tree) (sym new) (fewer_left tree q child own)

pub loop-child-preserved : goal.loop-child-preserved
loop-child-preserved t c =
    let tree = c.loop-child.tree in
    let q = c.args.path.now in
    let child = c.as_bytes-child.result.now in
    let is : IsChild tree q c.in-Some.child = rw c.in-Some.is at c.in_ok-child.ensures in
    let own : IsChild tree q child = subst (IsChild tree q) (sym c.as_bytes-child.ensures) is in
    let new : c.clear_below.new.tree ≡ cleared tree q child own = c.in_ok-clear_below.ensures ∙ ap (filter (λ e. not (is_below child e.0))) c.remove.ensures.list in
    ap (filter (λ e. not (is_below q e.0))) new ∙ same_left tree q child own ∙ c.loop-child.invariant

pub returns : goal.returns
returns t c =
    let tree = c.loop-child.tree in
    let q = c.args.path.now in
    let end : c.in_ok-child.field-0 ≡ None = search rules in
    let none : has_below tree q ≡ false = rw end at c.in_ok-child.ensures in
    sym (none_dropped (λ e. is_below q e.0) tree none) ∙ c.loop-child.invariant
