use Rattle.std.proofs.Common.{◌≡◌, ◌∙◌, ◌<◌, ℕ, List, true, false, ap, rules, subst, sym}
use Rattle.std.specs.Str.{bytes_eq}
use Rattle.image_tree.specs.Paths.{root}
use Rattle.image_tree.specs.Tree.{kind_at}
use Rattle.image_tree.specs.declared.tree.Kind.TheVariants.{Absent, Dir}
use Rattle.layer_union.proofs.Paths.{steps_up}
use Rattle.layer_union.proofs.Trees.{same_is}
use Rattle.layer_union.proofs.Upward.{at_absent, at_dir, at_file, at_root, without_file}
use Rattle.layer_union.proofs.clear.remove_file_from.Goals as goal
use Rattle.layer_union.specs.Steps.{way_up}

pub loop-at-smaller : goal.loop-at-smaller
loop-at-smaller c =
    let at = c.loop-at.at.now in
    let other : bytes_eq at root ≡ false = search rules in
    subst (λ (z : List ℕ). way_up z < way_up at) (sym c.parted.ensures.folder) (steps_up at other)

pub loop-at-preserved : goal.loop-at-preserved
loop-at-preserved c =
    let at = c.loop-at.at.now in
    let t = c.loop-at.tree in
    let none : kind_at t at ≡ Absent = sym c.kind.ensures ∙ c.in-Absent.is in
    record {
      tree = c.loop-at.invariant.tree;
      valid = c.loop-at.invariant.valid;
      same = ap (λ (z : List ℕ). without_file z t) c.parted.ensures.folder ∙ sym (at_absent t c.loop-at.invariant.valid at none) ∙ c.loop-at.invariant.same;
    }

pub returns-in-Dir : goal.returns-in-Dir
returns-in-Dir c =
    let at = c.loop-at.at.now in
    let t = c.loop-at.tree in
    let other : bytes_eq at root ≡ false = search rules in
    let dir : kind_at t at ≡ Dir = sym c.kind.ensures ∙ c.in-Dir.is in
    sym (at_dir t c.loop-at.invariant.valid at other dir) ∙ c.loop-at.invariant.same ∙ ap (without_file c.args.path.now) c.loop-at.invariant.tree

pub returns-in_default : goal.returns-in_default
returns-in_default c =
    let at = c.loop-at.at.now in
    let t = c.loop-at.tree in
    let other : bytes_eq at root ≡ false = search rules in
    c.remove.ensures.list
    ∙ at_file t c.loop-at.invariant.valid at other (λ h. c.in_default.not-Dir (c.kind.ensures ∙ h)) (λ h. c.in_default.not-Absent (c.kind.ensures ∙ h))
    ∙ c.loop-at.invariant.same ∙ ap (without_file c.args.path.now) c.loop-at.invariant.tree

pub returns : goal.returns
returns c =
    let at = c.loop-at.at.now in
    let t = c.loop-at.tree in
    let here : bytes_eq at root ≡ true = search rules in
    sym (at_root t c.loop-at.invariant.valid)
    ∙ ap (λ (z : List ℕ). without_file z t) (sym (same_is at root here))
    ∙ c.loop-at.invariant.same ∙ ap (without_file c.args.path.now) c.loop-at.invariant.tree
