use Rattle.std.proofs.Common.{sym, rules, ◌≡◌, subst}
use Rattle.image_tree.specs.Paths.{join}
use Rattle.image_tree.specs.Tree.{kind_at}
use Rattle.image_tree.specs.declared.tree.Kind.TheVariants as kinds
use Rattle.file_trails.specs.Steps.{IsStep}
use Rattle.file_trails.specs.declared.trail.Step.TheVariants as step
use Rattle.file_trails.proofs.Steps.{nowhere, stops_at_file}
use Rattle.file_trails.proofs.trail.take_step.Goals as goal

pub returns-in-File : goal.returns-in-File
returns-in-File c =
    let path : c.in_ok-path.path ≡ join c.args.place.now c.args.name.now = search rules in
    let kind : kind_at c.args.tree.now (join c.args.place.now c.args.name.now) ≡ kinds.File = search rules in
    subst (λ p. IsStep c.args.tree.now c.args.name.now c.args.place.now (step.File p)) (sym path)
    (stops_at_file c.args.tree.now c.args.name.now c.args.place.now (search rules) kind)

pub returns-in-Absent : goal.returns-in-Absent
returns-in-Absent c =
    let kind : kind_at c.args.tree.now (join c.args.place.now c.args.name.now) ≡ kinds.Absent = search rules in
    nowhere c.args.tree.now c.args.name.now c.args.place.now (search rules) kind
