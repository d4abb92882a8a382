use Rattle.std.proofs.Common.{◌≡◌, ap, subst, ◌∙◌}
use Rattle.std.specs.Result.{IfOk}
use Rattle.image_tree.specs.Paths.{components}
use Rattle.image_tree.specs.Tree.{kind_at}
use Rattle.path_walk.proofs.KindsAt.{start_dir}
use Rattle.path_walk.specs.Files.{file_by}
use Rattle.path_walk.specs.Walk.{start_of, steps, walk}
use Rattle.path_walk.specs.declared.walk.Mode.TheVariants.{Full}
use Rattle.path_walk.proofs.files.file_by_target.Goals as goal

pub returns : goal.returns
returns c = λ dir.
    let t = c.args.tree.now in
    let folder = c.args.folder.now in
    let target = c.args.target.now in
    let begins : c.restart.new.place.items ≡ start_of target folder = c.in_ok-restart.ensures ∙ ap (start_of target) c.in_ok-place.ensures.items in
    subst (λ f. IfOk c.file_from.result (λ file. file ≡ f))
    (ap (λ place. file_by t (walk t Full c.args.links (steps t Full (components target) place))) begins)
    (c.file_from.ensures (ap (kind_at t) begins ∙ start_dir t target folder dir))
