use Rattle.std.proofs.Common.{rules, ◌≡◌, ◌<◌, ◌∷◌, ◌++◌, [], ◌∙◌, ap, sym, length, None, List}
use Rattle.tree_face.specs.Disk.{Content}
use Rattle.update_world.proofs.Lists.{mapped_on}
use Rattle.update_world.proofs.machine.no_files.Goals as goal

pub loop-index-preserved : goal.loop-index-preserved
loop-index-preserved c =
    let pushed : c.push.new.self.items ≡ c.loop-index.files.items ++ None ∷ [] = search rules in
    let within : c.loop-index._index < length c.args.posts.now = search rules in
    pushed ∙ ap (λ (l : List Content). l ++ None ∷ []) c.loop-index.invariant ∙ sym (mapped_on {Y = Content} None c.args.posts.now c.loop-index._index within)
