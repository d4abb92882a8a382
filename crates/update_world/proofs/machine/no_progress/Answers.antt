use Rattle.std.proofs.Common.{rules, ◌≡◌, ◌<◌, ◌∷◌, ◌++◌, [], ◌∙◌, ap, sym, length, List}
use Rattle.atomic_replace.specs.Order.{all_calls}
use Rattle.tree_face.specs.declared.disk.Call.{Call}
use Rattle.update_world.proofs.Lists.{mapped_on}
use Rattle.update_world.proofs.machine.no_progress.Goals as goal

pub loop-index-preserved : goal.loop-index-preserved
loop-index-preserved c =
    let pushed : c.push.new.self.items ≡ c.loop-index.progress.items ++ all_calls ∷ [] = search rules in
    let within : c.loop-index._index < length c.args.posts.now = search rules in
    pushed ∙ ap (λ (l : List (List Call)). l ++ all_calls ∷ []) c.loop-index.invariant ∙ sym (mapped_on {Y = List Call} all_calls c.args.posts.now c.loop-index._index within)
