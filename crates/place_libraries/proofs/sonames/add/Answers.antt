use Rattle.std.proofs.Common.{◌≡◌, ◌∷◌, ◌++◌, [], Some, ap, ◌∙◌}
use Rattle.place_libraries.proofs.Gathered.{all_less, gathered_last, gathered_new}
use Rattle.place_libraries.proofs.sonames.add.Goals as goal
use Rattle.place_libraries.proofs.sonames.add.Goals.{in-Some, in-None}

pub returns : goal.returns
returns g c =
    let es = c.args.found.now.items in
    let front = c.take_last.new.found.items in
    let soname = c.args.soname.now in
    let more = c.match-take_last.more in
    let made : c.push.new.self.items ≡ front ++ (soname, more) ∷ [] = c.in_ok-push.ensures.items ∙ ap (λ e. front ++ e ∷ []) c.new.ensures in
    elim c.match-take_last.branch [
      | in-Some w ↦
          gathered_last g.G.Gather.step soname c.args.item es front w.in-Some.last more c.push.new.self.items w.in-Some.ensures c.requires.ordered
          (ap Some w.more-is ∙ w.with-more.ensures) made
      | in-None w ↦
          gathered_new g.G.Gather.step soname c.args.item es more c.push.new.self.items (all_less soname more es c.requires.ordered c.requires.following w.in-None.ensures.1) c.requires.ordered
          (ap Some w.more-is ∙ w.first-more.ensures) (made ∙ ap (λ xs. xs ++ (soname, more) ∷ []) w.in-None.ensures.0)
    ]
