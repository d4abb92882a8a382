use Rattle.std.proofs.Common.{ℕ, [], List, ap, sym, ◌∙◌}
use Rattle.image_tree.proofs.KindAt.{nothing_above, nothing_at_end, something_above}
use Rattle.lib_types.proofs.SortedPairs.{by_test}
use Rattle.image_tree.specs.Paths.{is_above}
use Rattle.image_tree.specs.Runs.{joined, index_of}
use Rattle.image_tree.specs.declared.node.Node.{Node}
use Rattle.image_tree.specs.declared.node.Node.TheVariants.{Dir}
use Rattle.image_tree.proofs.tree.entries.has_below.Goals as goal

pub returns-in-Some : goal.returns-in-Some
returns-in-Some c =
    let t = joined c.args.runs.now.items in
    let path = c.args.path.now in
    let at = index_of c.args.runs.now.items c.args.following in
    let there = c.in-Some.ensures in
    let next = λ (d : List ℕ × Node). ap (λ (e : List ℕ × Node). is_above path e.0) (there.same d) ∙ sym c.is_above.ensures in
    by_test c.is_above.result
    (λ e. e ∙ sym (something_above t path c.requires.path at c.requires.following c.requires.runs.tree ([], Dir) there.within (next ([], Dir) ∙ e)))
    (λ e. e ∙ sym (nothing_above t path c.requires.path at c.requires.following c.requires.runs.tree there.within (λ d. next d ∙ e)))

pub returns-in-None : goal.returns-in-None
returns-in-None c = nothing_at_end (joined c.args.runs.now.items) c.args.path.now c.requires.path (index_of c.args.runs.now.items c.args.following) c.requires.following c.in-None.ensures
