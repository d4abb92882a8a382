use Rattle.std.proofs.Common.{◌≡◌, true, [], get_or, refl, sym, ap, List, ℕ, ◌∙◌, Ordering}
use Rattle.std.specs.Ordering.{is_lt}
use Rattle.std.specs.declared.cmp.Ordering.TheVariants.{Less, Equal, Greater}
use Rattle.image_tree.proofs.Index.{gap_at_end}
use Rattle.image_tree.specs.Paths.{path_cmp}
use Rattle.image_tree.specs.Runs.{joined, index_of}
use Rattle.image_tree.specs.declared.node.Node.{Node}
use Rattle.image_tree.specs.declared.node.Node.TheVariants.{Dir}
use Rattle.image_tree.proofs.tree.runs.is_after_all.Goals as goal

less : (r : Ordering) → is_lt r ≡ true → r ≡ Less
less Less h = refl
less Equal h = absurd (cc)
less Greater h = absurd (cc)

pub returns-in-Some : goal.returns-in-Some
returns-in-Some c = λ after.
    let t = joined c.args.runs.now.items in
    let d : List ℕ × Node = ([], Dir) in
    let b = c.in-Some.ensures in
    let last : path_cmp (get_or t b.i d).0 c.args.path.now ≡ Less =
    ap (λ (e : List ℕ × Node). path_cmp e.0 c.args.path.now) (b.entry.same d)
    ∙ sym c.compare.ensures ∙ less c.compare.result (sym c.is_lt.ensures ∙ after) in
    gap_at_end t c.args.path.now (index_of c.args.runs.now.items c.args.end) b.i d c.requires.sorted (sym c.requires.index ∙ b.next) last c.requires.index
