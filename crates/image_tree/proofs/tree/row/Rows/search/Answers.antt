use Rattle.std.proofs.Common.{◌≡◌, ℕ, get_or, subst, arith}
use Rattle.std.specs.declared.cmp.Ordering.TheVariants.{Greater}
use Rattle.image_tree.proofs.Runs.{gap_between}
use Rattle.image_tree.specs.Paths.{path_cmp}
use Rattle.image_tree.proofs.tree.row.Rows.search.Goals as goal

pub returns-clause-absent : goal.returns-clause-absent
returns-clause-absent c =
    let t = c.args.self.now in
    let path = c.args.path.now in
    let order = c.loop-low.invariant.order in
    let within = c.loop-low.invariant.within in
    let met : c.loop-low.high ≡ c.loop-low.low = omega arith in
    gap_between t path c.loop-low.low c.requires (omega arith) c.loop-low.invariant.before
    (λ d l. subst (λ (n : ℕ). path_cmp (get_or t n d).0 path ≡ Greater) met (c.loop-low.invariant.after d (omega arith)))
