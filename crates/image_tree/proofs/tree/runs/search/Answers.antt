use Rattle.std.proofs.Common.{◌≡◌, ◌-◌, ◌+◌, [], false, get_or, refl, subst, arith}
use Rattle.image_tree.proofs.Runs.{gap_first}
use Rattle.image_tree.specs.Runs.{begins_by}
use Rattle.image_tree.proofs.tree.runs.search.Goals as goal

pub returns-then-count-eq0-clause-absent : goal.returns-then-count-eq0-clause-absent
returns-then-count-eq0-clause-absent c =
    gap_first c.args.runs.now.items _ c.args.path.now c.requires.runs c.requires.sorted refl refl (λ l. c.runs_by-count.ensures.after 0 (omega arith) l)

pub search_in-requires-clause-before : goal.search_in-requires-clause-before
search_in-requires-clause-before c = c.runs_by-count.ensures.before (c.runs_by-count.result - 1) (omega arith)

pub search_in-requires-clause-after : goal.search_in-requires-clause-after
search_in-requires-clause-after c = λ l.
    let n = c.runs_by-count.result in
    let next : n ≡ n - 1 + 1 = omega arith in
    subst (λ k. begins_by c.args.path.now (get_or c.args.runs.now.items k []) ≡ false) next (c.runs_by-count.ensures.after n (omega arith) (omega arith))
