use Rattle.std.proofs.Common.{◌≡◌, ◌+◌, ℕ, subst, arith}
use Rattle.image_tree.proofs.Below.{after_index, after_gap}
use Rattle.image_tree.proofs.Runs.{run_bounds_at}
use Rattle.image_tree.specs.Index.{IsAfter}
use Rattle.image_tree.specs.Runs.{joined, index_of, start_of, IsPlaceOf, IsGapAt}
use Rattle.image_tree.proofs.tree.entries.following.Goals as goal

pub returns-in-Ok-clause-following : goal.returns-in-Ok-clause-following
returns-in-Ok-clause-following c =
    let runs = c.args.runs.now.items in
    let p = c.in-Ok.place in
    let found : IsPlaceOf runs c.args.path.now p = rw c.in-Ok.is at c.requires.found in
    let next : start_of runs p.run + p.at + 1 ≡ start_of runs p.run + (p.at + 1) = omega arith in
    subst (λ (n : ℕ). IsAfter (joined runs) c.args.path.now n) next (after_index (joined runs) c.args.path.now (index_of runs p) c.requires.sorted found.index)

pub returns-in-Err-clause-following : goal.returns-in-Err-clause-following
returns-in-Err-clause-following c =
    let gap : IsGapAt c.args.runs.now.items c.args.path.now c.in-Err.place = rw c.in-Err.is at c.requires.found in
    after_gap (joined c.args.runs.now.items) c.args.path.now (index_of c.args.runs.now.items c.in-Err.place) gap.gap

pub overflow_add-result : goal.overflow_add-result
overflow_add-result c =
    let runs = c.args.runs.now.items in
    let found : IsPlaceOf runs c.args.path.now c.in-Ok.place = rw c.in-Ok.is at c.requires.found in
    let b = run_bounds_at runs c.in-Ok.place.run c.requires.runs found.entry.run in
    let l = found.entry.at in
    omega arith
