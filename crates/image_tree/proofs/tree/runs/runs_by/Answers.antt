use Rattle.std.proofs.Common.{rules, refl, ◌≡◌, [], arith}
use Rattle.std.proofs.lemmas.Fn.{answers_by}
use Rattle.image_tree.proofs.Runs.{parted}
use Rattle.image_tree.specs.Runs.{begins_by}
use Rattle.image_tree.proofs.tree.runs.runs_by.Goals as goal

pub returns-clause-before : goal.returns-clause-before
returns-clause-before c = λ i h.
    let parts = c.partition_point.ensures.partitioned (begins_by c.args.path.now)
    (answers_by _ _ (λ f. f.0.now ≡ c.args.path.now) (λ f a r g called same. (search rules, search rules)) _ refl)
    (rw c.deref.ensures.value (parted c.args.runs.now.items c.args.path.now c.requires.runs c.requires.sorted)) in
    rw (← c.deref.ensures.value) (parts.0 i [] (omega arith) h)

pub returns-clause-after : goal.returns-clause-after
returns-clause-after c = λ i h l.
    let parts = c.partition_point.ensures.partitioned (begins_by c.args.path.now)
    (answers_by _ _ (λ f. f.0.now ≡ c.args.path.now) (λ f a r g called same. (search rules, search rules)) _ refl)
    (rw c.deref.ensures.value (parted c.args.runs.now.items c.args.path.now c.requires.runs c.requires.sorted)) in
    rw (← c.deref.ensures.value) (parts.1 i [] h (rw c.deref.ensures.value l))
