use Rattle.std.proofs.Common.{◌≡◌, [], sym, subst, false, rules}
use Rattle.std.specs.Cmp.Lexicographic.{slice_cmp}
use Rattle.std.specs.List.{AllByRecursion}
use Rattle.std.specs.Map.{keys_of}
use Rattle.std.specs.Ordering.{is_lt, nat_cmp}
use Rattle.place_libraries.proofs.Gathered.{GoesOn, begins, goes_on, none_below_next}
use Rattle.place_libraries.proofs.sonames.gather_sorted.Goals as goal

pub loop-item-init : goal.loop-item-init
loop-item-init g c =
    let whole : c.into_iter-item-iterator.result.rest.items ≡ c.args.items.items = search rules in
    subst (λ es. GoesOn g.G.Gather.step c.args.items.items es c.into_iter-item-iterator.result.rest.items) (sym c.in_ok-found.ensures.items)
    (subst (GoesOn g.G.Gather.step c.args.items.items []) (sym whole) (begins g.G.Gather.step c.args.items.items c.requires))

pub add-requires-clause-following : goal.add-requires-clause-following
add-requires-clause-following g c =
    subst (λ soname. AllByRecursion (λ key. is_lt (slice_cmp nat_cmp soname key) ≡ false) (keys_of c.loop-item.found.items)) (sym c.soname-soname.ensures)
    (none_below_next g.G.Gather.step c.args.items.items c.loop-item.found.items c.in-Some.item c.next.new.self.rest.items
    (subst (GoesOn g.G.Gather.step c.args.items.items c.loop-item.found.items) c.in-Some.ensures.steps.0 c.loop-item.invariant))

pub loop-item-preserved : goal.loop-item-preserved
loop-item-preserved g c =
    goes_on g.G.Gather.step c.args.items.items c.loop-item.found.items c.add.new.found.items c.in-Some.item c.next.new.self.rest.items
    (subst (GoesOn g.G.Gather.step c.args.items.items c.loop-item.found.items) c.in-Some.ensures.steps.0 c.loop-item.invariant)
    (rw (c.soname-soname.ensures, c.into_item.ensures) at c.in_ok-add.ensures)
