use Rattle.std.proofs.Common.{◌≡◌, ◌++◌, ◌∙◌, [], drop, map, ap, arith, sym}
use Rattle.std.proofs.lemmas.List.{append-nil, drop_all}
use Rattle.root_links.specs.Links.{links_in}
use Rattle.root_update.proofs.Plans.{valid_links}
use Rattle.root_update.specs.Update.{linking}
use Rattle.root_update.proofs.making.new_links.Goals as goal

pub returns-clause-valid : goal.returns-clause-valid
returns-clause-valid c =
    let none : drop c.loop-planned.planned-index c.args.plan.now ≡ [] = drop_all c.loop-planned.planned-index c.args.plan.now (omega (arith, c.loop-planned.auto.planned-index-end, c.loop-planned-test.false)) in
    let whole : links_in c.loop-planned.links.items ≡ map linking c.args.plan.now =
    sym (append-nil (links_in c.loop-planned.links.items)) ∙ sym (ap (λ rest. links_in c.loop-planned.links.items ++ map linking rest) none) ∙ c.loop-planned.invariant in
    rw whole (valid_links c.args.plan.now c.requires)
