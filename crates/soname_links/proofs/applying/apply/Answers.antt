use Rattle.std.proofs.Common.{◌≡◌, ◌∙◌, true, List, ap, subst}
use Rattle.soname_links.proofs.Settled.{settles}
use Rattle.soname_links.specs.Apply.{are_clear}
use Rattle.soname_links.specs.Plan.{with_links}
use Rattle.link_plan.specs.declared.kinds.Planned.{Planned}
use Rattle.soname_links.proofs.applying.apply.Goals as goal

pub returns-clause-settled : goal.returns-clause-settled
returns-clause-settled c =
    let t = c.args.tree.now in
    let whole = c.as_slice-2.ensures in
    settles t c.args.plan.now c.put_links.new.tree c.know.ensures c.requires
    (subst (λ (p : List Planned). are_clear t p ≡ true) whole c.in_ok-put_links.ensures.clear) (c.in_ok-put_links.ensures.done ∙ ap (with_links t) whole)
