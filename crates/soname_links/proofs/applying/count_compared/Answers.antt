use Rattle.std.proofs.Common.{rules, ◌≡◌, ◌<◌, ◌+◌, ◌-◌, ◌∙◌, true, false, drop, take, length, sym, arith}
use Rattle.soname_links.proofs.NewPaths.{count_on, count_whole}
use Rattle.soname_links.specs.Apply.{is_last_new, new_paths}
use Rattle.soname_links.proofs.applying.count_compared.Goals as goal
use Rattle.soname_links.proofs.applying.count_compared.Goals.{then-is_last_new, else-is_last_new}

pub loop-i-preserved : goal.loop-i-preserved
loop-i-preserved c =
    let t = c.args.tree.now in
    let plan = c.args.plan.now in
    let i = c.loop-i.i in
    let within : i < length plan = search rules in
    let step = count_on t plan i c.index-plan-i.result c.loop-i.count (length (new_paths t plan)) in
    elim c.if-is_last_new.branch [
      | then-is_last_new w ↦
          let is : true ≡ is_last_new t c.index-plan-i.result (take (length plan - (i + 1)) (drop (i + 1) plan)) = sym w.if-is_last_new.true ∙ c.is_last_new.ensures in
          record { rest = omega (arith, step true within c.index-plan-i.is is c.loop-i.invariant.rest, w.count-is); few = omega (arith, w.count-is, c.loop-i.invariant.few) }
      | else-is_last_new w ↦
          let is : false ≡ is_last_new t c.index-plan-i.result (take (length plan - (i + 1)) (drop (i + 1) plan)) = sym w.if-is_last_new.false ∙ c.is_last_new.ensures in
          record { rest = omega (arith, step false within c.index-plan-i.is is c.loop-i.invariant.rest, w.count-is); few = omega (arith, w.count-is, c.loop-i.invariant.few) }
    ]

pub returns : goal.returns
returns c =
    count_whole c.args.tree.now c.args.plan.now c.loop-i.i c.loop-i.count (search rules) c.loop-i.invariant.rest
