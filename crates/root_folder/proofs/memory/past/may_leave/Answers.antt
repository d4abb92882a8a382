use Rattle.std.proofs.Common.{◌-◌, arith, ap, sym, ◌∙◌, reverse, take}
use Rattle.std.proofs.lemmas.List.{take_all}
use Rattle.std.specs.Option.{option_copied}
use Rattle.root_folder.proofs.Walk.{goes_back, left_at_once, settled_here}
use Rattle.root_folder.specs.Past.{left_in}
use Rattle.root_folder.proofs.memory.past.may_leave.Goals as goal

pub loop-left-init : goal.loop-left-init
loop-left-init c = (omega arith, ap (λ l. left_in c.args.path.now (option_copied c.args.now) (reverse l) (option_copied c.args.found)) (take_all _ c.args.changes.now (omega arith)))

pub returns-then-is_same_found : goal.returns-then-is_same_found
returns-then-is_same_found c =
    sym (left_at_once c.args.path.now (option_copied c.loop-left.there) (option_copied c.args.found) (reverse (take c.loop-left.left c.args.changes.now)) (sym c.is_same_found.ensures ∙ c.if-is_same_found.true)) ∙ c.loop-left.invariant.1

pub returns-then-is_settled_by : goal.returns-then-is_settled_by
returns-then-is_settled_by c =
    sym (settled_here c.args.path.now (option_copied c.loop-left.there) (option_copied c.args.found) c.args.changes.now (c.loop-left.left - 1) c.loop-left.left c.change_at-change.result.now
    (omega arith) c.change_at-change.ensures (sym c.is_same_found.ensures ∙ c.if-is_same_found.false) (sym c.is_settled_by.ensures ∙ c.if-is_settled_by.true))
    ∙ c.loop-left.invariant.1

pub loop-left-preserved : goal.loop-left-preserved
loop-left-preserved c = (
  omega arith,
  ap (λ found. left_in c.args.path.now found (reverse (take (c.loop-left.left - 1) c.args.changes.now)) (option_copied c.args.found)) c.found_before-there.ensures
      ∙ goes_back c.args.path.now (option_copied c.loop-left.there) (option_copied c.args.found) c.args.changes.now (c.loop-left.left - 1) c.loop-left.left c.change_at-change.result.now
      (omega arith) c.change_at-change.ensures (sym c.is_same_found.ensures ∙ c.if-is_same_found.false) (sym c.is_settled_by.ensures ∙ c.if-is_settled_by.false)
      ∙ c.loop-left.invariant.1,
)
