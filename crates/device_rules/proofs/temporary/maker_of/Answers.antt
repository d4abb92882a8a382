use Rattle.std.proofs.Common.{rules, sym, ◌∙◌}
use Rattle.device_rules.proofs.NameParts.{at_dot_is, is_made_by, no_numbers, no_process, no_tag, not_all}
use Rattle.device_rules.proofs.temporary.maker_of.Goals as goal

pub returns-in_err-numbers-clause-none : goal.returns-in_err-numbers-clause-none
returns-in_err-numbers-clause-none c = λ r process made. no_numbers _ process _ made c.in_ok-tail.tail.now c.in_ok-tail.ensures c.in_err-numbers.ensures

pub returns-in_err-tag-clause-none : goal.returns-in_err-tag-clause-none
returns-in_err-tag-clause-none c = λ r process made. no_tag _ process _ made _ _ c.in_ok-tail.ensures c.in_ok-numbers.ensures c.in_err-tag.ensures

pub returns-in_err-process-clause-none : goal.returns-in_err-process-clause-none
returns-in_err-process-clause-none c = λ r process made. no_process _ process _ made _ _ c.in_ok-tail.ensures c.in_ok-numbers.ensures _ _ c.in_ok-tag.ensures.0 c.in_ok-tag.ensures.1 c.in_err-process.ensures

pub returns-then-are_numbers-clause-made : goal.returns-then-are_numbers-clause-made
returns-then-are_numbers-clause-made c = is_made_by _ _ _ _ _ _ _ _ c.in_ok-tail.ensures c.in_ok-numbers.ensures
    (at_dot_is _ _ _ c.in_ok-tag.ensures.0 c.in_ok-tag.ensures.1 c.in_ok-tag.ensures.2)
    (at_dot_is _ _ _ c.in_ok-process.ensures.0 c.in_ok-process.ensures.1 c.in_ok-process.ensures.2) (search rules)

pub returns-else-are_numbers-clause-none : goal.returns-else-are_numbers-clause-none
returns-else-are_numbers-clause-none c = λ r process made. not_all _ process _ made _ _ c.in_ok-tail.ensures c.in_ok-numbers.ensures _ _ c.in_ok-tag.ensures.0 c.in_ok-tag.ensures.1 _ _ c.in_ok-process.ensures.0 c.in_ok-process.ensures.1 (search rules)
