use Rattle.std.proofs.Common.{◌≡◌, ◌<◌, length, get_or, false, ◌∙◌, sym, arith}
use Rattle.std.proofs.lemmas.Bool.Decides.{nat_tests}
use Rattle.std.specs.Char.{is_ascii_digit}
use Rattle.name_order.proofs.Runs.{first_decides}
use Rattle.name_order.proofs.compare_first.Goals as goal

pub returns-clause-order : goal.returns-clause-order
returns-clause-order c =
    let a = c.args.a.now in
    let b = c.args.b.now in
    let h : 0 < length a = grind (arith, nat_tests) in
    let k : 0 < length b = grind (arith, nat_tests) in
    let x : is_ascii_digit (get_or a 0 0) ≡ false = sym c.is_ascii_digit.ensures.value ∙ c.if-is_ascii_digit.false in
    let y : is_ascii_digit (get_or b 0 0) ≡ false = sym c.is_ascii_digit-else-is_ascii_digit.ensures.value ∙ c.if-is_ascii_digit-2.false in
    c.cmp.ensures ∙ first_decides a b h k c.if-x-y.false x y

pub returns-clause-digits : goal.returns-clause-digits
returns-clause-digits c = (sym c.is_ascii_digit.ensures.value ∙ c.if-is_ascii_digit.false, sym c.is_ascii_digit-else-is_ascii_digit.ensures.value ∙ c.if-is_ascii_digit-2.false)
