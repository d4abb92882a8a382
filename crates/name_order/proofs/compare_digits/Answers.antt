use Rattle.std.proofs.Common.{◌<◌, drop, sym, ◌∙◌, arith}
use Rattle.std.proofs.lemmas.Bool.Decides.{nat_tests}
use Rattle.std.specs.Char.{is_ascii_digit}
use Rattle.std.specs.List.{prefix_len}
use Rattle.std.specs.Ordering.{nat_cmp}
use Rattle.name_order.proofs.Fronts.{more_digits, other_digit}
use Rattle.name_order.proofs.compare_digits.Goals as goal

pub returns-then-m-n : goal.returns-then-m-n
returns-then-m-n c =
    let p = c.digits_after-m.ensures.value in
    let q = c.digits_after-n.ensures.value in
    c.cmp.ensures ∙ (λ i. nat_cmp (p i) (q i))
    ∙ more_digits c.args.count c.args.a.now c.args.b.now c.requires.numbers (λ e. c.if-m-n.true (p ∙ e ∙ sym q))

pub returns : goal.returns
returns c =
    let p = c.digits_after-m.ensures.value in
    let q = c.digits_after-n.ensures.value in
    let some : 0 < prefix_len is_ascii_digit (drop c.args.count c.args.a.now) = grind (arith, nat_tests, p, c.if-m-eq0.false) in
    c.cmp-2.ensures
    ∙ other_digit c.args.count c.args.a.now c.args.b.now c.requires.numbers (sym p ∙ c.if-m-n.false ∙ q) some c.if-a-count.false
