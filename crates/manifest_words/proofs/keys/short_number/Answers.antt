use Rattle.std.proofs.Common.{arith, sym, ◌∙◌}
use Rattle.manifest_words.proofs.Numbers.{digit_step, one_more_digit}
use Rattle.manifest_words.proofs.keys.short_number.Goals as goal

pub overflow_mul-number : goal.overflow_mul-number
overflow_mul-number c =
    let step = digit_step c.args.value.now c.loop-digit.digit-index c.loop-digit-test.true c.requires.few c.loop-digit.invariant.digits (sym c.is_ascii_digit.ensures.value ∙ c.if-not-is_ascii_digit.false) in
    omega (arith, step.value, step.fits, c.loop-digit.invariant.value)

pub overflow_add-number : goal.overflow_add-number
overflow_add-number c =
    let step = digit_step c.args.value.now c.loop-digit.digit-index c.loop-digit-test.true c.requires.few c.loop-digit.invariant.digits (sym c.is_ascii_digit.ensures.value ∙ c.if-not-is_ascii_digit.false) in
    omega (arith, step.value, step.fits, c.loop-digit.invariant.value, c.from.ensures)

pub loop-digit-preserved : goal.loop-digit-preserved
loop-digit-preserved c =
    let test = sym c.is_ascii_digit.ensures.value ∙ c.if-not-is_ascii_digit.false in
    let step = digit_step c.args.value.now c.loop-digit.digit-index c.loop-digit-test.true c.requires.few c.loop-digit.invariant.digits test in
    record {
      digits = one_more_digit c.args.value.now c.loop-digit.digit-index c.loop-digit-test.true c.loop-digit.invariant.digits test;
      value = omega (arith, step.value, c.loop-digit.invariant.value, c.from.ensures);
    }
