-- The pool still fits with one more string.
use Rattle.std.proofs.Common.{arith}
use Rattle.string_pool_tests.proofs.Fits.{fits, grows, within}
use Rattle.string_pool_tests.proofs.filling.Filling.add.Goals as goal

pub invariant_of-self-2 : goal.invariant_of-self-2
invariant_of-self-2 c =
    let old = c.self.inside in
    let new = c.add.new.self in
    let text = c.args.text.now in
    let added = c.in_ok-number.ensures.texts in
    let bytes = fits old.pool new text old.size c.self.invariant.0 added in
    let number = within old.pool new text c.in_ok-number.number added c.in_ok-number.ensures.number in
    let more = grows old.pool new text added in
    (omega (arith, bytes), (omega (arith, c.if-text-self.false, c.self.invariant.1.0), omega (arith, number, more, c.self.invariant.1.1, c.saturating_add.ensures, c.max-self-inside.ensures)))
