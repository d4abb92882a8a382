-- A number has at most twenty digits.
use Rattle.std.proofs.Common.{◌≡◌, ◌≤◌, ◌-◌, length, arith, rules}
use Rattle.std.proofs.lemmas.Fmt.{length-decimal-le}
use Rattle.mtree_manifest.proofs.writer.put_before.Goals as goal

pub write_digits-digits-requires : goal.write_digits-digits-requires
write_digits-digits-requires c =
    let short = length-decimal-le 20 c.args.n (omega arith) (omega (arith, c.ranges.n.fits)) (omega (arith, c.ranges.n.fits)) in
    (omega (arith, short, c.requires.room), search (rules, c.told-text))

pub overflow_sub-start : goal.overflow_sub-start
overflow_sub-start c =
    let short = length-decimal-le 20 c.args.n (omega arith) (omega (arith, c.ranges.n.fits)) (omega (arith, c.ranges.n.fits)) in
    omega (arith, short, c.requires.room, c.write_digits-digits.ensures.start)

pub copy_from_slice-requires : goal.copy_from_slice-requires
copy_from_slice-requires c =
    let short = length-decimal-le 20 c.args.n (omega arith) (omega (arith, c.ranges.n.fits)) (omega (arith, c.ranges.n.fits)) in
    let fits : length c.args.word.now ≤ c.write_digits-digits.result = omega (arith, short, c.requires.room, c.write_digits-digits.ensures.start) in
    let span : c.write_digits-digits.result - (c.write_digits-digits.result - length c.args.word.now) ≡ length c.args.word.now = omega (arith, fits) in
    let same : length c.write_digits-digits.new.buf ≡ length c.args.text.now = search rules in
    search (rules, span, same, fits)

pub returns-clause-start : goal.returns-clause-start
returns-clause-start c = omega (arith, c.write_digits-digits.ensures.start)

pub returns-clause-size : goal.returns-clause-size
returns-clause-size c =
    let short = length-decimal-le 20 c.args.n (omega arith) (omega (arith, c.ranges.n.fits)) (omega (arith, c.ranges.n.fits)) in
    omega (arith, short, c.requires.room, c.write_digits-digits.ensures.start)
