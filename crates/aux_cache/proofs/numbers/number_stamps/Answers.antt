-- One more stamp, with its soname among the strings.
use Rattle.std.proofs.Common.{◌+◌, ap, arith, length, take}
use Rattle.std.proofs.lemmas.List.{length-take-le}
use Rattle.aux_cache.specs.AuxText.{soname_of}
use Rattle.aux_cache.proofs.Adding.{next_taken, strings_step, stamps_step, numbers_step, few_strings}
use Rattle.aux_cache.proofs.numbers.number_stamps.Goals as goal

pub number_stamp-requires : goal.number_stamp-requires
number_stamp-requires c =
    let few = few_strings (take c.loop-stamp.stamp-index c.args.stamps.now) in
    let first = length-take-le c.loop-stamp.stamp-index c.args.stamps.now in
    omega (arith, few, first, ap length c.loop-stamp.invariant.texts, c.requires.few)

pub loop-stamp-preserved : goal.loop-stamp-preserved
loop-stamp-preserved c =
    let xs = c.args.stamps.now in
    let i = c.loop-stamp.stamp-index in
    let x = c.stamp-item.result in
    let next = next_taken xs i x c.loop-stamp-test.true c.stamp-item.is in
    let before = c.loop-stamp.invariant in
    let put = c.in_ok-number_stamp.ensures in
    let last = c.in_ok-push.ensures.items in
    record {
      texts = strings_step (take i xs) (take (i + 1) xs) x c.loop-stamp.texts c.number_stamp.new.texts next before.texts put.texts;
      stamps = stamps_step (take i xs) (take (i + 1) xs) x c.loop-stamp.numbered.items c.push.new.self.items c.in_ok-number_stamp.field-0 next before.stamps put.stamp last;
      numbers = numbers_step c.loop-stamp.texts c.number_stamp.new.texts (soname_of x) c.loop-stamp.numbered.items c.push.new.self.items c.in_ok-number_stamp.field-0 put.texts last before.numbers put.number;
    }
