-- One more entry, with its strings in the list.
use Rattle.std.proofs.Common.{◌+◌, ap, arith, length, take}
use Rattle.std.proofs.lemmas.List.{length-take-le}
use Rattle.cache_writer.specs.CacheText.{own_strings}
use Rattle.cache_writer.proofs.Adding.{next_entry, texts_step, entries_step, numbers_step, few_own}
use Rattle.cache_writer.proofs.numbers.number_entries.Goals as goal

pub number_entry-requires : goal.number_entry-requires
number_entry-requires c =
    let few = few_own (take c.loop-entry.entry-index c.args.entries.now) in
    let first = length-take-le c.loop-entry.entry-index c.args.entries.now in
    let texts = ap length c.loop-entry.invariant.texts in
    omega (arith, few, first, texts, c.requires.few)

pub loop-entry-preserved : goal.loop-entry-preserved
loop-entry-preserved c =
    let es = c.args.entries.now in
    let i = c.loop-entry.entry-index in
    let e = c.entry-item.result in
    let next = next_entry es i e c.loop-entry-test.true c.entry-item.is in
    let before = c.loop-entry.invariant in
    let put = c.in_ok-number_entry.ensures in
    let last = c.in_ok-push.ensures.items in
    record {
      texts = texts_step (take i es) (take (i + 1) es) e c.loop-entry.texts c.number_entry.new.texts next before.texts put.texts;
      entries = entries_step (take i es) (take (i + 1) es) e c.loop-entry.numbered.items c.push.new.self.items c.in_ok-number_entry.field-0 next before.entries put.entry last;
      numbers = numbers_step c.loop-entry.texts c.number_entry.new.texts (own_strings e) c.loop-entry.numbered.items c.push.new.self.items c.in_ok-number_entry.field-0 put.texts last before.numbers put.numbers;
    }
