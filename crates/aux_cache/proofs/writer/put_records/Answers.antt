-- One more record.
use Rattle.std.proofs.Common.{◌+◌, ◌++◌, ◌∷◌, [], ◌∙◌, ap, sym, take}
use Rattle.std.proofs.lemmas.List.{take_more}
use Rattle.aux_cache.proofs.Joining.{item_recordable, records_step, range_step}
use Rattle.aux_cache.proofs.writer.put_records.Goals as goal

pub put_record-requires-clause-recordable : goal.put_record-requires-clause-recordable
put_record-requires-clause-recordable c = item_recordable c.args.stamps.now c.loop-stamp.stamp-index c.stamp-item.result c.requires.recordable c.loop-stamp-test.true c.stamp-item.is

pub loop-stamp-preserved : goal.loop-stamp-preserved
loop-stamp-preserved c =
    let ns = c.args.stamps.now in
    let i = c.loop-stamp.stamp-index in
    let n = c.stamp-item.result in
    let next = take_more ns i n c.loop-stamp-test.true ∙ ap (λ m. take i ns ++ m ∷ []) (sym c.stamp-item.is) in
    let put = c.in_ok-put_record.ensures in
    let before = c.loop-stamp.invariant in
    record {
      bytes = records_step c.args.strings.now c.args.out.now.items c.loop-stamp.out.items c.put_record.new.out.items (take i ns) (take (i + 1) ns) n next before.bytes put.bytes;
      range = range_step (take i ns) (take (i + 1) ns) n next before.range put.range;
    }
