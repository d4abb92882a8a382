use Rattle.std.proofs.Common.{◌<◌, inr, ap, ◌∙◌, Some, arith}
use Rattle.aux_cache.specs.AuxFile as spec
use Rattle.aux_cache.proofs.Damage.{was_read, not_read, record_damaged, next_stamp, next_before, records_more}
use Rattle.aux_cache.proofs.reader.read.Goals as goal

pub returns-in_default-clause-fault : goal.returns-in_default-clause-fault
returns-in_default-clause-fault c =
    let bytes = c.args.bytes.now in
    let i = c.loop-index.index in
    let strings = c.from_record-strings.ensures ∙ ap (spec.from_record bytes) c.in_ok-count.ensures.count in
    let bad = not_read bytes i c.version_of-version.result c.from_record-strings.result.now c.from_record-record.result.now c.loop-index.before (c.version_of-version.ensures, strings, c.from_record-record.ensures, c.loop-index.invariant.before) (rw c.in_default.is at c.in_ok-stamp.ensures) in
    let within : i < spec.count bytes = omega (arith, c.loop-index-test.true, c.in_ok-count.ensures.count) in
    inr (rw c.record_place-at.ensures (record_damaged bytes i c.in_ok-count.ensures.undamaged c.loop-index.invariant.records within bad))

pub loop-index-preserved : goal.loop-index-preserved
loop-index-preserved c =
    let bytes = c.args.bytes.now in
    let i = c.loop-index.index in
    let strings = c.from_record-strings.ensures ∙ ap (spec.from_record bytes) c.in_ok-count.ensures.count in
    let good = was_read bytes i c.version_of-version.result c.from_record-strings.result.now c.from_record-record.result.now c.loop-index.before c.in-Some.stamp (c.version_of-version.ensures, strings, c.from_record-record.ensures, c.loop-index.invariant.before) (rw c.in-Some.is at c.in_ok-stamp.ensures) in
    record {
      stamps = c.in_ok-push.ensures.items ∙ next_stamp bytes c.loop-index.stamps.items c.in-Some.stamp i c.loop-index.invariant.stamps good.1;
      before = ap (λ s. Some s.id) good.1 ∙ next_before bytes i;
      records = records_more bytes i c.loop-index.invariant.records good.0;
    }
