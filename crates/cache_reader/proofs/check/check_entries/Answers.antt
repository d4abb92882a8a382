use Rattle.std.proofs.Common.{◌∙◌, sym, arith}
use Rattle.std.proofs.lemmas.Grind.{common_steps}
use Rattle.cache_reader.specs.Cache.{entry_sentences}
use Rattle.cache_reader.proofs.Ranges.{failed, none_passed}
use Rattle.cache_reader.proofs.check.check_entries.Goals as goal

pub returns-in_err-check_entry : goal.returns-in_err-check_entry
returns-in_err-check_entry c =
    let e = failed (entry_sentences c.args.bytes.now) c.loop-index.index c.nlibs-count.result c.in_err-check_entry.field-0.0 c.loop-index-test.true c.in_err-check_entry.ensures in
    let start = none_passed (entry_sentences c.args.bytes.now) c.nlibs-count.result in
    let found = sym e ∙ c.loop-index.invariant.1 ∙ start in
    grind (arith, common_steps, found)
