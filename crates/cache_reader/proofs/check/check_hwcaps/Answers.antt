use Rattle.std.proofs.Common.{◌∙◌, sym, arith}
use Rattle.std.proofs.lemmas.Grind.{common_steps}
use Rattle.cache_reader.specs.Cache.{hwcap_sentences}
use Rattle.cache_reader.proofs.Ranges.{failed, none_passed}
use Rattle.cache_reader.proofs.check.check_hwcaps.Goals as goal

pub returns-in_err-check_hwcap : goal.returns-in_err-check_hwcap
returns-in_err-check_hwcap c =
    let e = failed (hwcap_sentences c.args.bytes.now) c.loop-index.index c.nlibs-count.result c.in_err-check_hwcap.field-0.0 c.loop-index-test.true c.in_err-check_hwcap.ensures in
    let start = none_passed (hwcap_sentences c.args.bytes.now) c.nlibs-count.result in
    let found = sym e ∙ c.loop-index.invariant.1 ∙ start in
    grind (arith, common_steps, found)
