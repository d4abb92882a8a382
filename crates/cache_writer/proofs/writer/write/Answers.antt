-- The strings fit, and the parts are the parts of the entries' cache.
use Rattle.std.proofs.Common.{map, None, ◌≡◌, length, ap, ◌∙◌, arith}
use Rattle.std.proofs.lemmas.Result.{IfOk-weaker}
use Rattle.string_pool.specs.SharedEnds.{shared_table}
use Rattle.cache_reader.specs.Cache.{defect, read}
use Rattle.cache_writer.specs.CacheText.{hwcaps_names, cache_text}
use Rattle.cache_writer.specs.Joined.{joined}
use Rattle.cache_writer.specs.ReadBack.{as_read}
use Rattle.cache_writer.proofs.Accepted.{accepted}
use Rattle.cache_writer.proofs.Adding.{few_own}
use Rattle.cache_writer.proofs.Bounds.{few_names}
use Rattle.cache_writer.proofs.Joining.{whole, count_entries}
use Rattle.cache_writer.proofs.Laying.{few_caps, fits, gathered, small, kept, laid_out}
use Rattle.cache_writer.proofs.ReadBack.{all_read, all_plain}
use Rattle.cache_writer.proofs.writer.write.Goals as goal

pub number_names-requires : goal.number_names-requires
number_names-requires c =
    let es = c.as_slice-entries.result.now in
    let names = ap length c.in_ok-names.ensures in
    let own = ap length c.in_ok-numbered.ensures.texts in
    omega (arith, names, own, few_names es, few_own es, ap length c.as_slice-entries.ensures, c.requires.few)

pub seal-requires : goal.seal-requires
seal-requires c =
    let es = c.as_slice-entries.result.now in
    let fits = small es c.args.entries.now c.in_ok-names.names c.number_entries.new.texts c.number_names.new.texts c.in_ok-numbered.numbered.items c.as_slice-entries.ensures c.requires.few c.requires.sonames c.requires.caps c.requires.paths c.in_ok-names.ensures c.in_ok-numbered.ensures.texts c.in_ok-numbers.ensures.texts in
    omega (arith, fits, ap length c.as_slice-entries.ensures, c.requires.few)

pub join-requires-clause-entries : goal.join-requires-clause-entries
join-requires-clause-entries c =
    let es = c.as_slice-entries.result.now in
    let listed = ap length c.in_ok-numbered.ensures.entries in
    omega (arith, ap length c.deref.ensures.value, count_entries c.in_ok-numbered.numbered.items, listed, ap length c.as_slice-entries.ensures, c.requires.few)

pub join-requires-clause-names : goal.join-requires-clause-names
join-requires-clause-names c =
    let es = c.as_slice-entries.result.now in
    few_caps es c.args.entries.now c.in_ok-names.names c.number_entries.new.texts c.number_names.new.texts c.in_ok-numbered.numbered.items c.as_slice-entries.ensures c.requires.few c.requires.sonames c.requires.caps c.requires.paths c.in_ok-names.ensures c.in_ok-numbered.ensures.texts c.in_ok-numbers.ensures.texts

pub join-requires-clause-strings : goal.join-requires-clause-strings
join-requires-clause-strings c =
    let es = c.as_slice-entries.result.now in
    let fit = fits es c.args.entries.now c.in_ok-names.names c.number_entries.new.texts c.number_names.new.texts c.in_ok-numbered.numbered.items c.as_slice-entries.ensures c.requires.few c.requires.sonames c.requires.caps c.requires.paths c.in_ok-names.ensures c.in_ok-numbered.ensures.texts c.in_ok-numbers.ensures.texts in
    let texts = ap (λ s. length (shared_table s.texts)) c.in_ok-sealed.ensures in
    omega (arith, fit, texts)

pub join-requires-clause-own : goal.join-requires-clause-own
join-requires-clause-own c =
    let es = c.as_slice-entries.result.now in
    rw (c.in_ok-sealed.ensures, c.deref.ensures.value) (kept es c.args.entries.now c.in_ok-names.names c.number_entries.new.texts c.number_names.new.texts c.in_ok-numbered.numbered.items c.as_slice-entries.ensures c.requires.few c.requires.sonames c.requires.caps c.requires.paths c.in_ok-names.ensures c.in_ok-numbered.ensures.texts c.in_ok-numbers.ensures.texts c.in_ok-numbered.ensures.numbers)

pub returns-clause-bytes : goal.returns-clause-bytes
returns-clause-bytes c =
    let es = c.as_slice-entries.result.now in
    let texts = gathered es c.args.entries.now c.in_ok-names.names c.number_entries.new.texts c.number_names.new.texts c.in_ok-numbered.numbered.items c.as_slice-entries.ensures c.requires.few c.requires.sonames c.requires.caps c.requires.paths c.in_ok-names.ensures c.in_ok-numbered.ensures.texts c.in_ok-numbers.ensures.texts in
    let e : joined c.in_ok-sealed.sealed c.in_ok-names.names (map (λ n. n.entry.now) c.deref.result.now) ≡ cache_text c.args.entries.now =
    rw c.deref.ensures.value (whole c.in_ok-sealed.sealed c.number_names.new.texts c.in_ok-names.names es c.in_ok-numbered.numbered.items c.in_ok-sealed.ensures texts c.in_ok-names.ensures c.in_ok-numbered.ensures.entries)
    ∙ ap cache_text c.as_slice-entries.ensures in
    rw (← e) c.join.ensures

pub returns-clause-accepted : goal.returns-clause-accepted
returns-clause-accepted c =
    let es = c.as_slice-entries.result.now in
    let laid = laid_out es c.args.entries.now c.in_ok-names.names c.number_entries.new.texts c.number_names.new.texts c.in_ok-numbered.numbered.items c.as_slice-entries.ensures c.requires.few c.requires.sonames c.requires.caps c.requires.paths c.in_ok-names.ensures c.in_ok-numbered.ensures.texts c.in_ok-numbers.ensures.texts c.in_ok-numbered.ensures.entries c.in_ok-numbered.ensures.numbers c.in_ok-numbers.ensures.among in
    let good = accepted c.args.entries.now laid in
    IfOk-weaker c.join.result (λ bytes. bytes.items ≡ cache_text c.args.entries.now) (λ bytes. defect bytes.items ≡ None) (λ bytes is. rw is good) (returns-clause-bytes c)

pub returns-clause-read_back : goal.returns-clause-read_back
returns-clause-read_back c =
    let es = c.as_slice-entries.result.now in
    let laid = laid_out es c.args.entries.now c.in_ok-names.names c.number_entries.new.texts c.number_names.new.texts c.in_ok-numbered.numbered.items c.as_slice-entries.ensures c.requires.few c.requires.sonames c.requires.caps c.requires.paths c.in_ok-names.ensures c.in_ok-numbered.ensures.texts c.in_ok-numbers.ensures.texts c.in_ok-numbered.ensures.entries c.in_ok-numbered.ensures.numbers c.in_ok-numbers.ensures.among in
    let back = all_read c.args.entries.now laid (all_plain c.args.entries.now c.requires.sonames c.requires.caps c.requires.no_nul) in
    IfOk-weaker c.join.result (λ bytes. bytes.items ≡ cache_text c.args.entries.now)
    (λ bytes. read bytes.items ≡ map (as_read (hwcaps_names c.args.entries.now)) c.args.entries.now) (λ bytes is. rw is back) (returns-clause-bytes c)
