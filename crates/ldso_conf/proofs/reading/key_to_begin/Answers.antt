use Rattle.std.proofs.Common.{◌≡◌, Some, true, rules}
use Rattle.ldso_conf.specs.Reading.{reported, was_read}
use Rattle.ldso_conf.specs.Visits.{with_report}
use Rattle.ldso_conf.specs.declared.kinds.ConfKind.TheVariants.{Repeated}
use Rattle.ldso_conf.proofs.Visiting.{repeated}
use Rattle.ldso_conf.proofs.reading.key_to_begin.Goals as goal

pub returns-then-was_read : goal.returns-then-was_read
returns-then-was_read c =
    let there : c.args.key ≡ Some c.in-Some.key = search rules in
    let read : was_read c.args.reader.now.read c.args.file.now.real ≡ true = search rules in
    let new : c.report-then-was_read.new.reader ≡ with_report c.args.reader.now (reported c.args.file.now.spelled Repeated) = search rules in
    record { visits = repeated c.args.left c.args.reader.now (c.args.file.now.spelled, c.args.file.now.real) c.args.key c.report-then-was_read.new.reader c.in-Some.key there read new }
