use Rattle.std.proofs.Common.{◌∙◌, ap}
use Rattle.ldso_conf.specs.Reading.{reported}
use Rattle.ldso_conf.specs.Steps.{steps_of}
use Rattle.ldso_conf.specs.Visits.{with_read, with_report}
use Rattle.ldso_conf.specs.declared.kinds.ConfKind.TheVariants.{TooLarge}
use Rattle.ldso_conf.proofs.Visiting.{loads_small, loads_large}
use Rattle.ldso_conf.proofs.reading.load.Goals as goal

pub returns-in_default-clause-loads : goal.returns-in_default-clause-loads
returns-in_default-clause-loads g c = λ knows.
    loads_large (g.V.TreeView.state c.args.view.now).tree c.args.reader.now (c.args.file.spelled, c.args.file.real) c.args.key.now
    (g.S.Store.state c.args.store.now).held c.report.new.self c.new.result.items
    (c.in_ok-report.ensures ∙ ap (λ r. with_report r (reported c.args.file.spelled TooLarge)) c.in_ok-count_file.ensures) c.new.ensures.items
    (rw (c.in_default.is, c.as_bytes.ensures) at c.in_ok-content.ensures.content)

pub returns-clause-loads : goal.returns-clause-loads
returns-clause-loads g c =
    let tree = (g.V.TreeView.state c.args.view.now).tree in λ knows.
    loads_small tree c.args.reader.now (c.args.file.spelled, c.args.file.real) c.args.key.now
    (g.S.Store.state c.args.store.now).held c.in-Some.content c.add_read.new.self c.in_ok-steps_of.field-0.items
    (c.in_ok-add_read.ensures ∙ ap (λ r. with_read r c.args.file.real) c.in_ok-count_file.ensures)
    (c.in_ok-steps_of.ensures.steps knows ∙ ap (λ file. steps_of tree file c.deref.result.now) c.as_bytes-2.ensures
    ∙ ap (steps_of tree c.args.file.spelled) c.deref.ensures.value)
    (rw (c.in-Some.is, c.as_bytes.ensures) at c.in_ok-content.ensures.content)
