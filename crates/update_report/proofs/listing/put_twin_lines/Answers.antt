use Rattle.std.proofs.Common.{◌++◌, ◌∙◌, ap, sym, option_map}
use Rattle.std.proofs.lemmas.List.{append-nil, at_drop_all}
use Rattle.update_report.specs.Report.{sonames_of}
use Rattle.update_report.specs.Twins.{twins_after}
use Rattle.update_report.proofs.Neighbours.{by_neighbours}
use Rattle.update_report.proofs.listing.put_twin_lines.Goals as goal

pub returns : goal.returns
returns c =
    sym (append-nil c.loop-entry.out.items)
    ∙ sym (at_drop_all (λ entries. c.loop-entry.out.items ++ twins_after (option_map (λ name. name.now) c.loop-entry.before) (sonames_of entries)) c.args.entries.now c.loop-entry.entry-index c.loop-entry-test.false)
    ∙ c.loop-entry.invariant
    ∙ ap (λ lines. c.args.out.now.items ++ lines) (by_neighbours (sonames_of c.args.entries.now))
