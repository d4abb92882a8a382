use Rattle.std.proofs.Common.{◌∙◌, refl, sym}
use Rattle.file_table.specs.Table.{analysis_at}
use Rattle.looked_search.proofs.Finds.{bests_kept}
use Rattle.looked_search.proofs.finding.with_sonames.Goals as goal

pub returns-clause-adds : goal.returns-clause-adds
returns-clause-adds g c = record { same = refl; adds = c.in_ok-add_sonames.ensures.adds; is_tree = c.know.ensures }

pub returns-clause-bests : goal.returns-clause-bests
returns-clause-bests g c =
    c.requires.bests
    ∙ sym (bests_kept (analysis_at c.args.found.search.files.table) c.args.tree c.add_sonames.new.tree c.in_ok-add_sonames.ensures.adds.keeps c.args.found.search.dirs.places c.requires.dirs)
