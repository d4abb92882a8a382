use Rattle.planned_tree.proofs.Searches.{searched_alike}
use Rattle.file_table.specs.Table.{analysis_at}
use Rattle.planned_tree.proofs.planning.plan_links.Goals as goal

pub returns-clause-alike : goal.returns-clause-alike
returns-clause-alike c =
    searched_alike c.args.tree.now c.apply.new.tree c.in_ok-found.found.plan (analysis_at c.args.table.now) c.args.dirs.now.places c.know.ensures c.know-2.ensures c.survey.ensures.names c.requires.dirs
    c.in_ok-found.ensures.plan c.in_ok-apply.ensures.done
