use Rattle.std.proofs.Common.{ap, ◌∙◌}
use Rattle.place_libraries.specs.Best.{bests_in, bests_of}
use Rattle.file_table.specs.Table.{analysis_at}
use Rattle.soname_links.proofs.InStep.{by_items_made}
use Rattle.soname_links.specs.Marks.{blocked, mixed}
use Rattle.soname_links.specs.Plan.{links}
use Rattle.soname_links.specs.Survey.{blocked_by, by_place_with, links_by, mixed_by, mixed_sonames}
use Rattle.soname_links.proofs.surveying.surveyed.Goals as goal

pub returns-clause-plan : goal.returns-clause-plan
unfolding links bests_of
returns-clause-plan c =
    let t = c.args.tree.now in
    let places = c.args.dirs.now.places in
    c.in_ok-found.ensures.plan ∙ ap (by_place_with (links_by t) 0 places) c.in_ok-summaries.ensures.bests ∙ by_items_made (links_by t) (bests_in (analysis_at c.args.table.now) t) 0 places

pub returns-clause-blocked : goal.returns-clause-blocked
unfolding blocked bests_of
returns-clause-blocked c =
    let t = c.args.tree.now in
    let places = c.args.dirs.now.places in
    c.in_ok-found.ensures.blocked ∙ ap (by_place_with (blocked_by t) 0 places) c.in_ok-summaries.ensures.bests ∙ by_items_made (blocked_by t) (bests_in (analysis_at c.args.table.now) t) 0 places

pub returns-clause-mixed : goal.returns-clause-mixed
unfolding mixed
returns-clause-mixed c =
    let places = c.args.dirs.now.places in
    c.in_ok-found.ensures.mixed ∙ ap (by_place_with mixed_by 0 places) c.in_ok-summaries.ensures.mixed ∙ by_items_made mixed_by (mixed_sonames (analysis_at c.args.table.now) c.args.tree.now) 0 places
