use Rattle.std.proofs.Common.{◌≡◌, ap, ◌∙◌}
use Rattle.library_files.proofs.FolderRows.{reals}
use Rattle.place_libraries.specs.Best.{bests_of}
use Rattle.library_files.specs.RealFolders.{HaveRows}
use Rattle.string_pool.specs.Shared.{taken}
use Rattle.soname_links.proofs.Summed.{bests_once, mixed_once}
use Rattle.soname_links.proofs.summary.place_summaries.Goals as goal

pub returns-clause-bests : goal.returns-clause-bests
unfolding bests_of
returns-clause-bests c =
    let folders = c.in_ok-folders.folders in
    let places = c.args.dirs.now.places in
    let have : HaveRows (reals places) folders.paths.keys folders.rows = c.in_ok-folders.ensures in
    c.new.ensures
    ∙ bests_once c.args.table.now places folders.paths.keys folders.rows have c.in_ok-libraries.libraries.items c.in_ok-libraries.ensures c.args.tree.now c.know.ensures c.requires.rows
    c.in_ok-found.found.bests.items c.in_ok-found.ensures.bests

pub returns-clause-mixed : goal.returns-clause-mixed
returns-clause-mixed c =
    let folders = c.in_ok-folders.folders in
    let places = c.args.dirs.now.places in
    let have : HaveRows (reals places) folders.paths.keys folders.rows = c.in_ok-folders.ensures in
    let rows : c.from_vec.result ≡ folders.rows = c.from_vec.ensures ∙ c.in_ok-rows.ensures.items ∙ c.as_slice.ensures in
    c.new-2.ensures
    ∙ ap (taken c.in_ok-found.found.mixed.items) rows
    ∙ mixed_once c.args.table.now places folders.paths.keys folders.rows have c.in_ok-libraries.libraries.items c.in_ok-libraries.ensures c.args.tree.now c.know.ensures c.requires.rows
    c.in_ok-found.found.mixed.items c.in_ok-found.ensures.mixed
