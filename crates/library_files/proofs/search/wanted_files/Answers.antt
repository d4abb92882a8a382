use Rattle.std.proofs.Common.{rules, ◌≡◌, ap, ◌∙◌}
use Rattle.std.specs.List.{flat_map}
use Rattle.library_files.proofs.FoundIn.{all_wanted, are_files, found_in}
use Rattle.string_pool.specs.Order.{ascending}
use Rattle.library_files.proofs.search.wanted_files.Goals as goal

pub returns-clause-paths : goal.returns-clause-paths
returns-clause-paths c =
    let t = c.args.tree.now in
    let reals = c.in_ok-reals.reals in
    let sorted : c.in_ok-folders.folders ≡ ascending reals.paths.keys = search rules in
    all_wanted t c.know.ensures c.args.dirs.now.places reals.paths.keys reals.rows c.in_ok-reals.ensures c.in_ok-files.files.items c.in_ok-sorted.sorted.items
    (c.in_ok-files.ensures ∙ ap (flat_map (found_in t)) (c.as_slice.ensures ∙ sorted)) c.in_ok-sorted.ensures.paths

pub returns-clause-files : goal.returns-clause-files
returns-clause-files c =
    let t = c.args.tree.now in
    are_files t c.in_ok-folders.folders c.in_ok-files.files.items c.in_ok-sorted.sorted.items (c.in_ok-files.ensures ∙ ap (flat_map (found_in t)) c.as_slice.ensures) c.in_ok-sorted.ensures.files
