use Rattle.std.proofs.Common.{◌≡◌, rules, Err, Option, Some, None}
use Rattle.rpath_search.specs.declared.kinds.Found.{Found}
use Rattle.rpath_search.specs.declared.search.Answer.{Answer}
use Rattle.rpath_search.proofs.NextTo.{searches_alone}
use Rattle.rpath_search.proofs.Endings.{ending_same}
use Rattle.rpath_search.proofs.Once.{first_once}
use Rattle.rpath_search.proofs.search.find.Goals as goal

pub returns-in_err-found-clause-searches : goal.returns-in_err-found-clause-searches
returns-in_err-found-clause-searches g c =
    let fault = c.in_err-found.field-0.0 in
    let same : c.from_residual.result ≡ Err fault = search rules in
    rw (same, ← ending_same (Option Answer) (Option Found) fault) (searches_alone _ c.args.tree.now c.args.abi c.args.places.now _ _ _
    (rw (c.in_err-found.was, c.none-files.ensures.loaded, c.of_list-paths.ensures.left, c.as_slice.ensures) at c.search_paths.ensures.searches))

pub returns-in-Some-New-clause-once : goal.returns-in-Some-New-clause-once
returns-in-Some-New-clause-once g c = first_once _ c.args.tree.now c.args.abi c.args.places.now (Some c.in-Some-New.found.path) (search rules)

pub returns-in-Some-New-clause-searches : goal.returns-in-Some-New-clause-searches
returns-in-Some-New-clause-searches g c =
    searches_alone _ c.args.tree.now c.args.abi c.args.places.now _ _ _
    (rw (c.in_ok-found.was, c.none-files.ensures.loaded, c.of_list-paths.ensures.left, c.as_slice.ensures) at c.search_paths.ensures.searches)

pub returns-clause-once : goal.returns-clause-once
returns-clause-once g c = first_once _ c.args.tree.now c.args.abi c.args.places.now None (search rules)

pub returns-clause-searches : goal.returns-clause-searches
returns-clause-searches g c =
    searches_alone _ c.args.tree.now c.args.abi c.args.places.now _ _ _
    (rw (c.in_ok-found.was, c.none-files.ensures.loaded, c.of_list-paths.ensures.left, c.as_slice.ensures) at c.search_paths.ensures.searches)
