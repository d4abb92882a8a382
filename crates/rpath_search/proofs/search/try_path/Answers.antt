use Rattle.std.proofs.Common.{◌≡◌, false, rules, Err, Some}
use Rattle.path_walk.specs.Files.{file_at}
use Rattle.rpath_search.specs.Searching.{is_among}
use Rattle.rpath_search.proofs.Libraries.{new_keys, new_tries, none_tries}
use Rattle.rpath_search.proofs.search.try_path.Goals as goal

pub returns-in_err-object-clause-reads : goal.returns-in_err-object-clause-reads
returns-in_err-object-clause-reads g c =
    let leads : file_at c.args.tree.now c.args.path ≡ Some c.in-Some.real = search rules in
    let new : is_among c.args.files.now.loaded c.in-Some.real ≡ false = search rules in
    let failed : c.library_at.result ≡ Err c.in_err-object.field-0.0 = c.in_err-object.was in
    let same : c.from_residual-in_err-object.result ≡ Err c.in_err-object.field-0.0 = search rules in
    rw (new_keys c.args.tree.now c.args.files.now.loaded c.args.path c.in-Some.real leads new, same) (rw (failed, c.as_bytes-3.ensures) at c.library_at.ensures.reads)

pub returns-in-Some-2-clause-tries : goal.returns-in-Some-2-clause-tries
returns-in-Some-2-clause-tries g c =
    let leads : file_at c.args.tree.now c.args.path ≡ Some c.in-Some.real = search rules in
    new_tries (g.S.Store.state c.args.store.now).held c.args.tree.now c.args.abi c.args.files.now.loaded
    (record { path = c.args.path; real = c.in-Some.real; object = c.in-Some-2.object }) leads (rw (c.in-Some-2.is, c.as_bytes-3.ensures) at c.in_ok-object.ensures.object)

pub returns-in-Some-2-clause-held : goal.returns-in-Some-2-clause-held
returns-in-Some-2-clause-held g c =
    let leads : file_at c.args.tree.now c.args.path ≡ Some c.in-Some.real = search rules in
    let new : is_among c.args.files.now.loaded c.in-Some.real ≡ false = search rules in
    rw (new_keys c.args.tree.now c.args.files.now.loaded c.args.path c.in-Some.real leads new) (rw c.as_bytes-3.ensures at c.in_ok-object.ensures.held)

pub returns-in-Some-2-clause-reads : goal.returns-in-Some-2-clause-reads
returns-in-Some-2-clause-reads g c =
    let leads : file_at c.args.tree.now c.args.path ≡ Some c.in-Some.real = search rules in
    let new : is_among c.args.files.now.loaded c.in-Some.real ≡ false = search rules in
    rw (new_keys c.args.tree.now c.args.files.now.loaded c.args.path c.in-Some.real leads new) (rw (c.in_ok-object.was, c.as_bytes-3.ensures) at c.library_at.ensures.reads)

pub returns-in-None-clause-tries : goal.returns-in-None-clause-tries
returns-in-None-clause-tries g c =
    let leads : file_at c.args.tree.now c.args.path ≡ Some c.in-Some.real = search rules in
    none_tries (g.S.Store.state c.args.store.now).held c.args.tree.now c.args.abi c.args.files.now.loaded c.args.path c.in-Some.real leads
    (rw (c.in-None.is, c.as_bytes-3.ensures) at c.in_ok-object.ensures.object)

pub returns-in-None-clause-held : goal.returns-in-None-clause-held
returns-in-None-clause-held g c =
    let leads : file_at c.args.tree.now c.args.path ≡ Some c.in-Some.real = search rules in
    let new : is_among c.args.files.now.loaded c.in-Some.real ≡ false = search rules in
    rw (new_keys c.args.tree.now c.args.files.now.loaded c.args.path c.in-Some.real leads new) (rw c.as_bytes-3.ensures at c.in_ok-object.ensures.held)

pub returns-in-None-clause-reads : goal.returns-in-None-clause-reads
returns-in-None-clause-reads g c =
    let leads : file_at c.args.tree.now c.args.path ≡ Some c.in-Some.real = search rules in
    let new : is_among c.args.files.now.loaded c.in-Some.real ≡ false = search rules in
    rw (new_keys c.args.tree.now c.args.files.now.loaded c.args.path c.in-Some.real leads new) (rw (c.in_ok-object.was, c.as_bytes-3.ensures) at c.library_at.ensures.reads)
