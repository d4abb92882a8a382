use Rattle.std.proofs.Common.{◌≡◌, [], ◌∷◌, Some, Err, ap, rules}
use Rattle.std.specs.Option.{option_copied}
use Rattle.tree_face.specs.StoreUse.{Complete}
use Rattle.elf_dynamic.specs.Begun.{file_keys}
use Rattle.rpath_search.specs.Places.{from_root}
use Rattle.rpath_search.specs.declared.kinds.Found.{Found}
use Rattle.ldd_resolve.specs.Faults.{of_search}
use Rattle.ldd_resolve.specs.Requests.{IsListed}
use Rattle.ldd_resolve.specs.Resolving.{program_at}
use Rattle.ldd_resolve.specs.declared.kinds.ResolveFault.TheVariants.{NoMemory, NoProgram}
use Rattle.ldd_resolve.proofs.Programs.{are_loaded, bad_program, is_scope, list_fails, listing_read, none_begun, none_lacking, not_keyless, refusal_reads, some_file}
use Rattle.ldd_resolve.proofs.resolving.scope.Goals as goal

pub returns-in_err-path-clause-reads : goal.returns-in_err-path-clause-reads
returns-in_err-path-clause-reads g c =
    let same : c.from_residual.result ≡ Err NoMemory = search rules in
    let st = g.S.Store.state c.args.store.now in
    rw same (none_begun c.args.tree.now (option_copied c.args.cache) c.args.program.now c.args.env.now st.held st)

pub returns-in_err-real-clause-reads : goal.returns-in_err-real-clause-reads
returns-in_err-real-clause-reads g c =
    let same : c.from_residual-in_err-real.result ≡ Err NoMemory = search rules in
    let st = g.S.Store.state c.args.store.now in
    rw same (none_begun c.args.tree.now (option_copied c.args.cache) c.args.program.now c.args.env.now st.held st)

pub returns-in_err-object-clause-no_program : goal.returns-in_err-object-clause-no_program
returns-in_err-object-clause-no_program g c =
    let t = c.args.tree.now in
    let real = c.in-Some.real in
    let leads : program_at t c.args.program.now ≡ Some real = search rules in
    let fault = c.in_err-object.field-0.0 in
    let failed : c.read_program.result ≡ Err fault = c.in_err-object.was in
    let same : c.from_residual-in_err-object.result ≡ Err fault = search rules in
    rw same (some_file t c.args.program.now real (Err fault) leads
    (λ e. not_keyless t (from_root c.args.program.now) real leads ((rw (failed, c.as_bytes-2.ensures) at c.read_program.ensures.none) (let f : fault ≡ NoProgram = cc in ap Err f))))

pub returns-in_err-object-clause-bad_program : goal.returns-in_err-object-clause-bad_program
returns-in_err-object-clause-bad_program g c =
    let t = c.args.tree.now in
    let real = c.in-Some.real in
    let leads : program_at t c.args.program.now ≡ Some real = search rules in
    let fault = c.in_err-object.field-0.0 in
    let failed : c.read_program.result ≡ Err fault = c.in_err-object.was in
    let same : c.from_residual-in_err-object.result ≡ Err fault = search rules in
    rw same (bad_program t c.args.program.now real leads (g.S.Store.state c.args.store.now).held fault (rw (failed, c.as_bytes-2.ensures) at c.read_program.ensures.defect))

pub returns-in_err-object-clause-reads : goal.returns-in_err-object-clause-reads
returns-in_err-object-clause-reads g c =
    let t = c.args.tree.now in
    let real = c.in-Some.real in
    let leads : program_at t c.args.program.now ≡ Some real = search rules in
    let fault = c.in_err-object.field-0.0 in
    let failed : c.read_program.result ≡ Err fault = c.in_err-object.was in
    let same : c.from_residual-in_err-object.result ≡ Err fault = search rules in
    let st = g.S.Store.state c.args.store.now in
    rw same (refusal_reads t c.args.program.now real leads (option_copied c.args.cache) c.args.env.now st.held fault st (g.S.Store.state c.read_program.new.store)
    (λ f. not_keyless t (from_root c.args.program.now) real leads ((rw (failed, c.as_bytes-2.ensures) at c.read_program.ensures.none) (ap Err f)))
    (rw (failed, c.as_bytes-2.ensures) at c.read_program.ensures.defect) (rw (failed, c.as_bytes-2.ensures) at c.read_program.ensures.reads))

pub returns-in_err-scope-clause-reads : goal.returns-in_err-scope-clause-reads
returns-in_err-scope-clause-reads g c =
    let t = c.args.tree.now in
    let p : Found = record { path = c.in_ok-path.path; real = c.in-Some.real; object = c.in_ok-object.object } in
    let spelled : p.path ≡ from_root c.args.program.now = search rules in
    let leads : program_at t c.args.program.now ≡ Some p.real = search rules in
    let fault = c.in_err-scope.field-0.0 in
    let failed : c.load.result ≡ Err fault = c.in_err-scope.was in
    let same : c.from_residual-in_err-scope.result ≡ Err (of_search fault) = search rules in
    let st = g.S.Store.state c.args.store.now in
    let reads = rw (c.in_ok-object.was, c.as_bytes-2.ensures) at c.read_program.ensures.reads in
    rw same (list_fails t (option_copied c.args.cache) c.args.program.now c.args.env.now p spelled leads fault st.held st (g.S.Store.state c.read_program.new.store)
    (g.S.Store.state c.load.new.store) (rw c.as_bytes-2.ensures at c.in_ok-object.ensures.object) (rw c.as_bytes-2.ensures at c.in_ok-object.ensures.held) reads
    ((rw (failed, reads.held) at c.load.ensures) (file_keys t (p.real ∷ []))))

pub returns-clause-scope : goal.returns-clause-scope
returns-clause-scope g c =
    let t = c.args.tree.now in
    let p : Found = record { path = c.in_ok-path.path; real = c.in-Some.real; object = c.in_ok-object.object } in
    let spelled : p.path ≡ from_root c.args.program.now = search rules in
    let leads : program_at t c.args.program.now ≡ Some p.real = search rules in
    let st = g.S.Store.state c.args.store.now in
    let reads = rw (c.in_ok-object.was, c.as_bytes-2.ensures) at c.read_program.ensures.reads in
    is_scope t (option_copied c.args.cache) c.args.program.now c.args.env.now p spelled leads c.in_ok-scope.scope (g.S.Store.state c.read_program.new.store)
    (g.S.Store.state c.load.new.store) st.held (rw c.as_bytes-2.ensures at c.in_ok-object.ensures.object)
    ((rw (c.in_ok-scope.was, reads.held) at c.load.ensures) (file_keys t (p.real ∷ [])))

pub returns-clause-loaded : goal.returns-clause-loaded
returns-clause-loaded g c =
    let t = c.args.tree.now in
    let p : Found = record { path = c.in_ok-path.path; real = c.in-Some.real; object = c.in_ok-object.object } in
    let spelled : p.path ≡ from_root c.args.program.now = search rules in
    let leads : program_at t c.args.program.now ≡ Some p.real = search rules in
    let st = g.S.Store.state c.args.store.now in
    let reads = rw (c.in_ok-object.was, c.as_bytes-2.ensures) at c.read_program.ensures.reads in
    are_loaded t (option_copied c.args.cache) c.args.program.now c.args.env.now p spelled leads c.in_ok-scope.scope (g.S.Store.state c.read_program.new.store)
    (g.S.Store.state c.load.new.store) st.held
    ((rw (c.in_ok-scope.was, reads.held) at c.load.ensures) (file_keys t (p.real ∷ [])))

pub returns-clause-held : goal.returns-clause-held
returns-clause-held g c =
    let t = c.args.tree.now in
    let p : Found = record { path = c.in_ok-path.path; real = c.in-Some.real; object = c.in_ok-object.object } in
    let spelled : p.path ≡ from_root c.args.program.now = search rules in
    let leads : program_at t c.args.program.now ≡ Some p.real = search rules in
    let st = g.S.Store.state c.args.store.now in
    let reads = rw (c.in_ok-object.was, c.as_bytes-2.ensures) at c.read_program.ensures.reads in
    none_lacking t (option_copied c.args.cache) c.args.program.now c.args.env.now p spelled leads (λ r. IsListed r c.in_ok-scope.scope) st
    (g.S.Store.state c.read_program.new.store) (g.S.Store.state c.load.new.store) st.held (rw c.as_bytes-2.ensures at c.in_ok-object.ensures.held) reads
    ((rw (c.in_ok-scope.was, reads.held) at c.load.ensures) (file_keys t (p.real ∷ [])))

pub returns-clause-reads : goal.returns-clause-reads
returns-clause-reads g c =
    let t = c.args.tree.now in
    let p : Found = record { path = c.in_ok-path.path; real = c.in-Some.real; object = c.in_ok-object.object } in
    let spelled : p.path ≡ from_root c.args.program.now = search rules in
    let leads : program_at t c.args.program.now ≡ Some p.real = search rules in
    let st = g.S.Store.state c.args.store.now in
    let reads = rw (c.in_ok-object.was, c.as_bytes-2.ensures) at c.read_program.ensures.reads in
    listing_read t (option_copied c.args.cache) c.args.program.now c.args.env.now p spelled leads (λ r. IsListed r c.in_ok-scope.scope) Complete st
    (g.S.Store.state c.read_program.new.store) (g.S.Store.state c.load.new.store) st.held (rw c.as_bytes-2.ensures at c.in_ok-object.ensures.object)
    (rw c.as_bytes-2.ensures at c.in_ok-object.ensures.held) reads ((rw (c.in_ok-scope.was, reads.held) at c.load.ensures) (file_keys t (p.real ∷ []))) (λ r listed. listed.all)
