use Rattle.std.proofs.Common.{◌≡◌, Err, sym, subst, rules}
use Rattle.std.specs.Option.{option_copied}
use Rattle.tree_face.specs.StoreUse.{Complete}
use Rattle.rpath_search.specs.Places.{env_for}
use Rattle.rpath_search.specs.declared.fault.SearchFault.TheVariants.{NoMemory}
use Rattle.rpath_search.specs.declared.kinds.Env.{Env}
use Rattle.ldd_resolve.specs.Loading.{Advances, IsSound}
use Rattle.ldd_resolve.specs.Requests.{IsListed, record_with, scope_in}
use Rattle.ldd_resolve.specs.Resolving.{inputs_of}
use Rattle.ldd_resolve.proofs.Advances.{gives_up}
use Rattle.ldd_resolve.proofs.Objects.{failing, fails_as}
use Rattle.ldd_resolve.proofs.resolving.load.Goals as goal

pub returns-in_err-env : goal.returns-in_err-env
returns-in_err-env g c =
    let same : c.from_residual.result ≡ Err NoMemory = search rules in
    let st = g.S.Store.state c.args.store.now in
    rw same (λ keys. gives_up (inputs_of c.args.tree.now (option_copied c.args.cache) (env_for c.args.env.now c.args.program.object.abi)) (record_with c.args.program keys) st st.held)

pub returns-in_err-loading : goal.returns-in_err-loading
returns-in_err-loading g c =
    let same : c.from_residual-in_err-loading.result ≡ Err NoMemory = search rules in
    let st = g.S.Store.state c.args.store.now in
    rw same (λ keys. gives_up (inputs_of c.args.tree.now (option_copied c.args.cache) (env_for c.args.env.now c.args.program.object.abi)) (record_with c.args.program keys) st st.held)

pub answer_all-requires-clause-sound : goal.answer_all-requires-clause-sound
answer_all-requires-clause-sound g c =
    let known = (g.S.Store.state c.args.store.now).held in
    subst (λ (e : Env). IsSound known c.args.tree.now e.abi c.in_ok-loading.loading) (sym c.in_ok-env.ensures)
    (c.in_ok-loading.ensures.sound known c.args.tree.now c.requires.node c.requires.object)

pub returns : goal.returns
returns g c =
    let st = g.S.Store.state c.args.store.now in
    let after = g.S.Store.state c.answer_all.new.store in
    λ keys. subst (λ (e : Env). Advances st.held (inputs_of c.args.tree.now (option_copied c.args.cache) e) (record_with c.args.program keys) (failing c.in-Err.fault) (λ r2. Unit {0}) st after)
    c.in_ok-env.ensures (fails_as st.held _ (record_with c.args.program keys) (λ r2. IsListed r2 (scope_in c.answer_all.new.loading)) st after c.in-Err.fault
    ((rw c.in-Err.is at c.answer_all.ensures.answers) (record_with c.args.program keys) (c.in_ok-loading.ensures.matching keys)))

pub returns-in-Ok : goal.returns-in-Ok
returns-in-Ok g c =
    let st = g.S.Store.state c.args.store.now in
    let after = g.S.Store.state c.answer_all.new.store in
    λ keys. rw c.from_vec.ensures (subst (λ (e : Env). Advances st.held (inputs_of c.args.tree.now (option_copied c.args.cache) e) (record_with c.args.program keys) Complete
    (λ r2. IsListed r2 (scope_in c.answer_all.new.loading)) st after)
    c.in_ok-env.ensures ((rw c.in-Ok.is at c.answer_all.ensures.answers) (record_with c.args.program keys) (c.in_ok-loading.ensures.matching keys)))
