use Rattle.std.proofs.Common.{◌≡◌, ◌∙◌, Err, inl, rules, sym}
use Rattle.std.specs.Option.{option_copied}
use Rattle.rpath_search.specs.declared.fault.SearchFault.TheVariants as searches
use Rattle.ldd_resolve.specs.Each.{ResolvesOne, outcome_by}
use Rattle.ldd_resolve.specs.Resolving.{resolve_ending}
use Rattle.ldd_resolve.proofs.InTurn.{at_end, listed_then, no_room, same_held, stopped_then}
use Rattle.ldd_resolve.proofs.each.resolve_each.Goals as goal

pub returns-in_err-resolved : goal.returns-in_err-resolved
returns-in_err-resolved g c =
    let fault = c.in_err-resolved.field-0.0 in
    let same : c.from_residual.result ≡ Err fault = search rules in
    rw same ((rw c.in-Some.ensures.steps.0 at c.loop-path.invariant.stopped) fault (g.S.Store.state c.resolve_one.new.store)
    (inl (rw (c.in_err-resolved.was, c.loop-path.invariant.held) at c.resolve_one.ensures.resolves)))

pub loop-path-preserved : goal.loop-path-preserved
loop-path-preserved g c =
    let st = g.S.Store.state c.args.store.now in
    let here = g.S.Store.state c.loop-path.store in
    let next = g.S.Store.state c.resolve_one.new.store in
    let lists = ResolvesOne st.held c.args.tree.now (option_copied c.args.cache) c.args.env.now in
    let one = rw c.loop-path.invariant.held at c.in_ok-resolved.ensures.resolves in
    record {
      held = same_held c.args.tree.now (option_copied c.args.cache) c.args.env.now c.in-Some.path here next (resolve_ending (outcome_by c.resolve_one.result)) here.held c.resolve_one.ensures.resolves.reads
          ∙ c.loop-path.invariant.held;
      listed = rw c.in_ok-push.ensures.done (listed_then lists c.args.paths c.next.new.self.rest.items c.in-Some.path st here next c.loop-path.scopes c.in_ok-resolved.resolved c.in_ok-resolved.ensures.path one
          (rw c.in-Some.ensures.steps.0 at c.loop-path.invariant.listed));
      stopped = stopped_then lists c.args.paths c.next.new.self.rest.items c.in-Some.path st here next c.in_ok-resolved.resolved c.in_ok-resolved.ensures.path one
          (rw c.in-Some.ensures.steps.0 at c.loop-path.invariant.stopped);
    }

pub returns-in_err-push : goal.returns-in_err-push
returns-in_err-push g c =
    let same : c.from_residual-in_err-push.result ≡ Err searches.NoMemory = search rules in
    rw same ((rw c.in-Some.ensures.steps.0 at c.loop-path.invariant.stopped) searches.NoMemory (g.S.Store.state c.resolve_one.new.store)
    (inl (no_room c.args.tree.now (option_copied c.args.cache) c.args.env.now c.in-Some.path (g.S.Store.state c.loop-path.store) (g.S.Store.state c.resolve_one.new.store) (g.S.Store.state c.args.store.now).held
    c.in_ok-resolved.resolved (rw c.loop-path.invariant.held at c.in_ok-resolved.ensures.resolves))))

pub returns : goal.returns
returns g c =
    let lists = ResolvesOne (g.S.Store.state c.args.store.now).held c.args.tree.now (option_copied c.args.cache) c.args.env.now in
    at_end lists c.args.paths c.loop-path.path-iterator.rest.items (g.S.Store.state c.args.store.now) (g.S.Store.state c.loop-path.store) c.loop-path.scopes
    (sym c.loop-path.path-iterator.rest.ok.0 ∙ c.in-None.ensures.steps.0) c.loop-path.invariant.listed
