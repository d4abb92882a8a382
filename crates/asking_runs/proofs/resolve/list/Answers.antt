use Rattle.std.proofs.Common.{rules, ◌≡◌, Ok, Err, refl}
use Rattle.asking_runs.specs.declared.fault.ListFault.TheVariants as faults
use Rattle.asking_runs.proofs.resolve.list.Goals as goal

pub returns-in_err-paths : goal.returns-in_err-paths
returns-in_err-paths g c =
    let fault = c.in_err-paths.field-0.0 in
    let same : c.from_residual.result ≡ Err (faults.Search fault) = search rules in
    rw same (record { paths = Err fault; middle = g.S.Store.state c.chosen.new.store; chooses = rw c.in_err-paths.was at c.chosen.ensures; lists = (refl, refl) })

pub returns-in_err-scopes : goal.returns-in_err-scopes
returns-in_err-scopes g c =
    let fault = c.in_err-scopes.field-0.0 in
    let same : c.from_residual-in_err-scopes.result ≡ Err (faults.Search fault) = search rules in
    rw same (record {
      paths = Ok c.in_ok-paths.paths;
      middle = g.S.Store.state c.chosen.new.store;
      chooses = rw c.in_ok-paths.was at c.chosen.ensures;
      lists = record { scopes = Err fault; between = g.S.Store.state c.resolve_each.new.store; resolves = rw c.in_err-scopes.was at c.resolve_each.ensures; answers = (refl, refl) };
    })

pub returns : goal.returns
returns g c = record {
  paths = Ok c.in_ok-paths.paths;
  middle = g.S.Store.state c.chosen.new.store;
  chooses = rw c.in_ok-paths.was at c.chosen.ensures;
  lists = record { scopes = Ok c.in_ok-scopes.scopes; between = g.S.Store.state c.resolve_each.new.store; resolves = c.in_ok-scopes.ensures; answers = c.answer_as.ensures };
}
