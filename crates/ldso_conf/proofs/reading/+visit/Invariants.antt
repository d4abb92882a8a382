use Rattle.std.proofs.Common.{◌≡◌, ◌≤◌, ◌<◌, ◌-◌, None}
use Rattle.lib_types.specs.Counts.{raised}
use Rattle.conf_views.specs.View.{IsSameView}
use Rattle.tree_face.specs.Known.{IfKnown}
use Rattle.tree_face.specs.StoreUse.{Complete, ReadsFiles}
use Rattle.ldso_conf.specs.Reading.{asked, included}
use Rattle.ldso_conf.specs.Visits.{IsDoneIn, LooksTo}
use Rattle.ldso_conf.proofs.reading.+visit.Given as goal

-- the remaining steps complete the visit
abbrev pub invariant-loop-step : goal.invariant-loop-step
invariant-loop-step g l = record {
  deep : 0 < l.left;
  done : g.V.TreeView.knows l.fn.view → IsDoneIn (g.S.Store.state l.fn.store).held
      (λ held. included (g.V.TreeView.state l.fn.view).tree held l.left l.fn.reader.read l.fn.file)
      (λ held. asked (included (g.V.TreeView.state l.fn.view).tree held (l.left - 1)) l.reader.read l.step-iterator.rest.items)
      l.fn.reader l.reader (g.S.Store.state l.fn.store) (g.S.Store.state l.store);
  looks : g.V.TreeView.knows l.fn.view → IfKnown (g.S.Store.state l.fn.store).held
      (λ held. LooksTo (g.V.TreeView.state l.fn.view).tree (included (g.V.TreeView.state l.fn.view).tree held l.left l.fn.reader.read l.fn.file)
      (asked (included (g.V.TreeView.state l.fn.view).tree held (l.left - 1)) l.reader.read l.step-iterator.rest.items)
      (g.V.TreeView.state l.fn.view) (g.V.TreeView.state l.view));
  any : ReadsFiles ⊥ None None Complete (g.S.Store.state l.fn.store) (g.S.Store.state l.store);
  knows : g.V.TreeView.knows l.fn.view → g.V.TreeView.knows l.view;
  view : IsSameView (g.V.TreeView.state l.fn.view) (g.V.TreeView.state l.view);
  since : (start : _) → g.V.TreeView.since start l.fn.view → g.V.TreeView.since start l.view;
  held : (g.S.Store.state l.store).held ≡ (g.S.Store.state l.fn.store).held;
  files : l.fn.reader.files ≤ l.reader.files;
  begun : (g.S.Store.state l.store).begun ≡ raised (g.S.Store.state l.fn.store).begun (l.reader.files - l.fn.reader.files);
}

abbrev pub decreases-visit : goal.decreases-visit
decreases-visit g l = l.left
