use Rattle.std.proofs.Common.{◌≡◌, ◌++◌}
use Rattle.std.specs.List.{flat_map}
use Rattle.conf_views.specs.Patterns.{results_listed, results_looked}
use Rattle.conf_views.specs.View.{IsSameView, LooksBut}
use Rattle.ldso_conf.specs.Lines.{lines_of}
use Rattle.ldso_conf.specs.Looked.{line_paths}
use Rattle.ldso_conf.specs.Steps.{line_steps, numbered}
use Rattle.ldso_conf.proofs.steps.steps_of.Given as goal

-- the remaining lines give the rest
abbrev pub invariant-loop-line : goal.invariant-loop-line
invariant-loop-line g l = record {
  steps : g.V.TreeView.knows l.fn.view → l.steps.items ++ flat_map (line_steps (g.V.TreeView.state l.fn.view).tree l.file) (numbered l.number l.line-iterator)
      ≡ flat_map (line_steps (g.V.TreeView.state l.fn.view).tree l.file) (numbered 1 (lines_of l.fn.content));
  looks : g.V.TreeView.knows l.fn.view → LooksBut
      (flat_map (line_paths (results_looked (g.V.TreeView.state l.fn.view).tree) l.file) (numbered 1 (lines_of l.fn.content)))
      (flat_map (line_paths (results_looked (g.V.TreeView.state l.fn.view).tree) l.file) (numbered l.number l.line-iterator))
      (flat_map (line_paths (results_listed (g.V.TreeView.state l.fn.view).tree) l.file) (numbered 1 (lines_of l.fn.content)))
      (flat_map (line_paths (results_listed (g.V.TreeView.state l.fn.view).tree) l.file) (numbered l.number l.line-iterator))
      (g.V.TreeView.state l.fn.view) (g.V.TreeView.state l.view);
  knows : g.V.TreeView.knows l.fn.view → g.V.TreeView.knows l.view;
  view : IsSameView (g.V.TreeView.state l.fn.view) (g.V.TreeView.state l.view);
  since : (start : _) → g.V.TreeView.since start l.fn.view → g.V.TreeView.since start l.view;
}
