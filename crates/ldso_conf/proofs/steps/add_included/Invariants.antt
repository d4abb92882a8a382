use Rattle.std.proofs.Common.{◌≡◌, ◌++◌, eqb, not, length, map}
use Rattle.std.specs.List.{filter, flat_map}
use Rattle.conf_views.specs.Files.{files}
use Rattle.conf_views.specs.Patterns.{results_listed, results_looked}
use Rattle.conf_views.specs.View.{IsSameView, LooksBut}
use Rattle.ldso_conf.specs.Lines.{words_of}
use Rattle.ldso_conf.specs.Steps.{include_steps}
use Rattle.ldso_conf.specs.declared.steps.Step.TheVariants as step
use Rattle.ldso_conf.proofs.steps.add_included.Given as goal

-- the remaining patterns give the rest
abbrev pub invariant-loop-pattern : goal.invariant-loop-pattern
invariant-loop-pattern g l = record {
  steps : g.V.TreeView.knows l.fn.view → l.steps.items
      ++ flat_map (λ pattern. map step.Include (files (g.V.TreeView.state l.fn.view).tree l.file pattern)) (filter (λ word. not (eqb (length word) 0)) l.pattern-iterator)
      ≡ l.fn.steps.items ++ include_steps (g.V.TreeView.state l.fn.view).tree l.file l.fn.patterns;
  looks : g.V.TreeView.knows l.fn.view → LooksBut (flat_map (results_looked (g.V.TreeView.state l.fn.view).tree l.file) (words_of l.fn.patterns))
      (flat_map (results_looked (g.V.TreeView.state l.fn.view).tree l.file) (filter (λ word. not (eqb (length word) 0)) l.pattern-iterator))
      (flat_map (results_listed (g.V.TreeView.state l.fn.view).tree l.file) (words_of l.fn.patterns))
      (flat_map (results_listed (g.V.TreeView.state l.fn.view).tree l.file) (filter (λ word. not (eqb (length word) 0)) l.pattern-iterator))
      (g.V.TreeView.state l.fn.view) (g.V.TreeView.state l.view);
  knows : g.V.TreeView.knows l.fn.view → g.V.TreeView.knows l.view;
  view : IsSameView (g.V.TreeView.state l.fn.view) (g.V.TreeView.state l.view);
  since : (start : _) → g.V.TreeView.since start l.fn.view → g.V.TreeView.since start l.view;
}
