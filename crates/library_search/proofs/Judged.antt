-- What analyses count as, of equal analyses and of judged ones.
use Rattle.std.proofs.Common.{◌≡◌, ℕ, not, cond, List, Option, Some, None, refl, ap, sym, ◌∙◌}
use Rattle.std.specs.Option.{is_none, is_some, option_map}
use Rattle.elf_dynamic.specs.Begun.{key_in}
use Rattle.file_stamps.specs.Files.{AreRead}
use Rattle.hwcap_dirs.specs.declared.kinds.Scope.{Scope}
use Rattle.hwcap_dirs.specs.declared.kinds.Scope.TheVariants.{Image, Only, Root}
use Rattle.file_table.specs.Analyses.{AgreeOn, Analyses, HaveAnalyses, KeepsAnalyses}
use Rattle.image_tree.specs.Tree.{Nodes, node_at}
use Rattle.lib_types.proofs.SortedPairs.{by_test}
use Rattle.lib_types.specs.declared.analysis.Analysis.{Analysis}
use Rattle.lib_types.specs.declared.analysis.Analysis.TheVariants.{Lib, Not}
use Rattle.library_search.specs.Judged.{AreJudged, can_search, judged, judged_all, judged_by}

-- ---- equal analyses

pub judged_same : (scope : Scope) (what new : Analyses) (path : List ℕ) → new path ≡ what path → judged scope new path ≡ judged scope what path
unfolding judged_all
judged_same Image what new path e = e
judged_same (Root conf) what new path e = ap (option_map (judged_by path)) e
judged_same (Only dirs) what new path e = ap (option_map (judged_by path)) e

pub judged_agree : (scope : Scope) (what new : Analyses) (paths : List (List ℕ)) → AgreeOn paths what new → AgreeOn paths (judged scope what) (judged scope new)
judged_agree scope what new paths agree path there = judged_same scope what new path (agree path there)

-- ---- a path keeps having an analysis or none

mapped_some : {A B : Type 0} (f : A → B) (o : Option A) → is_some (option_map f o) ≡ is_some o
mapped_some f None = refl
mapped_some f (Some a) = refl

some_not : {A : Type 0} (o : Option A) → not (is_some o) ≡ is_none o
some_not None = refl
some_not (Some a) = refl

pub judged_some : (scope : Scope) (what : Analyses) (path : List ℕ) → is_some (judged scope what path) ≡ is_some (what path)
unfolding judged_all
judged_some Image what path = refl
judged_some (Root conf) what path = mapped_some (judged_by path) (what path)
judged_some (Only dirs) what path = mapped_some (judged_by path) (what path)

-- ---- judged analyses

judged_again : (path : List ℕ) (analysis : Analysis) → judged_by path (judged_by path analysis) ≡ judged_by path analysis
judged_again path (Not defect) = refl
judged_again path (Lib abi soname) = by_test {P = judged_by path (judged_by path (Lib abi soname)) ≡ judged_by path (Lib abi soname)} (can_search path soname)
    (λ h. rw (h, h) refl)
    (λ h. rw h refl)

mapped_again : (path : List ℕ) (o : Option Analysis) → option_map (judged_by path) (option_map (judged_by path) o) ≡ option_map (judged_by path) o
mapped_again path None = refl
mapped_again path (Some analysis) = ap Some (judged_again path analysis)

pub judged_twice : (scope : Scope) (what : Analyses) → AreJudged scope (judged scope what)
unfolding judged_all
judged_twice Image what path = refl
judged_twice (Root conf) what path = mapped_again path (what path)
judged_twice (Only dirs) what path = mapped_again path (what path)

module _ (scope : Scope) (what new : Analyses) (is : (path : List ℕ) → new path ≡ judged scope what path) where
  pub are_judged : AreJudged scope new
  are_judged path = judged_same scope (judged scope what) new path (is path) ∙ judged_twice scope what path ∙ sym (is path)

  pub judged_have : (paths : List (List ℕ)) → HaveAnalyses what paths → HaveAnalyses new paths
  judged_have paths have path there = ap is_some (is path) ∙ judged_some scope what path ∙ have path there

  -- analyses that were judged before are kept
  pub judged_keep : (first : Analyses) → AreJudged scope first → KeepsAnalyses first what → KeepsAnalyses first new
  judged_keep first before keeps path there = is path ∙ judged_same scope first what path (keeps path there) ∙ before path

  pub judged_agrees : (info : Analyses) (paths : List (List ℕ)) → AgreeOn paths info what → AgreeOn paths (judged scope info) new
  judged_agrees info paths agree path there = is path ∙ judged_same scope info what path (agree path there)

  -- a file that was read has an analysis
  pub still_read : (t : Nodes) (paths : List (List ℕ)) → AreRead t what paths → AreRead t new paths
  still_read t paths read path there =
      ap (λ b. cond b (key_in (node_at t path)) None) (sym (some_not (new path)) ∙ ap not (ap is_some (is path) ∙ judged_some scope what path) ∙ some_not (what path)) ∙ read path there
