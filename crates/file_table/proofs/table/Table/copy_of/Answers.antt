use Rattle.std.proofs.Common.{rules, ◌≡◌, ◌<◌, ◌≤◌, ℕ, List, Some, None, ◌+◌, get_or, length, take, sym, subst}
use Rattle.std.proofs.lemmas.List.{take_all}
use Rattle.file_table.proofs.Copied.{IsCopied, all_same, next_copied, next_passed}
use Rattle.file_table.specs.Table.{analysis_at, with_analysis}
use Rattle.file_table.proofs.table.Table.copy_of.Goals.{in-Some+in_ok-copy+in_ok-copy_of+in_ok-insert, in_default}
use Rattle.file_table.proofs.table.Table.copy_of.Goals as goal

pub loop-path-preserved : goal.loop-path-preserved
loop-path-preserved c =
    let what = analysis_at c.args.self.now in
    let paths = c.args.paths.now in
    let i = c.loop-path.path-index in
    let path = c.as_bytes.result.now in
    let h : i < length paths = search rules in
    let is : path ≡ get_or paths i path = search rules in
    elim c.match-get.branch [
      | in-Some+in_ok-copy+in_ok-copy_of+in_ok-insert w ↦
          let found : what path ≡ Some w.in_ok-copy_of.field-0 = search rules in
          let put : c.match-get.copy ≡ with_analysis c.loop-path.copy path w.in_ok-copy_of.field-0 = search rules in
          subst (IsCopied what (take (i + 1) paths)) (sym put) (next_copied what paths c.requires i path h is c.loop-path.copy c.loop-path.invariant w.in_ok-copy_of.field-0 found)
      | in_default w ↦
          let none : what path ≡ None = search rules in
          let same : c.match-get.copy ≡ c.loop-path.copy = search rules in
          subst (IsCopied what (take (i + 1) paths)) (sym same) (next_passed what paths c.requires i path h is c.loop-path.copy c.loop-path.invariant none)
    ]

pub returns-clause-rows : goal.returns-clause-rows
returns-clause-rows c =
    let ended : length c.args.paths.now ≤ c.loop-path.path-index = search rules in
    let all : take c.loop-path.path-index c.args.paths.now ≡ c.args.paths.now = take_all c.loop-path.path-index c.args.paths.now ended in
    (subst (λ (done : List (List ℕ)). IsCopied (analysis_at c.args.self.now) done c.loop-path.copy) all c.loop-path.invariant).keys

pub returns-clause-same : goal.returns-clause-same
returns-clause-same c =
    let ended : length c.args.paths.now ≤ c.loop-path.path-index = search rules in
    let all : take c.loop-path.path-index c.args.paths.now ≡ c.args.paths.now = take_all c.loop-path.path-index c.args.paths.now ended in
    all_same (analysis_at c.args.self.now) c.args.paths.now c.loop-path.copy (subst (λ (done : List (List ℕ)). IsCopied (analysis_at c.args.self.now) done c.loop-path.copy) all c.loop-path.invariant)
