use Rattle.std.proofs.Common.{rules, ◌≡◌, [], ap, ◌∙◌}
use Rattle.std.proofs.lemmas.List.{nil_from_length}
use Rattle.std.specs.Map.{keys_of}
use Rattle.file_table.specs.Table.{Rows, analysis_at, with_analysis}
use Rattle.lib_types.specs.declared.analysis.Analysis.TheVariants.{Not}
use Rattle.lib_types.specs.declared.analysis.Defect.TheVariants.{Unsearchable}
use Rattle.string_pool.proofs.Members.{is_in}
use Rattle.library_search.proofs.Replaced.{marked, marks_are, marks_next, rows_same}
use Rattle.library_search.proofs.judging.judge_all.Goals as goal

pub loop-path-preserved : goal.loop-path-preserved
loop-path-preserved c =
    let old = c.loop-path.table in
    let here = c.in-Some.path in
    let rest = c.next.new.self.rest.items in
    let there = rw c.in-Some.ensures.steps.0 at c.loop-path.invariant.there in
    let put : c.insert.new.self ≡ with_analysis old here (Not Unsearchable) = c.in_ok-insert.ensures.done in
    record {
      rows = ap keys_of put ∙ rows_same old here (Not Unsearchable) (ap (λ keys. is_in keys here) c.loop-path.invariant.rows ∙ there.0) ∙ c.loop-path.invariant.rows;
      there = there.1;
      marks = λ path. ap (λ (t : Rows). marked rest (analysis_at t) path) put ∙ marks_next old here rest path ∙ (rw c.in-Some.ensures.steps.0 at (c.loop-path.invariant.marks path));
    }

-- all paths were replaced
pub returns-clause-judged : goal.returns-clause-judged
returns-clause-judged c path =
    let left : c.loop-path.path-iterator.rest.items ≡ [] = nil_from_length _ (search rules) in
    (rw left at (c.loop-path.invariant.marks path)) ∙ marks_are c.args.table.now c.in_ok-path-items.ensures.distinct path
