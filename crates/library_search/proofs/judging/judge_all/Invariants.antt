use Rattle.std.proofs.Common.{◌≡◌, ℕ, List}
use Rattle.std.specs.Map.{keys_of}
use Rattle.file_table.specs.Table.{analysis_at}
use Rattle.library_search.specs.Unsearchable.{unsearchable}
use Rattle.library_search.proofs.Replaced.{AreRows, marked}
use Rattle.library_search.proofs.judging.judge_all.Given as goal

-- the remaining paths are paths of rows, and give the rest
abbrev pub invariant-loop-path : goal.invariant-loop-path
invariant-loop-path l = record {
  rows : keys_of l.table ≡ keys_of l.fn.table;
  there : AreRows (keys_of l.fn.table) l.path-iterator.rest.items;
  marks : (path : List ℕ) → marked l.path-iterator.rest.items (analysis_at l.table) path ≡ marked (unsearchable l.fn.table) (analysis_at l.fn.table) path;
}
