-- Paths that have the same ELF information in two tables.
use Rattle.std.proofs.Common.{ℕ, List, ◌++◌, ◌∙◌}
use Rattle.std.proofs.lemmas.Bool.{or_left, or_right}
use Rattle.std.proofs.lemmas.List.Folds.{list_any-append}
use Rattle.std.specs.Str.{bytes_eq}
use Rattle.string_pool.proofs.InByteOrder.{in_ascending}
use Rattle.string_pool.proofs.Members.{is_in}
use Rattle.file_table.specs.Analyses.{Analyses, AgreeOn, HaveAnalyses, KeepsAnalyses}
use Rattle.string_pool.specs.Order.{ascending}

pub kept_agree : (what new : Analyses) (paths : List (List ℕ)) → HaveAnalyses what paths → KeepsAnalyses what new → AgreeOn paths what new
kept_agree what new paths have keeps path there = keeps path (have path there)

module _ (what new : Analyses) where
  pub agree_first : (xs ys : List (List ℕ)) → AgreeOn (xs ++ ys) what new → AgreeOn xs what new
  agree_first xs ys same path there = same path (list_any-append (bytes_eq path) xs ys ∙ or_left (is_in xs path) (is_in ys path) there)

  pub agree_later : (xs ys : List (List ℕ)) → AgreeOn (xs ++ ys) what new → AgreeOn ys what new
  agree_later xs ys same path there = same path (list_any-append (bytes_eq path) xs ys ∙ or_right (is_in xs path) (is_in ys path) there)

  pub agree_in_order : (xs : List (List ℕ)) → AgreeOn (ascending xs) what new → AgreeOn xs what new
  agree_in_order xs same path there = same path (in_ascending xs path ∙ there)
