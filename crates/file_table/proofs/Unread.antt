-- Paths whose files have no ELF information.
use Rattle.std.proofs.Common.{◌≡◌, ℕ, List, [], ◌∷◌, refl, ap}
use Rattle.std.proofs.lemmas.List.Kept.{IsStrictlySortedBy-filter}
use Rattle.std.specs.Cmp.Lexicographic.{slice_cmp}
use Rattle.std.specs.List.Sorted.{IsStrictlySortedBy}
use Rattle.std.specs.Option.{is_none}
use Rattle.std.specs.Ordering.{nat_cmp}
use Rattle.file_table.specs.Analyses.{Analyses, unread}
use Rattle.file_table.specs.Table.{analysis_at}

-- if the table is empty, no path has ELF information
pub none_read : (paths : List (List ℕ)) → unread (analysis_at []) paths ≡ paths
none_read [] = refl
none_read (path ∷ paths) = ap (λ rest. path ∷ rest) (none_read paths)

pub unread_sorted : (what : Analyses) (paths : List (List ℕ)) → IsStrictlySortedBy (slice_cmp nat_cmp) paths → IsStrictlySortedBy (slice_cmp nat_cmp) (unread what paths)
unread_sorted what paths = IsStrictlySortedBy-filter (slice_cmp nat_cmp) (λ path. is_none (what path)) paths
