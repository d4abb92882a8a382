use Rattle.library_files.proofs.FoundOnce.{paths_once, still_files}
use Rattle.library_files.proofs.found.in_order.Goals as goal

pub returns-clause-paths : goal.returns-clause-paths
returns-clause-paths c = paths_once _ _ _ c.sort.ensures.permutation c.in_ok-sort.ensures.sorted c.dedup.ensures.filtered

pub returns-clause-files : goal.returns-clause-files
returns-clause-files c t are = still_files _ _ _ c.sort.ensures.permutation c.dedup.ensures.filtered t are
