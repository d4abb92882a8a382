use Rattle.std.proofs.Common.{◌≡◌, bytes_eq, drop}
use Rattle.std.specs.List.{fold}
use Rattle.indexmap.specs.IndexSet.{insert_key}
use Rattle.string_pool.specs.Distinct.{distinct}
use Rattle.string_pool.proofs.text_set.distinct.Given as goal

-- inserting the texts that are left gives the result
abbrev pub invariant-loop-text : goal.invariant-loop-text
invariant-loop-text l = fold (insert_key bytes_eq) l.met (drop l.text-index l.texts) ≡ distinct l.texts
