use Rattle.std.proofs.Common.{◌≡◌, ◌++◌, filter}
use Rattle.image_tree.specs.Paths.{components, is_kept}
use Rattle.file_trails.proofs.names.names_of.Given as goal

-- the names that are left follow those that are found
abbrev pub invariant-loop-part : goal.invariant-loop-part
invariant-loop-part l = l.names ++ filter is_kept l.part-iterator ≡ components l.fn.text
