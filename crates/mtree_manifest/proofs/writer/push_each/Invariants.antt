use Rattle.std.proofs.Common.{◌≡◌, ◌++◌, take}
use Rattle.manifest_words.specs.Escape.{escaped}
use Rattle.mtree_manifest.proofs.writer.push_each.Given as goal

abbrev pub invariant-loop-b : goal.invariant-loop-b
invariant-loop-b l = l.out.items ≡ l.fn.out.items ++ escaped (take l.b-index l.bytes)
