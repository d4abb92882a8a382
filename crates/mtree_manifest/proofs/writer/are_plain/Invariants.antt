use Rattle.std.proofs.Common.{◌≡◌, ◌&&◌, drop}
use Rattle.std.specs.List.{list_all}
use Rattle.manifest_words.specs.Escape.{is_unescaped}
use Rattle.mtree_manifest.proofs.writer.are_plain.Given as goal

-- the test so far and the bytes that are left give the result
abbrev pub invariant-loop-b : goal.invariant-loop-b
invariant-loop-b l = (l.plain && list_all is_unescaped (drop l.b-index l.bytes)) ≡ list_all is_unescaped l.bytes
