use Rattle.std.proofs.Common.{◌≡◌, ◌≤◌, ◌+◌, length, true}
use Rattle.mtree_manifest.specs.Good.{are_good, IsGoodOpen}
use Rattle.manifest_words.specs.Lines.{lines_in}
use Rattle.mtree_manifest.specs.Lining.{line_in}
use Rattle.mtree_manifest.specs.Manifest.{no_lines, with_lines}
use Rattle.mtree_manifest.specs.Progress.{with_physicals}
use Rattle.mtree_manifest.specs.Reader.{state_in, progress_in}
use Rattle.mtree_manifest.specs.declared.fault.TheConstants.{MANIFEST_MAX}
use Rattle.mtree_manifest.proofs.reader.read_lines.Given as goal

-- reading the lines that are left gives the result of the whole text
abbrev pub invariant-loop-physical : goal.invariant-loop-physical
invariant-loop-physical l = record {
  whole : with_physicals (progress_in l.reader l.next l.line) l.physical-iterator ≡ with_lines no_lines (lines_in l.fn.text);
  defaults : are_good (state_in l.reader).defaults ≡ true;
  good : IsGoodOpen (line_in l.line);
  few : l.next + length l.physical-iterator ≤ MANIFEST_MAX + 1;
}
