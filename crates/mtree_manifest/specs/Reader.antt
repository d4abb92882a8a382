-- The values of the specification that the reader's parts represent.
use Rattle.std.specs.Prelude.{ℕ, List, Result}
use Rattle.manifest_words.specs.Keys.{Values}
use Rattle.manifest_words.specs.Paths.{place}
use Rattle.mtree_manifest.specs.declared.fault.ManifestFault.{ManifestFault}
use Rattle.mtree_manifest.specs.Lining.{line_in}
use Rattle.mtree_manifest.specs.Manifest.{State, put_by, stack_after, with_put}
use Rattle.manifest_words.specs.Views.{values_in}
use Rattle.mtree_manifest.specs.Progress.{Progress}
use Rattle.mtree_manifest.specs.declared.line.Line as the_line
use Rattle.mtree_manifest.specs.declared.reader.Reader as the_reader

abbrev pub state_in : the_reader.Reader → State
state_in r = record { tree = r.tree; defaults = values_in r.defaults; dirs = r.dirs }

abbrev pub progress_in : the_reader.Reader → ℕ → the_line.Line → Progress
progress_in r next line = record { state = state_in r; line = line_in line; next = next }

-- the state after a line without an error, whose node is put
abbrev pub entry_put : ℕ → State → List ℕ → Values → Result State ManifestFault
entry_put number s first v = with_put number s (stack_after s.dirs first v) (put_by (place s.dirs first) v)
