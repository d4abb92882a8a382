-- The command `sample` with its own devices in memory.
use Rattle.std.specs.Prelude.{◌≡◌, ◌⊎◌, ℕ, List, map, Ok}
use Rattle.command_status.specs.declared.status.Status.{Status}
use Rattle.command_status.specs.declared.status.Status.TheVariants.{StoreFault, DiskFault, NoMemory}
use Rattle.ldconfig_core.specs.Texts.{UpdateTexts}
use Rattle.tree_face.specs.Memory.{Pair, held_in}
use Rattle.tree_face.specs.Store.{Contents}
use Rattle.tree_face.specs.Stream.{SinkState}
use Rattle.sample_runs.specs.declared.files.SampleFile.{SampleFile}
use Rattle.sample_runs.specs.Files.{content, key, sample_files}
use Rattle.sample_runs.specs.Sample.{EndsBy, IsTextOf}

abbrev pub pair_of : SampleFile → Pair
pair_of file = (key file, content file)

-- the contents of the store: each library's content under its key
unfoldable pub sample_contents : ℕ → Contents
sample_contents n = held_in (map pair_of (sample_files n))

-- the text of the sample with these contents
pub record IsOwnText (n : ℕ) (text : List ℕ) : Type 0 where
  pub first : UpdateTexts
  pub second : UpdateTexts
  pub is : IsTextOf (sample_contents n) n text first second

-- a failure of the store or of the disk means out of memory
abbrev pub own_status : Status → Status
own_status StoreFault = NoMemory
own_status DiskFault = NoMemory
own_status status = status

-- The text of the sample is written, or a prefix of it if the output fails. If memory runs out, nothing is written.
abbrev pub RunEnds : ℕ → Status → SinkState → SinkState → Type 0
RunEnds n status out after = ((text : List ℕ) × (IsOwnText n text × EndsBy (Ok text) status out after)) ⊎ ((status ≡ NoMemory) × (after ≡ out))
