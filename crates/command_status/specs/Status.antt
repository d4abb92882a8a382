-- The statuses: the status of each fault, its exit status, and its fault line on the output.
use Rattle.std.specs.Prelude.{◌≡◌, ◌⊎◌, ℕ, List, [], ◌++◌, codes, Option, Some, None, unwrap_or}
use Rattle.std.specs.Fmt.{decimal}
use Rattle.lib_types.specs.Counts.{HasRisen}
use Rattle.manifest_words.specs.declared.fault.LineKind.{LineKind}
use Rattle.manifest_words.specs.declared.fault.LineKind.TheVariants as kinds
use Rattle.mtree_manifest.specs.declared.fault.ManifestFault.{ManifestFault}
use Rattle.mtree_manifest.specs.declared.fault.ManifestFault.TheVariants as manifest_faults
use Rattle.tree_face.specs.Known.{Relates}
use Rattle.tree_face.specs.Follows.{IsFollowedBy, IsFollowedByPart}
use Rattle.tree_face.specs.Stream.{SinkState}
use Rattle.update_report.specs.Lines.{line}
use Rattle.image_session.specs.declared.fault.LoadFault.{LoadFault}
use Rattle.image_session.specs.declared.fault.LoadFault.TheVariants as loading
use Rattle.ldconfig_core.specs.declared.fault.UpdateFault.{UpdateFault}
use Rattle.ldconfig_core.specs.declared.fault.UpdateFault.TheVariants as updating
use Rattle.ldd_resolve.specs.declared.kinds.ProgramFault.{ProgramFault}
use Rattle.ldd_resolve.specs.declared.kinds.ProgramFault.TheVariants as programs
use Rattle.ldd_resolve.specs.declared.kinds.ResolveFault.{ResolveFault}
use Rattle.ldd_resolve.specs.declared.kinds.ResolveFault.TheVariants as resolving
use Rattle.command_status.specs.CacheFault.{cache_fault}
use Rattle.command_status.specs.ProgramFault.{program_fault}
use Rattle.command_status.specs.declared.status.Status.{Status}
use Rattle.command_status.specs.declared.status.Status.TheVariants.{Done, Missing, Usage, BadLayer, BadManifest, BadScript, NoCache, BadCache, NoProgram, BadProgram, StoreFault, DiskFault, InputFault, OutputFault, NoMemory, TooLong, NoManifest, TooLarge, TooMany}
use Rattle.command_status.specs.declared.status.LayerKind.{LayerKind}
use Rattle.command_status.specs.declared.status.LayerKind.TheVariants as layer
use Rattle.command_status.specs.declared.status.ScriptKind.{ScriptKind}
use Rattle.command_status.specs.declared.status.ScriptKind.TheVariants as script

-- the status of a fault
abbrev pub of_load : LoadFault → Status
of_load (loading.DiskFailed slot) = DiskFault
of_load loading.NoManifest = NoManifest
of_load (loading.BadManifest fault) = BadManifest fault
of_load loading.NoMemory = NoMemory

abbrev pub of_update : UpdateFault → Status
of_update updating.StoreFault = StoreFault
of_update (updating.TooLarge nodes bytes) = TooLarge nodes bytes
of_update (updating.TooMany count) = TooMany count
of_update (updating.DiskFault fault) = DiskFault
of_update updating.NoMemory = NoMemory

abbrev pub of_resolve : ResolveFault → Status
of_resolve resolving.NoProgram = NoProgram
of_resolve (resolving.BadProgram defect) = BadProgram defect
of_resolve resolving.StoreFault = StoreFault
of_resolve resolving.NoMemory = NoMemory

abbrev pub of_program : ProgramFault → Status
of_program programs.NoProgram = NoProgram
of_program (programs.BadProgram defect) = BadProgram defect

abbrev pub kind_text : LineKind → List ℕ
kind_text kinds.BadLine = codes "BadLine"
kind_text kinds.BadEscape = codes "BadEscape"
kind_text kinds.BadNumber = codes "BadNumber"
kind_text kinds.BadType = codes "BadType"
kind_text kinds.NoTarget = codes "NoTarget"

abbrev pub script_kind_text : ScriptKind → List ℕ
script_kind_text (script.Bad kind) = kind_text kind
script_kind_text script.Clash = codes "Clash"
script_kind_text script.NotThere = codes "NotThere"
script_kind_text script.Full = codes "Full"

abbrev pub script_text : ℕ → ScriptKind → List ℕ
script_text number kind = line (codes "fault: BadScript line " ++ decimal number ++ codes ": " ++ script_kind_text kind)

abbrev pub layer_kind_text : LayerKind → List ℕ
layer_kind_text (layer.Manifest fault) = codes "Manifest"
layer_kind_text (layer.Whiteout node) = codes "Whiteout"
layer_kind_text layer.Full = codes "Full"

abbrev pub layer_text : ℕ → LayerKind → List ℕ
layer_text number kind = line (codes "fault: BadLayer " ++ decimal number ++ codes ": " ++ layer_kind_text kind)

abbrev pub line_text : ℕ → List ℕ → List ℕ
line_text number kind = line (codes "fault: BadManifest line " ++ decimal number ++ codes ": " ++ kind)

abbrev pub manifest_text : ManifestFault → List ℕ
manifest_text (manifest_faults.TooLong length) = line (codes "fault: BadManifest: TooLong")
manifest_text (manifest_faults.Bad number kind) = line_text number (kind_text kind)
manifest_text (manifest_faults.Clash number) = line_text number (codes "Clash")
manifest_text (manifest_faults.TooMany number) = line_text number (codes "TooMany")
manifest_text manifest_faults.NoMemory = []

abbrev pub count_text : ℕ → List ℕ
count_text count = line (codes "fault: TooMany " ++ decimal count)

-- ---- the table of the statuses: the exit status of each, and the fault line if it has one

pub record Row : Type 0 where
  pub code : ℕ
  pub fault : Option (List ℕ)

abbrev pub silent : ℕ → Row
silent code = record { code = code; fault = None }

abbrev pub saying : ℕ → List ℕ → Row
saying code text = record { code = code; fault = Some text }

abbrev pub row_of : Status → Row
row_of Done = silent 0
row_of Missing = silent 1
row_of Usage = saying 2 (line (codes "fault: Usage"))
row_of (BadManifest fault) = saying 3 (manifest_text fault)
row_of (BadScript number kind) = saying 4 (script_text number kind)
row_of NoCache = saying 5 (line (codes "fault: NoCache"))
row_of (BadCache defect) = saying 6 (cache_fault defect)
row_of NoProgram = saying 7 (line (codes "fault: NoProgram"))
row_of (BadProgram defect) = saying 8 (program_fault defect)
row_of (TooMany count) = saying 9 (count_text count)
row_of StoreFault = saying 10 (line (codes "fault: StoreFault"))
row_of DiskFault = saying 11 (line (codes "fault: DiskFault"))
row_of InputFault = saying 12 (line (codes "fault: InputFault"))
row_of OutputFault = silent 13
row_of NoMemory = silent 14
row_of (TooLong taken) = saying 15 (line (codes "fault: TooLong"))
row_of NoManifest = saying 16 (line (codes "fault: NoManifest"))
row_of (TooLarge nodes bytes) = saying 17 (line (codes "fault: TooLarge"))
row_of (BadLayer number kind) = saying 19 (layer_text number kind)

abbrev pub code_of : Status → ℕ
code_of status = (row_of status).code

abbrev pub fault_line : Status → Option (List ℕ)
fault_line status = (row_of status).fault

-- the fault line, or nothing if the status has none
abbrev pub said : Status → List ℕ
said status = unwrap_or (fault_line status) []

-- ---- what is written

-- a text is written, and the sink hasn't failed
abbrev pub IsWritten : List ℕ → SinkState → SinkState → Type 0
IsWritten text old new = Relates (IsFollowedBy text) old.written new.written × (new.faults ≡ old.faults)

-- a prefix of it is written, because the sink has failed
abbrev pub IsCut : List ℕ → SinkState → SinkState → Type 0
IsCut text old new = Relates (IsFollowedByPart text) old.written new.written × HasRisen old.faults new.faults

abbrev pub Says : List ℕ → SinkState → SinkState → Type 0
Says text old new = IsWritten text old new ⊎ IsCut text old new

abbrev pub EndsBy : Option (List ℕ) → SinkState → SinkState → Type 0
EndsBy None old new = new ≡ old
EndsBy (Some text) old new = Says text old new

-- The fault line, if the status has one, ends the output. If the sink fails there, the status stays the same.
abbrev pub EndsWith : Status → SinkState → SinkState → Type 0
EndsWith status old new = EndsBy (fault_line status) old new
