-- The command `resolve`: what the loader loads for programs (ld.so(8); ldd(1) lists it).
use Rattle.std.specs.Prelude.{◌≡◌, ◌⊎◌, ℕ, false, List, [], Option, Some, None, Result, Ok, Err, IfOk}
use Rattle.std.specs.List.{AllByRecursion}
use Rattle.std.specs.Result.{result_map_both}
use Rattle.cache_lookup.specs.Sorted.{sorted_in}
use Rattle.cache_reader.specs.Cache.{CachedEntry}
use Rattle.cache_reader.specs.declared.defect.CacheDefect.{CacheDefect}
use Rattle.command_words.specs.declared.kinds.Form.{Form}
use Rattle.command_words.specs.declared.kinds.Form.TheVariants.{Files, Json, Listing, Tree}
use Rattle.command_words.specs.declared.kinds.Resolve.{Resolve}
use Rattle.tree_face.specs.Devices.{DeviceStates, IfBothKnown}
use Rattle.elf_dynamic.specs.Begun.{ReadsBy, lacks_one}
use Rattle.elf_dynamic.specs.declared.kinds.Object.{Object}
use Rattle.elf_interpreter.specs.Faults.{interpreter_ending}
use Rattle.elf_interpreter.specs.declared.fault.InterpreterFault.{InterpreterFault}
use Rattle.image_programs.specs.Programs.{image_programs, node_keys}
use Rattle.rpath_search.specs.Faults.{search_ending}
use Rattle.rpath_search.specs.declared.kinds.SystemDirs.{SystemDirs}
use Rattle.rpath_search.specs.declared.kinds.SystemDirs.TheVariants as systems
use Rattle.rpath_search.specs.declared.fault.SearchFault.{SearchFault}
use Rattle.rpath_search.specs.declared.fault.SearchFault.TheVariants as searches
use Rattle.ldd_resolve.specs.Each.{ResolvesEach}
use Rattle.ldd_resolve.specs.Resolving.{object_at, program_at, record_of}
use Rattle.ldd_resolve.specs.declared.kinds.ProgramScope.{ProgramScope}
use Rattle.lib_types.specs.declared.abi.Abi.TheVariants.{X86_64}
use Rattle.needed_files.specs.Interpreters.{ReadsPrograms, program_keys}
use Rattle.needed_files.specs.Needed.{lacks_interpreter, needed_files}
use Rattle.needed_files.specs.declared.files.NeededFiles.{NeededFiles}
use Rattle.rpath_search.specs.declared.kinds.Env.{Env}
use Rattle.tree_face.specs.Disk.{Content, Slots}
use Rattle.tree_face.specs.Known.{IfKnown}
use Rattle.tree_face.specs.Store.{Contents, StoreState}
use Rattle.image_tree.specs.Tree.{Nodes}
use Rattle.image_session.specs.Manifest.{HasTree, manifest_of}
use Rattle.image_session.specs.Reading.{ReadsImage}
use Rattle.image_session.specs.declared.fault.LoadFault.{LoadFault}
use Rattle.image_session.specs.declared.reading.ReadImage.{ReadImage}
use Rattle.image_session.specs.declared.reading.TreeSource.TheVariants as sources
use Rattle.command_status.specs.Ending.{AnswerText, EndsAs}
use Rattle.command_status.specs.declared.status.Status.{Status}
use Rattle.command_status.specs.declared.status.Status.TheVariants.{Done, Missing, NoMemory}
use Rattle.asking_runs.specs.Complete.{NoFault}
use Rattle.asking_runs.specs.Faults.{of_interpreter, of_list}
use Rattle.asking_runs.specs.Listings.{files_answer, json_answer, listed_text, listings_answer, trees_answer}
use Rattle.asking_runs.specs.declared.fault.ListFault.{ListFault}
use Rattle.asking_runs.specs.declared.fault.ListFault.TheVariants as faults
use Rattle.asking_runs.specs.declared.listings.Listed.{Listed}

-- ---- the answer

-- The loader's environment. Its `abi` is a filler: the listing uses the program's ABI.
abbrev pub env_of : SystemDirs → Resolve → Env
env_of system asked = record {
  abi = X86_64;
  caps = asked.caps;
  library_path = asked.library_path;
  platform = asked.platform;
  secure = asked.secure;
  system = system;
}

-- this is the answer, unless memory runs out for its text
abbrev pub IsAnswer : AnswerText → Result AnswerText ListFault → Type 0
IsAnswer text answer = (answer ≡ Ok text) ⊎ (answer ≡ Err (faults.Search searches.NoMemory))

-- the files that the programs need, or why the interpreters can't be read
abbrev pub IsFilesAnswer : ℕ → List ProgramScope → Result NeededFiles InterpreterFault → Result AnswerText ListFault → Type 0
IsFilesAnswer end ps (Ok needed) answer = IsAnswer (files_answer end needed ps) answer
IsFilesAnswer end ps (Err fault) answer = answer ≡ Err (faults.Search (of_interpreter fault))

-- The files of the programs are opened again for their interpreters, and this is the answer.
pub record AnswersFiles (end : ℕ) (tree : Nodes) (ps : List ProgramScope) (answer : Result AnswerText ListFault) (old new : StoreState) : Type 0 where
  pub needed : Result NeededFiles InterpreterFault
  pub files : IfOk needed (λ n. IfKnown old.held (λ held. n.files ≡ needed_files held tree ps))
  pub missing : IfOk needed (λ n. IfKnown old.held (λ held. n.is_missing ≡ lacks_interpreter held tree ps))
  pub reads : ReadsPrograms old.held (program_keys tree ps) (interpreter_ending needed) old new
  pub answer_is : IsFilesAnswer end ps needed answer

-- the answer for these scopes in this form
abbrev pub AnswersAs : Form → Nodes → List ProgramScope → Result AnswerText ListFault → StoreState → StoreState → Type 0
AnswersAs Listing tree ps answer old new = IsAnswer (listings_answer ps) answer × (new ≡ old)
AnswersAs Json tree ps answer old new = IsAnswer (json_answer ps) answer × (new ≡ old)
AnswersAs Tree tree ps answer old new = IsAnswer (trees_answer ps) answer × (new ≡ old)
AnswersAs (Files end) tree ps answer old new = AnswersFiles end tree ps answer old new

-- the same, or the fault that ended the search
abbrev pub AnswersScopes : Form → Nodes → Result (List ProgramScope) SearchFault → Result AnswerText ListFault → StoreState → StoreState → Type 0
AnswersScopes form tree (Ok ps) answer old new = AnswersAs form tree ps answer old new
AnswersScopes form tree (Err fault) answer old new = (answer ≡ Err (faults.Search fault)) × (new ≡ old)

-- The programs at these paths are resolved, and this is the answer for their scopes.
pub record ListsAt (form : Form) (paths : List (List ℕ)) (env : Env) (tree : Nodes) (cache : Option (List CachedEntry)) (answer : Result AnswerText ListFault) (old new : StoreState) : Type 0 where
  pub scopes : Result (List ProgramScope) SearchFault
  pub between : StoreState
  pub resolves : ResolvesEach old.held tree cache env paths scopes old between
  pub answers : AnswersScopes form tree scopes answer between new

-- ---- the programs

-- The files of the image are opened to find its programs and libraries, and these are their paths.
pub record FindsPrograms (tree : Nodes) (paths : Result (List (List ℕ)) SearchFault) (old new : StoreState) : Type 0 where
  pub found : IfOk paths (λ paths. IfKnown old.held (λ held. paths ≡ image_programs held tree))
  pub reads : ReadsBy old.held (node_keys tree) (search_ending paths) old new

-- the paths that are given, or those of all programs and libraries of the image
abbrev pub Chooses : Option (List (List ℕ)) → Nodes → Result (List (List ℕ)) SearchFault → StoreState → StoreState → Type 0
Chooses (Some given) tree paths old new = (paths ≡ Ok given) × (new ≡ old)
Chooses None tree paths old new = FindsPrograms tree paths old new

-- the programs at the chosen paths are listed; a fault ended the choice
abbrev pub ListsChosen : Form → Result (List (List ℕ)) SearchFault → Env → Nodes → Option (List CachedEntry) → Result AnswerText ListFault → StoreState → StoreState → Type 0
ListsChosen form (Ok paths) env tree cache answer old new = ListsAt form paths env tree cache answer old new
ListsChosen form (Err fault) env tree cache answer old new = (answer ≡ Err (faults.Search fault)) × (new ≡ old)

-- The programs are chosen, and then they are listed.
pub record ListsPrograms (form : Form) (asked : Option (List (List ℕ))) (env : Env) (tree : Nodes) (cache : Option (List CachedEntry)) (answer : Result AnswerText ListFault) (old new : StoreState) : Type 0 where
  pub paths : Result (List (List ℕ)) SearchFault
  pub middle : StoreState
  pub chooses : Chooses asked tree paths old middle
  pub lists : ListsChosen form paths env tree cache answer middle new

-- ---- from what was read

-- the entries of the cache, if there is one, or its first defect
abbrev pub cache_of : Content → Result (Option (List CachedEntry)) CacheDefect
cache_of None = Ok None
cache_of (Some bytes) = result_map_both Some (λ d. d) (sorted_in bytes)

-- the cache is malformed, or the programs are listed with it
abbrev pub ListsWith : Form → Option (List (List ℕ)) → Env → Nodes → Result (Option (List CachedEntry)) CacheDefect → Result AnswerText ListFault → StoreState → StoreState → Type 0
ListsWith form paths env tree (Err d) answer old new = (answer ≡ Err (faults.BadCache d)) × (new ≡ old)
ListsWith form paths env tree (Ok cache) answer old new = ListsPrograms form paths env tree cache answer old new

-- the same, for an image that was read
abbrev pub ListsImage : SystemDirs → Resolve → ReadImage → Result AnswerText ListFault → StoreState → StoreState → Type 0
ListsImage system asked image answer old new = ListsWith asked.form asked.paths (env_of system asked) image.tree (cache_of image.cache) answer old new

abbrev pub AnswersImage : Resolve → Result ReadImage LoadFault → Result AnswerText ListFault → StoreState → StoreState → Type 0
AnswersImage asked (Err fault) answer old new = (answer ≡ Err (faults.Image fault)) × (new ≡ old)
AnswersImage asked (Ok image) answer old new = ListsImage systems.Loader asked image answer old new

-- ---- completeness

-- the program's file is an ELF object, and the store holds each file that its listing opens
pub record HasListing (env : Env) (tree : Nodes) (cache : Option (List CachedEntry)) (held : Contents) (path : List ℕ) : Type 0 where
  pub real : List ℕ
  pub file : program_at tree path ≡ Some real
  pub object : Object
  pub says : object_at held tree real ≡ Some (Ok object)
  pub holds : (requests : ℕ) → lacks_one held (record_of tree cache path env held real object requests).keys ≡ false

-- the paths of the programs that are asked for
abbrev pub paths_in : Option (List (List ℕ)) → Contents → Nodes → List (List ℕ)
paths_in (Some given) held tree = given
paths_in None held tree = image_programs held tree

-- the files that are opened to find the programs
abbrev pub keys_in : Option (List (List ℕ)) → Nodes → List (List ℕ)
keys_in (Some given) tree = []
keys_in None tree = node_keys tree

-- each program that is asked for has a listing, and the store holds each file that is opened to find the programs
pub record HaveListings (system : SystemDirs) (asked : Resolve) (tree : Nodes) (cache : Option (List CachedEntry)) (held : Contents) : Type 0 where
  pub found : lacks_one held (keys_in asked.paths tree) ≡ false
  pub listed : AllByRecursion (HasListing (env_of system asked) tree cache held) (paths_in asked.paths held tree)

-- the manifest has a tree, the cache is well-formed if there is one, and each program has a listing
pub record IsAnswerable (asked : Resolve) (held : Contents) (slots : Slots) : Type 0 where
  pub tree : Nodes
  pub manifest : manifest_of slots.manifest ≡ HasTree tree
  pub entries : Option (List CachedEntry)
  pub cache : cache_of slots.cache ≡ Ok entries
  pub listings : HaveListings systems.Loader asked tree entries held

abbrev pub CompletesListing : Resolve → Contents → Slots → DeviceStates → DeviceStates → Status → Type 0
CompletesListing asked held slots old new status =
    IsAnswerable asked held slots → NoFault old new → ((status ≡ Done) ⊎ (status ≡ Missing)) ⊎ (status ≡ NoMemory)

-- ---- the command

-- The image is read, and the command ends with the answer.
pub record ResolveRun (asked : Resolve) (old new : DeviceStates) (status : Status) : Type 0 where
  pub read : Result ReadImage LoadFault
  pub reads : ReadsImage sources.Manifest read old.disk new.disk
  pub answer : Result AnswerText ListFault
  pub answers : AnswersImage asked read answer old.store new.store
  pub ends : EndsAs (result_map_both (λ answer. answer) of_list answer) status old.sink new.sink
  pub source : new.source ≡ old.source
  pub complete : IfBothKnown old.store.held old.disk.contents (λ held content. CompletesListing asked held content.now old new status)

-- ---- what private functions say

abbrev pub listed_answer : Result Listed ListFault → Result AnswerText ListFault
listed_answer result = result_map_both listed_text (λ fault. fault) result
