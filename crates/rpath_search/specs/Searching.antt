-- A search when files are already loaded: a path that leads to a loaded file needs no reading.
use Rattle.std.specs.Prelude.{◌≡◌, ◌<◌, ℕ, Bool, true, false, not, List, [], filter, length, slice_index_or, take, Option, Some, None, is_some}
use Rattle.std.specs.List.{list_any}
use Rattle.std.specs.Option.{option_map_or}
use Rattle.std.specs.Str.{bytes_eq}
use Rattle.lib_types.specs.declared.abi.Abi.{Abi}
use Rattle.tree_face.specs.Known.{IfKnown}
use Rattle.tree_face.specs.Store.{Contents, StoreState}
use Rattle.tree_face.specs.StoreUse.{Ending, Complete, DeviceFailed, GaveUp}
use Rattle.image_tree.specs.Tree.{Nodes, node_at}
use Rattle.path_walk.specs.Files.{file_at}
use Rattle.elf_dynamic.specs.Begun.{ReadsBy, file_keys, lacks_one}
use Rattle.rpath_search.specs.Search.{files_of, is_good, is_library_at, library_at, looked_at, IsFound}
use Rattle.rpath_search.specs.declared.kinds.Found.{Found}
use Rattle.rpath_search.specs.declared.search.Answer.{Answer}
use Rattle.rpath_search.specs.declared.search.Answer.TheVariants as answer
use Rattle.rpath_search.specs.declared.search.LoadedFiles.{LoadedFiles}

-- ---- loaded files

-- the file is among these
abbrev pub is_among : List (List ℕ) → List ℕ → Bool
is_among places real = list_any (bytes_eq real) places

-- the file is the program, and the program isn't a library of its ABI
abbrev pub is_outsider : Option (List ℕ) → List ℕ → Bool
is_outsider outsider real = option_map_or (bytes_eq real) outsider false

-- each loaded file is a library of the ABI, except a program that isn't one
abbrev pub AreKnown : Contents → Nodes → Abi → LoadedFiles → Type 0
AreKnown held t abi files = (real : List ℕ) → is_among files.loaded real ≡ true → is_library_at held t abi real ≡ not (is_outsider files.outsider real)

-- ---- one path

-- a library that isn't loaded, at a path that leads to it
pub record IsNewAt (known : Option Contents) (t : Nodes) (abi : Abi) (places : List (List ℕ)) (f : Found) : Type 0 where
  pub found : IsFound known t abi f
  pub unloaded : is_among places f.real ≡ false
  pub node : is_some (node_at t f.real) ≡ true

-- the answer is a loaded file or a new library
abbrev pub IsNew : Option Contents → Nodes → Abi → List (List ℕ) → Option Answer → Type 0
IsNew known t abi places None = Unit {0}
IsNew known t abi places (Some (answer.Loaded i path)) = i < length places
IsNew known t abi places (Some (answer.New f)) = IsNewAt known t abi places f

-- the path leads to the loaded file with this number, and it is the path of the answer
pub record IsLoadedAt (t : Nodes) (places : List (List ℕ)) (path : List ℕ) (number : ℕ) (answered : List ℕ) : Type 0 where
  pub here : answered ≡ path
  pub leads : file_at t path ≡ Some (slice_index_or places number [])
  pub within : number < length places

-- the path leads to a new library
pub record IsLibraryAt (held : Contents) (t : Nodes) (abi : Abi) (path : List ℕ) (f : Found) : Type 0 where
  pub here : f.path ≡ path
  pub object : library_at held t abi f.real ≡ Some f.object

-- the answer for a good path
abbrev pub IsAnswer : Contents → Nodes → Abi → List (List ℕ) → List ℕ → Answer → Type 0
IsAnswer held t abi places path (answer.Loaded i answered) = IsLoadedAt t places path i answered
IsAnswer held t abi places path (answer.New f) = IsLibraryAt held t abi path f

-- whether the path is good, and its answer
abbrev pub Tries : Contents → Nodes → Abi → List (List ℕ) → List ℕ → Option Answer → Type 0
Tries held t abi places path None = is_good held t abi path ≡ false
Tries held t abi places path (Some a) = (is_good held t abi path ≡ true) × IsAnswer held t abi places path a

-- ---- several paths

-- the answer for the first good path
abbrev pub Finds : Contents → Nodes → Abi → List (List ℕ) → Option (List ℕ) → Option Answer → Type 0
Finds held t abi places None None = Unit {0}
Finds held t abi places None (Some a) = ⊥
Finds held t abi places (Some path) None = ⊥
Finds held t abi places (Some path) (Some a) = IsAnswer held t abi places path a

-- the keys of the files to which the paths lead, without loaded files
abbrev pub keys_next_to : Nodes → List (List ℕ) → List (List ℕ) → List (List ℕ)
keys_next_to t places paths = file_keys t (filter (λ real. not (is_among places real)) (files_of t paths))

-- if the call completes, the contents of all these keys are held
abbrev pub AreHeld : Contents → List (List ℕ) → Ending → Type 0
AreHeld held keys Complete = lacks_one held keys ≡ false
AreHeld held keys DeviceFailed = Unit {0}
AreHeld held keys GaveUp = Unit {0}

-- A search tries the first `count` paths. It opens the files to which they lead, except loaded files, in order, up to the first one whose
-- content isn't held.
pub record SearchesNextTo (known : Option Contents) (t : Nodes) (abi : Abi) (places paths : List (List ℕ)) (ending : Ending) (old new : StoreState) : Type 0 where
  pub count : ℕ
  pub begins : ReadsBy known (keys_next_to t places (take count paths)) ending old new
  -- if contents are known, the last tried path is the first good one, or the last path
  pub exactly : IfKnown known (λ held. count ≡ looked_at held t abi paths)
  pub none_lacks : IfKnown known (λ held. AreHeld held (keys_next_to t places (take count paths)) ending)
