-- What private functions do when files are read, file by file.
use Rattle.std.specs.Prelude.{◌≡◌, ◌+◌, ◌∷◌, ◌++◌, ℕ, Bool, true, false, List, [], length, Option, Some, None, is_none, is_some, if◌then◌else◌, ⊤}
use Rattle.std.specs.Cmp.Lexicographic.{slice_cmp}
use Rattle.std.specs.List.{cons_option, list_any}
use Rattle.std.specs.List.Sorted.{IsStrictlySortedBy}
use Rattle.std.specs.Map.{keys_of}
use Rattle.std.specs.Ordering.{nat_cmp}
use Rattle.std.specs.Str.{bytes_eq}
use Rattle.aux_cache.specs.Stamps.{stamp_of}
use Rattle.aux_cache.specs.declared.stamps.Stamp.{Stamp}
use Rattle.elf_dynamic.specs.Analysis.{analysis}
use Rattle.elf_dynamic.specs.Begun.{ReadsBy, lacks_one}
use Rattle.elf_headers.specs.Reading.{OfContent}
use Rattle.file_table.specs.Analyses.{Analyses, KeepsAnalyses, unread}
use Rattle.file_table.specs.Table.{analysis_at}
use Rattle.image_tree.specs.declared.node.Id.{Id}
use Rattle.image_tree.specs.Tree.{Nodes}
use Rattle.lib_types.specs.declared.analysis.Analysis.{Analysis}
use Rattle.tree_face.specs.Known.{IfKnown}
use Rattle.tree_face.specs.Store.{Contents, StoreState}
use Rattle.tree_face.specs.StoreUse.{Complete}
use Rattle.file_stamps.specs.declared.files.Files.{Files}
use Rattle.file_stamps.specs.Files.{unread_key}
use Rattle.file_stamps.specs.Opened.{HaveSameIds, ids_at, new_key}
use Rattle.file_stamps.specs.Info.{info_by}
use Rattle.file_stamps.specs.State.{ids_there}
use Rattle.file_stamps.specs.Stamped.{StampTheSame, id_at, of_stamp, stamp_at, stamp_by, stamps_at, with_stamps}

abbrev pub is_in : List (List ℕ) → List ℕ → Bool
is_in paths path = list_any (bytes_eq path) paths

-- ---- one file

-- the analysis of a file from its stamp or else from its content, and the number of opened files
abbrev pub IsFoundBy : Option Contents → List ℕ → Option Stamp → Analysis → ℕ → ℕ → Type 0
IsFoundBy known key (Some stamp) what before after = (what ≡ of_stamp stamp) × (after ≡ before)
IsFoundBy known key None what before after = OfContent known key (λ bytes. analysis bytes ≡ what) × (after ≡ before + 1)

-- the file is opened unless a stamp is there
abbrev pub key_opened : Option Stamp → List ℕ → List (List ℕ)
key_opened stamp key = if is_none stamp then key ∷ [] else []

-- the key that is opened for the file at a path, if the file has no analysis
abbrev pub keys_opened : Nodes → List Id → Analyses → List ℕ → List (List ℕ)
keys_opened t ids what path = cons_option (if is_none (what path) then new_key t ids path else None) []

-- ---- several files

-- A result for each file with different paths, computed from what is there when the file's turn comes. Each file may add to that.
abbrev pub by_turn : {S X : Type 0} → (List ℕ → Option S) → (List S → List ℕ → Option X) → List S → List (List ℕ) → List X
by_turn adds f there [] = []
by_turn adds f there (path ∷ paths) = cons_option (f there path) (by_turn adds f (there ++ cons_option (adds path) []) paths)

-- the keys that are opened
abbrev pub opened_by : Nodes → List Id → List (List ℕ) → List (List ℕ)
opened_by t ids paths = by_turn (id_at t) (new_key t) ids paths

-- the stamps that are made
abbrev pub made_by : Contents → Nodes → List Stamp → List (List ℕ) → List Stamp
made_by held t stamps paths = by_turn (stamp_at held t) (λ there path. stamp_by (id_at t path) (info_by held t there path)) stamps paths

-- each file has the analysis from its stamp or its content
abbrev pub HaveInfo : Contents → Nodes → List Stamp → List (List ℕ) → Analyses → Type 0
HaveInfo held t stamps [] what = ⊤
HaveInfo held t stamps (path ∷ paths) what =
    ((is_some (what path) ≡ true) × (what path ≡ info_by held t stamps path)) × HaveInfo held t (stamps ++ stamps_at held t (path ∷ [])) paths what

abbrev pub is_stamped : List Stamp → Id → Bool
is_stamped stamps id = is_some (stamp_of stamps id)

-- the files that were opened while files without analyses were read
pub record HasOpened (t : Nodes) (loaded : List Stamp) (paths keys : List (List ℕ)) (old new : Files) : Type 0 where
  pub keys_are : keys ≡ opened_by t (ids_there loaded old) paths
  pub ids : HaveSameIds (ids_there loaded new) (ids_there loaded old ++ ids_at t paths)
  pub begun : new.begun ≡ old.begun + length keys

-- the analyses and stamps after files without analyses were read
pub record HasInfo (held : Contents) (t : Nodes) (loaded : List Stamp) (paths : List (List ℕ)) (old new : Files) : Type 0 where
  pub stamped : StampTheSame (loaded ++ new.stamps) ((loaded ++ old.stamps) ++ stamps_at held t paths)
  pub stamps : new.stamps ≡ with_stamps old.stamps (made_by held t (loaded ++ old.stamps) paths)
  pub info : HaveInfo held t (loaded ++ old.stamps) paths (analysis_at new.table)

-- the state after one file was read
pub record ReadsOne (t : Nodes) (loaded : List Stamp) (path : List ℕ) (known : Option Contents) (old new : Files) : Type 0 where
  pub opened : HasOpened t loaded (unread (analysis_at old.table) (path ∷ [])) (keys_opened t (ids_there loaded old) (analysis_at old.table) path) old new
  pub info : IfKnown known (λ held. HasInfo held t loaded (unread (analysis_at old.table) (path ∷ [])) old new)
  pub kept : KeepsAnalyses (analysis_at old.table) (analysis_at new.table)
  pub here : unread_key t (analysis_at new.table) path ≡ None
  pub others : (other : List ℕ) → bytes_eq other path ≡ false → analysis_at new.table other ≡ analysis_at old.table other
  pub rows : keys_of new.table ≡ keys_of old.table ++ unread (analysis_at old.table) (path ∷ [])
  pub none_lacks : IfKnown known (λ held. lacks_one held (keys_opened t (ids_there loaded old) (analysis_at old.table) path) ≡ false)

-- the state after the files in front of `rest` were read
pub record HasRead (t : Nodes) (loaded : List Stamp) (known : Option Contents) (all rest : List (List ℕ)) (old new : Files) (before after : StoreState) : Type 0 where
  -- the files so far that had no analysis, and the keys that were opened
  pub ahead : List (List ℕ)
  pub keys : List (List ℕ)
  pub whole : unread (analysis_at old.table) all ≡ ahead ++ unread (analysis_at new.table) rest
  pub opened : HasOpened t loaded ahead keys old new
  pub info : IfKnown known (λ held. HasInfo held t loaded ahead old new)
  pub reads : ReadsBy known keys Complete before after
  pub none_lacks : IfKnown known (λ held. lacks_one held keys ≡ false)
  pub kept : KeepsAnalyses (analysis_at old.table) (analysis_at new.table)
  pub read : (path : List ℕ) → is_in all path ≡ true → is_in rest path ≡ false → unread_key t (analysis_at new.table) path ≡ None
  pub rows : keys_of new.table ≡ keys_of old.table ++ ahead
  pub sorted : IsStrictlySortedBy (slice_cmp nat_cmp) rest
