-- How the code visits a file: it opens the file, and then processes its steps.
use Rattle.std.specs.Prelude.{◌≡◌, ◌<◌, ◌+◌, ℕ, true, false, List, [], ◌∷◌, ◌++◌, flat_map, sum_by, if◌then◌else◌, length, nat_le, Option, Some, None, IsSomeAnd, option_map, Vec}
use Rattle.std.specs.List.{list_any}
use Rattle.std.specs.declared.alloc.Global.{Global}
use Rattle.tree_face.specs.Store.{Contents, Lacks, StoreState}
use Rattle.tree_face.specs.StoreUse.{Ending, Complete, ReadsFiles}
use Rattle.image_tree.specs.Tree.{Nodes}
use Rattle.image_tree.specs.declared.path.TheConstants.{PATH_MAX}
use Rattle.conf_patterns.specs.Patterns.{Found}
use Rattle.conf_views.specs.Files.{file_with}
use Rattle.conf_views.specs.View.{LooksBut, LooksUp, ViewState}
use Rattle.ldso_conf.specs.Looked.{patterns_listed, patterns_looked}
use Rattle.ldso_conf.specs.Reading.{Item, bytes_taken, dir_in, included, is_missing, key_begun, origin_in, place_in, report_in, reported_at, steps_in, until_missing, was_read}
use Rattle.ldso_conf.specs.declared.kinds.Conf.{Conf}
use Rattle.ldso_conf.specs.declared.kinds.ConfKind.TheVariants.{LongPath}
use Rattle.ldso_conf.specs.declared.kinds.ConfReport.{ConfReport}
use Rattle.ldso_conf.specs.declared.kinds.Origin.{Origin}
use Rattle.ldso_conf.specs.declared.reading.TheConstants.{CONF_MAX}
use Rattle.ldso_conf.specs.declared.steps.Step.{Step}

-- what has been read so far
pub record Progress : Type 0 where
  pub dirs : List (List ℕ)
  pub origins : List Origin
  pub reports : List ConfReport
  -- the resolved paths of the files that were read
  pub read : List (List ℕ)
  -- how many files were opened
  pub files : ℕ

abbrev pub nothing_read : Progress
nothing_read = record { dirs = []; origins = []; reports = []; read = []; files = 0 }

abbrev pub with_report : Progress → ConfReport → Progress
with_report r report = record r { reports = r.reports ++ report ∷ [] }

abbrev pub with_dir : Progress → List ℕ → Origin → Progress
with_dir r dir origin = if nat_le (length dir) PATH_MAX then record r { dirs = r.dirs ++ dir ∷ []; origins = r.origins ++ origin ∷ [] } else with_report r (reported_at origin dir LongPath)

abbrev pub with_read : Progress → List ℕ → Progress
with_read r place = record r { read = r.read ++ place ∷ [] }

abbrev pub with_begun : Progress → Progress
with_begun r = record r { files = r.files + 1 }

abbrev pub with_items : Progress → List Item → Progress
with_items r items = record {
  dirs = r.dirs ++ flat_map dir_in items;
  origins = r.origins ++ flat_map origin_in items;
  reports = r.reports ++ flat_map report_in items;
  read = r.read ++ flat_map place_in items;
  files = r.files + length (flat_map key_begun items);
}

pub record IsConfFrom (conf : Conf) (r : Progress) : Type 0 where
  pub dirs : conf.dirs ≡ r.dirs
  pub origins : conf.origins ≡ r.origins
  pub reports : conf.reports ≡ r.reports
  pub files : conf.files ≡ r.files

-- ---- one file

-- the store has this content, and it was read unless it is too large
pub record HasContent (held : Option (List ℕ)) (content : Option (Vec ℕ Global)) : Type 0 where
  pub bytes : List ℕ
  pub there : held ≡ Some bytes
  pub read : option_map (λ v. v.items) content ≡ (if nat_le (length bytes) CONF_MAX then Some bytes else None)

-- the number of bytes that are read of the content in the store
abbrev pub size_read : Option (List ℕ) → ℕ
size_read None = 0
size_read (Some content) = if nat_le (length content) CONF_MAX then length content else 0

abbrev pub ReadsFile : List ℕ → Option Contents → Ending → StoreState → StoreState → Type 0
ReadsFile key known ending old new = ReadsFiles (Lacks known key) (Some (key ∷ [])) (option_map (λ held. size_read (held key)) known) ending old new

-- the files that are read aren't known
abbrev pub LacksAny : Option Contents → Type 0
LacksAny known = IsSomeAnd known (λ held. (key : List ℕ) × (held key ≡ None))

abbrev pub ReadsAny : Option Contents → Ending → StoreState → StoreState → Type 0
ReadsAny known ending old new = ReadsFiles (LacksAny known) None None ending old new

-- a file that is to be opened, or a file that is reported instead
pub record IsToBeginAs (left : ℕ) (r : Progress) (f : Found) (there : Option (List ℕ)) (new : Progress) (key : List ℕ) : Type 0 where
  pub same : new ≡ r
  pub deep : 0 < left
  pub is_file : there ≡ Some key
  pub unread : was_read r.read f.1 ≡ false

pub record HasEnded (left : ℕ) (r : Progress) (f : Found) (there : Option (List ℕ)) (new : Progress) : Type 0 where
  pub report : ConfReport
  pub alone : (t : Nodes) (held : Contents) → included t held left r.read (file_with f there) ≡ Item.Reports report ∷ []
  pub reported : new ≡ with_report r report

abbrev pub IsToBegin : ℕ → Progress → Found → Option (List ℕ) → Progress → Option (List ℕ) → Type 0
IsToBegin left r f there new None = HasEnded left r f there new
IsToBegin left r f there new (Some key) = IsToBeginAs left r f there new key

-- a file was loaded, and these are its steps
pub record HasLoaded (t : Nodes) (item : Item) (r new : Progress) (steps : List Step) : Type 0 where
  pub held : is_missing item ≡ false
  pub reader : new ≡ with_items r (item ∷ [])
  pub left : steps ≡ steps_in t item

-- ---- the items of a visit

-- all items were processed, and none of their files is missing
pub record HasTaken (items : List Item) (r new : Progress) : Type 0 where
  pub held : list_any is_missing items ≡ false
  pub reader : new ≡ with_items r items

abbrev pub keys_in : List Item → List (List ℕ)
keys_in items = flat_map key_begun (until_missing items)

abbrev pub bytes_in : List Item → ℕ
bytes_in items = sum_by bytes_taken (until_missing items)

abbrev pub lacks_in : List Item → Type 0
lacks_in items = list_any is_missing (until_missing items) ≡ true

-- the files of these items are read
abbrev pub ReadsItems : (Contents → List Item) → Option Contents → Ending → StoreState → StoreState → Type 0
ReadsItems items known ending old new =
    ReadsFiles (IsSomeAnd known (λ held. lacks_in (items held))) (option_map (λ held. keys_in (items held)) known) (option_map (λ held. bytes_in (items held)) known) ending old new

-- some of the items were processed, and `rest` is left
pub record IsDone (whole rest : List Item) (start now : Progress) (old new : StoreState) : Type 0 where
  pub done : List Item
  pub parts : whole ≡ done ++ rest
  pub taken : HasTaken done start now
  pub reads : ReadsFiles ⊥ (Some (flat_map key_begun done)) (Some (sum_by bytes_taken done)) Complete old new

abbrev pub IsDoneIn : Option Contents → (Contents → List Item) → (Contents → List Item) → Progress → Progress → StoreState → StoreState → Type 0
IsDoneIn None whole rest start now old new = ReadsFiles ⊥ None None Complete old new
IsDoneIn (Some held) whole rest start now old new = IsDone (whole held) (rest held) start now old new

-- ---- what the patterns of the items look up

abbrev pub LooksFor : Nodes → List Item → ViewState → ViewState → Type 0
LooksFor t items old new = LooksUp (patterns_looked t items) (patterns_listed t items) old new

-- these items are left
abbrev pub LooksTo : Nodes → List Item → List Item → ViewState → ViewState → Type 0
LooksTo t whole left old new = LooksBut (patterns_looked t whole) (patterns_looked t left) (patterns_listed t whole) (patterns_listed t left) old new
