-- The reading of a conf file such as /etc/ld.so.conf (ldconfig(8)). The conf files are a tree, since each may include others.
-- The items are listed in preorder: after an included file come the items of its own lines.
use Rattle.std.specs.Prelude.{◌≡◌, ℕ, zero, suc, ◌+◌, Bool, true, false, List, [], ◌∷◌, ◌++◌, if◌then◌else◌, nat_le, flat_map, map, sum_by, length, codes, Option, Some, None, IsSomeAnd, option_map}
use Rattle.std.specs.List.{list_any}
use Rattle.std.specs.Str.{bytes_eq}
use Rattle.image_tree.specs.declared.path.TheConstants.{PATH_MAX}
use Rattle.tree_face.specs.Store.{Contents, StoreState}
use Rattle.tree_face.specs.StoreUse.{Ending, ReadsFiles}
use Rattle.image_tree.specs.Tree.{Nodes}
use Rattle.conf_patterns.specs.Patterns.{Found}
use Rattle.conf_views.specs.Files.{file_at}
use Rattle.conf_views.specs.declared.view.FoundFile.{FoundFile}
use Rattle.ldso_conf.specs.Steps.{steps_of}
use Rattle.ldso_conf.specs.declared.kinds.Conf.{Conf}
use Rattle.ldso_conf.specs.declared.kinds.ConfKind.{ConfKind}
use Rattle.ldso_conf.specs.declared.kinds.ConfKind.TheVariants.{NotFile, Repeated, TooDeep, TooLarge, LongPath}
use Rattle.ldso_conf.specs.declared.kinds.ConfReport.{ConfReport}
use Rattle.ldso_conf.specs.declared.kinds.Origin.{Origin}
use Rattle.ldso_conf.specs.declared.reading.TheConstants.{CONF_MAX, DEPTH_MAX}
use Rattle.ldso_conf.specs.declared.steps.Step.{Step}
use Rattle.ldso_conf.specs.declared.steps.Step.TheVariants as step

-- one item of the result: a directory, a report, or an included file and what happens to it
pub data Item : Type 0 where
  -- a directory, and the file and line that name it
  Names : List ℕ → Origin → Item
  -- a directory or a file that can't be used
  Reports : ConfReport → Item
  -- a file that is opened by its key: it is read, it is too large, or it is missing from the store
  Reads : Found → List ℕ → List ℕ → Item
  Passes : Found → List ℕ → Item
  Misses : Found → List ℕ → Item

-- ---- what the items say

-- a report about a whole file
abbrev pub reported : List ℕ → ConfKind → ConfReport
reported place kind = record { place = place; kind = kind; origin = None }

-- a report about a line
abbrev pub reported_at : Origin → List ℕ → ConfKind → ConfReport
reported_at origin place kind = record { place = place; kind = kind; origin = Some origin }

abbrev pub dir_in : Item → List (List ℕ)
dir_in (Names dir origin) = dir ∷ []
dir_in (Reports report) = []
dir_in (Reads f key content) = []
dir_in (Passes f key) = []
dir_in (Misses f key) = []

abbrev pub origin_in : Item → List Origin
origin_in (Names dir origin) = origin ∷ []
origin_in (Reports report) = []
origin_in (Reads f key content) = []
origin_in (Passes f key) = []
origin_in (Misses f key) = []

abbrev pub report_in : Item → List ConfReport
report_in (Names dir origin) = []
report_in (Reports report) = report ∷ []
report_in (Reads f key content) = []
report_in (Passes f key) = reported f.0 TooLarge ∷ []
report_in (Misses f key) = []

-- the resolved path of a file that is read
abbrev pub place_in : Item → List (List ℕ)
place_in (Names dir origin) = []
place_in (Reports report) = []
place_in (Reads f key content) = f.1 ∷ []
place_in (Passes f key) = []
place_in (Misses f key) = []

-- the key of a file that is opened
abbrev pub key_begun : Item → List (List ℕ)
key_begun (Names dir origin) = []
key_begun (Reports report) = []
key_begun (Reads f key content) = key ∷ []
key_begun (Passes f key) = key ∷ []
key_begun (Misses f key) = key ∷ []

-- the number of bytes read from it
abbrev pub bytes_taken : Item → ℕ
bytes_taken (Names dir origin) = 0
bytes_taken (Reports report) = 0
bytes_taken (Reads f key content) = length content
bytes_taken (Passes f key) = 0
bytes_taken (Misses f key) = 0

abbrev pub is_missing : Item → Bool
is_missing (Names dir origin) = false
is_missing (Reports report) = false
is_missing (Reads f key content) = false
is_missing (Passes f key) = false
is_missing (Misses f key) = true

-- ---- one item

-- a directory of at most 4095 bytes
abbrev pub named : List ℕ → Origin → Item
named dir origin = if nat_le (length dir) PATH_MAX then Names dir origin else Reports (reported_at origin dir LongPath)

-- where a directory of the command line is named (ldconfig(8): -n): in no file
abbrev pub command_line : Origin
command_line = record { file = codes "<cmdline>"; line = 0 }

abbrev pub given : List ℕ → Item
given dir = named dir command_line

-- a file that is opened, given the content that the store has for its key
abbrev pub begun : Found → List ℕ → Option (List ℕ) → Item
begun f key None = Misses f key
begun f key (Some content) = if nat_le (length content) CONF_MAX then Reads f key content else Passes f key

abbrev pub was_read : List (List ℕ) → List ℕ → Bool
was_read before place = list_any (bytes_eq place) before

-- a file is too deep if no level of nesting is left for it
abbrev pub unless_deep : ℕ → Found → Item → Item
unless_deep zero f item = Reports (reported f.0 TooDeep)
unless_deep (suc left) f item = item

-- an included file, given how many levels of nesting are left, and the resolved paths of the files that were read before it
abbrev pub included_by : Contents → ℕ → List (List ℕ) → Found → Option (List ℕ) → Item
included_by held left before f None = Reports (reported f.0 NotFile)
included_by held left before f (Some key) =
    if was_read before f.1 then Reports (reported f.0 Repeated) else unless_deep left f (begun f key (held key))

abbrev pub included_at : Contents → ℕ → List (List ℕ) → FoundFile → Item
included_at held left before f = included_by held left before (f.spelled, f.real) f.key

-- ---- the preorder

-- only a file that is read has lines
abbrev pub steps_in : Nodes → Item → List Step
steps_in t (Names dir origin) = []
steps_in t (Reports report) = []
steps_in t (Reads f key content) = steps_of t f.0 content
steps_in t (Passes f key) = []
steps_in t (Misses f key) = []

-- the items of one step; `file` gives the items of an included file
abbrev pub asked_by : (List (List ℕ) → FoundFile → List Item) → List (List ℕ) → Step → List Item
asked_by file before (step.Directory dir origin) = named dir origin ∷ []
asked_by file before (step.Report report) = Reports report ∷ []
asked_by file before (step.Include f) = file before f

-- the items of the steps in order; the files that one step reads count as read before the next step
abbrev pub asked : (List (List ℕ) → FoundFile → List Item) → List (List ℕ) → List Step → List Item
asked file before [] = []
asked file before (step ∷ steps) = asked_by file before step ++ asked file (before ++ flat_map place_in (asked_by file before step)) steps

abbrev pub with_steps : (List (List ℕ) → FoundFile → List Item) → Nodes → List (List ℕ) → Item → List Item
with_steps file t before item = item ∷ asked file (before ++ place_in item) (steps_in t item)

-- an included file, followed by the items of its lines
abbrev pub included : Nodes → Contents → ℕ → List (List ℕ) → FoundFile → List Item
included t held zero before f = included_at held zero before f ∷ []
included t held (suc left) before f = with_steps (included t held left) t before (included_at held (suc left) before f)

-- The path of the conf file, unless another is given.
abbrev pub conf_path : List ℕ
conf_path = codes "/etc/ld.so.conf"

-- the first conf file has depth 0; if it doesn't exist, the list of items is empty
abbrev pub all_from : Nodes → Contents → Option FoundFile → List Item
all_from t held None = []
all_from t held (Some f) = included t held (DEPTH_MAX + 1) [] f

-- the items up to and including the first file that is missing
abbrev pub until_missing : List Item → List Item
until_missing [] = []
until_missing (item ∷ items) = item ∷ (if is_missing item then [] else until_missing items)

-- ---- the reading

-- where the search directories are named
pub data Source : Type 0 where
  -- in the conf file at this path, and in the files that it includes
  ConfFile : List ℕ → Source
  -- on the command line
  Given : List (List ℕ) → Source

-- The items of the conf files, in preorder, starting with the file at a path. The reading stops at the first file that is missing. If
-- directories are given instead, each is one item, and no file is read.
unfoldable pub conf_items : Source → Contents → Nodes → List Item
conf_items (ConfFile path) held t = until_missing (all_from t held (file_at t path))
conf_items (Given dirs) held t = map given dirs

-- the result of reading the conf files
pub record Reading : Type 0 where
  pub dirs : List (List ℕ)
  pub origins : List Origin
  pub reports : List ConfReport

abbrev pub reading_of : List Item → Reading
reading_of items = record { dirs = flat_map dir_in items; origins = flat_map origin_in items; reports = flat_map report_in items }

unfoldable pub reading : Source → Nodes → Contents → Reading
reading source t held = reading_of (conf_items source held t)

-- the keys of the conf files that have to be opened, in order
unfoldable pub conf_keys : Source → Contents → Nodes → List (List ℕ)
conf_keys source held t = flat_map key_begun (conf_items source held t)

-- the largest number of bytes that may be read from them
unfoldable pub conf_bytes : Source → Contents → Nodes → ℕ
conf_bytes source held t = sum_by bytes_taken (conf_items source held t)

-- one of them is missing from the store
unfoldable pub conf_lacks : Source → Contents → Nodes → Bool
conf_lacks source held t = list_any is_missing (conf_items source held t)

-- `conf` is the result of the reading, `files` counts the opened files, and none of them is missing
pub record IsConfOf (source : Source) (conf : Conf) (held : Contents) (t : Nodes) : Type 0 where
  pub dirs : conf.dirs ≡ (reading source t held).dirs
  pub origins : conf.origins ≡ (reading source t held).origins
  pub reports : conf.reports ≡ (reading source t held).reports
  pub files : conf.files ≡ length (conf_keys source held t)
  pub all_held : conf_lacks source held t ≡ false

-- the conf files are read from a store, all of them or up to where the call stopped, as the ending says
abbrev pub ReadsConf : Source → Nodes → Ending → StoreState → StoreState → Type 0
ReadsConf source t ending old new =
    ReadsFiles (IsSomeAnd old.held (λ held. conf_lacks source held t ≡ true)) (option_map (λ held. conf_keys source held t) old.held)
    (option_map (λ held. conf_bytes source held t) old.held) ending old new
