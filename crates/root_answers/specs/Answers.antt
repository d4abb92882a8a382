-- What an update of a directory and a check of it write on the output, and their status (ldconfig(8), -v).
use Rattle.std.specs.Prelude.{◌≡◌, ◌⊎◌, ℕ, Bool, List, [], ◌++◌, codes, flat_map, if◌then◌else◌}
use Rattle.command_status.specs.Status.{IsCut, IsWritten}
use Rattle.command_status.specs.declared.status.Status.{Status}
use Rattle.command_status.specs.declared.status.Status.TheVariants.{OutputFault}
use Rattle.ldconfig_core.specs.declared.preparing.Looked.{Looked}
use Rattle.link_plan.specs.declared.kinds.Planned.{Planned}
use Rattle.root_update.specs.declared.checking.RootChanges.{RootChanges}
use Rattle.search_listing.specs.Lines.{line, planned_line}
use Rattle.search_listing.specs.Listing.{listing_text}
use Rattle.tree_face.specs.Stream.{SinkState}

-- what `-v` asks for: the directories that were searched, with their libraries
abbrev pub verbose_text : List ℕ → Bool → Looked → List Planned → List ℕ
verbose_text front verbose looked links = if verbose then listing_text front looked.conf looked.dirs.places looked.bests links else []

-- the line of the cache, if it would change
abbrev pub cache_line : Bool → List ℕ → List ℕ
cache_line changes name = if changes then line (codes "cache: " ++ name) else []

-- the text of a check: what `-v` asks for, a line for each link that would be made, and one for the cache
abbrev pub check_text : List ℕ → Bool → RootChanges → List ℕ → List ℕ
check_text front verbose changes cache =
    verbose_text front verbose changes.looked changes.links ++ (flat_map (planned_line front) changes.links ++ cache_line changes.cache cache)

-- the whole text is written, and the status is this one; or the sink fails, and a prefix of the text is written
abbrev pub Answers : List ℕ → Status → Status → SinkState → SinkState → Type 0
Answers text status result old new = ((result ≡ status) × IsWritten text old new) ⊎ ((result ≡ OutputFault) × IsCut text old new)
