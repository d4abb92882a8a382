-- The writes of a run to a directory: the links, then the cache, then the auxiliary cache (ldconfig(8)).
use Rattle.std.specs.Prelude.{◌≡◌, ◌⊎◌, ◌++◌, ◌∷◌, [], ℕ, List, true, Option, Some, None, Result, Ok, Err}
use Rattle.std.specs.Option.{option_copied}
use Rattle.atomic_replace.specs.Replace.{Write}
use Rattle.atomic_replace.specs.OneByOne.{IsOfWrites, WritesAll, WritesPart}
use Rattle.root_folder.specs.Folder.{FolderState}
use Rattle.root_links.specs.Links.{Linking, MakesAll, MakesPart, links_in}
use Rattle.root_writes.specs.declared.fault.WriteFault.{WriteFault}
use Rattle.root_writes.specs.declared.writing.RootWrites.{RootWrites}
use Rattle.root_writes.specs.declared.fault.WriteFault.TheVariants.{Links, Files}
use Rattle.tree_face.specs.declared.disk.Slot.{Slot}
use Rattle.tree_face.specs.declared.disk.Slot.TheVariants.{Cache, Aux}
use Rattle.tree_face.specs.declared.disk.Tag.{Tag}
use Rattle.tree_face.specs.Disk.{Content, DiskState}

-- ---- the files

abbrev pub write_of : Slot → Option (List ℕ) → List Write
write_of slot None = []
write_of slot (Some bytes) = (slot, bytes) ∷ []

-- the cache, then the auxiliary cache
abbrev pub file_writes : Option (List ℕ) → Option (List ℕ) → List Write
file_writes cache aux = write_of Cache cache ++ write_of Aux aux

abbrev pub file_slots : List Slot
file_slots = Cache ∷ Aux ∷ []

-- ---- the whole run

-- the requested links
abbrev pub planned_links : RootWrites → List Linking
planned_links w = links_in w.links.now

abbrev pub planned_files : RootWrites → List Write
planned_files w = file_writes (option_copied w.cache) (option_copied w.aux)

pub record States : Type 0 where
  pub folder : FolderState
  pub disk : DiskState

abbrev pub states : FolderState → DiskState → States
states folder disk = record { folder = folder; disk = disk }

-- The links are made, then the files are replaced. If making a link fails, no file has changed.
abbrev pub WritesRoot : Tag → List Linking → List Write → Result (Unit {0}) WriteFault → States → States → Type 0
WritesRoot tag links writes (Ok done) old new = MakesAll tag links old.folder new.folder × WritesAll tag writes old.disk new.disk
WritesRoot tag links writes (Err (Links fault)) old new = MakesPart tag links fault old.folder new.folder × (new.disk ≡ old.disk)
WritesRoot tag links writes (Err (Files fault)) old new = MakesAll tag links old.folder new.folder × WritesPart tag writes fault old.disk new.disk

-- A crash leaves in a file content that was possible before, or new content. New content requires that all links exist and are durable.
abbrev pub LeavesInOrder : Tag → List Linking → List Write → States → States → Type 0
LeavesInOrder tag links writes old new =
    (slot : Slot) (b : Content) → new.disk.since old.disk.time slot b ≡ true
    → (old.disk.since old.disk.time slot b ≡ true) ⊎ (IsOfWrites writes slot b × MakesAll tag links old.folder new.folder)
