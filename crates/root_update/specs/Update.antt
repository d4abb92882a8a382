-- An update of a directory without a manifest (ldconfig(8): -r, -f, -N, -X, -i). It makes the links, then writes the cache, and then the
-- auxiliary cache.
use Rattle.std.specs.Prelude.{◌≡◌, ℕ, List, [], map, true, if◌then◌else◌, Option, Some, None, Result, Ok, Err, IfSome}
use Rattle.atomic_replace.specs.Replace.{Write}
use Rattle.image_session.specs.Aux.{stamps_of_slot}
use Rattle.image_session.specs.Session.{Loaded}
use Rattle.ldconfig_core.specs.Texts.{UpdateTexts}
use Rattle.ldconfig_core.specs.Looked.{HasLooked}
use Rattle.library_search.specs.Ldconfig.{planned_in}
use Rattle.link_plan.specs.declared.kinds.Planned.{Planned}
use Rattle.root_folder.specs.Folder.{FolderState}
use Rattle.root_links.specs.Links.{Linking}
use Rattle.root_update.specs.Loading.{IfAux}
use Rattle.root_update.specs.Made.{IsRootReport, MakesNone, MakesRoot, RootStates, image_states, root_states}
use Rattle.root_update.specs.declared.fault.RootFault.{RootFault}
use Rattle.root_update.specs.declared.fault.RootFault.TheVariants as faults
use Rattle.root_update.specs.declared.parts.AuxUse.{AuxUse}
use Rattle.root_update.specs.declared.parts.AuxUse.TheVariants as uses
use Rattle.root_update.specs.declared.parts.RootParts.{RootParts}
use Rattle.root_update.specs.declared.updating.Updated.{Updated}
use Rattle.root_writes.specs.Writing.{LeavesInOrder, WritesRoot, file_writes, states}
use Rattle.root_writes.specs.declared.fault.WriteFault.{WriteFault}
use Rattle.tree_face.specs.Disk.{Content, DiskState}
use Rattle.tree_face.specs.Known.{IfKnown}
use Rattle.tree_face.specs.Store.{Contents}
use Rattle.tree_face.specs.declared.disk.Tag.{Tag}

-- ---- what is written

abbrev pub linking : Planned → Linking
linking planned = (planned.path, planned.file)

-- the links of the plan, or none with -X
abbrev pub asked_links : RootParts → List Planned → List Planned
asked_links parts plan = if parts.links then plan else []

-- the links to make, in the order of the plan
abbrev pub links_for : RootParts → List Planned → List Linking
links_for parts plan = map linking (asked_links parts plan)

-- the auxiliary cache, if one is kept
abbrev pub aux_for : AuxUse → List ℕ → Content
aux_for uses.Unused aux = None
aux_for uses.Replaced aux = Some aux
aux_for uses.Updated aux = Some aux

-- the cache, unless -N is given, and then the auxiliary cache
abbrev pub files_for : RootParts → UpdateTexts → List Write
files_for parts texts = file_writes (if parts.cache then Some texts.cache else None) (aux_for parts.aux texts.aux)

-- ---- what is reported

-- the text and the numbers of the report, the planned links that are requested, and the directories that were searched
pub record IsOutcomeOf (parts : RootParts) (known : Option Contents) (image : Loaded) (plan : List Planned) (texts : UpdateTexts) (info : Updated) : Type 0 where
  pub report : IsRootReport parts.scope known image texts info.report
  pub links : info.links ≡ asked_links parts plan
  pub looked : IfKnown known (λ held. HasLooked parts.scope held image info.looked)

-- ---- one update

-- Everything is made; then the links are made and the files are replaced, unless one of these calls fails.
pub record WritesMade (parts : RootParts) (tag : Tag) (result : Result (Unit {0}) WriteFault) (updated : Option Updated) (old new : RootStates) : Type 0 where
  pub image : Loaded
  pub plan : List Planned
  pub texts : UpdateTexts
  -- the directory and the disk when everything was made
  pub folder : FolderState
  pub disk : DiskState
  pub makes : MakesRoot parts.scope parts.aux image plan texts old (root_states folder new.store disk)
  pub written : WritesRoot tag (links_for parts plan) (files_for parts texts) result (states folder disk) (image_states new)
  -- a crash leaves a new file only if all links were made and flushed before
  pub order : LeavesInOrder tag (links_for parts plan) (files_for parts texts) (states folder disk) (image_states new)
  pub info : IfSome updated (IsOutcomeOf parts old.store.held image plan texts)

abbrev pub UpdatesRoot : RootParts → Tag → Result Updated RootFault → RootStates → RootStates → Type 0
UpdatesRoot parts tag (Ok updated) old new = WritesMade parts tag (Ok tt) (Some updated) old new
UpdatesRoot parts tag (Err (faults.Write fault)) old new = WritesMade parts tag (Err fault) None old new
UpdatesRoot parts tag (Err (faults.Slot fault)) old new = MakesNone parts.scope parts.aux (faults.Slot fault) old new
UpdatesRoot parts tag (Err (faults.Tree fault)) old new = MakesNone parts.scope parts.aux (faults.Tree fault) old new
UpdatesRoot parts tag (Err (faults.Update fault)) old new = MakesNone parts.scope parts.aux (faults.Update fault) old new

-- Without -X, the directory of a known tree and known files has the tree with the planned links afterwards. Nothing else in it changes.
abbrev pub LeavesPlanned : RootParts → RootStates → RootStates → Type 0
LeavesPlanned parts old new =
    parts.links ≡ true → IfKnown old.store.held (λ held. IfKnown old.folder.contents (λ before. IfKnown new.folder.contents (λ after.
    IfAux parts.aux old.disk.contents (λ aux. after.now ≡ planned_in parts.scope held before.now (stamps_of_slot aux)))))
