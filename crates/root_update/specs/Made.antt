-- What an update of a directory makes before it writes (ldconfig(8)).
use Rattle.std.specs.Prelude.{◌≡◌, ℕ, true, List, [], length, Option, Some, Result, Ok, Err}
use Rattle.aux_cache.specs.declared.stamps.Stamp.{Stamp}
use Rattle.file_stamps.specs.Opened.{keys_without_id}
use Rattle.file_stamps.specs.Stamped.{AreTrue}
use Rattle.hwcap_dirs.specs.declared.kinds.Scope.{Scope}
use Rattle.hwcap_dirs.specs.declared.kinds.Scope.TheVariants.{Image}
use Rattle.image_session.specs.Aux.{stamps_of_slot}
use Rattle.image_session.specs.Session.{Loaded, image_with}
use Rattle.image_tree.specs.Tree.{Nodes}
use Rattle.ldconfig_core.specs.Faults.{is_of_preparing}
use Rattle.ldconfig_core.specs.Looked.{HasLooked}
use Rattle.ldconfig_core.specs.Outcome.{Writes, update_outcome}
use Rattle.ldconfig_core.specs.Settled.{AreCachesAgain, unstamped_image}
use Rattle.ldconfig_core.specs.Stages.{texts_of}
use Rattle.ldconfig_core.specs.Texts.{AreAlike, AreTextsOf, UpdateTexts}
use Rattle.ldconfig_core.specs.Update.{AreUpdateTexts, IfReliably, IsAnswer, IsReportFor, ReadsUpdate, update_ending}
use Rattle.ldconfig_core.specs.declared.fault.UpdateFault.{UpdateFault}
use Rattle.ldconfig_core.specs.declared.preparing.Prepared.{Prepared}
use Rattle.ldconfig_core.specs.declared.report.Report.{Report}
use Rattle.library_search.specs.Begun.{opened_in}
use Rattle.library_search.specs.Judged.{AreJudged}
use Rattle.library_search.specs.Ldconfig.{library_paths, links_in, places_in, planned_in, info_files, info_wanted}
use Rattle.link_plan.specs.declared.kinds.Planned.{Planned}
use Rattle.root_folder.specs.Folder.{FolderState}
use Rattle.root_update.specs.Loading.{LoadsRoot, ReadsNoAux, ReadsNoTree}
use Rattle.root_update.specs.declared.fault.RootFault.{RootFault}
use Rattle.root_update.specs.declared.fault.RootFault.TheVariants as faults
use Rattle.root_update.specs.declared.parts.AuxUse.{AuxUse}
use Rattle.root_writes.specs.Writing.{States, states}
use Rattle.tree_face.specs.Disk.{Content, DiskState}
use Rattle.tree_face.specs.Known.{IfKnown}
use Rattle.tree_face.specs.Store.{Contents, StoreState}
use Rattle.tree_face.specs.StoreUse.{Complete}

pub record RootStates : Type 0 where
  pub folder : FolderState
  pub store : StoreState
  pub disk : DiskState

abbrev pub root_states : FolderState → StoreState → DiskState → RootStates
root_states folder store disk = record { folder = folder; store = store; disk = disk }

-- the directory and the disk
abbrev pub image_states : RootStates → States
image_states s = states s.folder s.disk

-- ---- an update by a manifest

-- The loader can search for each library of the image, so each counts as what it is.
pub record AreAllSearchable (scope : Scope) (held : Contents) (image : Loaded) : Type 0 where
  pub wanted : AreJudged scope (info_wanted scope held image.tree image.stamps)
  pub files : AreJudged scope (info_files scope held image.tree image.stamps)

-- An update of the image `manifested` by a manifest makes the same cache, if the two rules of a directory change nothing: the further
-- built-in directories add no search directory, and the loader can search for each library's name.
abbrev pub HasCacheOfImage : Scope → Contents → Loaded → Loaded → UpdateTexts → Type 0
HasCacheOfImage scope held image manifested texts =
    places_in Image held image.tree ≡ places_in scope held image.tree → AreAllSearchable scope held image
    → (others : UpdateTexts) → AreTextsOf Image held manifested others → others.cache ≡ texts.cache

-- ---- a second update

-- the tree with the planned links
abbrev pub tree_after : Scope → Contents → Loaded → Nodes
tree_after scope held image = planned_in scope held image.tree image.stamps

-- the number of library files that can't have a stamp: those without an identity
abbrev pub unstamped_in : Scope → Contents → Nodes → List Stamp → ℕ
unstamped_in scope held t loaded = length (keys_without_id t (library_paths scope held t loaded))

-- An update of the image `next` plans no link, and writes the caches of these texts.
pub record ChangesNothing (scope : Scope) (held : Contents) (image next : Loaded) (texts : UpdateTexts) : Type 0 where
  pub no_links : links_in scope held next.tree next.stamps ≡ []
  pub writes : update_outcome scope held image ≡ Writes → update_outcome scope held next ≡ Writes
  pub caches : (again : UpdateTexts) → AreTextsOf scope held next again → AreCachesAgain texts again

-- A second update of the tree with the planned links changes nothing, if its auxiliary cache is true of that tree. It may have
-- no auxiliary cache, one that was true before, or the one that this update makes.
pub record IsRootSettled (scope : Scope) (held : Contents) (image : Loaded) (texts : UpdateTexts) : Type 0 where
  pub again : (aux : Content) → AreTrue held (tree_after scope held image) (stamps_of_slot aux) → ChangesNothing scope held image (image_with (tree_after scope held image) aux) texts
  pub still_true : (stamps : List Stamp) → AreTrue held image.tree stamps → AreTrue held (tree_after scope held image) stamps
  pub made_true : AreTrue held (tree_after scope held image) (stamps_of_slot (Some texts.aux))
  -- with the one that this update makes, no file that has an identity is opened again
  pub opened : opened_in scope held (tree_after scope held image) (stamps_of_slot (Some texts.aux))
      ≡ unstamped_in scope held (tree_after scope held image) (stamps_of_slot (Some texts.aux))

-- An update without the auxiliary cache writes the same.
pub record IsRootRebuilt (scope : Scope) (held : Contents) (image : Loaded) (texts : UpdateTexts) : Type 0 where
  pub outcome : update_outcome scope held (unstamped_image image) ≡ update_outcome scope held image
  pub same : (others : UpdateTexts) → AreTextsOf scope held (unstamped_image image) others → AreAlike texts others
  pub as_image : HasCacheOfImage scope held image (unstamped_image image) texts

-- ---- what is made

-- the plan and the texts of the update of this image
pub record AreRootTexts (scope : Scope) (known : Option Contents) (image : Loaded) (plan : List Planned) (texts : UpdateTexts) : Type 0 where
  pub are : AreUpdateTexts scope image known texts
  pub plan_is : IfKnown known (λ held. plan ≡ links_in scope held image.tree image.stamps)
  -- with the same auxiliary cache
  pub as_image : IfKnown known (λ held. HasCacheOfImage scope held image image texts)
  -- if the stamps are true, and files of equal identity have equal content
  pub rebuilt : IfReliably known image (λ held. IsRootRebuilt scope held image texts)
  pub settles : IfReliably known image (λ held. IsRootSettled scope held image texts)

-- The image of the directory is read, and everything that is written later is made.
pub record MakesRoot (scope : Scope) (how : AuxUse) (image : Loaded) (plan : List Planned) (texts : UpdateTexts) (old new : RootStates) : Type 0 where
  pub loads : LoadsRoot how image (image_states old) (image_states new)
  pub texts_are : AreRootTexts scope old.store.held image plan texts
  pub writes : IfKnown old.store.held (λ held. update_outcome scope held image ≡ Writes)
  pub reads : ReadsUpdate scope image Complete old.store new.store

-- the text of the report, and its numbers
pub record IsRootReport (scope : Scope) (known : Option Contents) (image : Loaded) (texts : UpdateTexts) (report : Report) : Type 0 where
  pub text : report.text ≡ texts.report
  pub numbers : IfKnown known (λ held. IsReportFor scope held image report)

-- the image is read, but there is nothing to write, for this reason
pub record RefusesRoot (scope : Scope) (how : AuxUse) (fault : UpdateFault) (old new : RootStates) : Type 0 where
  pub image : Loaded
  pub loads : LoadsRoot how image (image_states old) (image_states new)
  pub answers : IfKnown old.store.held (λ held. IsAnswer {A = Prepared} (update_outcome scope held image) (Err fault) old.store new.store)
  pub reads : ReadsUpdate scope image (update_ending {A = Prepared} (Err fault)) old.store new.store
  -- it isn't the fault of a writing call: none is made
  pub others : is_of_preparing fault ≡ true

-- Nothing was made, for this reason: the auxiliary cache or the tree can't be read, or there is nothing to write.
abbrev pub MakesNone : Scope → AuxUse → RootFault → RootStates → RootStates → Type 0
MakesNone scope how (faults.Slot fault) old new = ReadsNoAux how fault (image_states old) (image_states new) × (new.store ≡ old.store)
MakesNone scope how (faults.Tree fault) old new = ReadsNoTree how fault (image_states old) (image_states new) × (new.store ≡ old.store)
MakesNone scope how (faults.Update fault) old new = RefusesRoot scope how fault old new
MakesNone scope how (faults.Write fault) old new = ⊥

-- ---- what private functions say

-- everything that is written later is made, or the fault says why not
abbrev pub Prepares : Scope → AuxUse → Result Prepared RootFault → RootStates → RootStates → Type 0
Prepares scope how (Ok prepared) old new =
    (image : Loaded) × (MakesRoot scope how image prepared.plan (texts_of prepared) old new
    × (IsRootReport scope old.store.held image (texts_of prepared) prepared.report × IfKnown old.store.held (λ held. HasLooked scope held image prepared.looked)))
Prepares scope how (Err fault) old new = MakesNone scope how fault old new
