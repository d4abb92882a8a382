-- How `ldconfig -r ROOT` ends, and what it leaves (ldconfig(8): -r, -f, -C, -n, -N, -X, -i).
use Rattle.std.specs.Prelude.{◌≡◌, ◌⊎◌, [], true, if◌then◌else◌, Some, None, Ok, Err}
use Rattle.command_status.specs.declared.status.Status.{Status}
use Rattle.command_status.specs.declared.status.Status.TheVariants.{DiskFault, Done}
use Rattle.file_stamps.specs.Stamped.{AreSame, AreTrue}
use Rattle.image_session.specs.Aux.{stamps_of_slot}
use Rattle.image_session.specs.Session.{Loaded, image_with}
use Rattle.image_tree.specs.Tree.{Nodes}
use Rattle.ldconfig_core.specs.Texts.{AreTextsOf, UpdateTexts}
use Rattle.lib_types.specs.Counts.{HasRisen}
use Rattle.library_search.specs.Ldconfig.{links_in}
use Rattle.root_answers.specs.Answers.{Answers, verbose_text}
use Rattle.root_answers.specs.Ending.{GivesUp}
use Rattle.root_answers.specs.Run.{CountsNoError, FailsFirst, IfDirectory, RunStates}
use Rattle.root_answers.specs.declared.runs.RootAsked.{RootAsked}
use Rattle.root_update.specs.Made.{RootStates, tree_after}
use Rattle.root_update.specs.Update.{WritesMade, aux_for}
use Rattle.root_update.specs.declared.parts.AuxUse.{AuxUse}
use Rattle.root_update.specs.declared.parts.AuxUse.TheVariants as uses
use Rattle.root_update.specs.declared.parts.RootParts.{RootParts}
use Rattle.root_update.specs.declared.updating.Updated.{Updated}
use Rattle.root_writes.specs.declared.fault.WriteFault.{WriteFault}
use Rattle.tree_face.specs.Disk.{Content, DiskContent, Slots}
use Rattle.tree_face.specs.Known.{IfKnown, Relates}
use Rattle.tree_face.specs.Store.{Contents}

-- ---- what is left

-- the tree afterwards: with the planned links, unless -X is given
abbrev pub tree_left : RootParts → Contents → Loaded → Nodes
tree_left parts held image = if parts.links then tree_after parts.scope held image else image.tree

-- the new content of a file, or the present one if none is written
abbrev pub written_or : Content → Content → Content
written_or (Some bytes) present = Some bytes
written_or None present = present

-- the files afterwards: with the cache, unless -N or -n is given, and with the auxiliary cache, if one is kept
abbrev pub files_left : RootParts → UpdateTexts → Slots → Slots
files_left parts texts files = record files {
  cache = if parts.cache then Some texts.cache else files.cache;
  aux = written_or (aux_for parts.aux texts.aux) files.aux;
}

-- the files are those of the update of this image
pub record LeavesFiles (parts : RootParts) (held : Contents) (image : Loaded) (a b : DiskContent) : Type 0 where
  pub texts : UpdateTexts
  pub are : AreTextsOf parts.scope held image texts
  pub files : b.now ≡ files_left parts texts a.now

-- ---- a second run

-- the auxiliary cache that an update reads
abbrev pub aux_in : AuxUse → Slots → Content
aux_in uses.Unused files = None
aux_in uses.Replaced files = None
aux_in uses.Updated files = files.aux

-- An update of this directory with these files changes nothing: it plans no link, and would write the bytes that the files have.
pub record ChangesNothing (parts : RootParts) (held : Contents) (t : Nodes) (files : Slots) : Type 0 where
  pub no_links : links_in parts.scope held t (stamps_of_slot (aux_in parts.aux files)) ≡ []
  pub same : (again : UpdateTexts) → AreTextsOf parts.scope held (image_with t (aux_in parts.aux files)) again → files_left parts again files ≡ files

-- With the links, and under the identity assumption, the same update of what is left changes nothing.
abbrev pub IsLastOne : RootParts → Contents → Loaded → Nodes → Slots → Type 0
IsLastOne parts held image after files =
    parts.links ≡ true → AreTrue held image.tree image.stamps → AreSame held image.tree image.tree → ChangesNothing parts held after files

-- ---- how it ends

-- a writing call has failed: what is written is a prefix of what the update writes
pub record FailsWriting (asked : RootAsked) (status : Status) (old new : RunStates) : Type 0 where
  pub status_is : status ≡ DiskFault
  pub fault : WriteFault
  pub written : WritesMade asked.parts.now asked.tag (Err fault) None old.files new.files
  pub cause : HasRisen old.files.folder.faults new.files.folder.faults ⊎ HasRisen old.files.disk.faults new.files.disk.faults
  pub output : new.sink ≡ old.sink

-- Everything is written: the links of the planned tree and no other change of the directory, and the files of the update.
pub record IsUpdated (asked : RootAsked) (updated : Updated) (old new : RootStates) : Type 0 where
  pub written : WritesMade asked.parts.now asked.tag (Ok tt) (Some updated) old new
  pub errors : CountsNoError old new
  pub links : IfDirectory asked.parts.now old (λ held image. IfKnown new.folder.contents (λ after. after.now ≡ tree_left asked.parts.now held image))
  pub files : IfDirectory asked.parts.now old (λ held image. Relates (LeavesFiles asked.parts.now held image) old.disk.contents new.disk.contents)
  pub again : IfDirectory asked.parts.now old (λ held image. IfKnown new.folder.contents (λ after. IfKnown new.disk.contents
      (λ files. IsLastOne asked.parts.now held image after.now files.now)))

-- The update is complete. Then what -v asks for is written; if memory runs out for it, nothing.
pub record Finishes (asked : RootAsked) (status : Status) (old new : RunStates) : Type 0 where
  pub updated : Updated
  pub is : IsUpdated asked updated old.files new.files
  pub output : Answers (verbose_text asked.shown.front.now asked.shown.verbose updated.looked updated.links) Done status old.sink new.sink
      ⊎ GivesUp status old.sink new.sink

-- An update fails before it writes, fails in a writing call, or is complete.
abbrev pub UpdateEnds : RootAsked → Status → RunStates → RunStates → Type 0
UpdateEnds asked status old new = FailsFirst asked.parts.now status old new ⊎ (FailsWriting asked status old new ⊎ Finishes asked status old new)
