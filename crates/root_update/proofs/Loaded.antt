-- The image of a directory, from the tree and the auxiliary cache that were read.
use Rattle.std.proofs.Common.{◌≡◌, ◌∙◌, ◌∷◌, ℕ, false, List, [], Option, Some, None, Result, Ok, Err, IfErr, IfOk, ap, subst, sym}
use Rattle.aux_cache.specs.Stamps.{AreRecordable}
use Rattle.aux_cache.specs.declared.stamps.Stamp.{Stamp}
use Rattle.image_session.proofs.ReadSlots.{gave_up}
use Rattle.image_session.specs.Aux.{damage_of_slot, stamps_of_slot}
use Rattle.image_session.specs.Reading.{ReadsContent}
use Rattle.image_session.specs.Session.{Loaded, image_with}
use Rattle.image_session.specs.declared.fault.SlotFault.{SlotFault}
use Rattle.image_session.specs.declared.fault.SlotFault.TheVariants as slots
use Rattle.image_tree.specs.Tree.{Nodes}
use Rattle.root_tree.specs.ReadTree.{ReadsTree}
use Rattle.root_tree.specs.declared.fault.TreeRead.{TreeRead}
use Rattle.root_update.specs.Loading.{IfAux, LoadsRoot, ReadsAux, ReadsNoTree, IsLoadedFrom, UsesAux, root_image}
use Rattle.root_update.specs.declared.fault.RootFault.TheVariants as faults
use Rattle.root_update.specs.declared.parts.AuxUse.{AuxUse}
use Rattle.root_update.specs.declared.parts.AuxUse.TheVariants.{Unused, Replaced, Updated}
use Rattle.root_update.specs.declared.stamps.AuxStamps.{AuxStamps}
use Rattle.root_folder.specs.Folder.{FolderState}
use Rattle.root_writes.specs.Writing.{states}
use Rattle.tree_face.specs.Disk.{Content, DiskContent, DiskState}
use Rattle.tree_face.specs.Known.{IfKnown}
use Rattle.tree_face.specs.declared.disk.Slot.TheVariants.{Aux}

-- ---- the auxiliary cache

-- the stamps of a text that was read, unless memory runs out
pub of_text : (aux : Content) (result : Result AuxStamps SlotFault) (a b : DiskState) → ReadsContent Aux (Ok aux) a b
    → IfOk result (λ read. read.stamps ≡ stamps_of_slot aux) → IfOk result (λ read. read.damaged ≡ damage_of_slot aux) → IfOk result (λ read. AreRecordable read.stamps)
    → IfErr result (λ fault. fault ≡ slots.NoMemory) → ReadsAux Updated result a b
of_text aux (Ok read) a b is stamps damaged recordable fault = (aux, (record { stamps = stamps; damaged = damaged; recordable = recordable }, is))
of_text aux (Err fault) a b is stamps damaged recordable no_memory =
    subst (λ (fault : SlotFault). ReadsContent Aux (Err fault) a b) (sym no_memory) (record { content = tt; fails = tt; reads = gave_up (Aux ∷ []) a b is.reads })

-- a property of the content that was read
pub in_slot : (known : Option DiskContent) (aux : Content) (P : Content → Type 0) → IfKnown known (λ c. c.now.aux ≡ aux) → P aux → IfKnown known (λ c. P c.now.aux)
in_slot None aux P is fact = tt
in_slot (Some c) aux P is fact = subst P (sym is) fact

pub if_aux : (how : AuxUse) (aux : Content) (a b : DiskState) (P : Content → Type 0) → UsesAux how aux a b → P aux → IfAux how a.contents P
if_aux Unused aux a b P is fact = subst P is.0 fact
if_aux Replaced aux a b P is fact = subst P is.0 fact
if_aux Updated aux a b P is fact = in_slot a.contents aux P is.content fact

-- ---- the image

same_image : (tree : Nodes) (aux : Content) (read : AuxStamps) → IsLoadedFrom aux read → root_image tree read ≡ image_with tree aux
same_image tree aux read is =
    ap (λ stamps. image_of stamps read.damaged) is.stamps ∙ ap (λ damaged. image_of (stamps_of_slot aux) damaged) is.damaged
  where
    image_of : List Stamp → Option ℕ → Loaded
    image_of stamps damaged = record { tree = tree; stamps = stamps; edited = false; damaged = damaged }

module _ (how : AuxUse) (f0 f1 : FolderState) (d0 d1 : DiskState) (read : AuxStamps) (aux : ReadsAux how (Ok read) d0 d1) where
  pub loads : (tree : Nodes) → ReadsTree (Ok tree) f0 f1 → LoadsRoot how (root_image tree read) (states f0 d0) (states f1 d1)
  loads tree is = record { tree_is = is; aux = aux.0; aux_is = aux.1.1; is = same_image tree aux.0 read aux.1.0 }

  pub no_tree : (fault : TreeRead) → ReadsTree (Err fault) f0 f1 → ReadsNoTree how fault (states f0 d0) (states f1 d1)
  no_tree fault is = record { tree = is; aux = aux.0; aux_is = aux.1.1 }
