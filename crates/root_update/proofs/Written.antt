-- What an update of a directory writes, from the contracts of its parts.
use Rattle.std.proofs.Common.{◌≡◌, ◌∙◌, List, [], map, if◌then◌else◌, Option, Some, None, Result, Ok, IfSome, ap, subst}
use Rattle.aux_cache.specs.declared.stamps.Stamp.{Stamp}
use Rattle.image_session.specs.Aux.{stamps_of_slot}
use Rattle.image_session.specs.Session.{Loaded}
use Rattle.image_tree.specs.Tree.{Nodes}
use Rattle.ldconfig_core.specs.Texts.{UpdateTexts}
use Rattle.library_search.specs.Ldconfig.{links_in, planned_in}
use Rattle.link_plan.specs.declared.kinds.Planned.{Planned}
use Rattle.root_folder.specs.Folder.{FolderContent, FolderState}
use Rattle.root_links.specs.Links as made
use Rattle.root_links.specs.Links.{HasMade, Linking}
use Rattle.root_update.proofs.Loaded.{if_aux}
use Rattle.root_update.proofs.Plans.{same_tree}
use Rattle.root_update.specs.Loading.{IfAux}
use Rattle.root_update.specs.Made.{MakesRoot, RootStates, image_states, root_states}
use Rattle.root_update.specs.Update.{IsOutcomeOf, LeavesPlanned, WritesMade, aux_for, linking, links_for}
use Rattle.root_update.specs.declared.parts.RootParts.{RootParts}
use Rattle.root_update.specs.declared.updating.Updated.{Updated}
use Rattle.root_writes.specs.Writing.{LeavesInOrder, WritesRoot, file_writes, states}
use Rattle.root_writes.specs.declared.fault.WriteFault.{WriteFault}
use Rattle.soname_links.specs.Plan.{with_links}
use Rattle.tree_face.specs.Disk.{Content, DiskState}
use Rattle.tree_face.specs.Known.{IfKnown, Relates}
use Rattle.tree_face.specs.Store.{Contents}
use Rattle.tree_face.specs.declared.disk.Tag.{Tag}

module _ (parts : RootParts) (tag : Tag) (result : Result (Unit {0}) WriteFault) (updated : Option Updated) (old : RootStates) (folder : FolderState) (disk : DiskState) (new : RootStates) where
  -- these links and files are the requested ones
  pub writes_made : (image : Loaded) (plan : List Planned) (texts : UpdateTexts) (links : List Linking) (cache aux : Content)
      → MakesRoot parts.scope parts.aux image plan texts old (root_states folder new.store disk)
      → links ≡ links_for parts plan → cache ≡ (if parts.cache then Some texts.cache else None) → aux ≡ aux_for parts.aux texts.aux
      → WritesRoot tag links (file_writes cache aux) result (states folder disk) (image_states new)
      → LeavesInOrder tag links (file_writes cache aux) (states folder disk) (image_states new)
      → IfSome updated (IsOutcomeOf parts old.store.held image plan texts) → WritesMade parts tag result updated old new
  writes_made image plan texts links cache aux made links_are cache_is aux_is written order info = record {
    image = image;
    plan = plan;
    texts = texts;
    folder = folder;
    disk = disk;
    makes = made;
    written = asked (λ ls c a. WritesRoot tag ls (file_writes c a) result (states folder disk) (image_states new)) written;
    order = asked (λ ls c a. LeavesInOrder tag ls (file_writes c a) (states folder disk) (image_states new)) order;
    info = info;
  }
    where
      asked : (P : List Linking → Content → Content → Type 0) → P links cache aux → P (links_for parts plan) (if parts.cache then Some texts.cache else None) (aux_for parts.aux texts.aux)
      asked P is =
          subst (λ (ls : List Linking). P ls (if parts.cache then Some texts.cache else None) (aux_for parts.aux texts.aux)) links_are
          (subst (λ (c : Content). P links c (aux_for parts.aux texts.aux)) cache_is (subst (λ (a : Content). P links cache a) aux_is is))

-- the directory has the tree with the planned links
pub leaves_planned : (parts : RootParts) (tag : Tag) (updated : Option Updated) (old new : RootStates) → WritesMade parts tag (Ok tt) updated old new → LeavesPlanned parts old new
unfolding planned_in
leaves_planned parts tag updated old new w links =
    by old.store.held old.folder.contents new.folder.contents w.makes.texts_are.plan_is w.makes.loads.tree_is.tree
    (subst (λ (c : Option FolderContent). Relates (HasMade (links_for parts w.plan)) c new.folder.contents) w.makes.loads.tree_is.reads.keeps.contents w.written.0.contents)
  where
    Leaves : Contents → FolderContent → FolderContent → Content → Type 0
    Leaves held before after aux = after.now ≡ planned_in parts.scope held before.now (stamps_of_slot aux)

    by : (known : Option Contents) (a b : Option FolderContent) → IfKnown known (λ held. w.plan ≡ links_in parts.scope held w.image.tree w.image.stamps) → IfKnown a (λ c. w.image.tree ≡ c.now)
        → Relates (HasMade (links_for parts w.plan)) a b
        → IfKnown known (λ held. IfKnown a (λ before. IfKnown b (λ after. IfAux parts.aux old.disk.contents (Leaves held before after))))
    by None a b plan tree is = tt
    by (Some held) None b plan tree is = tt
    by (Some held) (Some before) None plan tree is = tt
    by (Some held) (Some before) (Some after) plan tree is =
        if_aux parts.aux w.makes.loads.aux old.disk w.disk (Leaves held before after) w.makes.loads.aux_is
        (is.now ∙ ap (λ b. made.with_links before.now (map linking (if b then w.plan else []))) links ∙ same_tree w.plan before.now
        ∙ ap (with_links before.now) (plan ∙ ap (λ (t : Nodes). links_in parts.scope held t w.image.stamps) tree
        ∙ ap (λ (stamps : List Stamp). links_in parts.scope held before.now stamps) (ap (λ (s : Loaded). s.stamps) w.makes.loads.is)))
