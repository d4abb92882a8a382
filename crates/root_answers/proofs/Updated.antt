-- What a complete update of a directory leaves, and that a second one changes nothing.
use Rattle.std.proofs.Common.{◌≡◌, ◌∙◌, ◌⊎◌, inl, inr, Bool, true, false, ℕ, List, [], map, if◌then◌else◌, Option, Some, None, Ok, Err, ap, refl, subst, sym}
use Rattle.file_stamps.specs.Stamped.{AreSame, AreTrue}
use Rattle.image_session.specs.Aux.{stamps_of_slot}
use Rattle.image_session.specs.Session.{Loaded, image_with}
use Rattle.image_tree.specs.Tree.{Nodes}
use Rattle.ldconfig_core.specs.Texts.{AreTextsOf, UpdateTexts}
use Rattle.lib_types.specs.Counts.{HasRisen}
use Rattle.library_search.proofs.Reliable.{none_true}
use Rattle.root_answers.proofs.Directory.{any_aux, aux_then, both, of_one}
use Rattle.root_answers.specs.Run.{IfDirectory}
use Rattle.root_answers.specs.Update.{ChangesNothing, IsLastOne, IsUpdated, LeavesFiles, aux_in, files_left, tree_left, written_or}
use Rattle.root_answers.specs.declared.runs.RootAsked.{RootAsked}
use Rattle.root_folder.specs.Folder.{FolderContent}
use Rattle.root_links.specs.Links.{HasMade, with_links}
use Rattle.root_update.specs.Loading.{IfAux}
use Rattle.root_update.specs.Made.{IsRootSettled, RootStates, tree_after}
use Rattle.root_update.specs.Update.{LeavesPlanned, WritesMade, aux_for, files_for, linking, links_for}
use Rattle.root_update.specs.declared.parts.AuxUse.{AuxUse}
use Rattle.root_update.specs.declared.parts.AuxUse.TheVariants as uses
use Rattle.root_update.specs.declared.parts.RootParts.{RootParts}
use Rattle.root_update.specs.declared.updating.Updated.{Updated}
use Rattle.root_writes.specs.Writing.{file_writes}
use Rattle.root_writes.specs.declared.fault.WriteFault.{WriteFault}
use Rattle.root_writes.specs.declared.fault.WriteFault.TheVariants.{Files, Links}
use Rattle.atomic_replace.specs.OneByOne.{Replaces}
use Rattle.tree_face.proofs.Known.{known_then, relates_by}
use Rattle.tree_face.specs.Disk.{Content, DiskContent, Slots}
use Rattle.tree_face.specs.Known.{IfKnown, Relates}
use Rattle.tree_face.specs.Store.{Contents}
use Rattle.root_update.proofs.Checked.{aux_read}

-- ---- the files

abbrev pub slots : Content → Content → Content → Slots
slots manifest cache aux = record { manifest = manifest; cache = cache; aux = aux }

same_slots : (m c d x y : Content) → c ≡ d → x ≡ y → slots m c x ≡ slots m d y
same_slots m c d x y e f = ap (λ (k : Content). slots m k x) e ∙ ap (λ (k : Content). slots m d k) f

-- what the files are after these writes
replaced : (tag : ℕ) (cache aux : Content) (a b : DiskContent) → Replaces tag (file_writes cache aux) a b
    → b.now ≡ slots a.now.manifest (written_or cache a.now.cache) (written_or aux a.now.aux)
replaced tag None None a b is = ap (λ (d : DiskContent). d.now) is
replaced tag (Some x) None a b is = ap (λ (d : DiskContent). d.now) is.1.1 ∙ is.1.0.slots
replaced tag None (Some y) a b is = ap (λ (d : DiskContent). d.now) is.1.1 ∙ is.1.0.slots
replaced tag (Some x) (Some y) a b is =
    ap (λ (d : DiskContent). d.now) is.1.1.1.1 ∙ is.1.1.1.0.slots ∙ ap (λ (s : Slots). slots s.manifest s.cache (Some y)) is.1.0.slots

asked_cache : (on : Bool) (x : List ℕ) (present : Content) → written_or (if on then Some x else None) present ≡ (if on then Some x else present)
asked_cache true x present = refl
asked_cache false x present = refl

-- the files of the second disk are those of the update
abbrev pub Changes : RootParts → UpdateTexts → DiskContent → DiskContent → Type 0
Changes parts texts a b = b.now ≡ files_left parts texts a.now

-- the tree stays the same
abbrev pub KeepsTree : FolderContent → FolderContent → Type 0
KeepsTree a b = b.now ≡ a.now

-- ---- written again

cache_again : (on : Bool) (x y : List ℕ) (c : Content) → x ≡ y → (if on then Some x else (if on then Some y else c)) ≡ (if on then Some y else c)
cache_again true x y c e = ap Some e
cache_again false x y c e = refl

aux_again : (how : AuxUse) (x y : List ℕ) (c : Content) → x ≡ y → written_or (aux_for how x) (written_or (aux_for how y) c) ≡ written_or (aux_for how y) c
aux_again uses.Unused x y c e = refl
aux_again uses.Replaced x y c e = ap Some e
aux_again uses.Updated x y c e = ap Some e

-- the auxiliary cache that the second update reads is true of the tree
next_true : (held : Contents) (u : Nodes) (texts : UpdateTexts) (how : AuxUse) (files : Slots) (c : Content) → files.aux ≡ written_or (aux_for how texts.aux) c
    → AreTrue held u (stamps_of_slot (Some texts.aux)) → AreTrue held u (stamps_of_slot (aux_in how files))
next_true held u texts uses.Unused files c is made = none_true held u
next_true held u texts uses.Replaced files c is made = none_true held u
next_true held u texts uses.Updated files c is made = subst (λ (x : Content). AreTrue held u (stamps_of_slot x)) (sym is) made

-- the fact of a second update of an image, if the identity assumption holds
abbrev pub IfTrue : Contents → Loaded → Type 0 → Type 0
IfTrue held image P = AreTrue held image.tree image.stamps → AreSame held image.tree image.tree → P

module _ (parts : RootParts) (held : Contents) (image : Loaded) (texts : UpdateTexts) where
  module _ (settled : IsRootSettled parts.scope held image texts) (files a : Slots) (is : files ≡ files_left parts texts a) where
    next : AreTrue held (tree_after parts.scope held image) (stamps_of_slot (aux_in parts.aux files))
    next = next_true held (tree_after parts.scope held image) texts parts.aux files a.aux (ap (λ (s : Slots). s.aux) is) settled.made_true

    written_again : (again : UpdateTexts) → again.cache ≡ texts.cache → again.aux ≡ texts.aux → files_left parts again files ≡ files
    written_again again cache aux =
        subst (λ (s : Slots). files_left parts again s ≡ s) (sym is)
        (same_slots a.manifest _ _ _ _ (cache_again parts.cache again.cache texts.cache a.cache cache) (aux_again parts.aux again.aux texts.aux a.aux aux))

    nothing : ChangesNothing parts held (tree_after parts.scope held image) files
    nothing =
        let changes = settled.again (aux_in parts.aux files) next in
        record {
          no_links = changes.no_links;
          same = λ again are. written_again again (changes.caches again are).cache (changes.caches again are).aux;
        }

  last_one : (after : Nodes) (files a : Slots) → after ≡ tree_left parts held image → files ≡ files_left parts texts a → IfTrue held image (IsRootSettled parts.scope held image texts)
      → IsLastOne parts held image after files
  last_one after files a tree is settled on truth same =
      let planned : after ≡ tree_after parts.scope held image = tree ∙ ap (λ (b : Bool). if b then tree_after parts.scope held image else image.tree) on in
      subst (λ (t : Nodes). ChangesNothing parts held t files) (sym planned) (nothing (settled truth same) files a is)

-- ---- the tree

module _ (parts : RootParts) (old new : RootStates) where
  tree_by : (on : Bool) → parts.links ≡ on → (known : Option Contents) (a b : Option FolderContent) (unlinked : parts.links ≡ false → Relates KeepsTree a b)
      → (parts.links ≡ true → IfKnown known (λ held. IfKnown a (λ before. IfKnown b (λ after. IfAux parts.aux old.disk.contents (λ aux. after.now ≡ tree_after parts.scope held (image_with before.now aux))))))
      → IfKnown known (λ held. IfKnown a (λ dir. IfAux parts.aux old.disk.contents (λ aux. IfKnown b (λ after. after.now ≡ tree_left parts held (image_with dir.now aux)))))
  tree_by on e None a b unlinked planned = tt
  tree_by on e (Some held) None b unlinked planned = tt
  tree_by on e (Some held) (Some before) None unlinked planned = any_aux parts.aux old.disk.contents (λ aux. IfKnown {A = FolderContent} None (λ after. after.now ≡ tree_left parts held (image_with before.now aux))) (λ aux. tt)
  tree_by true e (Some held) (Some before) (Some after) unlinked planned =
      aux_then parts.aux old.disk.contents (λ aux. after.now ≡ tree_after parts.scope held (image_with before.now aux)) (λ aux. after.now ≡ tree_left parts held (image_with before.now aux))
      (λ aux is. is ∙ sym (ap (λ (b : Bool). if b then tree_after parts.scope held (image_with before.now aux) else before.now) e)) (planned e)
  tree_by false e (Some held) (Some before) (Some after) unlinked planned =
      any_aux parts.aux old.disk.contents (λ aux. after.now ≡ tree_left parts held (image_with before.now aux))
      (λ aux. unlinked e ∙ sym (ap (λ (b : Bool). if b then tree_after parts.scope held (image_with before.now aux) else before.now) e))

module _ (asked : RootAsked) (old new : RootStates) where
  abbrev pub parts : RootParts
  parts = asked.parts.now

  module _ (updated : Updated) (w : WritesMade parts asked.tag (Ok tt) (Some updated) old new) (planned : LeavesPlanned parts old new) where
    links : IfDirectory parts old (λ held image. IfKnown new.folder.contents (λ after. after.now ≡ tree_left parts held image))
    links = tree_by parts old new parts.links refl old.store.held old.folder.contents new.folder.contents unlinked planned
      where
        made : Relates (HasMade (links_for parts w.plan)) old.folder.contents new.folder.contents
        made = subst (λ (c : Option FolderContent). Relates (HasMade (links_for parts w.plan)) c new.folder.contents) w.makes.loads.tree_is.reads.keeps.contents w.written.0.contents

        unlinked : parts.links ≡ false → Relates KeepsTree old.folder.contents new.folder.contents
        unlinked off =
            relates_by (HasMade (links_for parts w.plan)) KeepsTree
            (λ a b is. is.now ∙ ap (λ (on : Bool). with_links a.now (map linking (if on then w.plan else []))) off) old.folder.contents new.folder.contents made

    changed : Relates (Changes parts w.texts) old.disk.contents new.disk.contents
    changed =
        relates_by (Replaces asked.tag.0 (files_for parts w.texts)) (Changes parts w.texts)
        (λ a b is. replaced asked.tag.0 (if parts.cache then Some w.texts.cache else None) (aux_for parts.aux w.texts.aux) a b is
        ∙ ap (λ (c : Content). slots a.now.manifest c (written_or (aux_for parts.aux w.texts.aux) a.now.aux)) (asked_cache parts.cache w.texts.cache a.now.cache))
        old.disk.contents new.disk.contents
        (subst (λ (c : Option DiskContent). Relates (Replaces asked.tag.0 (files_for parts w.texts)) c new.disk.contents)
        (aux_read parts.aux w.makes.loads.aux old.disk w.disk w.makes.loads.aux_is).keeps.contents w.written.1.contents)

    files : IfDirectory parts old (λ held image. Relates (LeavesFiles parts held image) old.disk.contents new.disk.contents)
    files = of_one parts old (λ held image. Relates (LeavesFiles parts held image) old.disk.contents new.disk.contents) _ w.image w.makes.loads
        (known_then old.store.held (λ held. AreTextsOf parts.scope held w.image w.texts) (λ held. Relates (LeavesFiles parts held w.image) old.disk.contents new.disk.contents)
        (λ held are. relates_by (Changes parts w.texts) (LeavesFiles parts held w.image) (λ a b is. record { texts = w.texts; are = are; files = is })
        old.disk.contents new.disk.contents changed)
        w.makes.texts_are.are.are_of)

    again : IfDirectory parts old (λ held image. IfKnown new.folder.contents (λ after. IfKnown new.disk.contents (λ left. IsLastOne parts held image after.now left.now)))
    again =
        both parts old (λ held image. IfTrue held image (IsRootSettled parts.scope held image w.texts)) (λ held image. IfKnown new.folder.contents (λ after. after.now ≡ tree_left parts held image))
        (λ held image. IfKnown new.folder.contents (λ after. IfKnown new.disk.contents (λ left. IsLastOne parts held image after.now left.now)))
        (λ held image settled. known_then new.folder.contents (λ after. after.now ≡ tree_left parts held image)
        (λ after. IfKnown new.disk.contents (λ left. IsLastOne parts held image after.now left.now))
        (λ after tree. in_files held image after.now tree settled old.disk.contents new.disk.contents changed))
        (of_one parts old (λ held image. IfTrue held image (IsRootSettled parts.scope held image w.texts)) _ w.image w.makes.loads w.makes.texts_are.settles)
        links
      where
        in_files : (held : Contents) (image : Loaded) (after : Nodes) → after ≡ tree_left parts held image → IfTrue held image (IsRootSettled parts.scope held image w.texts)
            → (a b : Option DiskContent) → Relates (Changes parts w.texts) a b → IfKnown b (λ left. IsLastOne parts held image after left.now)
        in_files held image after tree settled a None is = tt
        in_files held image after tree settled None (Some b) is = absurd is
        in_files held image after tree settled (Some a) (Some b) is = last_one parts held image w.texts after b.now a.now tree is settled

    pub is_updated : IsUpdated asked updated old new
    is_updated = record {
      written = w;
      errors = record {
        folder = w.written.0.faults ∙ w.makes.loads.tree_is.reads.done.faults;
        store = w.makes.reads.any.cause;
        disk = w.written.1.faults ∙ (aux_read parts.aux w.makes.loads.aux old.disk w.disk w.makes.loads.aux_is).cause;
      };
      links = links;
      files = files;
      again = again;
    }

  -- the cause of a failed writing call
  pub risen : (fault : WriteFault) → WritesMade parts asked.tag (Err fault) None old new → HasRisen old.folder.faults new.folder.faults ⊎ HasRisen old.disk.faults new.disk.faults
  risen (Links fault) w = inl (subst (λ (n : ℕ). HasRisen n new.folder.faults) w.makes.loads.tree_is.reads.done.faults w.written.0.faults)
  risen (Files fault) w =
      inr (subst (λ (n : ℕ). HasRisen n new.disk.faults) (aux_read parts.aux w.makes.loads.aux old.disk w.disk w.makes.loads.aux_is).cause w.written.1.faults)
