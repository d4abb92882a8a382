-- The slots that an update writes, and the image in the slots.
use Rattle.std.proofs.Common.{◌≡◌, ℕ, List, [], ◌∷◌, ◌++◌, Option, Some, None, refl, sym, ap, ◌∙◌, inl, inr}
use Rattle.std.specs.Option.{option_or}
use Rattle.atomic_replace.specs.Replace.{Write}
use Rattle.tree_face.specs.declared.disk.Slot.TheVariants.{Manifest, Cache, Aux}
use Rattle.tree_face.specs.Disk.{Content, DiskContent, Slots}
use Rattle.image_tree.specs.Tree.{Nodes}
use Rattle.image_session.specs.Manifest as manifests
use Rattle.image_session.specs.Manifest.{Empty, Faulty, HasTree, manifest_of}
use Rattle.image_session.specs.Session.{Loaded, image_with}
use Rattle.atomic_replace.specs.OneByOne.{IsOfWrites, Replaces}
use Rattle.ldconfig_core.specs.Repair.{IsImageIn, slots_after}
use Rattle.ldconfig_core.specs.Texts.{UpdateTexts, of_manifest, writes_of}

-- ---- the slots

-- the slots after the replacements are those of the definition
pub slots_are : (tag : ℕ) (writes : List Write) (a b : DiskContent) → Replaces tag writes a b → b.now ≡ slots_after writes a.now
slots_are tag [] a b same = ap (λ (c : DiskContent). c.now) same
slots_are tag (write ∷ writes) a b (c, (first, rest)) = slots_are tag writes c b rest ∙ ap (slots_after writes) first.slots

abbrev slots_with : Content → Content → Content → Slots
slots_with m c a = record { manifest = m; cache = c; aux = a }

abbrev texts_with : Option (List ℕ) → List ℕ → List ℕ → List ℕ → UpdateTexts
texts_with m c a r = record { manifest = m; cache = c; aux = a; report = r }

-- an update writes both caches, and the manifest if there is a new one
pub written_slots : (texts : UpdateTexts) (slots : Slots) → slots_after (writes_of texts) slots ≡ slots_with (option_or texts.manifest slots.manifest) (Some texts.cache) (Some texts.aux)
written_slots texts slots = by texts.manifest
  where
    by : (m : Option (List ℕ)) → slots_after (writes_of (texts_with m texts.cache texts.aux texts.report)) slots ≡ slots_with (option_or m slots.manifest) (Some texts.cache) (Some texts.aux)
    by None = refl
    by (Some text) = refl

only_caches : (cache aux : List ℕ) (b : Content) → IsOfWrites ((Cache, cache) ∷ (Aux, aux) ∷ []) Manifest b → ⊥
only_caches cache aux b (inl (e, is)) = absurd (cc)
only_caches cache aux b (inr (inl (e, is))) = absurd (cc)
only_caches cache aux b (inr (inr none)) = none

-- after a crash, the written content of the Manifest slot is the new manifest
pub manifest_written : (texts : UpdateTexts) (b : Content) → IsOfWrites (writes_of texts) Manifest b → (text : List ℕ) × ((texts.manifest ≡ Some text) × (b ≡ Some text))
manifest_written texts b there = by texts.manifest there
  where
    by : (m : Option (List ℕ)) → IsOfWrites (writes_of (texts_with m texts.cache texts.aux texts.report)) Manifest b → (text : List ℕ) × ((m ≡ Some text) × (b ≡ Some text))
    by None there = absurd (only_caches texts.cache texts.aux b there)
    by (Some text) (inl is) = (text, (refl, is.1))
    by (Some text) (inr there) = absurd (only_caches texts.cache texts.aux b there)

-- after a crash, the written content of the Aux slot is the new auxiliary cache
pub aux_written : (manifest : Option (List ℕ)) (cache aux : List ℕ) (b : Content) → IsOfWrites (of_manifest manifest ++ (Cache, cache) ∷ (Aux, aux) ∷ []) Aux b → b ≡ Some aux
aux_written None cache aux b (inl (e, is)) = absurd (cc)
aux_written None cache aux b (inr (inl (e, is))) = is
aux_written None cache aux b (inr (inr none)) = absurd none
aux_written (Some text) cache aux b (inl (e, is)) = absurd (cc)
aux_written (Some text) cache aux b (inr (inl (e, is))) = absurd (cc)
aux_written (Some text) cache aux b (inr (inr (inl (e, is)))) = is
aux_written (Some text) cache aux b (inr (inr (inr none))) = absurd none

-- ---- the image in the slots

abbrev tree_in : manifests.Manifest → Nodes → Nodes
tree_in Empty other = other
tree_in (Faulty fault) other = other
tree_in (HasTree tree) other = tree

-- slots with the same manifest have the same tree
pub one_tree : (t u : Nodes) (a b : Content) → a ≡ b → manifest_of a ≡ HasTree t → manifest_of b ≡ HasTree u → u ≡ t
one_tree t u a b e is other = ap (λ (m : manifests.Manifest). tree_in m t) (sym other ∙ ap manifest_of (sym e) ∙ is)

-- slots with the same manifest and the same auxiliary cache have the same image
pub one_image : (slots : Slots) (s r : Loaded) → IsImageIn slots s → IsImageIn slots r → r ≡ s
one_image slots s r is other = other.is ∙ ap (λ t. image_with t slots.aux) (one_tree s.tree r.tree slots.manifest slots.manifest refl is.tree other.tree) ∙ sym is.is
