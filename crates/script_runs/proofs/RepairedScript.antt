-- What a crash of a script leaves meets the assumption on identities. An update of it writes what an update of the old image or of an
-- image of the
-- expected run writes.
use Rattle.std.proofs.Common.{◌≡◌, ◌⊎◌, ◌++◌, ℕ, List, [], ◌∷◌, All, flat_map, Option, Some, None, Result, Ok, Err, IfOk, refl, ap, sym, subst, ◌∙◌, inl, inr}
use Rattle.std.specs.List.{Contains}
use Rattle.std.proofs.lemmas.List.Elements.{All-cons, All-contains, All-head, All-nil, All-tail, All-weaker}
use Rattle.hwcap_dirs.specs.declared.kinds.Scope.TheVariants.{Image}
use Rattle.atomic_replace.specs.Replace.{Write}
use Rattle.aux_cache.specs.declared.stamps.Stamp.{Stamp}
use Rattle.image_tree.specs.Tree.{Nodes}
use Rattle.ldconfig_core.proofs.OneText.{again, one_outcome, one_written}
use Rattle.ldconfig_core.proofs.WrittenSlots.{aux_written, manifest_written, one_image}
use Rattle.ldconfig_core.specs.Outcome.{Writes, update_outcome}
use Rattle.ldconfig_core.specs.Repair.{IsImageIn}
use Rattle.ldconfig_core.specs.Settled.{AreCachesAgain, AreSettled, IfReads, planned_image}
use Rattle.ldconfig_core.specs.Texts.{AreAlike, AreTextsOf, UpdateTexts, writes_of}
use Rattle.image_session.specs.Aux.{stamps_of_slot}
use Rattle.image_session.specs.Manifest.{manifest_of}
use Rattle.image_session.specs.Session.{IsLoaded, Loaded, image_with}
use Rattle.image_session.specs.declared.fault.LoadFault.{LoadFault}
use Rattle.atomic_replace.specs.OneByOne.{IsOfWrites}
use Rattle.library_search.specs.Ldconfig.{planned_in, stamps_in}
use Rattle.file_stamps.specs.Stamped.{AreSame, AreTrue}
use Rattle.tree_face.specs.Disk.{Content, DiskContent, DiskState, Slots, slot_of}
use Rattle.tree_face.specs.Store.{Contents}
use Rattle.tree_face.specs.declared.disk.Slot.{Slot}
use Rattle.tree_face.specs.declared.disk.Tag.{Tag}
use Rattle.tree_face.specs.declared.disk.Slot.TheVariants.{Manifest, Aux}
use Rattle.command_status.specs.declared.status.Status.{Status}
use Rattle.tree_face.specs.Devices.{IfBothKnown}
use Rattle.script_runs.specs.declared.fault.ScriptFault.{ScriptFault}
use Rattle.script_runs.proofs.InSlots.{image_is}
use Rattle.script_runs.proofs.AskedFor.{AreAsked, are_asked, contains_first, contains_later}
use Rattle.script_runs.proofs.ReliableCourse.{each_reliable, first_is, later_is, made_true}
use Rattle.script_runs.specs.Course.{AreReliable, Course, IsReliable, course, trees_of}
use Rattle.script_runs.specs.Crash.{AreOfFirst, IsOfOld, IsOfUpdate, LeavesWholeCaches, MayBeLeft}
use Rattle.script_runs.specs.Left.{IsUpdateOf}
use Rattle.script_runs.specs.Stored.{IsRepairable, LeavesBy, LeavesWhole, RepairsScript}

-- ---- lists

each_tree : (P : Nodes → Type 0) (images : List Loaded) → All P (trees_of images) → All (λ (u : Loaded). P u.tree) images
each_tree P [] are = All-nil (λ (u : Loaded). P u.tree)
each_tree P (u ∷ images) are =
    All-cons (λ (u : Loaded). P u.tree) u images (All-head P u.tree (trees_of images) are) (each_tree P images (All-tail P u.tree (trees_of images) are))

-- ---- the result of one of the updates

either_writes : (xs ys : List Write) (slot : Slot) (b : Content) → IsOfWrites (xs ++ ys) slot b → IsOfWrites xs slot b ⊎ IsOfWrites ys slot b
either_writes [] ys slot b is = inr is
either_writes (x ∷ xs) ys slot b (inl is) = inl (inl is)
either_writes (x ∷ xs) ys slot b (inr is) = elim (either_writes xs ys slot b is) [ inl first ↦ inl (inr first) | inr second ↦ inr second ]

module _ (held : Contents) (slot : Slot) (b : Content) where
  -- it is the result of an update of one of these images
  pub record IsWrittenOf (images : List Loaded) : Type 0 where
    pub image : Loaded
    pub among : Contains images image
    pub texts : UpdateTexts
    pub are : IsUpdateOf held image texts
    pub there : IsOfWrites (writes_of texts) slot b

  pub written_of : (to : Result Loaded ScriptFault) (images : List Loaded) (updates : List UpdateTexts) → AreOfFirst held to images updates → IsOfWrites (flat_map writes_of updates) slot b
      → IsWrittenOf images
  written_of to images [] are there = absurd there
  written_of to [] (texts ∷ updates) are there = absurd are
  written_of to (u ∷ images) (texts ∷ updates) are there = elim (either_writes (writes_of texts) (flat_map writes_of updates) slot b there) [
    | inl here ↦ record { image = u; among = contains_first u images; texts = texts; are = are.0; there = here }
    | inr later ↦
        let rest = written_of to images updates are.1 later in
        record { image = rest.image; among = contains_later u images rest.image rest.among; texts = rest.texts; are = rest.are; there = rest.there }
  ]

-- ---- a session that may be left

module _ (held : Contents) (s : Loaded) (c : Course) (within : AreAsked c) (reliable : AreReliable held s.stamps (s ∷ c.asked)) (each : All (IsReliable held) c.asked) where
  abbrev asked : List Loaded
  asked = s ∷ c.asked

  among_asked : (u : Loaded) → Contains c.updates u → Contains asked u
  among_asked u there = contains_later s c.asked u (All-contains (Contains c.asked) c.updates u within there)

  abbrev first : IsReliable held s
  first = first_is held s c.asked reliable

  -- the stamps of an update are true of each session whose update is asked for
  all_made_true : (u : Loaded) → Contains asked u → All (λ (v : Loaded). AreTrue held v.tree (stamps_in Image held u.tree u.stamps)) asked
  all_made_true u there =
      let same : All (AreSame held u.tree) (trees_of asked) =
      All-contains (λ (u : Loaded). All (AreSame held u.tree) (trees_of asked)) asked u (each_tree (λ t. All (AreSame held t) (trees_of asked)) asked reliable.same) there in
      let here : IsReliable held u = All-contains (IsReliable held) asked u (All-cons (IsReliable held) s c.asked first each) there in
      All-weaker (λ (v : Loaded). AreSame held u.tree v.tree) (λ (v : Loaded). AreTrue held v.tree (stamps_in Image held u.tree u.stamps))
      (λ v same. made_true held u here v.tree same) asked (each_tree (AreSame held u.tree) asked same)

  module _ (left : Loaded) (may : MayBeLeft held s c.updates left) where
    -- its stamps are true of each session whose update is asked for
    all_true : All (λ (u : Loaded). AreTrue held u.tree left.stamps) asked
    all_true = elim may.stamps [
      | inl old ↦ subst (λ (x : List Stamp). All (λ (u : Loaded). AreTrue held u.tree x) asked) (sym old) (each_tree (λ t. AreTrue held t s.stamps) asked reliable.are_true)
      | inr (u, (among, new)) ↦ subst (λ (x : List Stamp). All (λ (u : Loaded). AreTrue held u.tree x) asked) (sym new) (all_made_true u (among_asked u among))
    ]

    -- ---- with the old tree

    module _ (tree : left.tree ≡ s.tree) where
      pub old_true : AreTrue held left.tree left.stamps
      old_true = subst (λ (t : Nodes). AreTrue held t left.stamps) (sym tree) (All-head (λ (u : Loaded). AreTrue held u.tree left.stamps) s c.asked all_true)

      pub old_same : AreSame held left.tree left.tree
      old_same = subst (λ (t : Nodes). AreSame held t t) (sym tree) first.1

      pub of_old : IsOfOld held s left
      of_old = record {
        tree = tree;
        outcome = λ not. one_outcome Image held s left tree (may.fresh ∙ sym not) first.1 first.0 old_true;
        again = λ not texts again are is. one_written Image held s left tree (may.fresh ∙ sym not) first.1 first.0 old_true texts again are is;
      }

    -- ---- with the planned tree of an update

    module _ (u : Loaded) (among : Contains c.updates u) (made : update_outcome Image held u ≡ Writes) (settled : AreSettled Image held u (planned_image Image held u)) (tree : left.tree ≡ planned_in Image held u.tree u.stamps) where
      pub new_true : AreTrue held left.tree left.stamps
      new_true = subst (λ (t : Nodes). AreTrue held t left.stamps) (sym tree)
          (settled.true_too left.stamps (All-contains (λ (u : Loaded). AreTrue held u.tree left.stamps) asked u all_true (among_asked u among)))

      pub new_same : AreSame held left.tree left.tree
      new_same = subst (λ (t : Nodes). AreSame held t t) (sym tree) settled.same

      written_again : (texts others : UpdateTexts) → AreTextsOf Image held u texts → AreTextsOf Image held left others → AreCachesAgain texts others
      written_again texts others are is =
          let more = again Image held u (planned_image Image held u) texts settled are in
          let one : AreAlike more.0 others = one_written Image held (planned_image Image held u) left tree may.fresh settled.same settled.are_true new_true more.0 others more.1.0 is in
          record { manifest = one.manifest ∙ more.1.1.manifest; cache = one.cache ∙ more.1.1.cache; aux = one.aux ∙ more.1.1.aux }

      pub of_update : IsOfUpdate held u left
      of_update = record { tree = tree; made = one_outcome Image held (planned_image Image held u) left tree may.fresh settled.same settled.are_true new_true ∙ settled.outcome made; again = written_again }

-- ---- files each of which is old, or written by an update of the expected run

module _ (held : Contents) (slots : Slots) (s : Loaded) (in_slots : IsImageIn slots s) (c : Course) (within : AreAsked c) (reliable : AreReliable held s.stamps (s ∷ c.asked)) (every : All (IsReliable held) c.asked)
    (image : Slots) (each : (slot : Slot) → (slot_of image slot ≡ slot_of slots slot) ⊎ IsWrittenOf held slot (slot_of image slot) c.updates) where
  -- the stamps are the old ones, or those of an update
  stamps_are : (stamps_of_slot image.aux ≡ s.stamps) ⊎ ((u : Loaded) × (Contains c.updates u × (stamps_of_slot image.aux ≡ stamps_in Image held u.tree u.stamps)))
  stamps_are = elim (each Aux) [
    | inl old ↦ inl (ap stamps_of_slot old ∙ ap (λ (l : Loaded). l.stamps) (sym in_slots.is))
    | inr w ↦ inr (w.image, (w.among, ap stamps_of_slot (aux_written w.texts.manifest w.texts.cache w.texts.aux image.aux w.there) ∙ w.are.aux_read))
  ]

  of_old_manifest : image.manifest ≡ slots.manifest → IsRepairable held s c.updates slots image
  of_old_manifest old =
      let left : Loaded = image_with s.tree image.aux in
      let may : MayBeLeft held s c.updates left = record { tree = inl refl; stamps = stamps_are; fresh = refl } in
      record {
        left = left;
        in_slots = record { tree = ap manifest_of old ∙ in_slots.tree; is = refl };
        may = may;
        are_true = old_true held s c within reliable every left may refl;
        same = old_same held s c within reliable every left may refl;
        writes = inl (old, of_old held s c within reliable every left may refl);
      }

  of_new_manifest : (u : Loaded) → Contains c.updates u → (texts : UpdateTexts) → IsUpdateOf held u texts → IsOfWrites (writes_of texts) Manifest image.manifest → IsRepairable held s c.updates slots image
  of_new_manifest u among texts is there =
      let left : Loaded = image_with (planned_in Image held u.tree u.stamps) image.aux in
      let settled = is.settled (All-contains (IsReliable held) c.asked u every (All-contains (Contains c.asked) c.updates u within among)) in
      let may : MayBeLeft held s c.updates left = record { tree = inr (u, (among, refl)); stamps = stamps_are; fresh = refl } in
      let text = manifest_written texts image.manifest there in
      record {
        left = left;
        in_slots = record {
          tree = ap manifest_of text.1.1 ∙ subst (λ (manifest : Option (List ℕ)). IfReads manifest (planned_image Image held u)) text.1.0 is.manifest_read;
          is = refl;
        };
        may = may;
        are_true = new_true held s c within reliable every left may u among is.made settled refl;
        same = new_same held s c within reliable every left may u among is.made settled refl;
        writes = inr (u, (among, (text.1.1 ∙ sym text.1.0 ∙ is.are.manifest_is, of_update held s c within reliable every left may u among is.made settled refl)));
      }

  repairable : IsRepairable held s c.updates slots image
  repairable = elim (each Manifest) [
    | inl old ↦ of_old_manifest old
    | inr w ↦ of_new_manifest w.image w.among w.texts w.are w.there
  ]

-- ---- a crash of a script

module _ (tag : Tag) (held : Contents) (content : DiskContent) (lines : List (List ℕ)) (status : Status) (old new : DiskState) (known : old.contents ≡ Some content) where
  by_loaded : (loaded : Result Loaded LoadFault) → IfOk loaded (IsLoaded old.contents) → LeavesBy tag (Some held) lines loaded status old new → RepairsScript held lines content old new
  by_loaded (Ok found) in_slots (to, (is_status, left)) only s is reliable image might =
      let there : IsImageIn content.now found = image_is content found (subst (λ (c : Option DiskContent). IsLoaded c found) known in_slots) in
      let whole : LeavesWholeCaches tag (Some held) 1 lines s to old new =
      subst (λ (s : Loaded). LeavesWholeCaches tag (Some held) 1 lines s to old new) (one_image content.now s found is there) left in
      let c = course held 1 lines s in
      repairable held content.now s is c (are_asked held lines 1 s) reliable (each_reliable held lines 1 s (later_is held s c.asked reliable)) image
      (λ slot. elim (whole.whole slot (slot_of image slot) (might slot)) [
        | inl was ↦ inl (only slot (slot_of image slot) was)
        | inr is ↦ inr (written_of held slot (slot_of image slot) to c.updates whole.updates whole.of_course is)
      ])
  by_loaded (Err fault) in_slots left only s is reliable image might =
      let c = course held 1 lines s in
      repairable held content.now s is c (are_asked held lines 1 s) reliable (each_reliable held lines 1 s (later_is held s c.asked reliable)) image
      (λ slot. inl (only slot (slot_of image slot) (left slot (slot_of image slot) (might slot))))

pub repairs_script : (tag : Tag) (lines : List (List ℕ)) (status : Status) (known : Option Contents) (disk : Option DiskContent) (old new : DiskState) → old.contents ≡ disk
    → LeavesWhole tag known lines status old new → IfBothKnown known disk (λ held content. RepairsScript held lines content old new)
repairs_script tag lines status None disk old new is whole = tt
repairs_script tag lines status (Some held) None old new is whole = tt
repairs_script tag lines status (Some held) (Some content) old new is whole = by_loaded tag held content lines status old new is whole.loaded whole.in_slots whole.whole
