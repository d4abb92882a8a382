-- Both updates of a sample, one after the other.
use Rattle.std.proofs.Common.{◌≡◌, ℕ, true, [], ◌∷◌, Option, Some, None, sym, ap, subst, ◌∙◌, inl, inr}
use Rattle.hwcap_dirs.specs.declared.kinds.Scope.TheVariants.{Image}
use Rattle.ldconfig_core.specs.Repair.{slots_after}
use Rattle.ldconfig_core.specs.Settled.{planned_image}
use Rattle.ldconfig_core.specs.Texts.{UpdateTexts, writes_of}
use Rattle.image_session.specs.Session.{Loaded}
use Rattle.atomic_replace.specs.OneByOne.{calls_of}
use Rattle.library_search.specs.Begun.{lacks_some}
use Rattle.tree_face.proofs.Follows.{follow, follow_part, part_of, part_whole}
use Rattle.tree_face.proofs.Known.{relates_by, relates_on}
use Rattle.tree_face.specs.Disk.{DiskContent, DiskState}
use Rattle.tree_face.specs.declared.disk.Slot.TheVariants.{Cache}
use Rattle.tree_face.specs.Follows.{IsFollowedBy, IsFollowedByPart}
use Rattle.tree_face.specs.Known.{IfKnown, Relates}
use Rattle.tree_face.specs.Store.{Contents, StoreState}
use Rattle.sample_runs.proofs.Edited.{first_edited, replaced_edited, writes_all}
use Rattle.sample_runs.proofs.Reliable.{first_right, second_right}
use Rattle.sample_runs.proofs.Updating.{Leaves, all_begun, none_follow}
use Rattle.sample_runs.specs.declared.fault.SampleFault.{SampleFault}
use Rattle.sample_runs.specs.declared.fault.SampleFault.TheVariants.{DiskFault, NoMemory, StoreFault}
use Rattle.sample_runs.specs.declared.updates.SampleUpdate.{SampleUpdate}
use Rattle.sample_runs.specs.Images.{all_replaced, first_image, second_image}
use Rattle.sample_runs.specs.Updates.{AreUpdatesOf, AreWritten, Goes, IsUpdateOf, Lacks, LacksFile, ReadsTwice, SampleFails, UpdateFails, UpdatesTo, UpdatesTwice, UsesPart, UsesSample, keys_of, sample_keys, sample_tag}
use Rattle.lib_types.proofs.Counts.{risen_since}

second_is : (held : Contents) (n : ℕ) (updated : Loaded) → updated ≡ planned_image Image held (first_image n) → all_replaced n updated ≡ second_image held n
unfolding second_image
second_is held n updated planned = ap (all_replaced n) planned

-- if the disk's content is known before, it is known later
later : (P : Type 0) (texts : UpdateTexts) (a b : Option DiskContent) → Relates (Leaves texts) a b → IfKnown b (λ _. P) → IfKnown a (λ _. P)
later P texts None b leaves is = tt
later P texts (Some a) None leaves is = absurd leaves
later P texts (Some a) (Some b) leaves is = is

module _ (n : ℕ) (updated image : Loaded) (first second : SampleUpdate) (store middle_store after_store : StoreState) (disk middle after_disk : DiskState)
    (one : UpdatesTo (first_image n) (updated, first) store middle_store disk middle) (goes : Goes store middle_store disk middle)
    (two : UpdatesTo (all_replaced n updated) (image, second) middle_store after_store middle after_disk) where
  written : AreWritten one.texts two.texts disk after_disk
  written = record {
    slots = relates_on (Leaves one.texts) (Leaves two.texts) _ (λ a b c leaves leaves_then. leaves_then ∙ ap (slots_after (writes_of two.texts)) leaves) _ _ _ one.slots two.slots;
    calls = relates_on _ _ _ (follow (calls_of sample_tag (writes_of one.texts)) (calls_of sample_tag (writes_of two.texts))) _ _ _ one.calls two.calls;
  }

  made : (held : Contents) → (IsUpdateOf held (first_image n) one.texts (updated, first))
      → (IsUpdateOf held (all_replaced n updated) two.texts (image, second)) → AreUpdatesOf held n one.texts two.texts (first, second)
  made held first_update second_update =
      let same : all_replaced n updated ≡ second_image held n = second_is held n updated first_update.image_is in
      let again = subst (λ (s : Loaded). IsUpdateOf held s two.texts (image, second)) same second_update in
      record {
        first_are = first_update.texts_are;
        second_are = again.texts_are;
        first_all = λ some. writes_all held (first_image n) one.texts first_update.texts_are (first_edited n some);
        second_all = λ some. writes_all held (all_replaced n updated) two.texts second_update.texts_are (replaced_edited n updated some);
        first_numbers = first_update.numbers;
        second_numbers = again.numbers;
        first_right = first_right held n;
        second_right = second_right held n;
      }

  are : (known : Option Contents) → IfKnown known (λ held. IsUpdateOf held (first_image n) one.texts (updated, first))
      → IfKnown known (λ held. IsUpdateOf held (all_replaced n updated) two.texts (image, second))
      → IfKnown known (λ held. AreUpdatesOf held n one.texts two.texts (first, second))
  are None first_update second_update = tt
  are (Some held) first_update second_update = made held first_update second_update

  -- the files that both updates open, since the second image is that of the definition
  begun : (held : Contents) → (IsUpdateOf held (first_image n) one.texts (updated, first))
      → (Relates (IsFollowedBy (keys_of held (first_image n))) store.keys middle_store.keys)
      → (Relates (IsFollowedBy (keys_of held (all_replaced n updated))) middle_store.keys after_store.keys)
      → Relates (IsFollowedBy (sample_keys held n)) store.keys after_store.keys
  begun held first_update first_keys second_keys =
      let same : all_replaced n updated ≡ second_image held n = second_is held n updated first_update.image_is in
      let next = subst (λ (s : Loaded). Relates (IsFollowedBy (keys_of held s)) middle_store.keys after_store.keys) same
      second_keys in
      relates_on (IsFollowedBy (keys_of held (first_image n))) (IsFollowedBy (keys_of held (second_image held n))) (IsFollowedBy (sample_keys held n))
      (λ x y z. follow (keys_of held (first_image n)) (keys_of held (second_image held n)) x y z) store.keys middle_store.keys after_store.keys first_keys next

  begins : (known : Option Contents) → IfKnown known (λ held. IsUpdateOf held (first_image n) one.texts (updated, first))
      → IfKnown known (λ held. Relates (IsFollowedBy (keys_of held (first_image n))) store.keys middle_store.keys)
      → IfKnown known (λ held. Relates (IsFollowedBy (keys_of held (all_replaced n updated))) middle_store.keys after_store.keys)
      → IfKnown known (λ held. Relates (IsFollowedBy (sample_keys held n)) store.keys after_store.keys)
  begins None first_update first_keys second_keys = tt
  begins (Some held) first_update first_keys second_keys = begun held first_update first_keys second_keys

  reads : ReadsTwice n store after_store disk after_disk
  reads = record {
    begins = begins store.held one.update one.begins
        (subst (λ (known : Option Contents). IfKnown known (λ held. Relates (IsFollowedBy (keys_of held (all_replaced n updated))) middle_store.keys after_store.keys)) goes.held two.begins);
    reads = relates_on (IsFollowedBy (Cache ∷ [])) (IsFollowedBy (Cache ∷ [])) (IsFollowedBy (Cache ∷ Cache ∷ []))
        (λ x y z. follow (Cache ∷ []) (Cache ∷ []) x y z) disk.reads middle.reads after_disk.reads one.reads two.reads;
    none_rise = record { store_faults = two.none_rise.store_faults ∙ one.none_rise.store_faults; disk_faults = two.none_rise.disk_faults ∙ one.none_rise.disk_faults };
  }

  pub both : UpdatesTwice n (first, second) store after_store disk after_disk
  both = record {
    first = one.texts;
    second = two.texts;
    written = written;
    first_cache = one.cache;
    second_cache = later (second.cache ≡ two.texts.cache) one.texts disk.contents middle.contents one.slots two.cache;
    are = are store.held one.update
        (subst (λ (known : Option Contents). IfKnown known (λ held. IsUpdateOf held (all_replaced n updated) two.texts (image, second))) goes.held two.update);
    reads = reads;
  }

-- ---- failures

-- the first update fails
lacks_first : (n : ℕ) (known : Option Contents) → Lacks known (first_image n) → LacksFile n known
lacks_first n None lacks = absurd lacks
lacks_first n (Some held) lacks = inl lacks

-- the second update fails
lacks_second : (n : ℕ) (updated : Loaded) (first : SampleUpdate) (texts : UpdateTexts) (known : Option Contents)
    → IfKnown known (λ held. IsUpdateOf held (first_image n) texts (updated, first)) → Lacks known (all_replaced n updated) → LacksFile n known
lacks_second n updated first texts None is lacks = absurd lacks
lacks_second n updated first texts (Some held) is lacks =
    inr (subst (λ (s : Loaded). lacks_some Image held s.tree ≡ true) (second_is held n updated is.image_is) lacks)

module _ (n : ℕ) (store after_store : StoreState) (disk after_disk : DiskState) where
  first_fails : (fault : SampleFault) → UpdateFails (first_image n) fault store after_store disk after_disk → SampleFails n fault store after_store disk after_disk
  first_fails StoreFault (inl risen) = inl risen
  first_fails StoreFault (inr lacks) = inr (lacks_first n store.held lacks)
  first_fails DiskFault fails = fails
  first_fails NoMemory none = none

module _ (n : ℕ) (updated : Loaded) (first : SampleUpdate) (store middle_store after_store : StoreState) (disk middle after_disk : DiskState)
    (one : UpdatesTo (first_image n) (updated, first) store middle_store disk middle) (goes : Goes store middle_store disk middle) where
  second_fails : (fault : SampleFault) → UpdateFails (all_replaced n updated) fault middle_store after_store middle after_disk → SampleFails n fault store after_store disk after_disk
  second_fails StoreFault (inl risen) = inl (risen_since store.faults middle_store.faults after_store.faults goes.store_faults risen)
  second_fails StoreFault (inr lacks) =
      inr (lacks_second n updated first one.texts store.held one.update (subst (λ (known : Option Contents). Lacks known (all_replaced n updated)) goes.held lacks))
  second_fails DiskFault risen = risen_since disk.faults middle.faults after_disk.faults goes.disk_faults risen
  second_fails NoMemory none = record {
    store_faults = none.store_faults ∙ one.none_rise.store_faults;
    disk_faults = none.disk_faults ∙ one.none_rise.disk_faults;
  }

-- ---- by the images that are updated

module _ (n : ℕ) (updating : Loaded) (store after_store : StoreState) (disk after_disk : DiskState) (is : updating ≡ first_image n) where
  pub first_fails_by : (fault : SampleFault) → UpdateFails updating fault store after_store disk after_disk → SampleFails n fault store after_store disk after_disk
  first_fails_by fault fails = first_fails n store after_store disk after_disk fault (subst (λ (s : Loaded). UpdateFails s fault store after_store disk after_disk) is fails)

module _ (n : ℕ) (updating updated again : Loaded) (first : SampleUpdate) (store middle_store : StoreState) (disk middle after_disk : DiskState)
    (first_is : updating ≡ first_image n) (again_is : again ≡ all_replaced n updated)
    (one : UpdatesTo updating (updated, first) store middle_store disk middle) (goes : Goes store middle_store disk middle) where
  one_is : UpdatesTo (first_image n) (updated, first) store middle_store disk middle
  one_is = subst (λ (s : Loaded). UpdatesTo s (updated, first) store middle_store disk middle) first_is one

  pub both_by : (image : Loaded) (second : SampleUpdate) (after_store : StoreState) → UpdatesTo again (image, second) middle_store after_store middle after_disk
      → UpdatesTwice n (first, second) store after_store disk after_disk
  both_by image second after_store two = both n updated image first second store middle_store after_store disk middle after_disk one_is goes
      (subst (λ (s : Loaded). UpdatesTo s (image, second) middle_store after_store middle after_disk) again_is two)

  pub second_fails_by : (after_store : StoreState) (fault : SampleFault) → UpdateFails again fault middle_store after_store middle after_disk → SampleFails n fault store after_store disk after_disk
  second_fails_by after_store fault fails = second_fails n updated first store middle_store after_store disk middle after_disk one_is goes fault
      (subst (λ (s : Loaded). UpdateFails s fault middle_store after_store middle after_disk) again_is fails)

-- ---- what is read, if one of the updates isn't made

module _ (n : ℕ) (store after_store : StoreState) (disk after_disk : DiskState) where
  -- the first update isn't made
  begins_first : (known : Option Contents) → IfKnown known (λ held. Relates (IsFollowedByPart (keys_of held (first_image n))) store.keys after_store.keys)
      → IfKnown known (λ held. Relates (IsFollowedByPart (sample_keys held n)) store.keys after_store.keys)
  begins_first None part = tt
  begins_first (Some held) part = relates_by (IsFollowedByPart (keys_of held (first_image n))) (IsFollowedByPart (sample_keys held n))
      (part_of (keys_of held (first_image n)) (keys_of held (second_image held n))) store.keys after_store.keys part

  first_stops : UsesPart (λ held. keys_of held (first_image n)) (Cache ∷ []) store after_store disk after_disk → UsesSample n store after_store disk after_disk
  first_stops part = record {
    begins = begins_first store.held part.begins;
    reads = relates_by (IsFollowedByPart (Cache ∷ [])) (IsFollowedByPart (Cache ∷ Cache ∷ [])) (part_of (Cache ∷ []) (Cache ∷ [])) disk.reads after_disk.reads part.reads;
  }

  pub first_stops_by : (updating : Loaded) → updating ≡ first_image n → UsesPart (λ held. keys_of held updating) (Cache ∷ []) store after_store disk after_disk
      → UsesSample n store after_store disk after_disk
  first_stops_by updating is part = first_stops (subst (λ (s : Loaded). UsesPart (λ held. keys_of held s) (Cache ∷ []) store after_store disk after_disk) is part)

  -- nothing is read
  pub nothing_read : store ≡ after_store → disk ≡ after_disk → UsesSample n store after_store disk after_disk
  nothing_read same_store same_disk = record {
    begins = none_begun store.held;
    reads = none_follow (Cache ∷ Cache ∷ []) disk.reads after_disk.reads (ap (λ (d : DiskState). d.reads) (sym same_disk));
  }
    where
      none_begun : (known : Option Contents) → IfKnown known (λ held. Relates (IsFollowedByPart (sample_keys held n)) store.keys after_store.keys)
      none_begun None = tt
      none_begun (Some held) = none_follow (sample_keys held n) store.keys after_store.keys (ap (λ (s : StoreState). s.keys) (sym same_store))

module _ (n : ℕ) (updating updated again : Loaded) (first : SampleUpdate) (store middle_store after_store : StoreState) (disk middle after_disk : DiskState)
    (first_is : updating ≡ first_image n) (again_is : again ≡ all_replaced n updated)
    (one : UpdatesTo updating (updated, first) store middle_store disk middle) (goes : Goes store middle_store disk middle) where
  -- the second update isn't made
  begins_second : (known : Option Contents) → IfKnown known (λ held. IsUpdateOf held updating one.texts (updated, first))
      → IfKnown known (λ held. Relates (IsFollowedBy (keys_of held updating)) store.keys middle_store.keys)
      → IfKnown known (λ held. Relates (IsFollowedByPart (keys_of held again)) middle_store.keys after_store.keys)
      → IfKnown known (λ held. Relates (IsFollowedByPart (sample_keys held n)) store.keys after_store.keys)
  begins_second None update keys part = tt
  begins_second (Some held) update keys part =
      let planned : updated ≡ planned_image Image held (first_image n) = update.image_is ∙ ap (planned_image Image held) first_is in
      let same : again ≡ second_image held n = again_is ∙ second_is held n updated planned in
      let one_keys = subst (λ (s : Loaded). Relates (IsFollowedBy (keys_of held s)) store.keys middle_store.keys) first_is keys in
      let other_keys = subst (λ (s : Loaded). Relates (IsFollowedByPart (keys_of held s)) middle_store.keys after_store.keys) same part in
      relates_on (IsFollowedBy (keys_of held (first_image n))) (IsFollowedByPart (keys_of held (second_image held n))) (IsFollowedByPart (sample_keys held n))
      (λ x y z. follow_part (keys_of held (first_image n)) (keys_of held (second_image held n)) x y z) store.keys middle_store.keys after_store.keys one_keys other_keys

  pub second_stops_by : UsesPart (λ held. keys_of held again) (Cache ∷ []) middle_store after_store middle after_disk → UsesSample n store after_store disk after_disk
  second_stops_by part = record {
    begins = begins_second store.held one.update one.begins
        (subst (λ (known : Option Contents). IfKnown known (λ held. Relates (IsFollowedByPart (keys_of held again)) middle_store.keys after_store.keys)) goes.held part.begins);
    reads = relates_on (IsFollowedBy (Cache ∷ [])) (IsFollowedByPart (Cache ∷ [])) (IsFollowedByPart (Cache ∷ Cache ∷ []))
        (λ x y z. follow_part (Cache ∷ []) (Cache ∷ []) x y z) disk.reads middle.reads after_disk.reads one.reads part.reads;
  }

-- memory runs out between the two updates
pub stops_between : (n : ℕ) (updating updated : Loaded) (first : SampleUpdate) (store middle_store : StoreState) (disk middle : DiskState) → updating ≡ first_image n
    → UpdatesTo updating (updated, first) store middle_store disk middle → UsesSample n store middle_store disk middle
stops_between n updating updated first store middle_store disk middle is one = first_stops_by n store middle_store disk middle updating is (record {
  begins = all_begun (λ held. keys_of held updating) store.keys middle_store.keys store.held one.begins;
  reads = relates_by (IsFollowedBy (Cache ∷ [])) (IsFollowedByPart (Cache ∷ [])) (part_whole (Cache ∷ [])) disk.reads middle.reads one.reads;
})

-- both updates were made, and memory runs out before the text is complete
pub text_stops : (n : ℕ) (numbers : SampleUpdate × SampleUpdate) (store after_store : StoreState) (disk after_disk : DiskState) → UpdatesTwice n numbers store after_store disk after_disk
    → UsesSample n store after_store disk after_disk
text_stops n numbers store after_store disk after_disk both = record {
  begins = all_begun (λ held. sample_keys held n) store.keys after_store.keys store.held both.reads.begins;
  reads = relates_by (IsFollowedBy (Cache ∷ Cache ∷ [])) (IsFollowedByPart (Cache ∷ Cache ∷ [])) (part_whole (Cache ∷ Cache ∷ [])) disk.reads after_disk.reads both.reads.reads;
}
