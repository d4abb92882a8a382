-- The updates of a sample, step by step.
use Rattle.std.specs.Prelude.{◌≡◌, ◌⊎◌, ◌≤◌, ◌<◌, ℕ, true, List, [], ◌∷◌, length, Option, IsSomeAnd, ◌++◌}
use Rattle.hwcap_dirs.specs.declared.kinds.Scope.TheVariants.{Image}
use Rattle.ldconfig_core.specs.Repair.{slots_after}
use Rattle.ldconfig_core.specs.Settled.{planned_image}
use Rattle.ldconfig_core.specs.Texts.{AreTextsOf, UpdateTexts, update_slots, writes_of}
use Rattle.lib_types.specs.Counts.{HasRisen}
use Rattle.image_session.specs.Session.{Loaded}
use Rattle.atomic_replace.specs.OneByOne.{calls_of, slots_of}
use Rattle.library_search.specs.Begun.{lacks_some, opened_in, update_keys}
use Rattle.library_search.specs.Laws.{IsInfoRight}
use Rattle.library_search.specs.Ldconfig.{entries_in, links_in}
use Rattle.tree_face.specs.declared.disk.Slot.{Slot}
use Rattle.tree_face.specs.declared.disk.Slot.TheVariants.{Cache}
use Rattle.tree_face.specs.declared.disk.Tag.{Tag}
use Rattle.tree_face.specs.Disk.{DiskContent, DiskState}
use Rattle.tree_face.specs.Follows.{IsFollowedBy, IsFollowedByPart}
use Rattle.tree_face.specs.Known.{IfKnown, Relates}
use Rattle.tree_face.specs.Store.{Contents, StoreState}
use Rattle.sample_runs.specs.declared.fault.SampleFault.{SampleFault}
use Rattle.sample_runs.specs.declared.fault.SampleFault.TheVariants.{StoreFault, DiskFault, NoMemory}
use Rattle.sample_runs.specs.declared.updates.SampleUpdate.{SampleUpdate}
use Rattle.sample_runs.specs.Images.{first_image, second_image}

abbrev pub sample_tag : Tag
sample_tag = record { 0 = 0 }

-- ---- one update

-- the contents of the store don't change, and no count of faults falls
pub record Goes (store after_store : StoreState) (disk after_disk : DiskState) : Type 0 where
  pub held : after_store.held ≡ store.held
  pub store_faults : store.faults ≤ after_store.faults
  pub disk_faults : disk.faults ≤ after_disk.faults

-- no count of faults rises
pub record NoneRise (store after_store : StoreState) (disk after_disk : DiskState) : Type 0 where
  pub store_faults : after_store.faults ≡ store.faults
  pub disk_faults : after_disk.faults ≡ disk.faults

-- the numbers are those of the update of this image
pub record AreNumbers (held : Contents) (s : Loaded) (numbers : SampleUpdate) : Type 0 where
  pub libs : numbers.libs ≡ length (entries_in Image held s.tree s.stamps)
  pub links : numbers.links ≡ length (links_in Image held s.tree s.stamps)
  pub opened : numbers.opened ≡ opened_in Image held s.tree s.stamps

-- the texts, the numbers and the updated image are those of the update of this image
pub record IsUpdateOf (held : Contents) (s : Loaded) (texts : UpdateTexts) (updated : Loaded × SampleUpdate) : Type 0 where
  pub texts_are : AreTextsOf Image held s texts
  pub image_is : updated.0 ≡ planned_image Image held s
  pub numbers : AreNumbers held s updated.1

-- the files that the update of this image opens
abbrev pub keys_of : Contents → Loaded → List (List ℕ)
keys_of held s = update_keys Image held s.tree s.stamps

-- the texts are written, and then the cache is read; no other file is written or opened
pub record UpdatesTo (s : Loaded) (updated : Loaded × SampleUpdate) (store after_store : StoreState) (disk after_disk : DiskState) : Type 0 where
  pub texts : UpdateTexts
  pub slots : Relates (λ (a b : DiskContent). b.now ≡ slots_after (writes_of texts) a.now) disk.contents after_disk.contents
  pub calls : Relates (IsFollowedBy (calls_of sample_tag (writes_of texts))) disk.calls after_disk.calls
  pub cache : IfKnown disk.contents (λ _. updated.1.cache ≡ texts.cache)
  pub update : IfKnown store.held (λ held. IsUpdateOf held s texts updated)
  pub begins : IfKnown store.held (λ held. Relates (IsFollowedBy (keys_of held s)) store.keys after_store.keys)
  pub reads : Relates (IsFollowedBy (Cache ∷ [])) disk.reads after_disk.reads
  pub none_rise : NoneRise store after_store disk after_disk

-- the store doesn't hold a file of the image
abbrev pub Lacks : Option Contents → Loaded → Type 0
Lacks known s = IsSomeAnd known (λ held. lacks_some Image held s.tree ≡ true)

-- the device's count of faults rose, or the store doesn't hold a file of the image; memory ran out only if no count rose
abbrev pub UpdateFails : Loaded → SampleFault → StoreState → StoreState → DiskState → DiskState → Type 0
UpdateFails s StoreFault store after_store disk after_disk = HasRisen store.faults after_store.faults ⊎ Lacks store.held s
UpdateFails s DiskFault store after_store disk after_disk = HasRisen disk.faults after_disk.faults
UpdateFails s NoMemory store after_store disk after_disk = NoneRise store after_store disk after_disk

-- a prefix of these keys is opened, and a prefix of these files is read
pub record UsesPart (keys : Contents → List (List ℕ)) (slots : List Slot) (store after_store : StoreState) (disk after_disk : DiskState) : Type 0 where
  pub begins : IfKnown store.held (λ held. Relates (IsFollowedByPart (keys held)) store.keys after_store.keys)
  pub reads : Relates (IsFollowedByPart slots) disk.reads after_disk.reads

-- why the cache can't be read
abbrev pub ReadFails : SampleFault → DiskState → DiskState → Type 0
ReadFails StoreFault disk after_disk = ⊥
ReadFails DiskFault disk after_disk = HasRisen disk.faults after_disk.faults
ReadFails NoMemory disk after_disk = after_disk.faults ≡ disk.faults

-- ---- both updates

-- the files hold what these updates write, and the writing calls are theirs
pub record AreWritten (first second : UpdateTexts) (old new : DiskState) : Type 0 where
  pub slots : Relates (λ (a b : DiskContent). b.now ≡ slots_after (writes_of second) (slots_after (writes_of first) a.now)) old.contents new.contents
  pub calls : Relates (IsFollowedBy (calls_of sample_tag (writes_of first) ++ calls_of sample_tag (writes_of second))) old.calls new.calls

-- The texts and the numbers are those of the updates of both images. If there are libraries, each update writes all three files. The image
-- has
-- the true ELF information of each file, so updates without stamps give the same.
pub record AreUpdatesOf (held : Contents) (n : ℕ) (first second : UpdateTexts) (numbers : SampleUpdate × SampleUpdate) : Type 0 where
  pub first_are : AreTextsOf Image held (first_image n) first
  pub second_are : AreTextsOf Image held (second_image held n) second
  pub first_all : 0 < n → slots_of (writes_of first) ≡ update_slots
  pub second_all : 0 < n → slots_of (writes_of second) ≡ update_slots
  pub first_numbers : AreNumbers held (first_image n) numbers.0
  pub second_numbers : AreNumbers held (second_image held n) numbers.1
  pub first_right : IsInfoRight Image held (first_image n).tree (first_image n).stamps
  pub second_right : IsInfoRight Image held (second_image held n).tree (second_image held n).stamps

-- the files that both updates open, one after the other
abbrev pub sample_keys : Contents → ℕ → List (List ℕ)
sample_keys held n = keys_of held (first_image n) ++ keys_of held (second_image held n)

-- what is read: the cache after each update, and the files of both; no count of faults rises
pub record ReadsTwice (n : ℕ) (store after_store : StoreState) (disk after_disk : DiskState) : Type 0 where
  pub begins : IfKnown store.held (λ held. Relates (IsFollowedBy (sample_keys held n)) store.keys after_store.keys)
  pub reads : Relates (IsFollowedBy (Cache ∷ Cache ∷ [])) disk.reads after_disk.reads
  pub none_rise : NoneRise store after_store disk after_disk

pub record UpdatesTwice (n : ℕ) (numbers : SampleUpdate × SampleUpdate) (store after_store : StoreState) (disk after_disk : DiskState) : Type 0 where
  pub first : UpdateTexts
  pub second : UpdateTexts
  pub written : AreWritten first second disk after_disk
  pub first_cache : IfKnown disk.contents (λ _. numbers.0.cache ≡ first.cache)
  pub second_cache : IfKnown disk.contents (λ _. numbers.1.cache ≡ second.cache)
  pub are : IfKnown store.held (λ held. AreUpdatesOf held n first second numbers)
  pub reads : ReadsTwice n store after_store disk after_disk

-- the store doesn't hold a file of one of the two images
abbrev pub LacksFile : ℕ → Option Contents → Type 0
LacksFile n known = IsSomeAnd known (λ held. (lacks_some Image held (first_image n).tree ≡ true) ⊎ (lacks_some Image held (second_image held n).tree ≡ true))

-- the part of the files of both updates, and of the cache after each, that is read if a sample fails
abbrev pub UsesSample : ℕ → StoreState → StoreState → DiskState → DiskState → Type 0
UsesSample n store after_store disk after_disk = UsesPart (λ held. sample_keys held n) (Cache ∷ Cache ∷ []) store after_store disk after_disk

-- the device's count of faults rose, or the store doesn't hold a file of the images; memory ran out only if no count rose
abbrev pub SampleFails : ℕ → SampleFault → StoreState → StoreState → DiskState → DiskState → Type 0
SampleFails n StoreFault store after_store disk after_disk = HasRisen store.faults after_store.faults ⊎ LacksFile n store.held
SampleFails n DiskFault store after_store disk after_disk = HasRisen disk.faults after_disk.faults
SampleFails n NoMemory store after_store disk after_disk = NoneRise store after_store disk after_disk
