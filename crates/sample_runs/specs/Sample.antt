-- The command `sample`: two updates of images of generated libraries, and its text.
use Rattle.std.specs.Prelude.{◌≡◌, ◌⊎◌, ◌<◌, ℕ, List, Result, Ok, Err}
use Rattle.hwcap_dirs.specs.declared.kinds.Scope.TheVariants.{Image}
use Rattle.command_status.specs.declared.status.Status.{Status}
use Rattle.command_status.specs.declared.status.Status.TheVariants.{Done, OutputFault}
use Rattle.ldconfig_core.specs.Texts.{AreTextsOf, UpdateTexts, update_slots, writes_of}
use Rattle.lib_types.specs.Counts.{HasRisen}
use Rattle.atomic_replace.specs.OneByOne.{slots_of}
use Rattle.tree_face.specs.Disk.{DiskState}
use Rattle.tree_face.specs.Follows.{IsFollowedBy, IsFollowedByPart}
use Rattle.tree_face.specs.Known.{IfKnown, Relates}
use Rattle.tree_face.specs.Store.{Contents, StoreState}
use Rattle.tree_face.specs.Stream.{SinkState}
use Rattle.sample_runs.specs.declared.fault.SampleFault.{SampleFault}
use Rattle.sample_runs.specs.Faults.{of_sample}
use Rattle.library_search.specs.Laws.{IsInfoRight}
use Rattle.sample_runs.specs.Images.{first_image, second_image}
use Rattle.sample_runs.specs.Text.{sample_text}
use Rattle.sample_runs.specs.Updates.{AreWritten, ReadsTwice, SampleFails, UsesSample}

-- The texts are those of the two updates. If there are libraries, each update writes all three files. The text of the sample has their
-- numbers.
pub record IsTextOf (held : Contents) (n : ℕ) (text : List ℕ) (first second : UpdateTexts) : Type 0 where
  pub first_are : AreTextsOf Image held (first_image n) first
  pub second_are : AreTextsOf Image held (second_image held n) second
  -- the image has the true ELF information of each file, so updates without stamps give the same
  pub first_right : IsInfoRight Image held (first_image n).tree (first_image n).stamps
  pub second_right : IsInfoRight Image held (second_image held n).tree (second_image held n).stamps
  pub first_all : 0 < n → slots_of (writes_of first) ≡ update_slots
  pub second_all : 0 < n → slots_of (writes_of second) ≡ update_slots
  pub text_is : text ≡ sample_text held n first.cache second.cache

-- two updates are made, and this is the sample's text, if the contents are known
pub record IsSample (n : ℕ) (text : List ℕ) (store after_store : StoreState) (old new : DiskState) : Type 0 where
  pub first : UpdateTexts
  pub second : UpdateTexts
  pub written : AreWritten first second old new
  pub is : IfKnown store.held (λ held. IfKnown old.contents (λ _. IsTextOf held n text first second))
  pub reads : ReadsTwice n store after_store old new

-- the text of the sample, or why there is none
abbrev pub Samples : ℕ → Result (List ℕ) SampleFault → StoreState → StoreState → DiskState → DiskState → Type 0
Samples n (Ok text) store after_store disk after_disk = IsSample n text store after_store disk after_disk
Samples n (Err fault) store after_store disk after_disk = SampleFails n fault store after_store disk after_disk × UsesSample n store after_store disk after_disk

-- ---- the end

-- the text is written, or a prefix of it if the output fails; if there is none, nothing is written
abbrev pub EndsBy : Result (List ℕ) SampleFault → Status → SinkState → SinkState → Type 0
EndsBy (Ok text) status out after =
    ((status ≡ Done) × (Relates (IsFollowedBy text) out.written after.written × (after.faults ≡ out.faults)))
    ⊎ ((status ≡ OutputFault) × (Relates (IsFollowedByPart text) out.written after.written × HasRisen out.faults after.faults))
EndsBy (Err fault) status out after = (status ≡ of_sample fault) × (after ≡ out)

abbrev pub SampleEnds : ℕ → Status → StoreState → StoreState → DiskState → DiskState → SinkState → SinkState → Type 0
SampleEnds n status store after_store disk after_disk out after =
    (sampled : Result (List ℕ) SampleFault) × (Samples n sampled store after_store disk after_disk × EndsBy sampled status out after)
