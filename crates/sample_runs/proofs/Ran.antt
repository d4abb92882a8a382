-- A sample with its own devices in memory.
use Rattle.std.proofs.Common.{◌≡◌, ℕ, List, Option, Some, Result, Ok, Err, refl, ap, sym, subst, ◌∙◌, inl, inr}
use Rattle.command_status.specs.declared.status.Status.{Status}
use Rattle.command_status.specs.declared.status.Status.TheVariants as statuses
use Rattle.ldconfig_core.specs.Texts.{UpdateTexts}
use Rattle.tree_face.specs.Disk.{DiskContent, DiskState}
use Rattle.tree_face.specs.Known.{IfKnown}
use Rattle.tree_face.specs.Store.{Contents, StoreState}
use Rattle.tree_face.specs.Stream.{SinkState}
use Rattle.sample_runs.specs.declared.fault.SampleFault.{SampleFault}
use Rattle.sample_runs.specs.declared.fault.SampleFault.TheVariants.{DiskFault, NoMemory, StoreFault}
use Rattle.sample_runs.specs.Faults.{of_sample}
use Rattle.sample_runs.specs.Run.{IsOwnText, RunEnds, own_status, sample_contents}
use Rattle.sample_runs.specs.Sample.{EndsBy, IsSample, IsTextOf, SampleEnds, Samples}

-- out of memory, whichever device failed
no_memory : (fault : SampleFault) → own_status (of_sample fault) ≡ statuses.NoMemory
no_memory StoreFault = refl
no_memory DiskFault = refl
no_memory NoMemory = refl

module _ (n : ℕ) (store after_store : StoreState) (disk after_disk : DiskState) (out after : SinkState) (content : DiskContent)
    (held : store.held ≡ Some (sample_contents n)) (known : disk.contents ≡ Some content) where
  text_is : (text : List ℕ) (first second : UpdateTexts) → IfKnown store.held (λ held. IfKnown disk.contents (λ _. IsTextOf held n text first second))
      → IsTextOf (sample_contents n) n text first second
  text_is text first second is =
      let there : IfKnown disk.contents (λ _. IsTextOf (sample_contents n) n text first second) =
      subst (λ (k : Option Contents). IfKnown k (λ held. IfKnown disk.contents (λ _. IsTextOf held n text first second))) held is in
      subst (λ (c : Option DiskContent). IfKnown c (λ _. IsTextOf (sample_contents n) n text first second)) known there

  own : (text : List ℕ) → IsSample n text store after_store disk after_disk → IsOwnText n text
  own text is = record { first = is.first; second = is.second; is = text_is text is.first is.second is.is }

  sampled : (sampled : Result (List ℕ) SampleFault) (status : Status) → Samples n sampled store after_store disk after_disk → EndsBy sampled status out after → RunEnds n (own_status status) out after
  sampled (Ok text) status is (inl (done, written)) = inl (text, (own text is, inl (ap own_status done, written)))
  sampled (Ok text) status is (inr (failed, written)) = inl (text, (own text is, inr (ap own_status failed, written)))
  sampled (Err fault) status fails (is, same) = inr (ap own_status is ∙ no_memory fault, same)

  pub run_ends : (status : Status) → SampleEnds n status store after_store disk after_disk out after → RunEnds n (own_status status) out after
  run_ends status (text, (is, ends)) = sampled text status is ends

pub not_usage : (n : ℕ) (status : Status) (out after : SinkState) → RunEnds n status out after → status ≡ statuses.Usage → ⊥
not_usage n status out after (inl (text, (is, inl (done, written)))) usage = let z : statuses.Done ≡ statuses.Usage = sym done ∙ usage in absurd (cc)
not_usage n status out after (inl (text, (is, inr (failed, written)))) usage = let z : statuses.OutputFault ≡ statuses.Usage = sym failed ∙ usage in absurd (cc)
not_usage n status out after (inr (none, same)) usage = let z : statuses.NoMemory ≡ statuses.Usage = sym none ∙ usage in absurd (cc)
