-- A command that only asks, from what it reads, its answer, and how it ends.
use Rattle.std.proofs.Common.{◌≡◌, Result, Ok, Err, inl, refl, subst}
use Rattle.std.specs.Result.{result_map_both}
use Rattle.tree_face.specs.Devices.{DeviceStates}
use Rattle.command_words.specs.declared.kinds.Resolve.{Resolve}
use Rattle.image_session.specs.Reading.{ReadsContent, ReadsImage}
use Rattle.image_session.specs.declared.fault.LoadFault.{LoadFault}
use Rattle.image_session.specs.declared.fault.SlotFault.{SlotFault}
use Rattle.image_session.specs.declared.reading.ReadImage.{ReadImage}
use Rattle.image_session.specs.declared.reading.TreeSource.TheVariants as sources
use Rattle.tree_face.specs.declared.disk.Slot.TheVariants as slots
use Rattle.tree_face.specs.Disk.{Content}
use Rattle.tree_face.specs.Stream.{SinkState}
use Rattle.command_status.specs.Ending.{AnswerText, EndsAs}
use Rattle.command_status.specs.declared.status.Status.{Status}
use Rattle.asking_runs.proofs.Completing.{completes, completes_listing}
use Rattle.asking_runs.specs.AskCache.{AsksCache, CacheAnswer, IsMade, MakesAnswer, answer_of}
use Rattle.asking_runs.specs.Faults.{of_cache, of_list}
use Rattle.asking_runs.specs.Listings.{cache_listed, listed_text}
use Rattle.asking_runs.specs.Resolve.{AnswersImage, ResolveRun, listed_answer}
use Rattle.asking_runs.specs.declared.fault.CacheFault.{CacheFault}
use Rattle.asking_runs.specs.declared.fault.ListFault.{ListFault}
use Rattle.asking_runs.specs.declared.listings.Listed.{Listed}

-- a command that ends with an answer ends with the text or the status of that answer
module _ {A F : Type 0} (f : A → AnswerText) (g : F → Status) (status : Status) (a b : SinkState) where
  ends_by : (r : Result A F) (expected : Result AnswerText F) → result_map_both f (λ e. e) r ≡ expected → EndsAs (result_map_both f g r) status a b
      → EndsAs (result_map_both (λ answer. answer) g expected) status a b
  ends_by (Ok x) expected is ends = subst (λ (e : Result AnswerText F). EndsAs (result_map_both (λ answer. answer) g e) status a b) is ends
  ends_by (Err e) expected is ends = subst (λ (e : Result AnswerText F). EndsAs (result_map_both (λ answer. answer) g e) status a b) is ends

-- an answer that takes no memory is made
made_itself : (r : Result AnswerText CacheFault) → IsMade r r
made_itself (Ok answer) = inl refl
made_itself (Err fault) = refl

module _ (old new : DeviceStates) (status : Status) where
  pub asks : {A : Type 0} (f : A → AnswerText) (answer : CacheAnswer) (read : Result Content SlotFault) (result : Result A CacheFault) → ReadsContent slots.Cache read old.disk new.disk
      → result_map_both f (λ e. e) result ≡ answer_of answer read → EndsAs (result_map_both f of_cache result) status old.sink new.sink
      → new.store ≡ old.store → new.source ≡ old.source → AsksCache answer old new status
  asks f answer read result reads is ends store source =
      let by_answer = ends_by f of_cache status old.sink new.sink result (answer_of answer read) is ends in
      record { read = read; reads = reads; ends = by_answer; store = store; source = source; complete = completes old new status answer (answer_of answer read) by_answer read reads (made_itself (answer_of answer read)) }

  pub makes : (answer : CacheAnswer) (read : Result Content SlotFault) (result : Result Listed CacheFault) → ReadsContent slots.Cache read old.disk new.disk
      → IsMade (answer_of answer read) (cache_listed result) → EndsAs (result_map_both listed_text of_cache result) status old.sink new.sink
      → new.store ≡ old.store → new.source ≡ old.source → MakesAnswer answer old new status
  makes answer read result reads is ends store source =
      let by_answer = ends_by listed_text of_cache status old.sink new.sink result (cache_listed result) refl ends in
      record {
        read = read;
        reads = reads;
        made = cache_listed result;
        is_made = is;
        ends = by_answer;
        store = store;
        source = source;
        complete = completes old new status answer (cache_listed result) by_answer read reads is;
      }

  pub resolves : (asked : Resolve) (read : Result ReadImage LoadFault) (result : Result Listed ListFault) → ReadsImage sources.Manifest read old.disk new.disk
      → AnswersImage asked read (listed_answer result) old.store new.store → EndsAs (result_map_both listed_text of_list result) status old.sink new.sink → new.source ≡ old.source
      → ResolveRun asked old new status
  resolves asked read result reads answers ends source =
      let by_answer = ends_by listed_text of_list status old.sink new.sink result (listed_answer result) refl ends in
      record {
        read = read;
        reads = reads;
        answer = listed_answer result;
        answers = answers;
        ends = by_answer;
        source = source;
        complete = completes_listing old new status asked read (listed_answer result) reads answers by_answer;
      }
