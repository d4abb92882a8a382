-- A command that reads only the cache.
use Rattle.std.specs.Prelude.{◌≡◌, ◌⊎◌, ℕ, List, Result, Ok, Err}
use Rattle.std.specs.Result.{result_map_both}
use Rattle.tree_face.specs.Devices.{DeviceStates}
use Rattle.tree_face.specs.declared.disk.Slot.TheVariants as slots
use Rattle.tree_face.specs.Disk.{Content}
use Rattle.tree_face.specs.Known.{IfKnown}
use Rattle.command_status.specs.Ending.{AnswerText, EndsAs}
use Rattle.command_status.specs.declared.status.Status.{Status}
use Rattle.image_session.specs.Reading.{ReadsContent}
use Rattle.image_session.specs.declared.fault.SlotFault.{SlotFault}
use Rattle.asking_runs.specs.Cache.{cache_in}
use Rattle.asking_runs.specs.Complete.{Completes}
use Rattle.asking_runs.specs.Faults.{of_cache}
use Rattle.asking_runs.specs.declared.fault.CacheFault.{CacheFault}
use Rattle.asking_runs.specs.declared.fault.CacheFault.TheVariants.{NoMemory}

-- the answer for a cache's bytes
abbrev pub CacheAnswer : Type 0
CacheAnswer = List ℕ → Result AnswerText CacheFault

abbrev pub answer_by : CacheAnswer → Result (List ℕ) CacheFault → Result AnswerText CacheFault
answer_by answer (Ok bytes) = answer bytes
answer_by answer (Err fault) = Err fault

-- the same, for what was read of the cache file
abbrev pub answer_of : CacheAnswer → Result Content SlotFault → Result AnswerText CacheFault
answer_of answer read = answer_by answer (cache_in read)

-- The cache file is read once, and the command ends with the answer.
pub record AsksCache (answer : CacheAnswer) (old new : DeviceStates) (status : Status) : Type 0 where
  pub read : Result Content SlotFault
  pub reads : ReadsContent slots.Cache read old.disk new.disk
  pub ends : EndsAs (result_map_both (λ answer. answer) of_cache (answer_of answer read)) status old.sink new.sink
  pub store : new.store ≡ old.store
  pub source : new.source ≡ old.source
  pub complete : IfKnown old.disk.contents (λ content. Completes (answer_of answer (Ok content.now.cache)) old new status)

-- ---- an answer whose text takes memory

-- this is the answer, unless memory runs out for its text
abbrev pub IsMade : Result AnswerText CacheFault → Result AnswerText CacheFault → Type 0
IsMade (Ok answer) made = (made ≡ Ok answer) ⊎ (made ≡ Err NoMemory)
IsMade (Err fault) made = made ≡ Err fault

-- The cache file is read once, the text of the answer is made in memory, and the command ends with it.
pub record MakesAnswer (answer : CacheAnswer) (old new : DeviceStates) (status : Status) : Type 0 where
  pub read : Result Content SlotFault
  pub reads : ReadsContent slots.Cache read old.disk new.disk
  pub made : Result AnswerText CacheFault
  pub is_made : IsMade (answer_of answer read) made
  pub ends : EndsAs (result_map_both (λ answer. answer) of_cache made) status old.sink new.sink
  pub store : new.store ≡ old.store
  pub source : new.source ≡ old.source
  pub complete : IfKnown old.disk.contents (λ content. Completes (answer_of answer (Ok content.now.cache)) old new status)
