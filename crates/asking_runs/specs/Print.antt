-- The command `print` (ldconfig(8), option -p).
use Rattle.std.specs.Prelude.{ℕ, Bool, true, false, List, Option, Some, None, Result, Ok, Err, codes}
use Rattle.cache_reader.specs.Cache.{defect}
use Rattle.cache_reader.specs.Printed.{printed}
use Rattle.cache_reader.specs.declared.defect.CacheDefect.{CacheDefect}
use Rattle.tree_face.specs.Devices.{DeviceStates}
use Rattle.command_status.specs.Ending.{AnswerText}
use Rattle.command_status.specs.declared.status.Status.{Status}
use Rattle.json_answers.specs.Cached.{cache_data}
use Rattle.json_answers.specs.Texts.{json_text}
use Rattle.asking_runs.specs.AskCache.{AsksCache, MakesAnswer}
use Rattle.asking_runs.specs.declared.fault.CacheFault.{CacheFault}
use Rattle.asking_runs.specs.declared.fault.CacheFault.TheVariants.{BadCache}

-- the name of the cache on the first line, if no other name is given
abbrev pub cache_name : List ℕ
cache_name = codes "/etc/ld.so.cache"

-- the entries as text, after a line with this name
abbrev pub printed_answer : List ℕ → List ℕ → AnswerText
printed_answer name bytes = record { text = printed bytes name; missing = false; fault = None }

-- the entries as JSON, with this name
abbrev pub json_printed : List ℕ → List ℕ → AnswerText
json_printed name bytes = record { text = json_text (cache_data name bytes); missing = false; fault = None }

-- the answer, unless the cache has a defect
abbrev pub print_by : AnswerText → Option CacheDefect → Result AnswerText CacheFault
print_by answer (Some d) = Err (BadCache d)
print_by answer None = Ok answer

-- the answer for a cache's bytes
abbrev pub print_answer : List ℕ → List ℕ → Result AnswerText CacheFault
print_answer name bytes = print_by (printed_answer name bytes) (defect bytes)

-- the same, as JSON
abbrev pub json_print_answer : List ℕ → List ℕ → Result AnswerText CacheFault
json_print_answer name bytes = print_by (json_printed name bytes) (defect bytes)

-- the cache is printed with this name
abbrev pub PrintsNamed : List ℕ → DeviceStates → DeviceStates → Status → Type 0
PrintsNamed name old new status = AsksCache (print_answer name) old new status

-- the same, as JSON
abbrev pub PrintsJson : List ℕ → DeviceStates → DeviceStates → Status → Type 0
PrintsJson name old new status = MakesAnswer (json_print_answer name) old new status

-- whether it is printed as JSON, and what is done then
abbrev pub PrintRun : Bool → DeviceStates → DeviceStates → Status → Type 0
PrintRun false old new status = PrintsNamed cache_name old new status
PrintRun true old new status = PrintsJson cache_name old new status
