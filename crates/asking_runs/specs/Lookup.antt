-- The command `lookup`: the path that the loader takes from the cache (ld.so(8)).
use Rattle.std.specs.Prelude.{ℕ, Bool, true, false, List, codes, Option, Some, None, is_none, unwrap_or, Result, Ok, Err}
use Rattle.lib_types.specs.declared.abi.Abi.{Abi}
use Rattle.lib_types.specs.declared.abi.Abi.TheVariants.{X86_64}
use Rattle.cache_lookup.specs.Abis.{common_abi}
use Rattle.cache_lookup.specs.Scan.{scan}
use Rattle.cache_lookup.specs.Sorted.{sorted_in}
use Rattle.cache_reader.specs.Cache.{CachedEntry}
use Rattle.cache_reader.specs.declared.defect.CacheDefect.{CacheDefect}
use Rattle.command_words.specs.declared.kinds.Lookup.{Lookup}
use Rattle.tree_face.specs.Devices.{DeviceStates}
use Rattle.update_report.specs.Lines.{line}
use Rattle.command_status.specs.Ending.{AnswerText}
use Rattle.command_status.specs.declared.status.Status.{Status}
use Rattle.json_answers.specs.Looked.{lookup_data}
use Rattle.json_answers.specs.Texts.{json_text}
use Rattle.asking_runs.specs.AskCache.{AsksCache, MakesAnswer}
use Rattle.asking_runs.specs.declared.fault.CacheFault.{CacheFault}
use Rattle.asking_runs.specs.declared.fault.CacheFault.TheVariants.{BadCache}

-- the text for the path
abbrev pub path_text : Option (List ℕ) → List ℕ
path_text None = line (codes "not found")
path_text (Some path) = line path

abbrev pub path_answer : Option (List ℕ) → AnswerText
path_answer path = record { text = path_text path; missing = is_none path; fault = None }

-- the ABI of the name: the one that is given, else the one of all entries, else x86-64
abbrev pub looked_up_abi : Option Abi → List CachedEntry → Abi
looked_up_abi (Some abi) entries = abi
looked_up_abi None entries = unwrap_or (common_abi entries) X86_64

-- the path that the loader takes
abbrev pub looked_up : Lookup → List CachedEntry → Option (List ℕ)
looked_up asked entries = scan entries asked.name (looked_up_abi asked.abi entries) asked.caps

-- the answer as JSON
abbrev pub json_path_answer : Lookup → List CachedEntry → AnswerText
json_path_answer asked entries = record {
  text = json_text (lookup_data asked.name (looked_up_abi asked.abi entries) (looked_up asked entries));
  missing = is_none (looked_up asked entries);
  fault = None;
}

-- the answer for the entries, unless the cache has a defect
abbrev pub lookup_by : (List CachedEntry → AnswerText) → Result (List CachedEntry) CacheDefect → Result AnswerText CacheFault
lookup_by answer (Err d) = Err (BadCache d)
lookup_by answer (Ok entries) = Ok (answer entries)

-- the answer for a cache's bytes
abbrev pub lookup_answer : Lookup → List ℕ → Result AnswerText CacheFault
lookup_answer asked bytes = lookup_by (λ entries. path_answer (looked_up asked entries)) (sorted_in bytes)

-- the same, as JSON
abbrev pub json_lookup_answer : Lookup → List ℕ → Result AnswerText CacheFault
json_lookup_answer asked bytes = lookup_by (json_path_answer asked) (sorted_in bytes)

-- whether the answer is JSON, and what is done then
abbrev pub LookupAs : Bool → Lookup → DeviceStates → DeviceStates → Status → Type 0
LookupAs false asked old new status = AsksCache (lookup_answer asked) old new status
LookupAs true asked old new status = MakesAnswer (json_lookup_answer asked) old new status

abbrev pub LookupRun : Lookup → DeviceStates → DeviceStates → Status → Type 0
LookupRun asked old new status = LookupAs asked.json asked old new status
