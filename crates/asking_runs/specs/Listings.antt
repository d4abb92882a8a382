-- The answers for several programs: their listings (ldd(1) with several files) or the files that they need, and what they lack.
use Rattle.std.specs.Prelude.{◌++◌, ◌||◌, ℕ, Bool, false, List, [], ◌∷◌, codes, flat_map, if◌then◌else◌, length, nat_lt, Option, Some, None, is_some, not, Result, Ok, Err}
use Rattle.std.specs.List.{list_all, list_any}
use Rattle.std.specs.Option.{option_or}
use Rattle.std.specs.Result.{result_map_both}
use Rattle.command_status.specs.Ending.{AnswerText}
use Rattle.command_status.specs.Status.{of_program, said}
use Rattle.ldd_resolve.specs.Printed.{listing_text}
use Rattle.ldd_resolve.specs.declared.kinds.Item.{Item}
use Rattle.ldd_resolve.specs.declared.kinds.ProgramFault.{ProgramFault}
use Rattle.ldd_resolve.specs.declared.kinds.ProgramScope.{ProgramScope}
use Rattle.ldd_resolve.specs.declared.kinds.Scope.{Scope}
use Rattle.needed_files.specs.Printed.{list_text}
use Rattle.scope_tree.specs.Printed.{tree_text}
use Rattle.needed_files.specs.declared.files.NeededFiles.{NeededFiles}
use Rattle.update_report.specs.Lines.{line}
use Rattle.json_answers.specs.Programs.{programs_data}
use Rattle.json_answers.specs.Texts.{json_text}
use Rattle.asking_runs.specs.declared.fault.CacheFault.{CacheFault}
use Rattle.asking_runs.specs.declared.listings.Listed.{Listed}

-- ---- the text

-- the listing, or the fault line in its place
abbrev pub body : Result Scope ProgramFault → List ℕ
body (Ok scope) = listing_text scope.listing
body (Err fault) = said (of_program fault)

-- if there are several listings, a line with the path is before each
abbrev pub head : Bool → List ℕ → List ℕ
head several path = if several then line (path ++ codes ":") else []

abbrev pub part : Bool → ProgramScope → List ℕ
part several p = head several p.path ++ body p.scope

abbrev pub listings_text : List ProgramScope → List ℕ
listings_text ps = flat_map (part (nat_lt 1 (length ps))) ps

-- the tree, or the fault line in its place
abbrev pub tree_body : Result Scope ProgramFault → List ℕ
tree_body (Ok scope) = tree_text scope
tree_body (Err fault) = said (of_program fault)

abbrev pub tree_part : Bool → ProgramScope → List ℕ
tree_part several p = head several p.path ++ tree_body p.scope

abbrev pub trees_text : List ProgramScope → List ℕ
trees_text ps = flat_map (tree_part (nat_lt 1 (length ps))) ps

-- ---- what is missing

-- each needed name has a path
abbrev pub is_whole : List Item → Bool
is_whole items = list_all (λ item. is_some item.path) items

-- a needed name of the program has no path
abbrev pub is_missing_one : Result Scope ProgramFault → Bool
is_missing_one (Ok scope) = not (is_whole scope.listing)
is_missing_one (Err fault) = false

abbrev pub fault_in : Result Scope ProgramFault → Option ProgramFault
fault_in (Ok scope) = None
fault_in (Err fault) = Some fault

-- the first fault of all
abbrev pub first_fault : List ProgramScope → Option ProgramFault
first_fault [] = None
first_fault (p ∷ ps) = option_or (fault_in p.scope) (first_fault ps)

-- ---- the answers

-- a needed name of a program has no path
abbrev pub is_missing : List ProgramScope → Bool
is_missing ps = list_any (λ p. is_missing_one p.scope) ps

abbrev pub listings_answer : List ProgramScope → AnswerText
listings_answer ps = record {
  text = listings_text ps;
  missing = is_missing ps;
  fault = first_fault ps;
}

abbrev pub trees_answer : List ProgramScope → AnswerText
trees_answer ps = record {
  text = trees_text ps;
  missing = is_missing ps;
  fault = first_fault ps;
}

-- the listings as JSON, which has the faults too
abbrev pub json_answer : List ProgramScope → AnswerText
json_answer ps = record {
  text = json_text (programs_data ps);
  missing = is_missing ps;
  fault = first_fault ps;
}

-- the text has only paths; a path without a program has no line
abbrev pub files_answer : ℕ → NeededFiles → List ProgramScope → AnswerText
files_answer end needed ps = record {
  text = list_text end needed.files;
  missing = needed.is_missing || is_missing ps;
  fault = first_fault ps;
}

-- ---- what private functions say

abbrev pub listed_text : Listed → AnswerText
listed_text listed = record { text = listed.text.items; missing = listed.is_missing; fault = listed.fault }

abbrev pub cache_listed : Result Listed CacheFault → Result AnswerText CacheFault
cache_listed result = result_map_both listed_text (λ fault. fault) result
