-- The command of the options, from what `clap` found.
use Rattle.std.specs.Prelude.{◌&&◌, ◌||◌, ℕ, Bool, false, not, List, [], ◌∷◌, codes, Option, Some, None, is_some, option_map, option_and_then, if◌then◌else◌}
use Rattle.std.specs.List.{list_any}
use Rattle.std.specs.Option.{option_map_or}
use Rattle.std.specs.Str.{bytes_eq}
use Rattle.clap.specs.Words.{Kinds, Row, all_of, fault_of, first_of, matches_of}
use Rattle.root_words.specs.Faults.{Verdict, because, takes, rejects, refuses}
use Rattle.root_words.specs.Language.{root_app}
use Rattle.root_words.specs.Requests.{request_in}
use Rattle.root_words.specs.declared.command.RootCommand.{RootCommand}
use Rattle.root_words.specs.declared.command.RootCommand.TheVariants as commands
use Rattle.root_words.specs.declared.command.RootOptions.{RootOptions}
use Rattle.root_words.specs.declared.fault.Rejection.{Rejection}
use Rattle.root_words.specs.declared.fault.Why.{Why}
use Rattle.root_words.specs.declared.fault.Why.TheVariants as why

-- ---- what is given

-- the flag is given
abbrev pub has : List ℕ → List Row → Bool
has id found = option_map_or (λ text. bytes_eq text (codes "true")) (first_of id found) false

-- the option with a value is given
abbrev pub has_value : List ℕ → List Row → Bool
has_value id found = is_some (first_of id found)

-- the directories, if there is one
abbrev pub directories : List Row → Option (List (List ℕ))
directories = all_of (codes "DIR")

-- ---- what is rejected

abbrev pub request_among : List Row → Option (List ℕ)
request_among found =
    if has (codes "help") found then Some (codes "--help")
    else if has (codes "version") found then Some (codes "--version")
    else None

abbrev pub link_among : List Row → Option (List ℕ)
link_among found = if has (codes "link") found then Some (codes "-l") else None

-- a format other than `new`
abbrev pub format_among : List Row → Option (List ℕ)
format_among found = option_and_then (λ format. if bytes_eq format (codes "new") then None else Some format) (first_of (codes "FORMAT") found)

-- an option that says how to update
abbrev pub update_among : List Row → Option (List ℕ)
update_among found =
    if has (codes "no-cache") found then Some (codes "-N")
    else if has (codes "no-links") found then Some (codes "-X")
    else if has (codes "only") found then Some (codes "-n")
    else if has (codes "check") found then Some (codes "--check")
    else if has (codes "verbose") found then Some (codes "-v")
    else if has (codes "ignore-aux") found then Some (codes "-i")
    else if has_value (codes "CONF") found then Some (codes "-f")
    else if has_value (codes "FILE") found then Some (codes "--aux-cache")
    else None

-- an option of an update, together with `-p`
abbrev pub update_with_print : List Row → Option (List ℕ)
update_with_print found = if has (codes "print") found then update_among found else None

abbrev pub is_dash : List ℕ → Bool
is_dash text = bytes_eq text (codes "-")

abbrev pub is_dash_value : List ℕ → List Row → Bool
is_dash_value id found = option_map_or is_dash (first_of id found) false

abbrev pub has_dash_directory : List Row → Bool
has_dash_directory found = option_map_or (list_any is_dash) (directories found) false

-- a value that is `-` alone
abbrev pub dash_among : List Row → Option (List ℕ)
dash_among found =
    if is_dash_value (codes "ROOT") found || is_dash_value (codes "CONF") found || is_dash_value (codes "CACHE") found
    || is_dash_value (codes "FILE") found || has_dash_directory found
    then Some (codes "-") else None

-- a directory without `-n`
abbrev pub loose_directory : List Row → Option (List ℕ)
loose_directory found = if has (codes "only") found then None else first_of (codes "DIR") found

-- `-n` without a directory
abbrev pub only_nothing : List Row → Option (List ℕ)
only_nothing found = if has (codes "only") found && not (has_value (codes "DIR") found) then Some (codes "-n") else None

-- no directory is given to work on, and no cache file to print
abbrev pub no_root : List Row → Option (List ℕ)
no_root found =
    if has_value (codes "ROOT") found || has (codes "only") found || (has (codes "print") found && has_value (codes "CACHE") found)
    then None else Some (codes "-r")

-- the first rejection in the list
abbrev pub first_some : List (Option Rejection) → Option Rejection
first_some [] = None
first_some (Some rejection ∷ others) = Some rejection
first_some (None ∷ others) = first_some others

abbrev pub paths_rejected : List Row → Option Rejection
paths_rejected found = first_some (
    option_map (because why.Dash) (dash_among found)
    ∷ option_map (because why.NeedsOnly) (loose_directory found)
    ∷ option_map (because why.NoDirectory) (only_nothing found)
    ∷ option_map (because why.NoRoot) (no_root found)
    ∷ [])

abbrev pub rejection_by : List Row → Option Rejection
rejection_by found = first_some (
    option_map (because why.NotAlone) (request_among found)
    ∷ option_map (because why.Link) (link_among found)
    ∷ option_map (because why.Format) (format_among found)
    ∷ option_map (because why.NotWithPrint) (update_with_print found)
    ∷ paths_rejected found
    ∷ [])

-- ---- the command

-- the directories of `-n`
abbrev pub directories_by : List Row → Option (List (List ℕ))
directories_by found = if has (codes "only") found then directories found else None

abbrev pub options_by : List Row → RootOptions
options_by found = record {
  root = first_of (codes "ROOT") found;
  no_cache = has (codes "no-cache") found;
  no_links = has (codes "no-links") found;
  conf = first_of (codes "CONF") found;
  cache = first_of (codes "CACHE") found;
  dirs = directories_by found;
  verbose = has (codes "verbose") found;
  aux = first_of (codes "FILE") found;
  ignore_aux = has (codes "ignore-aux") found;
  check = has (codes "check") found;
}

abbrev pub print_by : List Row → RootCommand
print_by found = commands.Print (first_of (codes "ROOT") found) (first_of (codes "CACHE") found)

abbrev pub command_by : List Row → RootCommand
command_by found =
    if has (codes "print") found
    then print_by found
    else commands.Run (options_by found)

-- the command, or the rejection, of the options that `clap` found
abbrev pub judged : List Row → Verdict
judged found = option_map_or rejects (rejection_by found) (takes (command_by found))

-- the result, from the errors that `clap` reports and the options that it finds
abbrev pub parsed_by : Kinds → List Row → Verdict
parsed_by [] found = judged found
parsed_by (kind ∷ kinds) found = refuses

unfoldable pub parsed : List (List ℕ) → Verdict
parsed words = parsed_by (fault_of root_app words) (matches_of root_app words)

-- the result of reading the arguments
abbrev pub verdict_of : List (List ℕ) → Verdict
verdict_of words = option_map_or takes (request_in words) (parsed words)
