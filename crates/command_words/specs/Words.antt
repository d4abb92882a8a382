-- The command of arguments.
use Rattle.std.specs.Prelude.{◌≡◌, ◌==◌, ◌&&◌, nat_le, ⊤, ℕ, Bool, true, false, not, List, [], ◌∷◌, codes, length, Option, Some, None, Result, Ok, Err, option_map, option_and_then, unwrap_or, if◌then◌else◌}
use Rattle.std.specs.List.{list_all}
use Rattle.std.specs.Option.{option_map_or}
use Rattle.clap.specs.declared.error.kind.ErrorKind.{ErrorKind}
use Rattle.clap.specs.declared.error.kind.ErrorKind.TheVariants.{OutOfMemory}
use Rattle.clap.specs.Words.{Row, all_of, fault_of, first_of, matches_of, takes}
use Rattle.lib_types.specs.Abi.{abi_of_word}
use Rattle.lib_types.specs.declared.abi.Abi.{Abi}
use Rattle.command_words.specs.Language.{app, verb_in}
use Rattle.command_words.specs.Values.{are_keys, caps_in, is_true, is_value, number_in}
use Rattle.command_words.specs.declared.fault.WordsFault.{WordsFault}
use Rattle.command_words.specs.declared.fault.WordsFault.TheVariants as faults
use Rattle.command_words.specs.declared.line.CommandLine.{CommandLine}
use Rattle.command_words.specs.declared.kinds.Command.{Command}
use Rattle.command_words.specs.declared.kinds.Command.TheVariants as commands
use Rattle.command_words.specs.declared.kinds.Form.{Form}
use Rattle.command_words.specs.declared.kinds.Form.TheVariants.{Files, Json, Listing, Tree}
use Rattle.command_words.specs.declared.kinds.Lookup.{Lookup}
use Rattle.command_words.specs.declared.kinds.Resolve.{Resolve}
use Rattle.tree_face.specs.declared.disk.Tag.{Tag}
use Rattle.command_words.specs.declared.reading.TheConstants.{SAMPLE_MAX}
use Rattle.command_words.specs.declared.verb.Verb.{Verb}
use Rattle.command_words.specs.declared.verb.Verb.TheVariants as verbs

-- ---- values, from what `clap` found

-- the value of an argument, or its default if it isn't given; None if that text is not a value
abbrev pub value_by : List ℕ → List ℕ → List Row → Option (List ℕ)
value_by id other found =
    let text = unwrap_or (first_of id found) other in
    if is_value text then Some text else None

-- the number of the temporary files
abbrev pub tag_by : List Row → Option Tag
tag_by found = option_map (λ number. record { 0 = number }) (option_and_then number_in (value_by (codes "tag") (codes "0") found))

-- how many libraries a sample may have
abbrev pub is_sample_size : ℕ → Bool
is_sample_size n = nat_le 1 n && nat_le n SAMPLE_MAX

-- how many libraries a sample has
abbrev pub size_by : List Row → Option ℕ
size_by found = option_and_then (λ n. if is_sample_size n then Some n else None) (option_and_then number_in (value_by (codes "N") [] found))

-- the ABI, if one is given; None if that text names no ABI
abbrev pub abi_as : Option (List ℕ) → Option (Option Abi)
abi_as None = Some None
abi_as (Some word) = option_map Some (abi_of_word word)

abbrev pub abi_by : List Row → Option (Option Abi)
abi_by found = abi_as (first_of (codes "abi") found)

abbrev pub caps_by : List Row → Option (List (List ℕ))
caps_by found = option_map caps_in (value_by (codes "caps") [] found)

-- whether the flag is given
abbrev pub flag_by : List ℕ → List Row → Bool
flag_by id found = option_map_or is_true (first_of id found) false

abbrev pub lookup_by : List Row → Option Lookup
lookup_by found = option_and_then (λ name. option_and_then (λ abi. option_map (λ caps. record { name = name; abi = abi; caps = caps; json = flag_by (codes "json") found })
    (caps_by found)) (abi_by found)) (value_by (codes "NAME") [] found)

-- `--list` ends each path by a newline, with `-0` by NUL; `-0` is for a list alone
abbrev pub list_form : Bool → Form
list_form null = Files (if null then 0 else 10)

-- at most one of `--list`, `--json` and `--tree` is given
abbrev pub form_of : Bool → Bool → Bool → Bool → Option Form
form_of true null false false = Some (list_form null)
form_of false false true false = Some Json
form_of false false false true = Some Tree
form_of false false false false = Some Listing
form_of true null true _ = None
form_of true null false true = None
form_of false true _ _ = None
form_of false false true true = None

abbrev pub form_by : List Row → Option Form
form_by found = form_of (flag_by (codes "list") found) (flag_by (codes "null") found) (flag_by (codes "json") found) (flag_by (codes "tree") found)

-- all values of an argument, in order; None if one of them is not a value
abbrev pub values_by : List ℕ → List Row → Option (List (List ℕ))
values_by id found =
    let texts = unwrap_or (all_of id found) [] in
    if list_all is_value texts then Some texts else None

-- the keys of the layers' manifests
abbrev pub keys_by : List Row → Option (List (List ℕ))
keys_by found = option_and_then (λ keys. if are_keys keys then Some keys else None) (values_by (codes "KEY") found)

-- the programs' paths; with `--all` none are given
abbrev pub paths_of : Bool → List (List ℕ) → Option (Option (List (List ℕ)))
paths_of true [] = Some None
paths_of true (path ∷ paths) = None
paths_of false [] = None
paths_of false (path ∷ paths) = Some (Some (path ∷ paths))

abbrev pub paths_by : List Row → Option (Option (List (List ℕ)))
paths_by found = option_and_then (paths_of (flag_by (codes "all") found)) (values_by (codes "PATH") found)

abbrev pub resolve_by : List Row → Option Resolve
resolve_by found = option_and_then (λ paths. option_and_then (λ caps. option_and_then (λ library_path. option_and_then (λ platform. option_map (λ form.
    record { paths = paths; caps = caps; library_path = library_path; platform = platform; secure = flag_by (codes "secure") found; form = form })
    (form_by found)) (value_by (codes "platform") [] found)) (value_by (codes "library-path") [] found)) (caps_by found)) (paths_by found)

-- the command with these values, if all of them are valid
abbrev pub command_by : Verb → List Row → Option Command
command_by verbs.Update found = option_map commands.Update (tag_by found)
command_by verbs.Batch found = option_map commands.Batch (tag_by found)
command_by verbs.Layers found = option_map commands.Layers (keys_by found)
command_by verbs.Sample found = option_map commands.Sample (size_by found)
command_by verbs.Print found = Some (commands.Print (flag_by (codes "json") found))
command_by verbs.Lookup found = option_map commands.Lookup (lookup_by found)
command_by verbs.Resolve found = option_map commands.Resolve (resolve_by found)

-- the directory, if one is given; None if its text is not a value
abbrev pub root_as : Option (List ℕ) → Option (Option (List ℕ))
root_as None = Some None
root_as (Some text) = if is_value text then Some (Some text) else None

abbrev pub root_by : List Row → Option (Option (List ℕ))
root_by found = root_as (first_of (codes "ROOT") found)

-- the command, and the directory that it reads
abbrev pub line_by : Verb → List Row → Option CommandLine
line_by verb found = option_and_then (λ command. option_map (λ root. record { command = command; root = root }) (root_by found)) (command_by verb found)

-- ---- arguments

-- the command line with the values that `clap` finds
abbrev pub values_in : List (List ℕ) → Option CommandLine
values_in words = option_and_then (λ verb. line_by verb (matches_of (app verb) words)) (verb_in words)

-- `clap` reports an error in the arguments after the first
abbrev pub are_refused : List (List ℕ) → Bool
are_refused words = option_map_or (λ verb. not (length (fault_of (app verb) words) == 0)) (verb_in words) false

-- the command line of the arguments, if they name a command
unfoldable pub line_in : List (List ℕ) → Option CommandLine
line_in words = if are_refused words then None else values_in words

-- the command, if the arguments name one
abbrev pub command_in : List (List ℕ) → Option Command
command_in words = option_map (λ line. line.command) (line_in words)

-- the directory that the command reads, if the arguments name one
abbrev pub root_in : List (List ℕ) → Option (List ℕ)
root_in words = option_and_then (λ line. line.root) (line_in words)

-- `clap` promises to take the arguments
unfoldable pub are_taken : List (List ℕ) → Bool
are_taken words = option_map_or (λ verb. takes (app verb) words) (verb_in words) false

-- ---- what a call returns that may run out of memory

abbrev pub Gives : {T : Type 0} → Option T → Result T WordsFault → Type 0
Gives expected (Ok value) = expected ≡ Some value
Gives expected (Err faults.NoCommand) = expected ≡ None
Gives expected (Err (faults.Refused line)) = expected ≡ None
Gives expected (Err (faults.Value text)) = expected ≡ None
Gives expected (Err faults.NoMemory) = ⊤

-- the arguments are rejected, which they never are because memory runs out
abbrev pub Rejects : WordsFault → Type 0
Rejects faults.NoCommand = ⊤
Rejects (faults.Refused line) = ⊤
Rejects (faults.Value text) = ⊤
Rejects faults.NoMemory = ⊥

-- an error of `clap` as a fault: out of memory stays out of memory
abbrev pub FitsKind : ErrorKind → WordsFault → Type 0
FitsKind kind (faults.Refused line) = kind ≡ OutOfMemory → ⊥
FitsKind kind faults.NoMemory = ⊤
FitsKind kind faults.NoCommand = ⊥
FitsKind kind (faults.Value text) = ⊥
