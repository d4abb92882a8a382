-- Which arguments each command takes. They are read by `clap`, whose definitions say what is refused and what is found.
use Rattle.std.specs.Prelude.{◌||◌, ℕ, true, List, [], ◌∷◌, codes, Option, Some, None, if◌then◌else◌}
use Rattle.std.specs.Str.{byte, bytes_eq}
use Rattle.clap.specs.declared.builder.action.ArgAction.TheVariants.{Append, SetTrue}
use Rattle.clap.specs.declared.builder.value_parser.ValueParser.TheVariants.{NonEmptyString}
use Rattle.clap.specs.Words.{App, Rule, new_app, new_rule, with_rule}
use Rattle.command_words.specs.declared.verb.Verb.{Verb}
use Rattle.command_words.specs.declared.verb.Verb.TheVariants.{Update, Batch, Layers, Sample, Print, Lookup, Resolve}

-- ---- the first argument

abbrev pub verb_of : List ℕ → Option Verb
verb_of word =
    if bytes_eq word (codes "update") then Some Update
    else if bytes_eq word (codes "batch") then Some Batch
    else if bytes_eq word (codes "layers") then Some Layers
    else if bytes_eq word (codes "sample") then Some Sample
    else if bytes_eq word (codes "print") || bytes_eq word (codes "-p") then Some Print
    else if bytes_eq word (codes "lookup") then Some Lookup
    else if bytes_eq word (codes "resolve") then Some Resolve
    else None

-- without arguments it is `update`
abbrev pub verb_in : List (List ℕ) → Option Verb
verb_in [] = Some Update
verb_in (word ∷ rest) = verb_of word

-- the name of a command and `--help`, these two words alone
abbrev pub help_in : List (List ℕ) → Option Verb
help_in (word ∷ asked ∷ []) = if bytes_eq asked (codes "--help") then verb_of word else None
help_in _ = None

-- ---- the others

-- one that is needed, without a name
abbrev pub word_rule : List ℕ → Rule
word_rule id = record (new_rule id) { required = true }

-- one or more, without a name
abbrev pub words_rule : List ℕ → Rule
words_rule id = record (word_rule id) { action = Some Append }

-- any number, without a name
abbrev pub any_words_rule : List ℕ → Rule
any_words_rule id = record (new_rule id) { action = Some Append }

-- `--ID VALUE` or `--ID=VALUE`, once at most
abbrev pub option_rule : List ℕ → Rule
option_rule id = record (new_rule id) { long = Some id }

-- `--ID`, without a value, once at most
abbrev pub flag_rule : List ℕ → Rule
flag_rule id = record (option_rule id) { action = Some SetTrue }

-- `-C`, without a value, once at most
abbrev pub letter_rule : List ℕ → ℕ → Rule
letter_rule id letter = record (new_rule id) { action = Some SetTrue; short = Some letter }

-- `-r ROOT` or `--root ROOT`, once at most: a directory, whose name is not empty
abbrev pub root_rule : Rule
root_rule = record (new_rule (codes "ROOT")) { parser = Some NonEmptyString; short = Some (byte "r"); long = Some (codes "root") }

-- nothing is taken, `--help` and `--version` neither
abbrev pub without_requests : App
without_requests =
    let empty = new_app (codes "ldconfig") in
    record empty { top = record empty.top { disable_help_flag = true; disable_version_flag = true } }

-- a command that only reads, and takes a directory with -r
abbrev pub asking : App
asking = with_rule without_requests root_rule

-- a command that takes the number of its temporary files
abbrev pub tagged : App
tagged = with_rule without_requests (option_rule (codes "tag"))

-- programs, for processors with some hwcaps names
abbrev pub searched : App
searched = with_rule (with_rule (with_rule asking (any_words_rule (codes "PATH"))) (flag_rule (codes "all"))) (option_rule (codes "caps"))

-- the same, with what the loader is given beside the files
abbrev pub loaded : App
loaded = with_rule (with_rule (with_rule searched (option_rule (codes "library-path"))) (option_rule (codes "platform"))) (flag_rule (codes "secure"))

-- the options of a command, and the arguments that it needs
unfoldable pub app : Verb → App
app Update = tagged
app Batch = tagged
app Layers = with_rule without_requests (words_rule (codes "KEY"))
app Sample = with_rule without_requests (word_rule (codes "N"))
app Print = with_rule asking (flag_rule (codes "json"))
app Lookup = with_rule (with_rule (with_rule (with_rule asking (word_rule (codes "NAME"))) (option_rule (codes "abi"))) (option_rule (codes "caps"))) (flag_rule (codes "json"))
app Resolve = with_rule (with_rule (with_rule (with_rule loaded (flag_rule (codes "list"))) (letter_rule (codes "null") (byte "0"))) (flag_rule (codes "json"))) (flag_rule (codes "tree"))
