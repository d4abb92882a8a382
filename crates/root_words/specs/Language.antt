-- The options, as in ldconfig(8), with `--aux-cache` and `--check` added. They are read by `clap`, whose definitions say what is
-- refused and what is found: short options may be bundled, an option is given once at most, and `--` ends the options.
use Rattle.std.specs.Prelude.{ℕ, true, List, codes, Some}
use Rattle.std.specs.Str.{byte}
use Rattle.clap.specs.declared.builder.action.ArgAction.TheVariants.{Append, SetTrue}
use Rattle.clap.specs.declared.builder.value_parser.ValueParser.TheVariants.{NonEmptyString}
use Rattle.clap.specs.Words.{App, Rule, new_app, new_rule, with_rule}

-- an option with one value, which is not empty
abbrev pub value_rule : List ℕ → Rule
value_rule id = record (new_rule id) { parser = Some NonEmptyString }

-- an option without a value
abbrev pub flag_rule : List ℕ → Rule
flag_rule id = record (new_rule id) { action = Some SetTrue }

-- the directories, which are given without an option
abbrev pub directory_rule : Rule
directory_rule = record (value_rule (codes "DIR")) { action = Some Append }

abbrev pub short : ℕ → Rule → Rule
short letter rule = record rule { short = Some letter }

abbrev pub long : List ℕ → Rule → Rule
long name rule = record rule { long = Some name }

-- where the image and its files are
abbrev pub with_paths : App → App
with_paths app =
    with_rule (with_rule (with_rule (with_rule app (long (codes "root") (short (byte "r") (value_rule (codes "ROOT")))))
    (short (byte "f") (value_rule (codes "CONF")))) (short (byte "C") (value_rule (codes "CACHE")))) (long (codes "aux-cache") (value_rule (codes "FILE")))

-- what is left out of an update, or done in its place
abbrev pub with_parts : App → App
with_parts app =
    with_rule (with_rule (with_rule (with_rule app (short (byte "N") (flag_rule (codes "no-cache")))) (short (byte "X") (flag_rule (codes "no-links"))))
    (short (byte "n") (flag_rule (codes "only")))) (long (codes "check") (flag_rule (codes "check")))

abbrev pub with_manners : App → App
with_manners app =
    with_rule (with_rule (with_rule (with_rule app (long (codes "verbose") (short (byte "v") (flag_rule (codes "verbose")))))
    (long (codes "ignore-aux-cache") (short (byte "i") (flag_rule (codes "ignore-aux"))))) (long (codes "format") (short (byte "c") (value_rule (codes "FORMAT")))))
    (short (byte "l") (flag_rule (codes "link")))

-- what prints, and writes nothing; the directories
abbrev pub with_prints : App → App
with_prints app =
    with_rule (with_rule (with_rule (with_rule app (long (codes "print-cache") (short (byte "p") (flag_rule (codes "print")))))
    (long (codes "help") (short (byte "?") (flag_rule (codes "help"))))) (long (codes "version") (short (byte "V") (flag_rule (codes "version"))))) directory_rule

-- nothing is taken, and no argument is the program's name
abbrev pub bare : App
bare =
    let empty = new_app (codes "ldconfig") in
    record empty { top = record empty.top { no_binary_name = true; disable_help_flag = true; disable_version_flag = true } }

unfoldable pub root_app : App
root_app = with_prints (with_manners (with_parts (with_paths bare)))
