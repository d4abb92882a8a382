-- Which arguments are those of a root command, and which ask for the usage text or the version.
use Rattle.std.specs.Prelude.{◌==◌, ◌&&◌, ◌||◌, ℕ, Bool, false, not, nat_eq, List, [], ◌∷◌, codes, Option, Some, None, length, if◌then◌else◌}
use Rattle.std.specs.List.{starts_with}
use Rattle.std.specs.Str.{bytes_eq}
use Rattle.root_words.specs.declared.command.RootCommand.{RootCommand}
use Rattle.root_words.specs.declared.command.RootCommand.TheVariants.{Help, Version}

abbrev pub begins_with_dash : List ℕ → Bool
begins_with_dash word = starts_with nat_eq word (codes "-")

-- the first argument begins with `-`, and the arguments are not `-p` alone
abbrev pub is_root_command : List (List ℕ) → Bool
is_root_command [] = false
is_root_command (word ∷ rest) = begins_with_dash word && not (length rest == 0 && bytes_eq word (codes "-p"))

abbrev pub request_of : List ℕ → Option RootCommand
request_of word =
    if bytes_eq word (codes "-?") || bytes_eq word (codes "--help") then Some Help
    else if bytes_eq word (codes "-V") || bytes_eq word (codes "--version") then Some Version
    else None

-- the usage text or the version, asked for alone
abbrev pub request_in : List (List ℕ) → Option RootCommand
request_in (word ∷ []) = request_of word
request_in _ = None
