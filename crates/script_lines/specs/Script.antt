-- The lines of a script of edits and updates. Each line is read separately. After `put` it has a line of a manifest (mtree(5)), with a
-- full path and no defaults.
use Rattle.std.specs.Prelude.{◌&&◌, ◌==◌, ℕ, Bool, List, [], ◌∷◌, codes, length, nat_eq, if◌then◌else◌, Option, Result, Ok, Err, IfSome, IsTrue, ⊤}
use Rattle.std.specs.List.{starts_with}
use Rattle.std.specs.Str.{bytes_eq}
use Rattle.image_tree.specs.Node.{is_node}
use Rattle.image_tree.specs.Paths.{is_path}
use Rattle.image_tree.specs.declared.node.Node.{Node}
use Rattle.manifest_words.specs.Lines.{goes_on, words_of}
use Rattle.mtree_manifest.specs.Single.{path_alone, words_alone}
use Rattle.manifest_words.specs.declared.fault.LineKind.{LineKind}
use Rattle.manifest_words.specs.declared.fault.LineKind.TheVariants.{BadLine}
use Rattle.script_lines.specs.declared.line.ScriptLine.{ScriptLine}
use Rattle.script_lines.specs.declared.line.ScriptLine.TheVariants.{Ignored, Put, Drop, Update}

abbrev pub is_comment : List ℕ → Bool
is_comment word = starts_with nat_eq word (codes "#")

-- the path, if there is exactly one word and it is a full path
abbrev pub path_in : List (List ℕ) → Result (List ℕ) LineKind
path_in (word ∷ []) = path_alone word
path_in _ = Err BadLine

abbrev pub put_of : Result (Option (List ℕ × Node)) LineKind → Result ScriptLine LineKind
put_of (Ok entry) = Ok (Put entry)
put_of (Err kind) = Err kind

abbrev pub drop_of : Result (List ℕ) LineKind → Result ScriptLine LineKind
drop_of (Ok path) = Ok (Drop path)
drop_of (Err kind) = Err kind

-- the command, given the first word and the words after it
abbrev pub asked_by : List ℕ → List (List ℕ) → Result ScriptLine LineKind
asked_by word rest =
    if bytes_eq word (codes "put") then put_of (words_alone rest)
    else if bytes_eq word (codes "drop") then drop_of (path_in rest)
    else if bytes_eq word (codes "update") && length rest == 0 then Ok Update
    else Err BadLine

-- A line without words or with a comment is ignored. Any other line must not be continued on the next line.
abbrev pub line_by : Bool → List (List ℕ) → Result ScriptLine LineKind
line_by on [] = Ok Ignored
line_by on (word ∷ rest) = if is_comment word then Ok Ignored else if on then Err BadLine else asked_by word rest

-- the command on a line, or its first error
abbrev pub line_of : List ℕ → Result ScriptLine LineKind
line_of line = line_by (goes_on line) (words_of line)

-- a node that is put has a valid path and is valid; a path that is dropped is valid
abbrev pub IsProper : ScriptLine → Type 0
IsProper Ignored = ⊤
IsProper (Put entry) = IfSome entry (λ entry. IsTrue (is_path entry.0) × IsTrue (is_node entry.1))
IsProper (Drop path) = IsTrue (is_path path)
IsProper Update = ⊤
