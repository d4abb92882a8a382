-- A single line (mtree(5): a full path with its keywords), without defaults and without open directories.
use Rattle.std.specs.Prelude.{ℕ, Bool, false, ◌==◌, ◌&&◌, not, List, [], ◌∷◌, if◌then◌else◌, length, Option, Some, None, unwrap_or, Result, Ok, Err}
use Rattle.image_tree.specs.declared.node.Node.{Node}
use Rattle.manifest_words.specs.Keys.{Given, fault_unless, first_fault, given, no_values}
use Rattle.manifest_words.specs.Lines.{goes_on, words_of}
use Rattle.mtree_manifest.specs.Manifest.{head_of, is_dir, put_by, target_fault}
use Rattle.manifest_words.specs.Paths.{is_full, place, place_fault}
use Rattle.manifest_words.specs.declared.fault.LineKind.{LineKind}
use Rattle.manifest_words.specs.declared.fault.LineKind.TheVariants.{BadLine}
use Rattle.mtree_manifest.specs.declared.line.Head.{Head}
use Rattle.mtree_manifest.specs.declared.line.Head.TheVariants as head

-- the first word must be a full path, and not the root
abbrev pub lead_fault : List ℕ → Option LineKind
lead_fault first = fault_unless (is_full first && not (length (place [] first) == 0)) BadLine

-- the error of a first word; `is_dir` says whether the line is a directory's
abbrev pub place_fault_alone : Bool → List ℕ → Option LineKind
place_fault_alone is_dir first = first_fault (place_fault is_dir [] first) (lead_fault first)

-- the first error of a line with a path
abbrev pub fault_alone : List ℕ → Given → Option LineKind
fault_alone first g = first_fault g.fault (first_fault (place_fault_alone (is_dir g.values.kind) first) (target_fault g.values))

abbrev pub entry_unless : Option LineKind → Option (List ℕ × Node) → Result (Option (List ℕ × Node)) LineKind
entry_unless None entry = Ok entry
entry_unless (Some kind) entry = Err kind

-- a line with a path and the values of its keywords; None if its type is ignored
abbrev pub entry_alone : List ℕ → Given → Result (Option (List ℕ × Node)) LineKind
entry_alone first g = entry_unless (fault_alone first g) (put_by (place [] first) g.values)

-- the error of a line without a path: BadEscape if an escape is bad, otherwise BadLine
abbrev pub pathless_fault : Option LineKind → LineKind
pathless_fault fault = unwrap_or (first_fault fault (Some BadLine)) BadLine

-- Only a line with a path is good. For a `/set` line the error also depends on its keywords.
abbrev pub alone_by : Head → List ℕ → List (List ℕ) → Result (Option (List ℕ × Node)) LineKind
alone_by head.Entry first rest = entry_alone first (given no_values rest)
alone_by head.Set first rest = Err (pathless_fault (given no_values rest).fault)
alone_by head.Unset first rest = Err BadLine
alone_by head.Comment first rest = Err BadLine
alone_by head.Close first rest = Err BadLine

abbrev pub words_alone : List (List ℕ) → Result (Option (List ℕ × Node)) LineKind
words_alone [] = Err BadLine
words_alone (first ∷ rest) = alone_by (head_of first) first rest

-- the path and the node of a line, or its first error; the line must not be continued on the next line
abbrev pub line_alone : List ℕ → Result (Option (List ℕ × Node)) LineKind
line_alone line = if goes_on line then Err BadLine else words_alone (words_of line)

-- ---- a single word

abbrev pub path_unless : Option LineKind → List ℕ → Result (List ℕ) LineKind
path_unless None path = Ok path
path_unless (Some kind) path = Err kind

-- the path that a full word names, or its first error: BadEscape if an escape is bad, otherwise BadLine
abbrev pub path_alone : List ℕ → Result (List ℕ) LineKind
path_alone word = path_unless (place_fault_alone false word) (place [] word)

-- ---- for the contracts of private functions

abbrev pub path_word : Option (Head × List ℕ) → Option (List ℕ)
path_word None = None
path_word (Some (head.Entry, first)) = Some first
path_word (Some (head.Set, first)) = None
path_word (Some (head.Unset, first)) = None
path_word (Some (head.Comment, first)) = None
path_word (Some (head.Close, first)) = None
