-- The tree of a manifest (mtree(5)), or its first bad line.
use Rattle.std.specs.Prelude.{ℕ, Bool, true, false, List, [], ◌∷◌, ◌++◌, ◌==◌, ◌&&◌, not, nat_le, nat_eq, if◌then◌else◌, codes, length, drop, unwrap_or, Option, Some, None, option_map, Result, Ok, Err}
use Rattle.std.specs.List.{starts_with}
use Rattle.std.specs.Result.{result_ok, result_err}
use Rattle.std.specs.Str.{bytes_eq}
use Rattle.image_tree.specs.declared.node.Id.{Id}
use Rattle.image_tree.specs.declared.node.Node.{Node}
use Rattle.image_tree.specs.declared.node.Node.TheVariants as node
use Rattle.image_tree.specs.Tree.{Nodes, put, clashes, has_no_room}
use Rattle.manifest_words.specs.Escape.{decoded}
use Rattle.manifest_words.specs.Keys.{Values, Given, no_values, given, unset, first_fault, fault_unless}
use Rattle.manifest_words.specs.Lines.{Line, lines_in}
use Rattle.manifest_words.specs.Paths.{Stack, closed, is_full, place, place_fault}
use Rattle.mtree_manifest.specs.declared.fault.TheConstants.{MANIFEST_MAX}
use Rattle.manifest_words.specs.declared.fault.LineKind.{LineKind}
use Rattle.manifest_words.specs.declared.fault.LineKind.TheVariants.{BadLine, NoTarget}
use Rattle.mtree_manifest.specs.declared.fault.ManifestFault.{ManifestFault}
use Rattle.mtree_manifest.specs.declared.fault.ManifestFault.TheVariants.{TooLong, Bad, Clash, TooMany}
use Rattle.mtree_manifest.specs.declared.line.Head.{Head}
use Rattle.mtree_manifest.specs.declared.line.Head.TheVariants as head
use Rattle.manifest_words.specs.declared.keys.LineType.{LineType}
use Rattle.manifest_words.specs.declared.keys.LineType.TheVariants as types

-- ---- the reading of one line

pub data Reading : Type 0 where
  Faulty : LineKind → Reading
  -- new defaults
  Defaults : Values → Reading
  -- the stack after the line, and the node that the line puts, if any
  Puts : Stack → Option (List ℕ × Node) → Reading

-- the text that a value of `link` or `contents` represents
abbrev pub text_of : List ℕ → List ℕ
text_of value = unwrap_or (decoded value) []

-- an identity needs an inode, a ctime and a size
abbrev pub identity : ℕ → Option ℕ → Option ℕ → Option ℕ → Option Id
identity dev (Some inode) (Some ctime) (Some size) = Some (record { dev = dev; inode = inode; ctime = ctime; size = size })
identity dev None _ _ = None
identity dev (Some inode) None _ = None
identity dev (Some inode) (Some ctime) None = None

abbrev pub id_of : Values → Option Id
id_of v = identity (unwrap_or v.dev 0) v.inode v.ctime v.size

-- a content's key is the value of `contents`, or the path without the first slash
abbrev pub key_of : Option (List ℕ) → List ℕ → List ℕ
key_of None path = drop 1 path
key_of (Some value) path = text_of value

abbrev pub node_by : LineType → Values → List ℕ → Option Node
node_by types.File v path = Some (node.File (key_of v.contents path) (id_of v))
node_by types.Dir v path = Some node.Dir
node_by types.Link v path = Some (node.Link (text_of v.link))
node_by types.NoNode v path = None
node_by types.Unknown v path = None

-- the node of a path; the root has no node
abbrev pub node_of : Values → List ℕ → Option Node
node_of v path = if length path == 0 then None else node_by v.kind v path

abbrev pub is_dir : LineType → Bool
is_dir types.Dir = true
is_dir types.File = false
is_dir types.Link = false
is_dir types.NoNode = false
is_dir types.Unknown = false

abbrev pub is_link : LineType → Bool
is_link types.Link = true
is_link types.File = false
is_link types.Dir = false
is_link types.NoNode = false
is_link types.Unknown = false

-- a link needs a target
abbrev pub target_fault : Values → Option LineKind
target_fault v = fault_unless (not (is_link v.kind && length v.link == 0)) NoTarget

-- a relative line with type `dir` opens the directory
abbrev pub stack_after : Stack → List ℕ → Values → Stack
stack_after dirs first v = if is_dir v.kind && not (is_full first) then dirs ++ place dirs first ∷ [] else dirs

abbrev pub unless_faulty : Option LineKind → Reading → Reading
unless_faulty None reading = reading
unless_faulty (Some kind) reading = Faulty kind

abbrev pub put_by : List ℕ → Values → Option (List ℕ × Node)
put_by path v = option_map (λ node. (path, node)) (node_of v path)

-- the first error of a line with a path
abbrev pub entry_fault : Stack → List ℕ → Given → Option LineKind
entry_fault dirs first g = first_fault g.fault (first_fault (place_fault (is_dir g.values.kind) dirs first) (target_fault g.values))

-- a line with a path; its keywords have overridden the defaults
abbrev pub entry : Stack → List ℕ → Given → Reading
entry dirs first g =
    unless_faulty (entry_fault dirs first g) (Puts (stack_after dirs first g.values) (put_by (place dirs first) g.values))

-- `/set` adds its keywords to the defaults
abbrev pub set_line : Given → Reading
set_line g = unless_faulty g.fault (Defaults g.values)

-- `..` closes the directory that was opened last
abbrev pub close_line : Stack → Reading
close_line dirs = if length dirs == 0 then Faulty BadLine else Puts (closed dirs) None

abbrev pub is_comment : List ℕ → Bool
is_comment first = starts_with nat_eq first (codes "#")

-- the kind of a line, given by its first word
abbrev pub head_of : List ℕ → Head
head_of first =
    if is_comment first then head.Comment else
    if bytes_eq first (codes "/set") then head.Set else
    if bytes_eq first (codes "/unset") then head.Unset else
    if bytes_eq first (codes "..") then head.Close else head.Entry

abbrev pub reading_by : Head → Values → Stack → List ℕ → List (List ℕ) → Reading
reading_by head.Comment defaults dirs first rest = Puts dirs None
reading_by head.Set defaults dirs first rest = set_line (given defaults rest)
reading_by head.Unset defaults dirs first rest = Defaults (unset defaults rest)
reading_by head.Close defaults dirs first rest = close_line dirs
reading_by head.Entry defaults dirs first rest = entry dirs first (given defaults rest)

-- the reading of a line's words, for these defaults and this stack
abbrev pub reading : Values → Stack → List (List ℕ) → Reading
reading defaults dirs [] = Puts dirs None
reading defaults dirs (first ∷ rest) = reading_by (head_of first) defaults dirs first rest

-- ---- the lines of a text, one after another

pub record State : Type 0 where
  pub tree : Nodes
  pub defaults : Values
  pub dirs : Stack

abbrev pub no_lines : State
no_lines = record { tree = []; defaults = no_values; dirs = [] }

-- the tree with one more node, if the node doesn't clash and there is room for it
abbrev pub with_node : ℕ → Nodes → List ℕ × Node → Result Nodes ManifestFault
with_node number tree e =
    if clashes tree e.0 e.1 then Err (Clash number) else
    if has_no_room tree e.0 then Err (TooMany number) else Ok (put tree e.0 e.1)

infixl 10 ◌>>=◌
abbrev pub ◌>>=◌ : {A B : Type 0} → Result A ManifestFault → (A → Result B ManifestFault) → Result B ManifestFault
(Ok x) >>= f = f x
(Err e) >>= f = Err e

abbrev pub with_put : ℕ → State → Stack → Option (List ℕ × Node) → Result State ManifestFault
with_put number s dirs None = Ok (record s { dirs = dirs })
with_put number s dirs (Some e) = with_node number s.tree e >>= (λ tree. Ok (record s { tree = tree; dirs = dirs }))

abbrev pub with_reading : ℕ → State → Reading → Result State ManifestFault
with_reading number s (Faulty kind) = Err (Bad number kind)
with_reading number s (Defaults defaults) = Ok (record s { defaults = defaults })
with_reading number s (Puts dirs e) = with_put number s dirs e

abbrev pub with_line : State → Line → Result State ManifestFault
with_line s line = with_reading line.number s (reading s.defaults s.dirs line.words)

abbrev pub with_lines : State → List Line → Result State ManifestFault
with_lines s [] = Ok s
with_lines s (line ∷ lines) = with_line s line >>= (λ t. with_lines t lines)

-- the tree made of the puts of all lines in order, or the first bad line
unfoldable pub outcome : List ℕ → Result Nodes ManifestFault
outcome text =
    if nat_le (length text) MANIFEST_MAX
    then with_lines no_lines (lines_in text) >>= (λ s. Ok s.tree)
    else Err (TooLong (length text))

abbrev pub tree_of : List ℕ → Option Nodes
tree_of text = result_ok (outcome text)

abbrev pub first_bad : List ℕ → Option ManifestFault
first_bad text = result_err (outcome text)
