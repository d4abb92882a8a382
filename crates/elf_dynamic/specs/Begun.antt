-- The keys of files that are opened in order. A call ends at the first key that isn't held.
use Rattle.std.specs.Prelude.{◌≡◌, ℕ, Bool, true, List, [], ◌∷◌, if◌then◌else◌, Option, Some, None, is_none, IsSomeAnd, sum_by, option_map}
use Rattle.std.specs.List.{filter_map, list_any}
use Rattle.image_tree.specs.declared.node.Node.{Node}
use Rattle.image_tree.specs.declared.node.Node.TheVariants as node
use Rattle.tree_face.specs.Store.{Contents, StoreState}
use Rattle.tree_face.specs.StoreUse.{Ending, ReadsFiles}
use Rattle.image_tree.specs.Tree.{Nodes, node_at}
use Rattle.elf_dynamic.specs.Taken.{most_under}

-- the key of a file
abbrev pub key_in : Option Node → Option (List ℕ)
key_in (Some (node.File key id)) = Some key
key_in (Some node.Dir) = None
key_in (Some (node.Link target)) = None
key_in None = None

-- the keys of the files at these paths, in order
abbrev pub file_keys : Nodes → List (List ℕ) → List (List ℕ)
file_keys t paths = filter_map (λ path. key_in (node_at t path)) paths

abbrev pub is_lacking : Contents → List ℕ → Bool
is_lacking held key = is_none (held key)

-- one of these keys isn't held
abbrev pub lacks_one : Contents → List (List ℕ) → Bool
lacks_one held keys = list_any (is_lacking held) keys

-- these keys up to and including the first that isn't held
abbrev pub until_lacking : Contents → List (List ℕ) → List (List ℕ)
until_lacking held [] = []
until_lacking held (key ∷ keys) = key ∷ (if is_lacking held key then [] else until_lacking held keys)

-- the same, if it may be unknown which keys are held
abbrev pub until_known : Option Contents → List (List ℕ) → List (List ℕ)
until_known None keys = keys
until_known (Some held) keys = until_lacking held keys

-- the maximum number of bytes read from the contents of these keys
abbrev pub most_of : Contents → List (List ℕ) → ℕ
most_of held keys = sum_by (most_under held) keys

abbrev pub most_known_of : Option Contents → List (List ℕ) → Option ℕ
most_known_of held keys = option_map (λ held. most_of held keys) held

-- one of these keys isn't held
abbrev pub LacksOne : Option Contents → List (List ℕ) → Type 0
LacksOne known keys = IsSomeAnd known (λ held. lacks_one held keys ≡ true)

-- The call opens the files of these keys in order, up to and including the first key that the store doesn't hold.
abbrev pub ReadsBy : Option Contents → List (List ℕ) → Ending → StoreState → StoreState → Type 0
ReadsBy known keys ending old new =
    ReadsFiles (LacksOne known keys) (Some (until_known known keys)) (most_known_of known (until_known known keys)) ending old new

abbrev pub ReadsKeys : List (List ℕ) → Ending → StoreState → StoreState → Type 0
ReadsKeys keys ending old new = ReadsBy old.held keys ending old new
