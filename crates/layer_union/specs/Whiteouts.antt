-- The special names of an image's layers (OCI image-spec, layer.md, "Whiteouts" and "Opaque Whiteout").
use Rattle.std.specs.Prelude.{ℕ, Bool, List, ◌&&◌, ◌||◌, not, nat_eq, codes, drop, length}
use Rattle.std.specs.List.{list_any, slice_split, starts_with}
use Rattle.std.specs.Str.{bytes_eq}
use Rattle.lib_types.specs.Name.{is_name}
use Rattle.image_tree.specs.Paths.{is_below, is_slash, join}
use Rattle.path_walk.specs.Names.{last, parent}

-- what the special names begin with
abbrev pub prefix : List ℕ
prefix = codes ".wh."

-- the name that makes its directory opaque
abbrev pub opaque_name : List ℕ
opaque_name = codes ".wh..wh..opq"

-- what the other reserved names begin with; they mark nothing
abbrev pub reserved : List ℕ
reserved = codes ".wh..wh."

-- a component of the path begins with `.wh.`
abbrev pub is_special : List ℕ → Bool
is_special path = list_any (λ name. starts_with nat_eq name prefix) (slice_split is_slash path)

-- the last component is the only one that begins with `.wh.`
abbrev pub is_last_special : List ℕ → Bool
is_last_special path = is_special path && not (is_special (parent path))

abbrev pub is_opaque : List ℕ → Bool
is_opaque path = is_last_special path && bytes_eq (last path) opaque_name

abbrev pub is_whiteout : List ℕ → Bool
is_whiteout path = is_last_special path && not (starts_with nat_eq (last path) reserved)

-- the name that a whiteout marks: the rest of its own name
abbrev pub marked_name : List ℕ → List ℕ
marked_name path = drop (length prefix) (last path)

-- the path that a whiteout marks: the marked name in the same directory
abbrev pub marked : List ℕ → List ℕ
marked path = join (parent path) (marked_name path)

-- the whiteout `mark` marks the path or a path above it
abbrev pub whites_out : List ℕ → List ℕ → Bool
whites_out mark path = is_whiteout mark && (bytes_eq (marked mark) path || is_below (marked mark) path)

-- `mark` makes a directory above the path opaque
abbrev pub makes_opaque : List ℕ → List ℕ → Bool
makes_opaque mark path = is_opaque mark && is_below (parent mark) path

-- the rest of a whiteout's name isn't a name
abbrev pub is_bad : List ℕ → Bool
is_bad path = is_whiteout path && not (is_name (marked_name path))
