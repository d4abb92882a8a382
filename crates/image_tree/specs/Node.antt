-- The valid nodes of a tree.
use Rattle.std.specs.Prelude.{ℕ, Bool, true, false, List, nat_le, ◌==◌, ◌&&◌, not, length}
use Rattle.std.specs.List.{list_all}
use Rattle.std.specs.Str.{is_utf8}
use Rattle.image_tree.specs.declared.node.Node.{Node}
use Rattle.image_tree.specs.declared.node.TheConstants.{NODE_TEXT_MAX}
use Rattle.image_tree.specs.declared.node.Node.TheVariants.{Dir, File, Link}

abbrev pub has_no_nul : List ℕ → Bool
has_no_nul = list_all (λ b. not (b == 0))

-- the target of a symbolic link (symlink(7)): 1 to 4095 bytes without NUL
abbrev pub is_target : List ℕ → Bool
is_target target = nat_le 1 (length target) && nat_le (length target) NODE_TEXT_MAX && has_no_nul target

-- the key under which a store keeps a file's content: 1 to 4095 bytes of UTF-8 without NUL
abbrev pub is_key : List ℕ → Bool
is_key key = is_target key && is_utf8 key

abbrev pub is_node : Node → Bool
is_node Dir = true
is_node (File key id) = is_key key
is_node (Link target) = is_target target

abbrev pub is_dir : Node → Bool
is_dir Dir = true
is_dir (File key id) = false
is_dir (Link target) = false
