-- The nodes that a layer hides in the layers below it (OCI image-spec, layer.md, "Applying Changesets" and "Whiteouts").
use Rattle.std.specs.Prelude.{ℕ, Bool, List, ◌&&◌, ◌||◌, not}
use Rattle.std.specs.List.{list_any}
use Rattle.std.specs.Str.{bytes_eq}
use Rattle.image_tree.specs.Node.{is_dir}
use Rattle.image_tree.specs.Paths.{is_below}
use Rattle.image_tree.specs.Tree.{Nodes}
use Rattle.image_tree.specs.declared.node.Node.{Node}
use Rattle.layer_union.specs.Whiteouts.{is_special, makes_opaque, whites_out}

abbrev pub is_plain : List ℕ × Node → Bool
is_plain r = not (is_special r.0)

-- An entry r of a layer hides the entry e of a lower layer. The five cases are: r marks the path of e or a path above it; r makes a directory
-- above e opaque; r has the path of e; r is a file or link above e; e is a file or link above r.
abbrev pub hides_by : List ℕ × Node → List ℕ × Node → Bool
hides_by r e =
    whites_out r.0 e.0
    || makes_opaque r.0 e.0
    || (is_plain r && bytes_eq r.0 e.0)
    || (is_plain r && not (is_dir r.1) && is_below r.0 e.0)
    || (is_plain r && not (is_dir e.1) && is_below e.0 r.0)

-- the layer hides the entry of a lower layer
abbrev pub hides : Nodes → List ℕ × Node → Bool
hides layer e = list_any (λ r. hides_by r e) layer
