-- The links of a plan, as they are made in a directory.
use Rattle.std.proofs.Common.{◌≡◌, true, List, [], ◌∷◌, map, refl}
use Rattle.std.proofs.lemmas.Bool.{and_from, and_parts}
use Rattle.image_tree.specs.Node.{is_target}
use Rattle.image_tree.specs.Paths.{is_path}
use Rattle.image_tree.specs.Tree.{Nodes, put}
use Rattle.image_tree.specs.declared.node.Node.TheVariants.{Link}
use Rattle.lib_types.specs.Name.{is_name}
use Rattle.link_plan.specs.declared.kinds.Planned.{Planned}
use Rattle.root_links.specs.Links as made
use Rattle.root_links.specs.Links.{are_valid}
use Rattle.root_update.specs.Update.{linking}
use Rattle.soname_links.proofs.Targets.{name_is_target}
use Rattle.soname_links.specs.Apply.{is_link, is_plan}
use Rattle.soname_links.specs.Plan.{with_links}

-- the links of a plan have paths and targets
pub valid_links : (plan : List Planned) → is_plan plan ≡ true → are_valid (map linking plan) ≡ true
valid_links [] h = refl
valid_links (planned ∷ plan) h =
    let parts = and_parts (is_link planned) (is_plan plan) h in
    let link = and_parts (is_path planned.path) (is_name planned.file) parts.0 in
    and_from (made.is_valid (linking planned)) (are_valid (map linking plan))
    (and_from (is_path planned.path) (is_target planned.file) link.0 (name_is_target planned.file link.1)) (valid_links plan parts.1)

-- making them one after another gives the planned tree
pub same_tree : (plan : List Planned) (t : Nodes) → made.with_links t (map linking plan) ≡ with_links t plan
same_tree [] t = refl
same_tree (planned ∷ plan) t = same_tree plan (put t planned.path (Link planned.file))
