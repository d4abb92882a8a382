-- The links of a directory, by name and target.
use Rattle.std.specs.Prelude.{◌≡◌, ℕ, List, Some}
use Rattle.std.specs.List.{AllByRecursion}
use Rattle.image_tree.specs.Paths.{join}
use Rattle.image_tree.specs.Tree.{Nodes, node_at}
use Rattle.image_tree.specs.declared.node.Node.TheVariants.{Link}
use Rattle.library_files.specs.Link.{FollowedLink}

-- a directory of a tree
pub record Folder : Type 0 where
  pub tree : Nodes
  pub path : List ℕ

-- the directory has a link with this name and this target
abbrev pub IsLinked : Folder → List ℕ → List ℕ → Type 0
IsLinked folder name target = node_at folder.tree (join folder.path name) ≡ Some (Link target)

-- the directory has these links
abbrev pub AreLinked : Folder → List FollowedLink → Type 0
AreLinked folder links = AllByRecursion (λ link. IsLinked folder link.name link.target) links

-- a directory that has all of these links has the links that are left
abbrev pub AreLeftOf : List FollowedLink → List FollowedLink → Type 0
AreLeftOf links left = (folder : Folder) → AreLinked folder links → AreLinked folder left

-- a directory that has these links has a link with this name and this target
abbrev pub IsTargetAmong : List FollowedLink → List ℕ → List ℕ → Type 0
IsTargetAmong links name target = (folder : Folder) → AreLinked folder links → IsLinked folder name target
