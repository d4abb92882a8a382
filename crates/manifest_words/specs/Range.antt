-- Bytes are below 256, and the numbers of an identity below 2^64.
use Rattle.std.specs.Prelude.{ℕ, ◌<◌, ◌^◌, List, Option, Some, None}
use Rattle.std.specs.List.{AllByRecursion}
use Rattle.image_tree.specs.declared.node.Id.{Id}
use Rattle.image_tree.specs.declared.node.Node.{Node}
use Rattle.image_tree.specs.declared.node.Node.TheVariants.{Dir, File, Link}
use Rattle.image_tree.specs.Tree.{Nodes}

abbrev pub AreBytes : List ℕ → Type 0
AreBytes bytes = AllByRecursion (λ b. b < 256) bytes

pub record IsIdInRange (id : Id) : Type 0 where
  pub dev : id.dev < 2 ^ 64
  pub inode : id.inode < 2 ^ 64
  pub ctime : id.ctime < 2 ^ 64
  pub size : id.size < 2 ^ 64

abbrev pub IsSomeIdInRange : Option Id → Type 0
IsSomeIdInRange None = Unit {0}
IsSomeIdInRange (Some id) = IsIdInRange id

abbrev pub IsNodeInRange : Node → Type 0
IsNodeInRange Dir = Unit {0}
IsNodeInRange (File key id) = AreBytes key × IsSomeIdInRange id
IsNodeInRange (Link target) = AreBytes target

abbrev pub IsInRange : List ℕ × Node → Type 0
IsInRange e = AreBytes e.0 × IsNodeInRange e.1

abbrev pub AreInRange : Nodes → Type 0
AreInRange t = AllByRecursion IsInRange t
