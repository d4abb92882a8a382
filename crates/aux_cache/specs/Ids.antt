-- Identities of files: the device and the inode from stat(2), the time of the last status change, and the size.
use Rattle.std.specs.Prelude.{ℕ, List, [], ◌∷◌}
use Rattle.std.specs.Cmp.Lexicographic.{slice_cmp}
use Rattle.std.specs.Ordering.{nat_cmp, on}
use Rattle.std.specs.declared.cmp.Ordering.{Ordering}
use Rattle.image_tree.specs.declared.node.Id.{Id}

-- the fields of an identity, in the order of comparison
abbrev pub numbers_of : Id → List ℕ
numbers_of id = id.dev ∷ id.inode ∷ id.ctime ∷ id.size ∷ []

-- identities are ordered by the first field that differs
abbrev pub id_cmp : Id → Id → Ordering
id_cmp = on numbers_of (slice_cmp nat_cmp)
