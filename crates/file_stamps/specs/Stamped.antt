-- The stamps of an image's files. A stamp is a cached record for a file identity: what the file is (ldconfig(8): the auxiliary cache).
use Rattle.std.specs.Prelude.{◌≡◌, ℕ, true, List, [], fold, Option, Some, None, is_some, IfSome}
use Rattle.std.specs.List.{filter_map}
use Rattle.std.specs.Option.{option_and_then}
use Rattle.aux_cache.specs.Stamps.{put, stamp_of}
use Rattle.aux_cache.specs.declared.stamps.Stamp.{Stamp}
use Rattle.image_tree.specs.declared.node.Id.{Id}
use Rattle.image_tree.specs.declared.node.Node.{Node}
use Rattle.image_tree.specs.declared.node.Node.TheVariants as node
use Rattle.image_tree.specs.Tree.{Nodes, node_at}
use Rattle.elf_dynamic.specs.Begun.{key_in}
use Rattle.lib_types.specs.declared.analysis.Analysis.{Analysis}
use Rattle.tree_face.specs.Known.{IfKnown}
use Rattle.tree_face.specs.Store.{Contents}
use Rattle.file_stamps.specs.Files.{what_is}

-- ---- contents and identities

-- the content of the file at a path, if there is a file and its content is held
abbrev pub content_of : Contents → Nodes → List ℕ → Option (List ℕ)
content_of held t path = option_and_then held (key_in (node_at t path))

-- the identity of a file, if it has one
abbrev pub id_in : Option Node → Option Id
id_in (Some (node.File key id)) = id
id_in (Some node.Dir) = None
id_in (Some (node.Link target)) = None
id_in None = None

abbrev pub id_at : Nodes → List ℕ → Option Id
id_at t path = id_in (node_at t path)

-- ---- the stamps of files

-- the stamp of a file with this analysis, if the file has an identity
abbrev pub stamp_by : Option Id → Option Analysis → Option Stamp
stamp_by (Some id) (Some analysis) = Some (record { id = id; analysis = analysis })
stamp_by (Some id) None = None
stamp_by None analysis = None

abbrev pub stamp_at : Contents → Nodes → List ℕ → Option Stamp
stamp_at held t path = stamp_by (id_at t path) (what_is held t path)

-- the stamps of the files at these paths, in order
abbrev pub stamps_at : Contents → Nodes → List (List ℕ) → List Stamp
stamps_at held t paths = filter_map (stamp_at held t) paths

-- the stamps with others inserted, sorted by identity
abbrev pub with_stamps : List Stamp → List Stamp → List Stamp
with_stamps stamps others = fold put stamps others

-- the stamps of the files at these paths, sorted by identity
abbrev pub stamps_of : Contents → Nodes → List (List ℕ) → List Stamp
stamps_of held t paths = with_stamps [] (stamps_at held t paths)

-- ---- the use of stamps for files

-- the analysis that a stamp records
abbrev pub of_stamp : Stamp → Analysis
of_stamp stamp = stamp.analysis

-- the stamp of the identity of the file at a path
abbrev pub stamp_for : List Stamp → Nodes → List ℕ → Option Stamp
stamp_for stamps t path = option_and_then (stamp_of stamps) (id_at t path)

-- Stamps are true for a tree: if the identity of a file has a stamp, the file is what the stamp says.
abbrev pub AreTrue : Contents → Nodes → List Stamp → Type 0
AreTrue held t stamps = (path : List ℕ) → IfSome (stamp_for stamps t path) (λ stamp. what_is held t path ≡ Some (of_stamp stamp))

-- both lists have the same stamp for each identity, or none
abbrev pub StampTheSame : List Stamp → List Stamp → Type 0
StampTheSame stamps others = (id : Id) → stamp_of stamps id ≡ stamp_of others id

-- Equal identities imply equal contents: two files of equal identity, one in each tree, have equal contents, or neither content is held.
abbrev pub AreSame : Contents → Nodes → Nodes → Type 0
AreSame held t u = (p q : List ℕ) → is_some (id_at t p) ≡ true → id_at u q ≡ id_at t p → content_of held u q ≡ content_of held t p

-- a fact that holds if contents are known, the stamps are true, and equal identities imply equal contents
abbrev pub IfReliable : Option Contents → Nodes → List Stamp → (Contents → Type 0) → Type 0
IfReliable known t stamps P = IfKnown known (λ held. AreTrue held t stamps → AreSame held t t → P held)
