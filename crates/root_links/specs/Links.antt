-- Links are made in a directory in order, and then made durable (symlink(2), rename(2), fsync(2)).
use Rattle.std.specs.Prelude.{◌≡◌, ◌⊎◌, ◌<◌, ◌+◌, ◌&&◌, ℕ, Bool, true, false, List, [], ◌∷◌, ◌++◌, fold, length, map, take, Some}
use Rattle.std.specs.List.{dedup, list_all, list_any}
use Rattle.std.specs.Str.{bytes_eq}
use Rattle.image_tree.specs.Node.{is_target}
use Rattle.image_tree.specs.Paths.{is_path}
use Rattle.image_tree.specs.Tree.{Nodes, node_at, put}
use Rattle.image_tree.specs.declared.node.Node.TheVariants as nodes
use Rattle.lib_types.specs.Counts.{HasRisen}
use Rattle.path_walk.specs.Names.{parent}
use Rattle.root_folder.specs.Crash.{Leaves}
use Rattle.root_folder.specs.Folder.{FolderContent, FolderState}
use Rattle.root_folder.specs.Found.{Found, found_eq}
use Rattle.root_folder.specs.declared.folder.FolderCall.{FolderCall}
use Rattle.root_folder.specs.declared.folder.FolderCall.TheVariants as calls
use Rattle.root_links.specs.declared.fault.LinkFault.{LinkFault}
use Rattle.root_links.specs.declared.fault.LinkFault.TheVariants as faults
use Rattle.root_links.specs.declared.making.NewLink.{NewLink}
use Rattle.tree_face.specs.declared.disk.Tag.{Tag}
use Rattle.tree_face.specs.Follows.{IsFollowedBy, IsFollowedByPart}
use Rattle.tree_face.specs.Known.{IfKnown, Relates}

-- ---- links

-- a path, and the target of the link there
abbrev pub Linking : Type 0
Linking = List ℕ × List ℕ

abbrev pub link_of : NewLink → Linking
link_of link = (link.path.now, link.target.now)

abbrev pub links_in : List NewLink → List Linking
links_in links = map link_of links

abbrev pub is_valid : Linking → Bool
is_valid l = is_path l.0 && is_target l.1

abbrev pub are_valid : List Linking → Bool
are_valid links = list_all is_valid links

-- the tree with these links
abbrev pub with_link : Nodes → Linking → Nodes
with_link t l = put t l.0 (nodes.Link l.1)

abbrev pub with_links : Nodes → List Linking → Nodes
with_links t links = fold with_link t links

-- ---- their directories

abbrev pub dir_of : Linking → List ℕ
dir_of l = parent l.0

abbrev pub dirs_in : List Linking → List (List ℕ)
dirs_in links = map dir_of links

-- The directories of the links. Consecutive links in the same directory give one entry.
abbrev pub dirs_of : List Linking → List (List ℕ)
dirs_of links = dedup bytes_eq (dirs_in links)

-- the path is directly in the directory of a link
abbrev pub is_next_to : List Linking → List ℕ → Bool
is_next_to links p = list_any (bytes_eq (parent p)) (dirs_in links)

-- ---- the calls

abbrev pub link_call : Tag → Linking → FolderCall
link_call tag l = calls.Link tag l.0 l.1

abbrev pub settling : List ℕ → FolderCall
settling dir = calls.Settle dir

abbrev pub calls_of : Tag → List Linking → List FolderCall
calls_of tag links = map (link_call tag) links ++ map settling (dirs_of links)

-- ---- contents

-- all links exist, and their directories are synced
pub record HasMade (links : List Linking) (a b : FolderContent) : Type 0 where
  pub now : b.now ≡ with_links a.now links
  pub inside : (p : List ℕ) → is_next_to links p ≡ true → b.settled p ≡ node_at b.now p
  pub others : (p : List ℕ) → is_next_to links p ≡ false → b.settled p ≡ a.settled p

-- `made` is a possible number of existing links after this call failed
abbrev pub Stops : LinkFault → List Linking → ℕ → Type 0
Stops (faults.Link number) links made = (number < length links) × ((made ≡ number) ⊎ (made ≡ number + 1))
Stops (faults.Settle number) links made = (number < length links) × (made ≡ length links)

-- the first links exist, and nothing else changed
pub record MayHaveMade (links : List Linking) (fault : LinkFault) (a b : FolderContent) : Type 0 where
  pub made : ℕ
  pub stops : Stops fault links made
  pub now : b.now ≡ with_links a.now (take made links)
  pub settled : (p : List ℕ) → (b.settled p ≡ a.settled p) ⊎ (b.settled p ≡ node_at b.now p)

-- ---- crashes

-- what is at this path is one of the links
abbrev pub IsOfLinks : List Linking → List ℕ → Found → Type 0
IsOfLinks [] p x = ⊥
IsOfLinks (l ∷ links) p x = ((p ≡ l.0) × (x ≡ Some (nodes.Link l.1))) ⊎ IsOfLinks links p x

-- ---- the whole directory

-- the counts of calls that read stay the same
pub record KeepsReadings (old new : FolderState) : Type 0 where
  pub lists : new.counts.lists ≡ old.counts.lists
  pub looks : new.counts.looks ≡ old.counts.looks
  pub read_faults : new.read_faults ≡ old.read_faults

-- all links are made and durable, by these calls, and no call fails
pub record MakesAll (tag : Tag) (links : List Linking) (old new : FolderState) : Type 0 where
  pub contents : Relates (HasMade links) old.contents new.contents
  pub calls : Relates (IsFollowedBy (calls_of tag links)) old.calls new.calls
  pub leaves : Leaves (IsOfLinks links) old new
  pub durable : IfKnown new.contents (λ c. (p : List ℕ) (x : Found) → is_next_to links p ≡ true → new.may p x ≡ found_eq (node_at c.now p) x)
  pub readings : KeepsReadings old new
  pub faults : new.faults ≡ old.faults

-- a call failed, and the count of faults rose
pub record MakesPart (tag : Tag) (links : List Linking) (fault : LinkFault) (old new : FolderState) : Type 0 where
  pub contents : Relates (MayHaveMade links fault) old.contents new.contents
  pub calls : Relates (IsFollowedByPart (calls_of tag links)) old.calls new.calls
  pub leaves : Leaves (IsOfLinks links) old new
  pub readings : KeepsReadings old new
  pub faults : HasRisen old.faults new.faults
