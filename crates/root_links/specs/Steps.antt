-- The contracts of private functions: links are made, and directories are synced.
use Rattle.std.specs.Prelude.{◌≡◌, ◌⊎◌, ◌<◌, ℕ, Bool, true, false, List, [], ◌∷◌, ◌++◌, length, map, not, take}
use Rattle.std.specs.List.{list_any}
use Rattle.std.specs.Str.{bytes_eq}
use Rattle.image_tree.specs.Tree.{node_at}
use Rattle.lib_types.specs.Counts.{HasRisen}
use Rattle.path_walk.specs.Names.{parent}
use Rattle.root_folder.specs.Crash.{Leaves}
use Rattle.root_folder.specs.Folder.{FolderContent, FolderState}
use Rattle.root_folder.specs.Found.{Found, found_eq}
use Rattle.root_links.specs.declared.fault.LinkFault.{LinkFault}
use Rattle.root_links.specs.declared.fault.LinkFault.TheVariants as faults
use Rattle.root_links.specs.Links.{IsOfLinks, KeepsReadings, Linking, Stops, dirs_of, link_call, settling, with_links}
use Rattle.tree_face.specs.declared.disk.Tag.{Tag}
use Rattle.tree_face.specs.Follows.{IsFollowedBy, IsFollowedByPart}
use Rattle.tree_face.specs.Known.{IfKnown, Relates}

-- ---- links

pub record HasLinked (links : List Linking) (a b : FolderContent) : Type 0 where
  pub now : b.now ≡ with_links a.now links
  pub settled : (p : List ℕ) → b.settled p ≡ a.settled p

-- the first `n` links are made
pub record LinksFirst (tag : Tag) (links : List Linking) (n : ℕ) (old new : FolderState) : Type 0 where
  pub contents : Relates (HasLinked (take n links)) old.contents new.contents
  pub calls : Relates (IsFollowedBy (map (link_call tag) (take n links))) old.calls new.calls
  pub leaves : Leaves (IsOfLinks links) old new
  pub readings : KeepsReadings old new
  pub faults : new.faults ≡ old.faults

pub record MayHaveLinked (links : List Linking) (fault : LinkFault) (a b : FolderContent) : Type 0 where
  pub made : ℕ
  pub stops : Stops fault links made
  pub now : b.now ≡ with_links a.now (take made links)
  pub settled : (p : List ℕ) → b.settled p ≡ a.settled p

pub record FailsToLink (tag : Tag) (links : List Linking) (fault : LinkFault) (old new : FolderState) : Type 0 where
  pub contents : Relates (MayHaveLinked links fault) old.contents new.contents
  pub calls : Relates (IsFollowedByPart (map (link_call tag) links)) old.calls new.calls
  pub leaves : Leaves (IsOfLinks links) old new
  pub readings : KeepsReadings old new
  pub faults : HasRisen old.faults new.faults

-- ---- directories

-- the next directory, if there is one, is a different one
abbrev pub differs : List ℕ → List (List ℕ) → Bool
differs dir [] = true
differs dir (next ∷ dirs) = not (bytes_eq next dir)

abbrev pub is_last_of : List (List ℕ) → Bool
is_last_of [] = true
is_last_of (dir ∷ dirs) = differs dir dirs

-- the path is in one of these directories
abbrev pub is_in_one : List (List ℕ) → List ℕ → Bool
is_in_one dirs p = list_any (bytes_eq (parent p)) dirs

pub record HasSettled (dirs : List (List ℕ)) (a b : FolderContent) : Type 0 where
  pub now : b.now ≡ a.now
  pub inside : (p : List ℕ) → is_in_one dirs p ≡ true → b.settled p ≡ node_at b.now p
  pub others : (p : List ℕ) → is_in_one dirs p ≡ false → b.settled p ≡ a.settled p

pub record SettlesAll (dirs : List (List ℕ)) (old new : FolderState) : Type 0 where
  pub contents : Relates (HasSettled dirs) old.contents new.contents
  pub calls : Relates (IsFollowedBy (map settling dirs)) old.calls new.calls
  pub leaves : Leaves (IsOfLinks []) old new
  pub durable : IfKnown new.contents (λ c. (p : List ℕ) (x : Found) → is_in_one dirs p ≡ true → new.may p x ≡ found_eq (node_at c.now p) x)
  pub readings : KeepsReadings old new
  pub faults : new.faults ≡ old.faults

pub record MayHaveSettled (a b : FolderContent) : Type 0 where
  pub now : b.now ≡ a.now
  pub settled : (p : List ℕ) → (b.settled p ≡ a.settled p) ⊎ (b.settled p ≡ node_at b.now p)

-- the fsync of a link's directory failed
abbrev pub IsOfSettling : LinkFault → ℕ → Type 0
IsOfSettling (faults.Link number) links = ⊥
IsOfSettling (faults.Settle number) links = number < links

pub record FailsToSettle (links : List Linking) (fault : LinkFault) (old new : FolderState) : Type 0 where
  pub fault_is : IsOfSettling fault (length links)
  pub contents : Relates MayHaveSettled old.contents new.contents
  pub calls : Relates (IsFollowedByPart (map settling (dirs_of links))) old.calls new.calls
  pub leaves : Leaves (IsOfLinks []) old new
  pub readings : KeepsReadings old new
  pub faults : HasRisen old.faults new.faults

-- the first directories are synced, and the directories in `left` are not yet
pub record HasSettledFirst (all left : List (List ℕ)) (old new : FolderState) : Type 0 where
  pub first : List (List ℕ)
  pub parts : all ≡ first ++ left
  pub made : SettlesAll first old new
