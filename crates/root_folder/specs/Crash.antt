-- What a crash leaves at the paths of a directory. A link is durable after an fsync of its directory ("settled"). Until then a crash leaves
-- the old node or the new one, at each path independently (fsync(2), rename(2)).
use Rattle.std.specs.Prelude.{◌≡◌, ◌⊎◌, ◌≤◌, ◌||◌, ℕ, Bool, true, false, List, Some, None, Result, OnOk, OnErr}
use Rattle.std.specs.Str.{bytes_eq}
use Rattle.lib_types.specs.declared.fault.Failed.{Failed}
use Rattle.image_tree.specs.Tree.{node_at}
use Rattle.image_tree.specs.declared.node.Node.TheVariants.{Link}
use Rattle.tree_face.specs.Known.{IfKnown}
use Rattle.root_folder.specs.Folder.{FolderState}
use Rattle.root_folder.specs.Found.{Found, found_eq}
use Rattle.root_folder.specs.Whole.{IsWhole, can_link, is_in}

-- ---- one moment

-- the laws of a directory's clock
pub record HasMoments (s : FolderState) : Type 0 where
  -- a crash may leave the node that is at a path now, or the node that was there at the last fsync of its directory
  pub held : IfKnown s.contents (λ c. (p : List ℕ) → s.may p (node_at c.now p) ≡ true)
  pub settled : IfKnown s.contents (λ c. (p : List ℕ) → s.may p (c.settled p) ≡ true)
  -- if the content is unknown, a crash may leave anything
  pub unknown : s.contents ≡ None → (p : List ℕ) (x : Found) → s.may p x ≡ true
  -- starting now, the present is the only moment
  pub now : (p : List ℕ) (x : Found) → s.since s.time p x ≡ s.may p x
  -- what a crash since a later moment might have left, a crash since an earlier moment might have left too
  pub earlier : (t u : ℕ) (p : List ℕ) (x : Found) → t ≤ u → u ≤ s.time → s.since u p x ≡ true → s.since t p x ≡ true

-- every directory of a known tree has a node
abbrev pub HasWholeTree : FolderState → Type 0
HasWholeTree s = IfKnown s.contents (λ c. IsWhole c.now)

-- the whole known content is settled: a crash leaves exactly what is at each path now
pub record IsSettled (s : FolderState) : Type 0 where
  pub settled : IfKnown s.contents (λ c. (p : List ℕ) → c.settled p ≡ node_at c.now p)
  pub left : IfKnown s.contents (λ c. (p : List ℕ) (x : Found) → s.may p x ≡ found_eq (node_at c.now p) x)

-- ---- a call

-- What a crash since an earlier moment might have left is the union of two: what a crash before the call might have left, and what a crash
-- since the call might have left.
pub record GoesOn (old new : FolderState) : Type 0 where
  pub later : old.time ≤ new.time
  pub moments : (t : ℕ) (p : List ℕ) (x : Found) → t ≤ old.time → new.since t p x ≡ (old.since t p x || new.since old.time p x)

-- a crash in the call or after it may leave at this path exactly what a crash before the call might have left
pub record LeavesSame (p : List ℕ) (old new : FolderState) : Type 0 where
  pub now : (x : Found) → new.may p x ≡ old.may p x
  pub during : (t : ℕ) (x : Found) → t ≤ old.time → new.since t p x ≡ old.since t p x

-- .. and also what passes the test
pub record LeavesMore (test : Found → Bool) (p : List ℕ) (old new : FolderState) : Type 0 where
  pub now : (x : Found) → new.may p x ≡ (old.may p x || test x)
  pub during : (t : ℕ) (x : Found) → t ≤ old.time → new.since t p x ≡ (old.since t p x || test x)

-- .. and at most what passes the test
pub record LeavesAtMost (test : Found → Bool) (p : List ℕ) (old new : FolderState) : Type 0 where
  pub now : (x : Found) → new.may p x ≡ true → (old.may p x || test x) ≡ true
  pub during : (t : ℕ) (x : Found) → t ≤ old.time → new.since t p x ≡ true → (old.since t p x || test x) ≡ true

-- the new link is at the path
abbrev pub is_link_to : List ℕ → Found → Bool
is_link_to target = found_eq (Some (Link target))

-- a new link: a crash may leave it at its path; other paths aren't affected
pub record AddsLink (path target : List ℕ) (old new : FolderState) (result : Result (Unit {0}) Failed) : Type 0 where
  pub goes_on : GoesOn old new
  pub others : (p : List ℕ) → bytes_eq p path ≡ false → LeavesSame p old new
  pub done : OnOk result (LeavesMore (is_link_to target) path old new)
  pub failed : OnErr result (LeavesAtMost (is_link_to target) path old new)
  pub refused : IfKnown old.contents (λ c. can_link c.now path ≡ false → LeavesSame path old new)

-- an fsync of a directory: after it, a crash leaves what is at the paths in the directory
pub record Settles (dir : List ℕ) (old new : FolderState) (result : Result (Unit {0}) Failed) : Type 0 where
  pub goes_on : GoesOn old new
  pub others : (p : List ℕ) → is_in dir p ≡ false → LeavesSame p old new
  pub during : (t : ℕ) (p : List ℕ) (x : Found) → t ≤ old.time → new.since t p x ≡ old.since t p x
  pub done : OnOk result (IfKnown old.contents (λ c. (p : List ℕ) (x : Found) → is_in dir p ≡ true → new.may p x ≡ found_eq (node_at c.now p) x))
  pub failed : OnErr result ((p : List ℕ) → LeavesSame p old new)

-- ---- several calls

-- at each path, now and at each moment since t, a crash leaves what it might have left before, or what P allows
pub record Leaves (P : List ℕ → Found → Type 0) (old new : FolderState) : Type 0 where
  pub later : old.time ≤ new.time
  pub during : (t : ℕ) (p : List ℕ) (x : Found) → t ≤ old.time → new.since t p x ≡ true → (old.since t p x ≡ true) ⊎ P p x
  pub now : (p : List ℕ) (x : Found) → new.may p x ≡ true → (old.may p x ≡ true) ⊎ P p x
