-- The directory of an image: the names in its directories, the nodes at its paths, and the links that are made in it (readdir(3), lstat(2),
-- symlink(2), fsync(2)).
use Rattle.std.specs.Prelude.{◌≡◌, ◌⊎◌, ◌≤◌, ℕ, Bool, true, false, List, [], ◌∷◌, Option, IsErrOf, IsTrue, Result, IfOk, IfSome, OnOk, OnErr}
use Rattle.std.specs.Cmp.Lexicographic.{slice_cmp}
use Rattle.std.specs.List.Sorted.{IsStrictlySortedBy}
use Rattle.std.specs.Ordering.{nat_cmp}
use Rattle.lib_types.specs.Counts.{raised, HasRisen}
use Rattle.lib_types.specs.declared.fault.Failed.{Failed}
use Rattle.image_tree.specs.Node.{is_node}
use Rattle.image_tree.specs.Tree.{Nodes, children_of, kind_at, node_at, put}
use Rattle.image_tree.specs.declared.node.Node.TheVariants as nodes
use Rattle.image_tree.specs.declared.tree.Kind.TheVariants as kinds
use Rattle.tree_face.specs.Follows.{IsFollowedBy, IsFollowedByPart}
use Rattle.tree_face.specs.Known.{IfKnown, Relates}
use Rattle.root_folder.specs.Found.{Found}
use Rattle.root_folder.specs.Whole.{can_link, is_in}
use Rattle.root_folder.specs.declared.folder.FolderCall.{FolderCall}
use Rattle.root_folder.specs.declared.folder.FolderCall.TheVariants as calls
use Rattle.root_folder.specs.declared.folder.FolderCounts.{FolderCounts}
use Rattle.root_folder.specs.declared.folder.FolderRead.{FolderRead}
use Rattle.root_folder.specs.declared.folder.FolderRead.TheVariants as reads

pub record FolderContent : Type 0 where
  -- the tree
  pub now : Nodes
  -- what was at each path at the last fsync of its directory
  pub settled : List ℕ → Found

pub record FolderState : Type 0 where
  -- the content, if known
  pub contents : Option FolderContent
  -- the clock
  pub time : ℕ
  -- whether a crash now may leave this node, or nothing, at a path
  pub may : List ℕ → Found → Bool
  -- whether a crash at this moment or a later one might have left it
  pub since : ℕ → List ℕ → Found → Bool
  -- the calls in order, if known; a call that failed may be missing
  pub calls : Option (List FolderCall)
  pub counts : FolderCounts
  pub faults : ℕ
  -- how many of the faults were in calls that read
  pub read_faults : ℕ

-- ---- every call

-- the counts with this call added
abbrev pub counted : FolderCall → FolderCounts → FolderCounts
counted (calls.Names dir) c = record c { lists = raised c.lists 1 }
counted (calls.Look path) c = record c { looks = raised c.looks 1 }
counted (calls.Link tag path target) c = record c { links = raised c.links 1 }
counted (calls.Settle dir) c = record c { settles = raised c.settles 1 }

-- the counts of faults stay the same
pub record HasNoFault (old new : FolderState) : Type 0 where
  pub faults : new.faults ≡ old.faults
  pub read_faults : new.read_faults ≡ old.read_faults

-- ---- calls that read

-- the content stays the same, and so does what a crash may leave
pub record KeepsFolder (old new : FolderState) : Type 0 where
  pub contents : new.contents ≡ old.contents
  pub time : new.time ≡ old.time
  pub may : new.may ≡ old.may
  pub since : new.since ≡ old.since

-- a call that reads
pub record Reads {A : Type 0} (call : FolderCall) (old new : FolderState) (result : Result A FolderRead) : Type 0 where
  pub keeps : KeepsFolder old new
  pub counts : new.counts ≡ counted call old.counts
  pub added : OnOk result (Relates (IsFollowedBy (call ∷ [])) old.calls new.calls)
  pub may_add : OnErr result (Relates (IsFollowedByPart (call ∷ [])) old.calls new.calls)
  pub faults : old.faults ≤ new.faults
  pub read_faults : old.read_faults ≤ new.read_faults
  pub no_fault : OnOk result (HasNoFault old new)
  pub no_memory : IsErrOf result reads.NoMemory → HasNoFault old new
  pub cause : IsErrOf result reads.Failed → HasRisen old.faults new.faults
  pub read_cause : IsErrOf result reads.Failed → HasRisen old.read_faults new.read_faults

-- the names in a directory, each once, sorted by their bytes
pub record GivesNames (dir : List ℕ) (old : FolderState) (result : Result (List (List ℕ)) FolderRead) : Type 0 where
  pub there : OnOk result (IfKnown old.contents (λ c. kind_at c.now dir ≡ kinds.Dir))
  pub names : IfOk result (λ names. IfKnown old.contents (λ c. names ≡ children_of c.now dir))
  pub sorted : IfOk result (λ names. IsStrictlySortedBy (slice_cmp nat_cmp) names)

-- the node at a path, if there is one
pub record GivesNode (path : List ℕ) (old : FolderState) (result : Result Found FolderRead) : Type 0 where
  pub node : IfOk result (λ found. IfKnown old.contents (λ c. found ≡ node_at c.now path))
  pub valid : IfOk result (λ found. IfSome found (λ node. IsTrue (is_node node)))

-- ---- changes of the content

-- nothing changes
pub record KeepsContent (a b : FolderContent) : Type 0 where
  pub now : b.now ≡ a.now
  pub settled : (p : List ℕ) → b.settled p ≡ a.settled p

-- the link is made at an unused path, or replaces a link
pub record Links (path target : List ℕ) (a b : FolderContent) : Type 0 where
  pub room : can_link a.now path ≡ true
  pub now : b.now ≡ put a.now path (nodes.Link target)
  pub settled : (p : List ℕ) → b.settled p ≡ a.settled p

-- a link call that failed: the link is made, or nothing changes
abbrev pub MayLink : List ℕ → List ℕ → FolderContent → FolderContent → Type 0
MayLink path target a b = KeepsContent a b ⊎ Links path target a b

-- an fsync of the directory: the nodes directly in it are settled
pub record SettlesIn (dir : List ℕ) (a b : FolderContent) : Type 0 where
  pub there : kind_at a.now dir ≡ kinds.Dir
  pub now : b.now ≡ a.now
  pub inside : (p : List ℕ) → is_in dir p ≡ true → b.settled p ≡ node_at a.now p
  pub others : (p : List ℕ) → is_in dir p ≡ false → b.settled p ≡ a.settled p

-- ---- calls that write

-- a call that writes: `change` is its effect on the content if it returns Ok, `left` its effect if it returns Failed
pub record Does (call : FolderCall) (change left : FolderContent → FolderContent → Type 0) (old new : FolderState) (result : Result (Unit {0}) Failed) : Type 0 where
  pub done : OnOk result (Relates change old.contents new.contents)
  pub failed : OnErr result (Relates left old.contents new.contents)
  pub counts : new.counts ≡ counted call old.counts
  pub added : OnOk result (Relates (IsFollowedBy (call ∷ [])) old.calls new.calls)
  pub may_add : OnErr result (Relates (IsFollowedByPart (call ∷ [])) old.calls new.calls)
  pub faults : old.faults ≤ new.faults
  pub no_fault : OnOk result (new.faults ≡ old.faults)
  pub read_faults : new.read_faults ≡ old.read_faults
  pub cause : OnErr result (HasRisen old.faults new.faults)
