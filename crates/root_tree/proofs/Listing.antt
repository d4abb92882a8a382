-- The listing of a directory, one name at a time, and of several directories in sequence.
use Rattle.std.proofs.Common.{◌≡◌, ◌<◌, ◌+◌, ◌-◌, ℕ, fold, List, [], ◌∷◌, ◌++◌, length, length-append, drop, get_or, add-one, drop-cons, refl, ap, sym, subst, ◌∙◌, Option, Some, None, Ok, Err, arith}
use Rattle.image_tree.specs.Tree.{Nodes, IsTree, kind_at}
use Rattle.image_tree.specs.Paths.{join}
use Rattle.image_tree.specs.declared.tree.Kind.TheVariants as kinds
use Rattle.image_tree.specs.declared.tree.TheConstants.{NODES_MAX}
use Rattle.lib_types.specs.Counts.{raised}
use Rattle.root_folder.specs.Whole.{IsWhole}
use Rattle.root_folder.specs.Crash.{HasWholeTree}
use Rattle.root_folder.specs.Folder.{FolderContent, FolderState, HasNoFault, KeepsFolder}
use Rattle.root_folder.specs.declared.folder.FolderCounts.{FolderCounts}
use Rattle.root_tree.proofs.Known.{all_read, on_dir, part_on, too_many}
use Rattle.root_tree.proofs.Readings.{read_on}
use Rattle.root_tree.specs.ReadTree.{HasCause, HasRead, IsTooLarge, KeepsMade, ReadsOn, ReadsTree, dirs_in}
use Rattle.root_tree.specs.SoFar.{Grows, IsFullAt, IsListing, IsPart, IsReadBut, IsReading, SoFar, listed, seen, so_far}
use Rattle.root_tree.specs.declared.fault.TreeRead.{TreeRead}
use Rattle.root_tree.specs.declared.fault.TreeRead.TheVariants.{Failed, TooLarge, NoMemory}
use Rattle.tree_face.specs.Known.{IfKnown}
use Rattle.lib_types.proofs.Counts.{raised_on}

-- ---- a known content

known_as : (P : FolderContent → Type 0) (a b : Option FolderContent) → b ≡ a → IfKnown b P → IfKnown a P
known_as P a b same known = subst (λ o. IfKnown o P) same known

-- ---- names of a directory

-- the next of the remaining names
pub next_name : (names : List (List ℕ)) (i : ℕ) (item name : List ℕ) → i < length names → item ≡ get_or names i item → name ≡ item → drop i names ≡ name ∷ drop (i + 1) names
next_name names i item name less is same =
    let step : drop i names ≡ get_or names i item ∷ drop (i + 1) names = rw (drop-cons names i item less, add-one) refl in
    step ∙ ap (λ z. z ∷ drop (i + 1) names) (sym is ∙ sym same)

grows_on : (a b c : SoFar) → Grows a b → Grows b c → Grows a c
grows_on a b c first next = record { dirs = omega (arith, first.dirs, next.dirs); nodes = omega (arith, first.nodes, next.nodes) }

module _ (dir : List ℕ) (names : List (List ℕ)) (name : List ℕ) (rest : List (List ℕ)) (start here : SoFar) (old middle : FolderState) (whole : HasWholeTree old) (is_tree : IsTree here.tree)
    (so_far : IsListing dir names (name ∷ rest) start here old middle) where
  seen_on : (known : Option FolderContent) (next : SoFar) → IfKnown known (λ c. next ≡ seen c.now dir here name)
      → IfKnown known (λ c. fold (seen c.now dir) here (name ∷ rest) ≡ fold (seen c.now dir) start names) → IfKnown known (λ c. fold (seen c.now dir) next rest ≡ fold (seen c.now dir) start names)
  seen_on None next is all = tt
  seen_on (Some c) next is all = ap (λ s. fold (seen c.now dir) s rest) is ∙ all

  part_of : (known : Option FolderContent) (next : SoFar) → IfKnown known (λ c. IsWhole c.now) → IfKnown known (λ c. next ≡ seen c.now dir here name)
      → IfKnown known (λ c. IsPart c.now start.tree → IsPart c.now here.tree) → IfKnown known (λ c. IsPart c.now start.tree → IsPart c.now next.tree)
  part_of None next whole is part = tt
  part_of (Some c) next whole is part = λ first. subst (λ (s : SoFar). IsPart c.now s.tree) (sym is) (part_on c.now whole here dir name is_tree.sorted (part first))

  pub listing_on : (next : SoFar) (new : FolderState) → IfKnown middle.contents (λ c. next ≡ seen c.now dir here name) → Grows here next → new.counts.lists ≡ middle.counts.lists
      → HasRead middle new → IsListing dir names rest start next old new
  listing_on next new is grows lists reads =
      let now = known_as _ old.contents middle.contents so_far.reads.keeps.contents is in
      record {
        seen_all = seen_on old.contents next now so_far.seen_all;
        part = part_of old.contents next whole now so_far.part;
        grows = grows_on start here next so_far.grows grows;
        reads = read_on old middle new so_far.reads reads;
        lists = lists ∙ so_far.lists;
      }

  full : (known : Option FolderContent) → IfKnown known (λ c. IsWhole c.now) → IfKnown known (λ c. IsFullAt c.now here.tree (join dir name))
      → IfKnown known (λ c. IsPart c.now start.tree → IsPart c.now here.tree) → IfKnown known (λ c. IsPart c.now start.tree) → IfKnown known (λ c. NODES_MAX < length c.now)
  full None whole at part first = tt
  full (Some c) whole at part first = too_many c.now whole here.tree (join dir name) is_tree.sorted (part first) at

  pub listing_full : IfKnown middle.contents (λ c. IsFullAt c.now here.tree (join dir name)) → IfKnown old.contents (λ c. IsPart c.now start.tree) → IsTooLarge old
  listing_full at first = full old.contents whole (known_as _ old.contents middle.contents so_far.reads.keeps.contents at) so_far.part first

-- ---- directories in sequence

module _ (tree : Nodes) (todo rest : List (List ℕ)) (dir : List ℕ) (old middle : FolderState) (whole : HasWholeTree old) (is_tree : IsTree tree)
    (so_far_read : IsReading (so_far tree todo) old middle) (taken : todo ≡ rest ++ dir ∷ []) where
  read_next : (known : Option FolderContent) (next : SoFar) → IfKnown known (λ c. IsWhole c.now) → IfKnown known (λ c. kind_at c.now dir ≡ kinds.Dir)
      → IfKnown known (λ c. next ≡ listed c.now dir (so_far tree rest)) → IfKnown known (λ c. IsReadBut c.now (so_far tree todo)) → IfKnown known (λ c. IsReadBut c.now next)
  read_next None next whole there is read = tt
  read_next (Some c) next whole there is read =
      subst (IsReadBut c.now) (sym is) (on_dir c.now whole tree rest dir is_tree.sorted there (subst (λ (l : List (List ℕ)). IsReadBut c.now (so_far tree l)) taken read))

  pub reading_on : (next : SoFar) (new : FolderState) → IfKnown middle.contents (λ c. kind_at c.now dir ≡ kinds.Dir)
      → IfKnown middle.contents (λ c. next ≡ listed c.now dir (so_far tree rest)) → Grows (so_far tree rest) next → new.counts.lists ≡ raised middle.counts.lists 1
      → HasRead middle new → IsReading next old new
  reading_on next new there is grows lists reads =
      let same = so_far_read.reads.keeps.contents in
      let size : length todo ≡ length rest + 1 = ap length taken ∙ length-append rest (dir ∷ []) in
      let number : 1 + dirs_in tree - length todo + 1 ≡ 1 + dirs_in next.tree - length next.todo = omega (arith, size, so_far_read.few, grows.dirs) in
      record {
        read = read_next old.contents next whole (known_as _ old.contents middle.contents same there) (known_as _ old.contents middle.contents same is) so_far_read.read;
        few = omega (arith, size, so_far_read.few, grows.dirs);
        lists = lists ∙ ap (λ n. raised n 1) so_far_read.lists ∙ raised_on old.counts.lists (1 + dirs_in tree - length todo) 1 ∙ ap (raised old.counts.lists) number;
        reads = read_on old middle new so_far_read.reads reads;
      }

module _ (tree : Nodes) (old new : FolderState) (whole : HasWholeTree old) (is_tree : IsTree tree) where
  whole_read : (known : Option FolderContent) → IfKnown known (λ c. IsWhole c.now) → IfKnown known (λ c. IsReadBut c.now (so_far tree [])) → IfKnown known (λ c. tree ≡ c.now)
  whole_read None whole read = tt
  whole_read (Some c) whole read = all_read c.now whole tree is_tree.sorted read

  pub reading_ends : (todo : List (List ℕ)) → todo ≡ [] → IsReading (so_far tree todo) old new → ReadsTree (Ok tree) old new
  reading_ends todo none is =
      let last = subst (λ (l : List (List ℕ)). IsReading (so_far tree l) old new) none is in
      record {
        tree = whole_read old.contents whole last.read;
        lists = last.lists ∙ ap (raised old.counts.lists) (omega arith);
        too_large = λ e. absurd (cc);
        reads = record { keeps = last.reads.keeps; made = last.reads.made; done = last.reads.no_fault; failed = tt };
      }
