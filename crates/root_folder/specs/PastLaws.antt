-- In-memory directories satisfy the laws of a directory's clock.
use Rattle.std.specs.Prelude.{◌≡◌, ◌≤◌, ◌<◌, ◌&&◌, ◌||◌, ℕ, Bool, true, false, nat_le, is_some, List, [], ◌∷◌, length, reverse, Some, None}
use Rattle.std.specs.Str.{bytes_eq}
use mathlib.Core.Path.{refl, sym, ap}
use mathlib.Core.Bool.{false≢true}
use Rattle.std.proofs.lemmas.Bool.{and_from, and_parts}
use Rattle.std.proofs.lemmas.Bool.Decides.{nat_tests}
use Rattle.std.proofs.lemmas.Slice.Eq.{bytes_eq-Decides}
use Rattle.std.proofs.Common.{arith}
use Rattle.lib_types.proofs.SortedPairs.{by_test}
use Rattle.image_tree.specs.Tree.{node_at}
use Rattle.image_tree.specs.declared.node.Id.{Id}
use Rattle.image_tree.specs.declared.node.Node.{Node}
use Rattle.image_tree.specs.declared.node.Node.TheVariants.{Dir, File, Link}
use Rattle.root_folder.specs.Crash.{HasMoments, HasWholeTree}
use Rattle.root_folder.specs.Found.{Found, found_eq, id_eq, node_eq}
use Rattle.root_folder.specs.MemFolder.{content_of, folder_state, tree_of}
use Rattle.root_folder.specs.Past.{found_before, is_settled_by, left_in, once_left_in, settled_in}
use Rattle.root_folder.specs.declared.memory.folders.MemFolder.{MemFolder}
use Rattle.root_folder.specs.declared.memory.past.Change.{Change}

or_right : (a b : Bool) → b ≡ true → (a || b) ≡ true
or_right true b e = refl
or_right false b e = e

or_left : (a b : Bool) → a ≡ true → (a || b) ≡ true
or_left true b e = refl
or_left false b e = absurd (false≢true e)

or_none : (a : Bool) → (a || false) ≡ a
or_none true = refl
or_none false = refl

or_map : (a b c d : Bool) → (a ≡ true → c ≡ true) → (b ≡ true → d ≡ true) → (a || b) ≡ true → (c || d) ≡ true
or_map true b c d f g e = or_left c d (f refl)
or_map false b c d f g e = or_right c d (g e)

-- ---- equality of nodes is reflexive

same_bytes : (xs : List ℕ) → bytes_eq xs xs ≡ true
same_bytes xs = (bytes_eq-Decides xs xs).1 refl

same_id : (id : Id) → id_eq id id ≡ true
same_id id = grind (arith, nat_tests)

same_node : (n : Node) → node_eq n n ≡ true
same_node Dir = refl
same_node (File key None) = and_from _ _ (same_bytes key) refl
same_node (File key (Some id)) = and_from _ _ (same_bytes key) (same_id id)
same_node (Link target) = same_bytes target

pub same_found : (x : Found) → found_eq x x ≡ true
same_found None = refl
same_found (Some n) = same_node n

-- ---- the moments of a path

module _ (p : List ℕ) where
  -- a crash may leave what is at the path now
  pub left_now : (now : Found) (cs : List Change) → left_in p now cs now ≡ true
  left_now now [] = same_found now
  left_now now (c ∷ cs) = or_left _ _ (same_found now)

  -- a crash may leave what was at the path at the last fsync of its directory
  pub left_settled : (now : Found) (cs : List Change) → left_in p now cs (settled_in p now cs) ≡ true
  left_settled now [] = same_found now
  left_settled now (c ∷ cs) = by_test (is_settled_by p c)
      (λ e. rw e (or_left _ _ (same_found now)))
      (λ e. rw e (or_right _ _ (left_settled (found_before p now c) cs)))

  module _ (x : Found) where
    -- now is the moment with the greatest number
    never : (t : ℕ) (now : Found) (cs : List Change) → length cs < t → once_left_in t p now cs x ≡ false
    never t now [] h = let no : nat_le t 0 ≡ false = grind (arith, nat_tests) in rw no refl
    never t now (c ∷ cs) h =
        let no : nat_le t (length (c ∷ cs)) ≡ false = grind (arith, nat_tests) in
        rw (no, never t (found_before p now c) cs (omega arith)) refl

    pub one_moment : (now : Found) (cs : List Change) → once_left_in (length cs) p now cs x ≡ left_in p now cs x
    one_moment now [] = refl
    one_moment now (c ∷ cs) =
        let yes : nat_le (length (c ∷ cs)) (length (c ∷ cs)) ≡ true = grind (arith, nat_tests) in
        rw (yes, never (length (c ∷ cs)) (found_before p now c) cs (omega arith)) (or_none (left_in p now (c ∷ cs) x))

    pub from_earlier : (t u : ℕ) (now : Found) (cs : List Change) → t ≤ u → once_left_in u p now cs x ≡ true → once_left_in t p now cs x ≡ true
    from_earlier t u now [] le h = earlier_too t u 0 (left_in p now [] x) le h
      where
        earlier_too : (t u n : ℕ) (b : Bool) → t ≤ u → (nat_le u n && b) ≡ true → (nat_le t n && b) ≡ true
        earlier_too t u n b le h = let parts = and_parts (nat_le u n) b h in let within = parts.0 in and_from _ _ (grind (arith, nat_tests)) parts.1
    from_earlier t u now (c ∷ cs) le h =
        or_map _ _ _ _
        (λ a. let parts = and_parts (nat_le u (length (c ∷ cs))) (left_in p now (c ∷ cs) x) a in let within = parts.0 in and_from _ _ (grind (arith, nat_tests)) parts.1)
        (λ b. from_earlier t u (found_before p now c) cs le b)
        h

-- ---- directories

is_none : {A : Type 0} (a : A) → Some a ≡ None → ⊥
is_none a e = false≢true (sym (ap is_some e))

pub has_moments : (f : MemFolder) → HasMoments (folder_state f)
has_moments f = record {
  held = λ p. left_now p (node_at (tree_of f) p) (reverse f.changes.items);
  settled = λ p. left_settled p (node_at (tree_of f) p) (reverse f.changes.items);
  unknown = λ e. absurd (is_none (content_of f) e);
  now = λ p x. one_moment p x (node_at (tree_of f) p) (reverse f.changes.items);
  earlier = λ t u p x le within any. from_earlier p x t u (node_at (tree_of f) p) (reverse f.changes.items) le any;
}

pub has_whole_tree : (f : MemFolder) → HasWholeTree (folder_state f)
has_whole_tree f = f.tree.whole
