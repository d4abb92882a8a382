-- Adding a node to the tree, and a directory to the list.
use Rattle.std.proofs.Common.{◌≡◌, ◌≤◌, ◌+◌, ℕ, Bool, true, false, cond, List, [], ◌∷◌, ◌++◌, length, length-append, refl, ap, sym, subst, ◌∙◌, None, option_map, unwrap_or, arith}
use Rattle.std.proofs.lemmas.Map.Entries.{sum_by-insert_entry}
use Rattle.lib_types.proofs.SortedPairs.{by_test}
use Rattle.image_tree.proofs.Order.{path_total}
use Rattle.image_tree.specs.Node.{is_dir}
use Rattle.image_tree.specs.Tree as tree
use Rattle.image_tree.specs.Tree.{Nodes, IsTree, clashes, node_at}
use Rattle.image_tree.specs.declared.node.Node.{Node}
use Rattle.root_tree.proofs.Parts.{one_longer}
use Rattle.root_tree.specs.ReadTree.{count_dir, dirs_in}
use Rattle.root_tree.specs.SoFar.{Grows, IsNew, SoFar, dirs_with, so_far, with_node}

more_dirs : (t : Nodes) (path : List ℕ) (node : Node) → IsTree t → node_at t path ≡ None → dirs_in (tree.put t path node) ≡ dirs_in t + count_dir node
more_dirs t path node is none =
    let sum = sum_by-insert_entry count_dir path_total t path node is.sorted in
    let nothing : unwrap_or (option_map count_dir (node_at t path)) 0 ≡ 0 = ap (λ o. unwrap_or (option_map count_dir o) 0) none in
    omega (arith, sum, nothing)

as_many : (path : List ℕ) (node : Node) → length (dirs_with path node) ≡ count_dir node
as_many path node = by (is_dir node)
  where
    by : (b : Bool) → length (cond b (path ∷ []) []) ≡ cond b 1 0
    by true = refl
    by false = refl

at_most_one : (node : Node) → count_dir node ≤ 1
at_most_one node = by (is_dir node)
  where
    by : (b : Bool) → cond b 1 0 ≤ 1
    by true = omega arith
    by false = omega arith

nothing_more : (s : SoFar) → Grows s s
nothing_more s = record { dirs = refl; nodes = omega arith }

one_more : (t : Nodes) (todo : List (List ℕ)) (path : List ℕ) (node : Node) → IsTree t → IsNew t path node
    → Grows (so_far t todo) (so_far (tree.put t path node) (todo ++ dirs_with path node))
one_more t todo path node is fresh =
    let longer = one_longer t path node fresh.free in
    let dirs = more_dirs t path node is fresh.free in
    let todos = length-append todo (dirs_with path node) in
    let count = as_many path node in
    let one = at_most_one node in
    record { dirs = omega (arith, longer, dirs, todos, count); nodes = omega (arith, longer, todos, count, one) }

pub grows : (t : Nodes) (todo : List (List ℕ)) (path : List ℕ) (node : Node) (new : SoFar) → IsTree t → IsNew t path node
    → new ≡ with_node (so_far t todo) path node → Grows (so_far t todo) new
grows t todo path node new is fresh same = by_test (clashes t path node)
    (λ e. subst (Grows (so_far t todo)) (sym (same ∙ ap (λ b. cond b (so_far t todo) (so_far (tree.put t path node) (todo ++ dirs_with path node))) e)) (nothing_more (so_far t todo)))
    (λ e. subst (Grows (so_far t todo)) (sym (same ∙ ap (λ b. cond b (so_far t todo) (so_far (tree.put t path node) (todo ++ dirs_with path node))) e)) (one_more t todo path node is fresh))
