-- Two sorted lists of nodes with the same node at each path are one.
use Rattle.std.proofs.Common.{◌≡◌, ℕ, cond, List, [], ◌∷◌, refl, ap, sym, ◌∙◌, Some, None}
use Rattle.std.proofs.lemmas.Map.Keys.{sorted_head, sorted_tail}
use Rattle.std.specs.BTreeMap.{is_at}
use Rattle.std.specs.Cmp.{Equal-is}
use Rattle.std.specs.List.{AllByRecursion}
use Rattle.std.specs.Map.{keys_of}
use Rattle.std.specs.Ordering.{is_eq}
use Rattle.std.specs.declared.cmp.Ordering.TheVariants.{Less, Greater}
use Rattle.lib_types.proofs.SortedPairs.{by_ordering, by_test, flipped}
use Rattle.string_pool.proofs.Ordered.{all_below}
use Rattle.image_tree.proofs.Below.{exact}
use Rattle.image_tree.proofs.Order.{path_total}
use Rattle.image_tree.specs.Paths.{path_cmp}
use Rattle.image_tree.specs.Tree.{Nodes, IsPathSorted, node_at}
use Rattle.image_tree.specs.declared.node.Node.{Node}
use Rattle.image_tree.proofs.FoundNodes.{found_here, by_some}

-- nothing is at a path that comes before all
none_before : (p : List ℕ) (t : Nodes) → AllByRecursion (λ k. path_cmp p k ≡ Less) (keys_of t) → node_at t p ≡ None
none_before p [] all = refl
none_before p (e ∷ t) all = ap (λ r. cond (is_eq r) (Some e.1) (node_at t p)) all.0 ∙ none_before p t all.1

none_elsewhere : (e : List ℕ × Node) (t : Nodes) (q : List ℕ) → IsPathSorted (e ∷ t) → path_cmp q e.0 ≡ Less → node_at (e ∷ t) q ≡ None
none_elsewhere e t q sorted less = none_before q (e ∷ t) (less, all_below path_total q e.0 (keys_of t) less (sorted_head path_cmp e.0 (keys_of t) sorted))

some_none : {a : Node} → Some a ≡ None → ⊥
some_none e = cc

pair : (a b : List ℕ × Node) → a.0 ≡ b.0 → a.1 ≡ b.1 → a ≡ b
pair a b k n = ap (λ z. (z, a.1)) k ∙ ap (λ z. (b.0, z)) n

pub same_nodes : (a b : Nodes) → IsPathSorted a → IsPathSorted b → ((q : List ℕ) → node_at a q ≡ node_at b q) → a ≡ b
same_nodes [] [] s r same = refl
same_nodes [] (y ∷ b) s r same = absurd (some_none (sym (found_here y b) ∙ sym (same y.0)))
same_nodes (x ∷ a) [] s r same = absurd (some_none (sym (found_here x a) ∙ same x.0))
same_nodes (x ∷ a) (y ∷ b) s r same = by_ordering (path_cmp x.0 y.0)
    (λ less. absurd (some_none (sym (found_here x a) ∙ same x.0 ∙ none_elsewhere y b x.0 r less)))
    (λ tied.
    let key : x.0 ≡ y.0 = exact x.0 y.0 tied in
    let node : x.1 ≡ y.1 = by_some (sym (found_here x a) ∙ same x.0 ∙ ap (node_at (y ∷ b)) key ∙ found_here y b) in
    ap (λ z. z ∷ a) (pair x y key node)
    ∙ ap (λ z. y ∷ z) (same_nodes a b (sorted_tail path_cmp x.0 (keys_of a) s) (sorted_tail path_cmp y.0 (keys_of b) r) (rest key)))
    (λ more. absurd (some_none (sym (found_here y b) ∙ sym (same y.0) ∙ none_elsewhere x a y.0 s (flipped path_total x.0 y.0 Greater more))))
  where
    rest : x.0 ≡ y.0 → (q : List ℕ) → node_at a q ≡ node_at b q
    rest key q = by_test (is_at (path_cmp q) x.0)
        (λ e.
        let here : q ≡ x.0 = exact q x.0 ((Equal-is (path_cmp q x.0)).0 e) in
        ap (node_at a) here ∙ none_before x.0 a (sorted_head path_cmp x.0 (keys_of a) s)
        ∙ sym (ap (node_at b) (here ∙ key) ∙ none_before y.0 b (sorted_head path_cmp y.0 (keys_of b) r)))
        (λ e.
        sym (ap (λ c. cond c (Some x.1) (node_at a q)) e) ∙ same q ∙ ap (λ c. cond c (Some y.1) (node_at b q)) (ap (is_at (path_cmp q)) (sym key) ∙ e))
