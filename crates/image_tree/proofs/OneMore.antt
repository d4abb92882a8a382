-- The nodes of a tree after one node is added.
use Rattle.std.proofs.Common.{◌≡◌, ℕ, true, false, cond, List, [], ◌∷◌, refl, ap, subst, Some}
use Rattle.std.proofs.lemmas.Cmp.{tied_itself}
use Rattle.std.proofs.lemmas.Slice.Eq.{bytes_eq-Decides}
use Rattle.std.specs.BTreeMap.{is_at}
use Rattle.std.specs.Cmp.{Equal-is}
use Rattle.std.specs.Ordering.{is_eq}
use Rattle.std.specs.Str.{bytes_eq}
use Rattle.std.specs.declared.cmp.Ordering.TheVariants.{Less, Equal, Greater}
use Rattle.lib_types.proofs.SortedPairs.{by_ordering, by_test, put_step}
use Rattle.image_tree.proofs.Below.{exact}
use Rattle.image_tree.proofs.Order.{path_total}
use Rattle.image_tree.specs.Paths.{path_cmp}
use Rattle.image_tree.specs.Tree as tree
use Rattle.image_tree.specs.Tree.{Nodes, node_at}
use Rattle.image_tree.specs.declared.node.Node.{Node}

at_itself : (p : List ℕ) → is_at (path_cmp p) p ≡ true
at_itself p = ap is_eq (tied_itself path_total p)

at_same : (p q : List ℕ) → is_at (path_cmp p) q ≡ true → p ≡ q
at_same p q e = exact p q ((Equal-is (path_cmp p q)).0 e)

at_other : (p q : List ℕ) → bytes_eq p q ≡ false → is_at (path_cmp p) q ≡ false
at_other p q other = by_test (is_at (path_cmp p) q)
    (λ e. let same : bytes_eq p q ≡ true = (bytes_eq-Decides p q).1 (at_same p q e) in absurd (cc))
    (λ e. e)

module _ (path : List ℕ) (node : Node) where
  pub put_here : (t : Nodes) → node_at (tree.put t path node) path ≡ Some node
  put_here [] = rw (at_itself path) refl
  put_here (e ∷ t) = by_ordering (path_cmp path e.0)
      (λ a. rw (put_step path_total path e t node Less a) (rw (at_itself path) refl))
      (λ a. rw (put_step path_total path e t node Equal a) (rw a refl))
      (λ a. rw (put_step path_total path e t node Greater a) (rw a (put_here t)))

  pub put_other : (q : List ℕ) → bytes_eq q path ≡ false → (t : Nodes) → node_at (tree.put t path node) q ≡ node_at t q
  put_other q other [] = rw (at_other q path other) refl
  put_other q other (e ∷ t) = by_ordering (path_cmp path e.0)
      (λ a. rw (put_step path_total path e t node Less a) (rw (at_other q path other) refl))
      (λ a.
      let absent : is_at (path_cmp q) e.0 ≡ false = subst (λ (z : List ℕ). is_at (path_cmp q) z ≡ false) (exact path e.0 a) (at_other q path other) in
      rw (put_step path_total path e t node Equal a) (rw absent refl))
      (λ a. rw (put_step path_total path e t node Greater a) (ap (λ o. cond (is_at (path_cmp q) e.0) (Some e.1) o) (put_other q other t)))
