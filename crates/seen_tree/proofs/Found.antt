-- Entries of a sorted list that pass a test.
use Rattle.std.proofs.Common.{◌≡◌, ℕ, Bool, true, false, cond, ◌||◌, List, [], ◌∷◌, refl, ap, sym, ◌∙◌, Some}
use Rattle.std.proofs.lemmas.Map.Keys.{sorted_head, sorted_tail}
use Rattle.std.specs.List.{list_any}
use Rattle.std.specs.Map.{keys_of}
use Rattle.std.specs.Ordering.{is_eq}
use Rattle.std.specs.declared.cmp.Ordering.TheVariants.{Less}
use Rattle.lib_types.proofs.SortedPairs.{by_test, flipped}
use Rattle.image_tree.proofs.Order.{path_total}
use Rattle.image_tree.specs.Paths.{path_cmp}
use Rattle.image_tree.specs.Tree.{Nodes, IsPathSorted, node_at}
use Rattle.image_tree.specs.declared.node.Node.{Node}
use Rattle.image_tree.proofs.FoundNodes.{found_here, found_later}

pub record IsFoundBy (test : List ℕ × Node → Bool) (t : Nodes) : Type 0 where
  pub path : List ℕ
  pub node : Node
  pub found : node_at t path ≡ Some node
  pub passes : test (path, node) ≡ true

pub any_found : (test : List ℕ × Node → Bool) (t : Nodes) → IsPathSorted t → list_any test t ≡ true → IsFoundBy test t
any_found test [] s h = absurd (cc)
any_found test (e ∷ t) s h = by_test (test e)
    (λ p. record { path = e.0; node = e.1; found = found_here e t; passes = p })
    (λ p.
    let rest = any_found test t (sorted_tail path_cmp e.0 (keys_of t) s) (sym (ap (λ b. b || list_any test t) p) ∙ h) in
    let later = found_later e.0 t rest.path rest.node (sorted_head path_cmp e.0 (keys_of t) s) rest.found in
    record {
      path = rest.path;
      node = rest.node;
      found = ap (λ r. cond (is_eq r) (Some e.1) (node_at t rest.path)) (flipped path_total e.0 rest.path Less later) ∙ rest.found;
      passes = rest.passes;
    })
