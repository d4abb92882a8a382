-- Nodes that are found in a sorted list.
use Rattle.std.proofs.Common.{◌≡◌, ℕ, cond, List, ◌∷◌, ap, Some, [], sym, subst, ◌∙◌}
use Rattle.std.proofs.lemmas.Cmp.{tied_itself}
use Rattle.std.specs.Ordering.{is_eq}
use Rattle.image_tree.proofs.Order.{path_total}
use Rattle.image_tree.specs.Tree.{Nodes, node_at}
use Rattle.image_tree.specs.declared.node.Node.{Node}
use Rattle.std.specs.BTreeMap.{is_at}
use Rattle.std.specs.Cmp.{Equal-is}
use Rattle.std.specs.List.{AllByRecursion}
use Rattle.std.specs.Map.{keys_of}
use Rattle.std.specs.declared.cmp.Ordering.TheVariants.{Less}
use Rattle.lib_types.proofs.SortedPairs.{by_test}
use Rattle.image_tree.proofs.Below.{exact}
use Rattle.image_tree.specs.Paths.{path_cmp}

pub found_here : (e : List ℕ × Node) (t : Nodes) → node_at (e ∷ t) e.0 ≡ Some e.1
found_here e t = ap (λ r. cond (is_eq r) (Some e.1) (node_at t e.0)) (tied_itself path_total e.0)

-- if all keys of a list are greater than `p`, so is the key of a node that is found in it
pub found_later : (p : List ℕ) (t : Nodes) (q : List ℕ) (n : Node) → AllByRecursion (λ k. path_cmp p k ≡ Less) (keys_of t) → node_at t q ≡ Some n → path_cmp p q ≡ Less
found_later p [] q n all e = absurd (cc)
found_later p (f ∷ t) q n all e = by_test (is_at (path_cmp q) f.0)
    (λ a. subst (λ z. path_cmp p z ≡ Less) (sym (exact q f.0 ((Equal-is (path_cmp q f.0)).0 a))) all.0)
    (λ a. found_later p t q n all.1 (sym (ap (λ b. cond b (Some f.1) (node_at t q)) a) ∙ e))

pub by_some : {a b : Node} → Some a ≡ Some b → a ≡ b
by_some e = cc
