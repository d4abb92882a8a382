-- If a sorted list has all nodes of another sorted list, the other list is not longer. If both have the same length, they are equal.
use Rattle.std.proofs.Common.{◌≡◌, ◌≤◌, ◌+◌, ℕ, Bool, true, cond, ◌||◌, List, [], ◌∷◌, length, refl, ap, sym, subst, ◌∙◌, Some, None, arith}
use Rattle.std.proofs.lemmas.Cmp.{tied_itself}
use Rattle.std.proofs.lemmas.Map.Keys.{sorted_head, sorted_tail}
use Rattle.std.specs.BTreeMap.{is_at}
use Rattle.std.specs.Cmp.{Equal-is}
use Rattle.std.specs.List.{AllByRecursion, list_any}
use Rattle.std.specs.Map.{keys_of}
use Rattle.std.specs.Ordering.{is_eq}
use Rattle.std.specs.declared.cmp.Ordering.TheVariants.{Less, Equal, Greater}
use Rattle.lib_types.proofs.SortedPairs.{by_ordering, by_test, flipped, put_step}
use Rattle.image_tree.proofs.Below.{exact}
use Rattle.image_tree.proofs.Order.{path_total}
use Rattle.image_tree.specs.Paths.{path_cmp}
use Rattle.image_tree.specs.Tree as tree
use Rattle.image_tree.specs.Tree.{Nodes, IsPathSorted, clash_with, clashes, has_below, node_at}
use Rattle.image_tree.specs.declared.node.Node.{Node}
use Rattle.root_tree.specs.SoFar.{IsPart}
use Rattle.image_tree.proofs.FoundNodes.{found_here, found_later}

-- ---- look-ups in a sorted list

found_after : (e : List ℕ × Node) (t : Nodes) (q : List ℕ) → path_cmp e.0 q ≡ Less → node_at (e ∷ t) q ≡ node_at t q
found_after e t q less = ap (λ r. cond (is_eq r) (Some e.1) (node_at t q)) (flipped path_total e.0 q Less less)

-- ---- parts

pub record IsShorter (part t : Nodes) : Type 0 where
  pub few : length part ≤ length t
  pub same : length t ≤ length part → part ≡ t

irreflexive : (p : List ℕ) → path_cmp p p ≡ Less → ⊥
irreflexive p less = let z : Less ≡ Equal = sym less ∙ tied_itself path_total p in cc

pub shorter : (t part : Nodes) → IsPathSorted t → IsPathSorted part → IsPart t part → IsShorter part t
shorter t [] st sp is = record { few = omega arith; same = empty t }
  where
    empty : (t : Nodes) → length t ≤ 0 → [] ≡ t
    empty [] h = refl
    empty (e ∷ t) h = absurd (omega arith)
shorter [] (x ∷ part) st sp is = let none = is x.0 x.1 (found_here x part) in absurd (cc)
shorter (y ∷ t) (x ∷ part) st sp is =
    let first : node_at (y ∷ t) x.0 ≡ Some x.1 = is x.0 x.1 (found_here x part) in
    let after_x = sorted_head path_cmp x.0 (keys_of part) sp in
    let after_y = sorted_head path_cmp y.0 (keys_of t) st in
    by_ordering (path_cmp y.0 x.0)
    (λ less.
    let rest = shorter t (x ∷ part) (sorted_tail path_cmp y.0 (keys_of t) st) sp (λ q n e. sym (found_after y t q (later q n less after_x e)) ∙ is q n e) in
    record { few = omega (arith, rest.few); same = λ h. absurd (omega (arith, rest.few)) })
    (λ tied.
    let key : y.0 ≡ x.0 = exact y.0 x.0 tied in
    let node : y.1 ≡ x.1 = by_some (sym (found_here y t) ∙ ap (node_at (y ∷ t)) key ∙ first) in
    let rest = shorter t part (sorted_tail path_cmp y.0 (keys_of t) st) (sorted_tail path_cmp x.0 (keys_of part) sp)
    (λ q n e.
    let less = found_later x.0 part q n after_x e in
    sym (found_after y t q (ap (λ z. path_cmp z q) key ∙ less)) ∙ is q n (found_after x part q less ∙ e)) in
    record {
      few = omega (arith, rest.few);
      same = λ h. ap (λ z. z ∷ part) (pair x y (sym key) (sym node)) ∙ ap (λ z. y ∷ z) (rest.same (omega arith));
    })
    (λ more.
    let less = flipped path_total y.0 x.0 Greater more in
    let other : node_at (y ∷ t) x.0 ≡ node_at t x.0 = ap (λ r. cond (is_eq r) (Some y.1) (node_at t x.0)) less in
    absurd (irreflexive x.0 (none_before x.0 t y.0 x.1 less after_y (sym other ∙ first))))
  where
    later : (q : List ℕ) (n : Node) → path_cmp y.0 x.0 ≡ Less → AllByRecursion (λ k. path_cmp x.0 k ≡ Less) (keys_of part) → node_at (x ∷ part) q ≡ Some n → path_cmp y.0 q ≡ Less
    later q n less all e = by_test (is_at (path_cmp q) x.0)
        (λ a. subst (λ z. path_cmp y.0 z ≡ Less) (sym (exact q x.0 ((Equal-is (path_cmp q x.0)).0 a))) less)
        (λ a. path_total.trans y.0 x.0 q less (found_later x.0 part q n all (sym (ap (λ b. cond b (Some x.1) (node_at part q)) a) ∙ e)))

    none_before : (q : List ℕ) (t : Nodes) (p : List ℕ) (n : Node) → path_cmp q p ≡ Less → AllByRecursion (λ k. path_cmp p k ≡ Less) (keys_of t) → node_at t q ≡ Some n → path_cmp q q ≡ Less
    none_before q t p n less all e = path_total.trans q p q less (found_later p t q n all e)

    by_some : {a b : Node} → Some a ≡ Some b → a ≡ b
    by_some e = cc

    pair : (a b : List ℕ × Node) → a.0 ≡ b.0 → a.1 ≡ b.1 → a ≡ b
    pair a b k n = ap (λ z. (z, a.1)) k ∙ ap (λ z. (b.0, z)) n

-- if each of two sorted lists has the nodes of the other, they are equal
pub one_list : (t part : Nodes) → IsPathSorted t → IsPathSorted part → IsPart t part → IsPart part t → part ≡ t
one_list t part st sp is back = (shorter t part st sp is).same (shorter part t sp st back).few

-- ---- entries that pass a test

pub record IsFoundBy (test : List ℕ × Node → Bool) (t : Nodes) : Type 0 where
  pub path : List ℕ
  pub node : Node
  pub found : node_at t path ≡ Some node
  pub passes : test (path, node) ≡ true

pub any_found : (test : List ℕ × Node → Bool) (t : Nodes) → IsPathSorted t → list_any test t ≡ true → IsFoundBy test t
any_found test [] s h = absurd (cc)
any_found test (e ∷ t) s h = by_test (test e)
    (λ p. record { path = e.0; node = e.1; found = found_here e t; passes = p })
    (λ p.
    let rest = any_found test t (sorted_tail path_cmp e.0 (keys_of t) s) (sym (ap (λ b. b || list_any test t) p) ∙ h) in
    record {
      path = rest.path;
      node = rest.node;
      found = found_after e t rest.path (found_later e.0 t rest.path rest.node (sorted_head path_cmp e.0 (keys_of t) s) rest.found) ∙ rest.found;
      passes = rest.passes;
    })

-- ---- adding a node

pub one_longer : (t : Nodes) (path : List ℕ) (node : Node) → node_at t path ≡ None → length (tree.put t path node) ≡ length t + 1
one_longer [] path node none = refl
one_longer (e ∷ t) path node none = by_ordering (path_cmp path e.0)
    (λ a. ap length (put_step path_total path e t node Less a) ∙ omega arith)
    (λ a. let some : Some e.1 ≡ None = sym (ap (λ r. cond (is_eq r) (Some e.1) (node_at t path)) a) ∙ none in absurd (cc))
    (λ a.
    let rest = one_longer t path node (sym (ap (λ r. cond (is_eq r) (Some e.1) (node_at t path)) a) ∙ none) in
    ap length (put_step path_total path e t node Greater a) ∙ omega (arith, rest))
