-- A part of a tree has no more nodes than the tree, and lacks the contents of no other files.
use Rattle.std.proofs.Common.{◌≡◌, ◌≤◌, ◌∙◌, ℕ, Bool, true, false, cond, ◌||◌, List, [], ◌∷◌, length, ap, sym, subst, arith, Some}
use Rattle.std.proofs.lemmas.Bool.{or_left, or_right}
use Rattle.std.proofs.lemmas.Cmp.{tied_itself}
use Rattle.std.proofs.lemmas.Map.Keys.{sorted_head, sorted_tail}
use Rattle.std.specs.BTreeMap.{is_at}
use Rattle.std.specs.Cmp.{Equal-is}
use Rattle.std.specs.List.{AllByRecursion, list_any}
use Rattle.std.specs.Map.{keys_of}
use Rattle.std.specs.Ordering.{is_eq}
use Rattle.std.specs.declared.cmp.Ordering.TheVariants.{Less, Equal, Greater}
use Rattle.image_tree.proofs.Above.{found_any}
use Rattle.image_tree.proofs.Below.{exact}
use Rattle.image_tree.proofs.Order.{path_total}
use Rattle.image_tree.specs.Paths.{path_cmp}
use Rattle.image_tree.specs.Tree.{Nodes, IsPathSorted, node_at}
use Rattle.image_tree.specs.declared.node.Node.{Node}
use Rattle.lib_types.proofs.SortedPairs.{by_ordering, by_test, flipped}
use Rattle.seen_tree.specs.Part.{IsPart}

-- each of these nodes is found in the tree
abbrev AreFound : Nodes → Nodes → Type 0
AreFound t some = AllByRecursion (λ (e : List ℕ × Node). node_at t e.0 ≡ Some e.1) some

not_here : (x : List ℕ × Node) (t : Nodes) (q : List ℕ) → path_cmp x.0 q ≡ Less → node_at (x ∷ t) q ≡ node_at t q
not_here x t q less = ap (λ r. cond (is_eq r) (Some x.1) (node_at t q)) (flipped path_total x.0 q Less less)

found_after : (x : List ℕ × Node) (t some : Nodes) → AllByRecursion (λ k. path_cmp x.0 k ≡ Less) (keys_of some) → AreFound t some → AreFound (x ∷ t) some
found_after x t [] following found = tt
found_after x t (e ∷ some) following found = (not_here x t e.0 following.0 ∙ found.0, found_after x t some following.1 found.1)

all_found : (t : Nodes) → IsPathSorted t → AreFound t t
all_found [] sorted = tt
all_found (x ∷ t) sorted = (
  ap (λ r. cond (is_eq r) (Some x.1) (node_at t x.0)) (tied_itself path_total x.0),
  found_after x t t (sorted_head path_cmp x.0 (keys_of t) sorted) (all_found t (sorted_tail path_cmp x.0 (keys_of t) sorted)),
)

found_in : (t part : Nodes) → ((q : List ℕ) (n : Node) → node_at part q ≡ Some n → node_at t q ≡ Some n) → (some : Nodes) → AreFound part some → AreFound t some
found_in t part into [] found = tt
found_in t part into (e ∷ some) found = (into e.0 e.1 found.0, found_in t part into some found.1)

part_found : (t part : Nodes) → IsPart t part → AreFound t part
part_found t part is = found_in t part is.nodes part (all_found part is.sorted)

-- ---- the number of nodes

-- without its first node, which all of these come after
found_later : (x : List ℕ × Node) (t some : Nodes) → AllByRecursion (λ k. path_cmp x.0 k ≡ Less) (keys_of some) → AreFound (x ∷ t) some → AreFound t some
found_later x t [] following found = tt
found_later x t (e ∷ some) following found = (sym (not_here x t e.0 following.0) ∙ found.0, found_later x t some following.1 found.1)

-- a node that is found in a sorted list isn't before the first one
none_before : (p : List ℕ) (t : Nodes) (q : List ℕ) (n : Node) → AllByRecursion (λ k. path_cmp p k ≡ Less) (keys_of t) → node_at t q ≡ Some n → path_cmp p q ≡ Less
none_before p [] q n all e = absurd (cc)
none_before p (f ∷ t) q n all e = by_test (is_at (path_cmp q) f.0)
    (λ a. subst (λ z. path_cmp p z ≡ Less) (sym (exact q f.0 ((Equal-is (path_cmp q f.0)).0 a))) all.0)
    (λ a. none_before p t q n all.1 (sym (ap (λ b. cond b (Some f.1) (node_at t q)) a) ∙ e))

abbrev AreAfter : List ℕ → Nodes → Type 0
AreAfter p t = AllByRecursion (λ k. path_cmp p k ≡ Less) (keys_of t)

after_too : (p q : List ℕ) (t : Nodes) → path_cmp p q ≡ Less → AreAfter q t → AreAfter p t
after_too p q [] less all = tt
after_too p q (e ∷ t) less all = (path_total.trans p q e.0 less all.0, after_too p q t less all.1)

smaller : (t some : Nodes) → IsPathSorted t → IsPathSorted some → AreFound t some → length some ≤ length t
smaller t [] sorted of found = omega arith
smaller [] (e ∷ some) sorted of found = absurd (let z = found.0 in cc)
smaller (x ∷ t) (e ∷ some) sorted of found =
    let head = sorted_head path_cmp x.0 (keys_of t) sorted in
    let tail = sorted_tail path_cmp x.0 (keys_of t) sorted in
    let first = sorted_head path_cmp e.0 (keys_of some) of in
    let rest = sorted_tail path_cmp e.0 (keys_of some) of in
    by_ordering (path_cmp x.0 e.0)
    (λ a. let fewer = smaller t (e ∷ some) tail of (found_later x t (e ∷ some) (a, after_too x.0 e.0 some a first) found) in omega (arith, fewer))
    (λ a.
    let here : x.0 ≡ e.0 = exact x.0 e.0 a in
    let fewer = smaller t some tail rest (found_later x t some (subst (λ p. AreAfter p some) (sym here) first) found.1) in
    omega (arith, fewer))
    (λ a.
    let none = flipped path_total x.0 e.0 Greater a in
    let there : node_at t e.0 ≡ Some e.1 = sym (ap (λ r. cond (is_eq r) (Some x.1) (node_at t e.0)) none) ∙ found.0 in
    let less = none_before x.0 t e.0 e.1 head there in
    absurd (let z : Less ≡ Greater = sym less ∙ a in cc))

pub part_smaller : (t part : Nodes) → IsPathSorted t → IsPart t part → length part ≤ length t
part_smaller t part sorted is = smaller t part sorted is.sorted (part_found t part is)

-- ---- a node that passes a test

any_in : (test : List ℕ × Node → Bool) (t some : Nodes) → AreFound t some → list_any test some ≡ true → list_any test t ≡ true
any_in test t [] found h = absurd (cc)
any_in test t (e ∷ some) found h = by_test (test e)
    (λ p. found_any test t e.0 e.1 found.0 p)
    (λ p. any_in test t some found.1 (sym (ap (λ b. b || list_any test some) p) ∙ h))

pub any_there : (test : List ℕ × Node → Bool) (t part : Nodes) → IsPart t part → list_any test part ≡ true → list_any test t ≡ true
any_there test t part is h = any_in test t part (part_found t part is) h
