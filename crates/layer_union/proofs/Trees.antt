-- Lists of paths and nodes: filters, removals and puts.
use Rattle.std.proofs.Common.{◌≡◌, ℕ, ◌+◌, ◌<◌, ◌≤◌, Bool, true, false, cond, ◌||◌, not, List, [], ◌∷◌, length, get_or, filter, Option, Some, None, refl, sym, ap, subst, ◌∙◌, arith}
use Rattle.std.proofs.lemmas.Cmp.{tied_itself}
use Rattle.std.proofs.lemmas.List.{get_or_default}
use Rattle.std.proofs.lemmas.Slice.Eq.{bytes_eq-Decides}
use Rattle.std.specs.BTreeMap.{is_at}
use Rattle.std.specs.Cmp.{Equal-is}
use Rattle.std.specs.List.{list_any, AllByRecursion}
use Rattle.std.specs.List.Sorted.{IsStrictlySortedBy}
use Rattle.std.specs.Map.{keys_of}
use Rattle.std.specs.Ordering.{is_eq}
use Rattle.std.specs.Str.{bytes_eq}
use Rattle.std.specs.declared.cmp.Ordering.TheVariants.{Less, Equal, Greater}
use Rattle.lib_types.proofs.SortedPairs as pairs
use Rattle.lib_types.proofs.SortedPairs.{by_ordering, by_test, put_step}
use Rattle.image_tree.proofs.Below.{exact}
use Rattle.image_tree.proofs.Index.{found_node}
use Rattle.image_tree.proofs.OneMore.{put_here, put_other}
use Rattle.image_tree.proofs.Order.{path_total}
use Rattle.image_tree.specs.Paths.{path_cmp}
use Rattle.image_tree.specs.Tree as tree
use Rattle.image_tree.specs.Tree.{Nodes, IsPathSorted, node_at}
use Rattle.image_tree.specs.declared.node.Node.{Node}
use Rattle.layer_union.proofs.Lists.{few}
use Rattle.layer_union.specs.Steps.{all_put}
use Rattle.layer_union.specs.Whiteouts.{is_special}

-- ---- equal paths

pub same_is : (p q : List ℕ) → bytes_eq p q ≡ true → p ≡ q
same_is p q e = (bytes_eq-Decides p q).0 e

pub same_from : (p q : List ℕ) → p ≡ q → bytes_eq p q ≡ true
same_from p q e = (bytes_eq-Decides p q).1 e

pub at_is_same : (p q : List ℕ) → is_at (path_cmp p) q ≡ bytes_eq p q
at_is_same p q = by_test (bytes_eq p q)
    (λ e. subst (λ (z : List ℕ). is_at (path_cmp p) z ≡ true) (same_is p q e) (ap is_eq (tied_itself path_total p)) ∙ sym e)
    (λ e. by_test (is_at (path_cmp p) q)
    (λ h. let z : bytes_eq p q ≡ true = same_from p q (exact p q ((Equal-is (path_cmp p q)).0 h)) in absurd (cc))
    (λ h. h ∙ sym e))

less_differs : (p q : List ℕ) → path_cmp p q ≡ Less → is_at (path_cmp p) q ≡ false
less_differs p q h = ap is_eq h

-- ---- keys after a path

abbrev pub AreAfter : List ℕ → Nodes → Type 0
AreAfter q t = AllByRecursion (λ y. path_cmp q y ≡ Less) (keys_of t)

pub after_first : (e : List ℕ × Node) (t : Nodes) → IsPathSorted (e ∷ t) → AreAfter e.0 t
unfolding IsStrictlySortedBy
after_first e t s = s.0

pub sorted_rest : (e : List ℕ × Node) (t : Nodes) → IsPathSorted (e ∷ t) → IsPathSorted t
unfolding IsStrictlySortedBy
sorted_rest e t s = s.1

sorted_from : (e : List ℕ × Node) (t : Nodes) → AreAfter e.0 t → IsPathSorted t → IsPathSorted (e ∷ t)
unfolding IsStrictlySortedBy
sorted_from e t a s = (a, s)

module _ (p : List ℕ × Node → Bool) where
  after_filtered : (q : List ℕ) (t : Nodes) → AreAfter q t → AreAfter q (filter p t)
  after_filtered q [] a = tt
  after_filtered q (e ∷ t) a = elim (p e) as (λ b. AreAfter q (cond b (e ∷ filter p t) (filter p t))) [ true ↦ (a.0, after_filtered q t a.1) | false ↦ after_filtered q t a.1 ]

  pub sorted_filter : (t : Nodes) → IsPathSorted t → IsPathSorted (filter p t)
  sorted_filter [] s = s
  sorted_filter (e ∷ t) s = elim (p e) as (λ b. IsPathSorted (cond b (e ∷ filter p t) (filter p t)))
      [ true ↦ sorted_from e (filter p t) (after_filtered e.0 t (after_first e t s)) (sorted_filter t (sorted_rest e t s)) | false ↦ sorted_filter t (sorted_rest e t s) ]

pub none_after : (q : List ℕ) (t : Nodes) → AreAfter q t → node_at t q ≡ None
none_after q [] a = refl
none_after q (e ∷ t) a = ap (λ b. cond b (Some e.1) (node_at t q)) (less_differs q e.0 a.0) ∙ none_after q t a.1

-- ---- the node of a path

-- the node, if the test keeps its entry
abbrev pub kept : (List ℕ × Node → Bool) → List ℕ → Option Node → Option Node
kept p q (Some n) = cond (p (q, n)) (Some n) None
kept p q None = None

module _ (p : List ℕ × Node → Bool) (q : List ℕ) where
  pub node_filter : (t : Nodes) → IsPathSorted t → node_at (filter p t) q ≡ kept p q (node_at t q)
  node_filter [] s = refl
  node_filter (e ∷ t) s = by_test (is_at (path_cmp q) e.0)
      (λ here.
      let same : q ≡ e.0 = exact q e.0 ((Equal-is (path_cmp q e.0)).0 here) in
      let none : node_at (filter p t) q ≡ None = none_after q (filter p t) (after_filtered p q t (subst (λ (z : List ℕ). AreAfter z t) (sym same) (after_first e t s))) in
      let own : p (q, e.1) ≡ p e = ap (λ (z : List ℕ). p (z, e.1)) same in
      let whole : node_at (e ∷ t) q ≡ Some e.1 = ap (λ b. cond b (Some e.1) (node_at t q)) here in
      by_test (p e)
      (λ k.
      ap (λ b. node_at (cond b (e ∷ filter p t) (filter p t)) q) k ∙ ap (λ b. cond b (Some e.1) (node_at (filter p t) q)) here
      ∙ sym (ap (kept p q) whole ∙ ap (λ b. cond b (Some e.1) None) (own ∙ k)))
      (λ k.
      ap (λ b. node_at (cond b (e ∷ filter p t) (filter p t)) q) k ∙ none
      ∙ sym (ap (kept p q) whole ∙ ap (λ b. cond b (Some e.1) None) (own ∙ k))))
      (λ other.
      let skip : node_at (e ∷ t) q ≡ node_at t q = ap (λ b. cond b (Some e.1) (node_at t q)) other in
      let rest = node_filter t (sorted_rest e t s) in
      by_test (p e)
      (λ k. ap (λ b. node_at (cond b (e ∷ filter p t) (filter p t)) q) k ∙ ap (λ b. cond b (Some e.1) (node_at (filter p t) q)) other ∙ rest ∙ sym (ap (kept p q) skip))
      (λ k. ap (λ b. node_at (cond b (e ∷ filter p t) (filter p t)) q) k ∙ rest ∙ sym (ap (kept p q) skip)))

  -- an entry has no other one with its path
  pub kept_from : (o : Option Node) (n : Node) → kept p q o ≡ Some n → (o ≡ Some n) × (p (q, n) ≡ true)
  kept_from None n h = absurd (cc)
  kept_from (Some m) n h = by_test (p (q, m))
      (λ k.
      let e : Some m ≡ Some n = sym (ap (λ b. cond b (Some m) None) k) ∙ h in
      let same : m ≡ n = cc in
      (e, subst (λ z. p (q, z) ≡ true) same k))
      (λ k. let z : None ≡ Some n = sym (ap (λ b. cond b (Some m) None) k) ∙ h in absurd (cc))

  pub kept_to : (o : Option Node) (n : Node) → o ≡ Some n → p (q, n) ≡ true → kept p q o ≡ Some n
  kept_to o n e k = ap (kept p q) e ∙ ap (λ b. cond b (Some n) None) k

pub in_tree : (t : Nodes) → IsPathSorted t → (k : ℕ) (d : List ℕ × Node) → k < length t → node_at t (get_or t k d).0 ≡ Some (get_or t k d).1
in_tree t s k d l =
    let q = (get_or t k d).0 in
    found_node t q k s (record { within = l; same = λ e. subst (λ z. path_cmp z.0 q ≡ Equal) (get_or_default t k d e l) (tied_itself path_total q) }) d

-- ---- removals

none_same : (q : List ℕ) (t : Nodes) → AreAfter q t → filter (λ e. not (bytes_eq q e.0)) t ≡ t
none_same q [] a = refl
none_same q (e ∷ t) a =
    ap (λ b. cond (not b) (e ∷ filter (λ e. not (bytes_eq q e.0)) t) (filter (λ e. not (bytes_eq q e.0)) t)) (sym (at_is_same q e.0) ∙ less_differs q e.0 a.0)
    ∙ ap (λ r. e ∷ r) (none_same q t a.1)

pub removed_filter : (q : List ℕ) (t : Nodes) → IsPathSorted t → tree.remove t q ≡ filter (λ e. not (bytes_eq q e.0)) t
removed_filter q [] s = refl
removed_filter q (e ∷ t) s =
    let others = filter (λ (e : List ℕ × Node). not (bytes_eq q e.0)) t in
    by_test (is_at (path_cmp q) e.0)
    (λ here.
    let same : q ≡ e.0 = exact q e.0 ((Equal-is (path_cmp q e.0)).0 here) in
    ap (λ b. cond b t (e ∷ tree.remove t q)) here
    ∙ sym (ap (λ b. cond (not b) (e ∷ others) others) (sym (at_is_same q e.0) ∙ here) ∙ none_same q t (subst (λ (z : List ℕ). AreAfter z t) (sym same) (after_first e t s))))
    (λ other.
    ap (λ b. cond b t (e ∷ tree.remove t q)) other ∙ ap (λ r. e ∷ r) (removed_filter q t (sorted_rest e t s))
    ∙ sym (ap (λ b. cond (not b) (e ∷ others) others) (sym (at_is_same q e.0) ∙ other)))

module _ (p : List ℕ × Node → Bool) (q : List ℕ) where
  -- a removal that the filter doesn't see
  pub unseen : ((n : Node) → p (q, n) ≡ false) → (t : Nodes) → filter p (tree.remove t q) ≡ filter p t
  unseen h [] = refl
  unseen h (e ∷ t) = by_test (is_at (path_cmp q) e.0)
      (λ here.
      let same : q ≡ e.0 = exact q e.0 ((Equal-is (path_cmp q e.0)).0 here) in
      let gone : p e ≡ false = subst (λ (z : List ℕ). p (z, e.1) ≡ false) same (h e.1) in
      ap (λ b. filter p (cond b t (e ∷ tree.remove t q))) here ∙ sym (ap (λ b. cond b (e ∷ filter p t) (filter p t)) gone))
      (λ other.
      ap (λ b. filter p (cond b t (e ∷ tree.remove t q))) other ∙ ap (λ r. cond (p e) (e ∷ r) r) (unseen h t))

fewer_removed : (q : List ℕ) (t : Nodes) → length (tree.remove t q) ≤ length t
fewer_removed q [] = omega arith
fewer_removed q (e ∷ t) = let h = fewer_removed q t in elim (is_at (path_cmp q) e.0) as (λ b. length (cond b t (e ∷ tree.remove t q)) ≤ length (e ∷ t)) [ true ↦ omega arith | false ↦ omega arith ]

-- if an entry has the path or fails the filter, both together drop one
pub fewer : (p : List ℕ × Node → Bool) (q : List ℕ) (t : Nodes) → list_any (λ e. bytes_eq q e.0 || not (p e)) t ≡ true → length (filter p (tree.remove t q)) < length t
fewer p q [] h = absurd (cc)
fewer p q (e ∷ t) h = by_test (is_at (path_cmp q) e.0)
    (λ here.
    let less = few p t in
    subst (λ (r : Nodes). length (filter p r) < length (e ∷ t)) (sym (ap (λ b. cond b t (e ∷ tree.remove t q)) here)) (omega arith))
    (λ other.
    let less = few p (tree.remove t q) in
    let shorter = fewer_removed q t in
    by_test (p e)
    (λ k.
    let later : list_any (λ e. bytes_eq q e.0 || not (p e)) t ≡ true =
    sym (ap (λ b. (b || not (p e)) || list_any (λ e. bytes_eq q e.0 || not (p e)) t) (sym (at_is_same q e.0) ∙ other)
    ∙ ap (λ b. not b || list_any (λ e. bytes_eq q e.0 || not (p e)) t) k) ∙ h in
    let more = fewer p q t later in
    subst (λ (r : Nodes). length (filter p r) < length (e ∷ t)) (sym (ap (λ b. cond b t (e ∷ tree.remove t q)) other))
    (subst (λ b. length (cond b (e ∷ filter p (tree.remove t q)) (filter p (tree.remove t q))) < length (e ∷ t)) (sym k) (omega arith)))
    (λ k.
    subst (λ (r : Nodes). length (filter p r) < length (e ∷ t)) (sym (ap (λ b. cond b t (e ∷ tree.remove t q)) other))
    (subst (λ b. length (cond b (e ∷ filter p (tree.remove t q)) (filter p (tree.remove t q))) < length (e ∷ t)) (sym k) (omega arith))))

-- ---- puts

module _ (path : List ℕ) (node : Node) where
  pub put_grows : (t : Nodes) → length t ≤ length (tree.put t path node)
  put_grows [] = omega arith
  put_grows (e ∷ t) = by_ordering (path_cmp path e.0)
      (λ a. rw (put_step path_total path e t node Less a) (omega arith))
      (λ a. rw (put_step path_total path e t node Equal a) (omega arith))
      (λ a. let h = put_grows t in rw (put_step path_total path e t node Greater a) (omega arith))

  pub put_new : (t : Nodes) → node_at t path ≡ None → length (tree.put t path node) ≡ length t + 1
  put_new [] h = refl
  put_new (e ∷ t) h = by_ordering (path_cmp path e.0)
      (λ a. rw (put_step path_total path e t node Less a) (omega arith))
      (λ a. let z : Some e.1 ≡ None = sym (ap (λ r. cond (is_eq r) (Some e.1) (node_at t path)) a) ∙ h in absurd (cc))
      (λ a.
      let more = put_new t (sym (ap (λ r. cond (is_eq r) (Some e.1) (node_at t path)) a) ∙ h) in
      rw (put_step path_total path e t node Greater a) (omega arith))

pub all_put_grows : (layer t : Nodes) → length t ≤ length (all_put t layer)
all_put_grows [] t = omega arith
all_put_grows (r ∷ layer) t =
    let plain = all_put_grows layer (tree.put t r.0 r.1) in
    let grown = put_grows r.0 r.1 t in
    let special = all_put_grows layer t in
    elim (is_special r.0) as (λ b. length t ≤ length (all_put (cond b t (tree.put t r.0 r.1)) layer)) [ true ↦ special | false ↦ omega arith ]

pub all_put_sorted : (layer t : Nodes) → IsPathSorted t → IsPathSorted (all_put t layer)
all_put_sorted [] t s = s
all_put_sorted (r ∷ layer) t s = elim (is_special r.0) as (λ b. IsPathSorted (all_put (cond b t (tree.put t r.0 r.1)) layer))
    [ true ↦ all_put_sorted layer t s | false ↦ all_put_sorted layer (tree.put t r.0 r.1) (pairs.sorted_put path_total r.0 t r.1 s) ]

-- the first of two nodes that there is
abbrev pub over : Option Node → Option Node → Option Node
over (Some n) o = Some n
over None o = o

module _ (q : List ℕ) where
  other_put : (r : List ℕ × Node) (t : Nodes) → is_special r.0 ≡ false → is_special q ≡ true → node_at (tree.put t r.0 r.1) q ≡ node_at t q
  other_put r t plain special = put_other r.0 r.1 q (by_test (bytes_eq q r.0)
      (λ e. let z : true ≡ false = sym special ∙ ap is_special (same_is q r.0 e) ∙ plain in absurd (cc))
      (λ e. e)) t

  -- a special path isn't put
  pub special_put : is_special q ≡ true → (layer t : Nodes) → node_at (all_put t layer) q ≡ node_at t q
  special_put special [] t = refl
  special_put special (r ∷ layer) t = by_test (is_special r.0)
      (λ e. ap (λ b. node_at (all_put (cond b t (tree.put t r.0 r.1)) layer) q) e ∙ special_put special layer t)
      (λ e. ap (λ b. node_at (all_put (cond b t (tree.put t r.0 r.1)) layer) q) e ∙ special_put special layer (tree.put t r.0 r.1) ∙ other_put r t e special)

  -- another path has the layer's node, or its previous one
  pub plain_put : is_special q ≡ false → (layer t : Nodes) → IsPathSorted layer → node_at (all_put t layer) q ≡ over (node_at layer q) (node_at t q)
  plain_put plain [] t s = refl
  plain_put plain (r ∷ layer) t s = by_test (is_at (path_cmp q) r.0)
      (λ here.
      let same : q ≡ r.0 = exact q r.0 ((Equal-is (path_cmp q r.0)).0 here) in
      let own : is_special r.0 ≡ false = sym (ap is_special same) ∙ plain in
      let none : node_at layer q ≡ None = none_after q layer (subst (λ (z : List ℕ). AreAfter z layer) (sym same) (after_first r layer s)) in
      let put : node_at (tree.put t r.0 r.1) q ≡ Some r.1 = ap (λ z. node_at (tree.put t r.0 r.1) z) same ∙ put_here r.0 r.1 t in
      ap (λ b. node_at (all_put (cond b t (tree.put t r.0 r.1)) layer) q) own
      ∙ plain_put plain layer (tree.put t r.0 r.1) (sorted_rest r layer s)
      ∙ ap (λ o. over o (node_at (tree.put t r.0 r.1) q)) none ∙ put
      ∙ sym (ap (λ b. over (cond b (Some r.1) (node_at layer q)) (node_at t q)) here))
      (λ other.
      let differs : bytes_eq q r.0 ≡ false = sym (at_is_same q r.0) ∙ other in
      let skip : over (node_at (r ∷ layer) q) (node_at t q) ≡ over (node_at layer q) (node_at t q) = ap (λ b. over (cond b (Some r.1) (node_at layer q)) (node_at t q)) other in
      by_test (is_special r.0)
      (λ e. ap (λ b. node_at (all_put (cond b t (tree.put t r.0 r.1)) layer) q) e ∙ plain_put plain layer t (sorted_rest r layer s) ∙ sym skip)
      (λ e.
      ap (λ b. node_at (all_put (cond b t (tree.put t r.0 r.1)) layer) q) e ∙ plain_put plain layer (tree.put t r.0 r.1) (sorted_rest r layer s)
      ∙ ap (λ o. over (node_at layer q) o) (put_other r.0 r.1 q differs t) ∙ sym skip))
