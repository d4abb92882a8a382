-- The union of layers after one more layer.
use Rattle.std.proofs.Common.{◌≡◌, ℕ, ◌+◌, ◌<◌, ◌≤◌, Bool, true, false, cond, ◌&&◌, ◌||◌, not, List, [], ◌∷◌, ◌++◌, length, get_or, position, take, filter, Option, Some, None, refl, sym, ap, subst, ◌∙◌, ◌⊎◌, inl, inr, ⊎_elim, arith}
use Rattle.std.proofs.lemmas.Bool.{and_from, and_parts, cases_lt, or_from, or_parts}
use Rattle.std.proofs.lemmas.List.{take_more}
use Rattle.std.proofs.lemmas.List.Folds.{list_any-append}
use Rattle.std.specs.List.{list_any}
use Rattle.std.specs.Str.{bytes_eq}
use Rattle.lib_types.proofs.Bools.{not_true}
use Rattle.lib_types.proofs.SortedPairs.{by_test}
use Rattle.image_tree.proofs.Above.{found_any}
use Rattle.image_tree.proofs.Clear.{AreClear, none_put}
use Rattle.image_tree.specs.Node.{is_dir}
use Rattle.image_tree.specs.Paths.{is_below}
use Rattle.image_tree.specs.Tree as tree
use Rattle.image_tree.specs.Tree.{Nodes, IsPathSorted, clash_with, clashes, node_at}
use Rattle.image_tree.specs.declared.node.Node.{Node}
use Rattle.layer_union.proofs.Lists.{always, any_alike, any_or, keeps_all, none_filtered, twice}
use Rattle.layer_union.proofs.Trees.{all_put_sorted, at_is_same, kept, kept_from, kept_to, node_filter, over, plain_put, same_from, same_is, sorted_filter, special_put}
use Rattle.layer_union.specs.Hiding.{hides, hides_by, is_plain}
use Rattle.layer_union.specs.Steps.{IsFree, applied, clears}
use Rattle.layer_union.specs.Union.{AreSound, IsBadAt, IsSound, IsTooLarge, IsUnion, IsVisible, bad_mark}
use Rattle.image_tree.specs.declared.tree.TheConstants.{NODES_MAX}
use Rattle.layer_union.specs.Whiteouts.{is_bad, is_special, makes_opaque, whites_out}

-- ---- the five cases of hiding

split : (w o p s d b e a : Bool) → ((((w || o) || (p && s)) || ((p && d) && b)) || ((p && e) && a)) ≡ ((p && s) || ((w || o) || (p && ((a && e) || (d && b)))))
split true o true true d b e a = refl
split true o true false d b e a = refl
split true o false s d b e a = refl
split false true true true d b e a = refl
split false true true false d b e a = refl
split false true false s d b e a = refl
split false false false s d b e a = refl
split false false true true d b e a = refl
split false false true false true true true true = refl
split false false true false true true true false = refl
split false false true false true true false true = refl
split false false true false true true false false = refl
split false false true false true false true true = refl
split false false true false true false true false = refl
split false false true false true false false true = refl
split false false true false true false false false = refl
split false false true false false b true true = refl
split false false true false false b true false = refl
split false false true false false b false true = refl
split false false true false false b false false = refl

abbrev replaces : List ℕ × Node → List ℕ × Node → Bool
replaces r e = is_plain r && bytes_eq r.0 e.0

hides_parts : (layer : Nodes) (e : List ℕ × Node) → hides layer e ≡ (list_any (λ r. replaces r e) layer || list_any (λ r. clears r e) layer)
hides_parts layer e =
    any_alike (λ (r : List ℕ × Node). hides_by r e) (λ (r : List ℕ × Node). replaces r e || clears r e)
    (λ r. split (whites_out r.0 e.0) (makes_opaque r.0 e.0) (is_plain r) (bytes_eq r.0 e.0) (not (is_dir r.1)) (is_below r.0 e.0) (not (is_dir e.1)) (is_below e.0 r.0)) layer
    ∙ any_or (λ (r : List ℕ × Node). replaces r e) (λ (r : List ℕ × Node). clears r e) layer

none_replaces : (layer : Nodes) (q : List ℕ) (n : Node) → node_at layer q ≡ None → list_any (λ r. replaces r (q, n)) layer ≡ false
none_replaces [] q n h = refl
none_replaces (r ∷ layer) q n h = by_test (bytes_eq q r.0)
    (λ e. let z : Some r.1 ≡ None = sym (ap (λ b. cond b (Some r.1) (node_at layer q)) (at_is_same q r.0 ∙ e)) ∙ h in absurd (cc))
    (λ e.
    let differs : bytes_eq r.0 q ≡ false = by_test (bytes_eq r.0 q)
    (λ d. let z : true ≡ false = sym (same_from q r.0 (sym (same_is r.0 q d))) ∙ e in absurd (cc))
    (λ d. d) in
    or_from (replaces r (q, n)) (list_any (λ r. replaces r (q, n)) layer)
    (ap (λ b. is_plain r && b) differs ∙ and_no (is_plain r))
    (none_replaces layer q n (sym (ap (λ b. cond b (Some r.1) (node_at layer q)) (at_is_same q r.0 ∙ e)) ∙ h)))
  where
    and_no : (b : Bool) → (b && false) ≡ false
    and_no true = refl
    and_no false = refl

-- ---- visible nodes

visible_plain : (layers : List Nodes) (q : List ℕ) (n : Node) → IsVisible layers q n → is_special q ≡ false
visible_plain [] q n v = absurd v
visible_plain (l ∷ above) q n (inl shown) = shown.plain
visible_plain (l ∷ above) q n (inr v) = visible_plain above q n v

module _ (top : Nodes) (q : List ℕ) (n : Node) where
  abbrev Goes : List Nodes → Type 0
  Goes layers = (IsVisible layers q n) × (hides top (q, n) ≡ false)

  abbrev Own : Type 0
  Own = (node_at top q ≡ Some n) × (is_special q ≡ false)

  above_top : (above : List Nodes) → list_any (λ l. hides l (q, n)) (above ++ top ∷ []) ≡ (list_any (λ l. hides l (q, n)) above || (hides top (q, n) || false))
  above_top above = list_any-append (λ (l : Nodes). hides l (q, n)) above (top ∷ [])

  visible_from : (layers : List Nodes) → IsVisible (layers ++ top ∷ []) q n → Goes layers ⊎ Own
  visible_from [] (inl shown) = inr (shown.here, shown.plain)
  visible_from [] (inr v) = absurd v
  visible_from (l ∷ above) (inl shown) =
      let parts = or_parts (list_any (λ l. hides l (q, n)) above) (hides top (q, n) || false) (sym (above_top above) ∙ shown.free) in
      inl (inl (record { here = shown.here; plain = shown.plain; free = parts.0 }), (or_parts (hides top (q, n)) false parts.1).0)
  visible_from (l ∷ above) (inr v) = lift (visible_from above v)
    where
      lift : Goes above ⊎ Own → Goes (l ∷ above) ⊎ Own
      lift (inl g) = inl (inr g.0, g.1)
      lift (inr o) = inr o

  visible_kept : (layers : List Nodes) → IsVisible layers q n → hides top (q, n) ≡ false → IsVisible (layers ++ top ∷ []) q n
  visible_kept [] v h = absurd v
  visible_kept (l ∷ above) (inl shown) h =
      inl (record { here = shown.here; plain = shown.plain; free = above_top above ∙ or_from (list_any (λ l. hides l (q, n)) above) (hides top (q, n) || false) shown.free (or_from (hides top (q, n)) false h refl) })
  visible_kept (l ∷ above) (inr v) h = inr (visible_kept above v h)

  visible_own : (layers : List Nodes) → Own → IsVisible (layers ++ top ∷ []) q n
  visible_own [] o = inl (record { here = o.0; plain = o.1; free = refl })
  visible_own (l ∷ above) o = inr (visible_own above o)

-- ---- the union with one more layer

pub none_union : (u : Nodes) → u ≡ [] → IsPathSorted u → IsUnion [] u
none_union u e s = record { sorted = s; nodes = λ q n. ((λ h. let z : None ≡ Some n = sym (ap (λ (t : Nodes). node_at t q) e) ∙ h in absurd (cc)), (λ v. absurd v)) }

module _ (layers : List Nodes) (t top : Nodes) (is : IsUnion layers t) (sorted : IsPathSorted top) where
  abbrev keeps : List ℕ × Node → Bool
  keeps e = not (list_any (λ r. clears r e) top)

  abbrev left : Nodes
  left = filter keeps t

  module _ (q : List ℕ) (n : Node) where
    at_left : node_at left q ≡ kept keeps q (node_at t q)
    at_left = node_filter keeps q t is.sorted

    from_left : node_at left q ≡ Some n → (IsVisible layers q n) × (keeps (q, n) ≡ true)
    from_left h =
        let parts = kept_from keeps q (node_at t q) n (sym at_left ∙ h) in
        ((is.nodes q n).0 parts.0, parts.1)

    new_visible : node_at (applied t top) q ≡ Some n → IsVisible (layers ++ top ∷ []) q n
    new_visible h = by_test (is_special q)
        (λ special.
        let old = from_left (sym (special_put q special top left) ∙ h) in
        let z : true ≡ false = sym special ∙ visible_plain layers q n old.0 in absurd (cc))
        (λ plain. by plain (node_at top q) refl (sym (plain_put q plain top left sorted) ∙ h))
      where
        by : is_special q ≡ false → (o : Option Node) → node_at top q ≡ o → over o (node_at left q) ≡ Some n → IsVisible (layers ++ top ∷ []) q n
        by plain (Some m) at e = visible_own top q n layers (at ∙ e, plain)
        by plain None at e =
            let old = from_left e in
            visible_kept top q n layers old.0 (hides_parts top (q, n) ∙ or_from _ _ (none_replaces top q n at) (not_true _ old.1))

    new_there : IsVisible (layers ++ top ∷ []) q n → node_at (applied t top) q ≡ Some n
    new_there v = by (visible_from top q n layers v)
      where
        put : is_special q ≡ false → (o : Option Node) → node_at top q ≡ o → over o (node_at left q) ≡ Some n → node_at (applied t top) q ≡ Some n
        put plain o at e = plain_put q plain top left sorted ∙ ap (λ o. over o (node_at left q)) at ∙ e

        shadowed : (o : Option Node) → node_at top q ≡ o → is_special q ≡ false → hides top (q, n) ≡ false → o ≡ None
        shadowed None at plain free = refl
        shadowed (Some m) at plain free =
            let own : replaces (q, m) (q, n) ≡ true = and_from _ _ (ap not plain) (same_from q q refl) in
            let some : list_any (λ (r : List ℕ × Node). replaces r (q, n)) top ≡ true = found_any (λ (r : List ℕ × Node). replaces r (q, n)) top q m at own in
            let z : true ≡ false = sym some ∙ (or_parts _ _ (sym (hides_parts top (q, n)) ∙ free)).0 in absurd (cc)

        by : (IsVisible layers q n × (hides top (q, n) ≡ false)) ⊎ ((node_at top q ≡ Some n) × (is_special q ≡ false)) → node_at (applied t top) q ≡ Some n
        by (inr o) = put o.1 (Some n) o.0 refl
        by (inl g) =
            let plain = visible_plain layers q n g.0 in
            let none : node_at top q ≡ None = shadowed (node_at top q) refl plain g.1 in
            let free : keeps (q, n) ≡ true = ap not (or_parts _ _ (sym (hides_parts top (q, n)) ∙ g.1)).1 in
            put plain None none (at_left ∙ kept_to keeps q (node_at t q) n ((is.nodes q n).1 g.0) free)

  pub union_with : IsUnion (layers ++ top ∷ []) (applied t top)
  union_with = record { sorted = all_put_sorted top left (sorted_filter keeps t is.sorted); nodes = λ q n. (new_visible q n, new_there q n) }

-- ---- removing what each entry clears

pub cleared_first : (t rest : Nodes) (r : List ℕ × Node) → filter (λ e. not (list_any (λ r. clears r e) rest)) (filter (λ e. not (clears r e)) t) ≡ filter (λ e. not (list_any (λ r. clears r e) (r ∷ rest))) t
cleared_first t rest r =
    twice (λ (e : List ℕ × Node). not (list_any (λ r. clears r e) rest)) (λ (e : List ℕ × Node). not (clears r e)) t
    ∙ always (λ (e : List ℕ × Node). not (list_any (λ r. clears r e) rest) && not (clears r e)) (λ (e : List ℕ × Node). not (list_any (λ r. clears r e) (r ∷ rest)))
    (λ e. both (clears r e) (list_any (λ r. clears r e) rest)) t
  where
    both : (a b : Bool) → (not b && not a) ≡ not (a || b)
    both true true = refl
    both true false = refl
    both false true = refl
    both false false = refl

pub cleared_none : (t : Nodes) → filter (λ e. not (list_any (λ r. clears r e) [])) t ≡ t
cleared_none t = keeps_all (λ (e : List ℕ × Node). true) (λ e. refl) t

-- ---- putting the layer's nodes

-- what is left of the tree has room for the layer's nodes
free_after : (k : List ℕ × Node → Bool) (t rest : Nodes) → ((e : List ℕ × Node) → k e ≡ true → list_any (λ r. clears r e) rest ≡ false) → IsFree (filter k t) rest
free_after k t [] h = refl
free_after k t (r ∷ rest) h =
    and_from _ _
    (by_test (is_special r.0)
    (λ s. ap (λ b. b || not (clashes (filter k t) r.0 r.1)) s)
    (λ s.
    ap (λ b. b || not (clashes (filter k t) r.0 r.1)) s
    ∙ ap not (none_filtered (clash_with r.0 r.1) k (λ e i.
    let own : clears r e ≡ false = (or_parts (clears r e) (list_any (λ r. clears r e) rest) (h e i)).0 in
    let last : (not (is_special r.0) && clash_with r.0 r.1 e) ≡ false = (or_parts (whites_out r.0 e.0 || makes_opaque r.0 e.0) (is_plain r && clash_with r.0 r.1 e) own).1 in
    sym (ap (λ b. not b && clash_with r.0 r.1 e) s) ∙ last) t)))
    (free_after k t rest (λ e i. (or_parts (clears r e) (list_any (λ r. clears r e) rest) (h e i)).1))

pub is_free : (t layer : Nodes) → IsFree (filter (λ e. not (list_any (λ r. clears r e) layer)) t) layer
is_free t layer = free_after (λ e. not (list_any (λ r. clears r e) layer)) t layer (λ e i. not_true _ i)

-- the first node of a layer doesn't clash
pub first_free : (t rest : Nodes) (r : List ℕ × Node) → IsFree t (r ∷ rest) → is_special r.0 ≡ false → clashes t r.0 r.1 ≡ false
first_free t rest r free plain = not_true _ (sym (ap (λ b. b || not (clashes t r.0 r.1)) plain) ∙ (and_parts _ _ free).0)

pub rest_free : (t rest : Nodes) (r : List ℕ × Node) → IsFree t (r ∷ rest) → IsFree t rest
rest_free t rest r free = (and_parts _ _ free).1

pub rest_clear : (rest : Nodes) (r : List ℕ × Node) → AreClear (r ∷ rest) (r ∷ rest) → AreClear rest rest
rest_clear rest r clear = fewer rest (and_parts _ _ clear).1
  where
    fewer : (s : Nodes) → AreClear (r ∷ rest) s → AreClear rest s
    fewer [] c = refl
    fewer (e ∷ s) c =
        let parts = and_parts _ _ c in
        and_from _ _ (ap not (or_parts (clash_with e.0 e.1 r) (clashes rest e.0 e.1) (not_true _ parts.0)).1) (fewer s parts.1)

pub put_free : (t rest : Nodes) (r : List ℕ × Node) → IsFree t (r ∷ rest) → AreClear (r ∷ rest) (r ∷ rest) → IsFree (tree.put t r.0 r.1) rest
put_free t rest r free clear = each rest (and_parts _ _ free).1 (and_parts _ _ clear).1
  where
    each : (s : Nodes) → IsFree t s → AreClear (r ∷ rest) s → IsFree (tree.put t r.0 r.1) s
    each [] f c = refl
    each (e ∷ s) f c =
        let own = and_parts _ _ f in
        let clears = and_parts _ _ c in
        and_from _ _
        (by_test (is_special e.0)
        (λ h. ap (λ b. b || not (clashes (tree.put t r.0 r.1) e.0 e.1)) h)
        (λ h.
        let old : clashes t e.0 e.1 ≡ false = not_true _ (sym (ap (λ b. b || not (clashes t e.0 e.1)) h) ∙ own.0) in
        let with_first : clash_with e.0 e.1 (r.0, r.1) ≡ false = (or_parts (clash_with e.0 e.1 r) (clashes rest e.0 e.1) (not_true _ clears.0)).0 in
        ap (λ b. b || not (clashes (tree.put t r.0 r.1) e.0 e.1)) h ∙ ap not (none_put (clash_with e.0 e.1) t r.0 r.1 old with_first)))
        (each s own.1 clears.1)

-- ---- the first layers

module _ (layers : List Nodes) (k : ℕ) (top : Nodes) (within : k < length layers) (is : top ≡ get_or layers k []) where
  pub union_more : (t : Nodes) → IsUnion (take k layers) t → IsPathSorted top → IsUnion (take (k + 1) layers) (applied t top)
  union_more t u sorted =
      let more : take (k + 1) layers ≡ take k layers ++ top ∷ [] = take_more layers k [] within ∙ ap (λ x. take k layers ++ x ∷ []) (sym is) in
      subst (λ (z : List Nodes). IsUnion z (applied t top)) (sym more) (union_with (take k layers) t top u sorted)

  mark_here : position (λ e. is_bad e.0) top ≡ bad_mark layers k
  mark_here = ap (λ (z : Nodes). position (λ e. is_bad e.0) z) is

  pub sound_more : (u : Nodes) → AreSound layers k → position (λ e. is_bad e.0) top ≡ None → IsUnion (take (k + 1) layers) u → length u ≤ NODES_MAX → AreSound layers (k + 1)
  sound_more u sound none union few = λ j l. ⊎_elim
      (λ less. sound j less)
      (λ ge.
      let same : k ≡ j = omega arith in
      subst (IsSound layers) same (record { marks = sym mark_here ∙ none; few = (u, union, few) }))
      (cases_lt j k)

  pub bad_here : (node : ℕ) → AreSound layers k → position (λ e. is_bad e.0) top ≡ Some node → IsBadAt layers k node
  bad_here node sound mark = record { within = within; before = sound; mark = sym mark_here ∙ mark }

  pub large_here : (t : Nodes) → AreSound layers k → IsUnion (take k layers) t → IsPathSorted top → position (λ e. is_bad e.0) top ≡ None → NODES_MAX < length (applied t top) → IsTooLarge layers k
  large_here t sound union sorted none many = record { within = within; before = sound; marks = sym mark_here ∙ none; many = (applied t top, union_more t union sorted, many) }
