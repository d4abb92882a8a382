-- The children of a directory with their nodes.
use Rattle.std.proofs.Common.{◌≡◌, ℕ, suc, ◌+◌, ◌-◌, ◌<◌, Bool, true, false, cond, nat_eq, ◌&&◌, map, Some, None, List, [], ◌∷◌, ◌++◌, length, get_or, drop, refl, sym, ap, subst, ◌∙◌, ◌⊎◌, inl, inr, ⊎_elim, arith, append_assoc, length-append, length-drop}
use Rattle.std.proofs.lemmas.Bool.{eq-eqb}
use Rattle.std.proofs.lemmas.Bool.Decides.{nat_tests}
use Rattle.std.proofs.lemmas.Cmp.{tied_itself}
use Rattle.std.proofs.lemmas.List.{get_or_default}
use Rattle.std.proofs.lemmas.List.Elements.{filter_passes}
use Rattle.std.proofs.lemmas.Slice.Eq.{bytes_eq-Decides}
use Rattle.std.specs.BTreeMap.{is_at}
use Rattle.std.specs.Cmp.{Equal-is}
use Rattle.std.specs.List.{filter, dedup, dedup_from, starts_with}
use Rattle.std.specs.Map.{lookup}
use Rattle.std.specs.Str.{bytes_eq}
use Rattle.std.specs.declared.cmp.Ordering.TheVariants.{Less, Equal, Greater}
use Rattle.lib_types.proofs.SortedPairs.{by_ordering, by_test, flipped, below_later}
use Rattle.image_tree.proofs.Below.{between, comes_before, exact}
use Rattle.image_tree.proofs.Index.{found_node, absent_node}
use Rattle.image_tree.proofs.Order.{path_total}
use Rattle.image_tree.proofs.Rising.{below_rest, first_name, name_ended, name_goes_on, sorted_filtered}
use Rattle.image_tree.proofs.Runs.{gap_between}
use Rattle.image_tree.specs.Index.{IsIndexOf, IsGapFor}
use Rattle.image_tree.specs.Paths.{folder, is_below, join, name_after, path_cmp}
use Rattle.image_tree.specs.Runs.{child_at, ends_by, is_same_child}
use Rattle.image_tree.specs.Tree.{Nodes, IsPathSorted, children_of, kind_at, listing_of, names_below, node_at, of_dir}
use Rattle.image_tree.specs.declared.node.Node.{Node}
use Rattle.image_tree.specs.declared.tree.Kind.{Kind}
use Rattle.image_tree.specs.declared.tree.Kind.TheVariants.{Absent, Dir, File, Link}
use Rattle.image_tree.proofs.AllOfChild.{after_front}

-- ---- the first item of each group of adjacent items with one name

module _ {X N V : Type 0} (same : N → N → Bool) (exact : (m n : N) → same m n ≡ true → m ≡ n) (name : X → N) (value : X → V) (there : N → V) where
  abbrev pub same_name : N × V → N × V → Bool
  same_name c d = same c.0 d.0

  abbrev pub named : X → N × V
  named x = (name x, value x)

  abbrev pub with_value : N → N × V
  with_value n = (n, there n)

  -- if each item whose name differs from the previous one has the value of its name
  grouped : (x : X) (xs : List X)
      → ((k : ℕ) (d : X) → k < length xs → same (name (get_or xs k d)) (name (get_or (x ∷ xs) k d)) ≡ false → value (get_or xs k d) ≡ there (name (get_or xs k d)))
      → dedup_from same_name (with_value (name x)) (map named xs) ≡ map with_value (dedup_from same (name x) (map name xs))
  grouped x [] h = refl
  grouped x (y ∷ ys) h =
      let rest = grouped y ys (λ k d l differs. h (suc k) d (omega arith) differs) in
      by_test (same (name y) (name x))
      (λ e.
      let one : name y ≡ name x = exact _ _ e in
      ap (λ b. cond b (dedup_from same_name (with_value (name x)) (map named ys)) (with_value (name x) ∷ dedup_from same_name (named y) (map named ys))) e
      ∙ subst (λ n. dedup_from same_name (with_value n) (map named ys) ≡ map with_value (dedup_from same n (map name ys))) one rest
      ∙ sym (ap (λ b. map with_value (cond b (dedup_from same (name x) (map name ys)) (name x ∷ dedup_from same (name y) (map name ys)))) e))
      (λ e.
      let own : value y ≡ there (name y) = h 0 y (omega arith) e in
      ap (λ b. cond b (dedup_from same_name (with_value (name x)) (map named ys)) (with_value (name x) ∷ dedup_from same_name (named y) (map named ys))) e
      ∙ ap (λ v. with_value (name x) ∷ dedup_from same_name (name y, v) (map named ys)) own
      ∙ ap (λ l. with_value (name x) ∷ l) rest
      ∙ sym (ap (λ b. map with_value (cond b (dedup_from same (name x) (map name ys)) (name x ∷ dedup_from same (name y) (map name ys)))) e))

  pub all_grouped : (xs : List X)
      → ((k : ℕ) (d : X) → k < length xs → ((j : ℕ) → k ≡ j + 1 → same (name (get_or xs k d)) (name (get_or xs j d)) ≡ false) → value (get_or xs k d) ≡ there (name (get_or xs k d)))
      → dedup same_name (map named xs) ≡ map with_value (dedup same (map name xs))
  all_grouped [] h = refl
  all_grouped (x ∷ xs) h =
      let own : value x ≡ there (name x) = h 0 x (omega arith) (λ j e. absurd (omega arith)) in
      ap (λ v. dedup_from same_name (name x, v) (map named xs)) own
      ∙ grouped x xs (λ k d l differs.
      h (suc k) d (omega arith) (λ j e. let before : k ≡ j = omega arith in subst (λ n. same (name (get_or xs k d)) (name (get_or (x ∷ xs) n d)) ≡ false) before differs))

-- ---- the first name of the bytes after a directory prefix

abbrev GoesOn : List ℕ → Type 0
GoesOn r = (s : List ℕ) × (r ≡ first_name r ++ 47 ∷ s)

-- the first name is all of the bytes, or a slash follows it
name_parts : (r : List ℕ) → (first_name r ≡ r) ⊎ GoesOn r
name_parts [] = inl refl
name_parts (x ∷ r) = by_test (nat_eq x 47)
    (λ e.
    let slash : x ≡ 47 = grind (arith, nat_tests) in
    inr (r, ap (λ b. b ∷ r) slash ∙ ap (λ n. n ++ 47 ∷ r) (sym (name_ended x r e))))
    (λ e.
    let step = name_goes_on x r e in
    ⊎_elim
    (λ whole. inl (step ∙ ap (λ n. x ∷ n) whole))
    (λ more. inr (more.0, ap (λ n. x ∷ n) more.1 ∙ ap (λ n. n ++ 47 ∷ more.0) (sym step)))
    (name_parts r))

name_before_slash : (r s : List ℕ) → first_name (first_name r ++ 47 ∷ s) ≡ first_name r
name_before_slash [] s = name_ended 47 s refl
name_before_slash (x ∷ r) s = by_test (nat_eq x 47)
    (λ e. let none = name_ended x r e in ap (λ n. first_name (n ++ 47 ∷ s)) none ∙ name_ended 47 s refl ∙ sym none)
    (λ e.
    let step = name_goes_on x r e in
    ap (λ n. first_name (n ++ 47 ∷ s)) step ∙ name_goes_on x (first_name r ++ 47 ∷ s) e ∙ ap (λ n. x ∷ n) (name_before_slash r s) ∙ sym step)

name_alone : (r : List ℕ) → first_name (first_name r) ≡ first_name r
name_alone [] = refl
name_alone (x ∷ r) = by_test (nat_eq x 47)
    (λ e. let none = name_ended x r e in ap first_name none ∙ sym none)
    (λ e. let step = name_goes_on x r e in ap first_name step ∙ name_goes_on x (first_name r) e ∙ ap (λ n. x ∷ n) (name_alone r) ∙ sym step)

-- ---- entries below a path

module _ (p : List ℕ) where
  abbrev start : ℕ
  start = length (folder p)

  abbrev name_of : List ℕ → List ℕ
  name_of q = name_after start q

  -- the path of the child that an entry belongs to
  abbrev child_of : List ℕ → List ℕ
  child_of q = join p (name_of q)

  module _ (q : List ℕ) (below : is_below p q ≡ true) where
    abbrev rest : List ℕ
    rest = drop start q

    whole_path : first_name rest ≡ rest → q ≡ child_of q
    whole_path whole = below_rest p q below ∙ ap (λ r. folder p ++ r) (sym whole)

    longer_path : (s : List ℕ) → rest ≡ first_name rest ++ 47 ∷ s → q ≡ child_of q ++ 47 ∷ s
    longer_path s more = below_rest p q below ∙ ap (λ r. folder p ++ r) more ∙ sym (append_assoc (folder p) (first_name rest) (47 ∷ s))

    own_path : ends_by start q ≡ true → q ≡ child_of q
    own_path ends =
        let same : length (first_name rest) ≡ length q - start = grind (arith, nat_tests) in
        let left = length-drop start q in
        ⊎_elim whole_path
        (λ more. let l = ap length more.1 ∙ length-append (first_name rest) (47 ∷ more.0) in absurd (omega arith))
        (name_parts rest)

    deeper_path : ends_by start q ≡ false → (s : List ℕ) × (q ≡ child_of q ++ 47 ∷ s)
    deeper_path ends =
        let left = length-drop start q in
        ⊎_elim
        (λ whole.
        let l : length (first_name rest) ≡ length q - start = ap length whole ∙ left in
        let same : ends_by start q ≡ true = grind (arith, nat_tests) in absurd (cc))
        (λ more. (more.0, longer_path more.0 more.1))
        (name_parts rest)

    -- the child's path, and each path below it, has the name of the child
    name_of_child : name_of (child_of q) ≡ name_of q
    name_of_child = ap first_name (after_front (folder p) (first_name rest)) ∙ name_alone rest

    name_of_deeper : (s : List ℕ) → name_of (child_of q ++ 47 ∷ s) ≡ name_of q
    name_of_deeper s =
        ap (λ z. first_name (drop start z)) (append_assoc (folder p) (first_name rest) (47 ∷ s))
        ∙ ap first_name (after_front (folder p) (first_name rest ++ 47 ∷ s)) ∙ name_before_slash rest s

    child_before : ends_by start q ≡ false → path_cmp q (child_of q) ≡ Greater
    child_before ends =
        let more = deeper_path ends in
        flipped path_total (child_of q) q Less (subst (λ z. path_cmp (child_of q) z ≡ Less) (sym more.1) (comes_before (child_of q) more.0))

    -- an earlier path of another child also comes before the child's own path
    before_child : (a : List ℕ) → ends_by start q ≡ false → path_cmp a q ≡ Less → bytes_eq (name_of q) (name_of a) ≡ false → path_cmp a (child_of q) ≡ Less
    before_child a ends less other =
        let not_same : name_of a ≡ name_of q → path_cmp a (child_of q) ≡ Less = λ e.
        let z : bytes_eq (name_of q) (name_of a) ≡ true = (bytes_eq-Decides _ _).1 (sym e) in absurd (cc) in
        by_ordering (path_cmp a (child_of q))
        (λ o. o)
        (λ o. not_same (ap name_of (exact a (child_of q) o) ∙ name_of_child))
        (λ o.
        let more = deeper_path ends in
        let r = between (child_of q) a more.0 (flipped path_total a (child_of q) Greater o) (subst (λ z. path_cmp a z ≡ Less) more.1 less) in
        not_same (ap name_of r.1 ∙ name_of_deeper r.0))

-- ---- nodes of children

module _ (test : List ℕ → Bool) (q : List ℕ) (passes : test q ≡ true) where
  node_filtered : (t : Nodes) → node_at (filter (λ e. test e.0) t) q ≡ node_at t q
  node_filtered [] = refl
  node_filtered (e ∷ t) = by_test (is_at (path_cmp q) e.0)
      (λ here.
      let same : q ≡ e.0 = exact q e.0 ((Equal-is (path_cmp q e.0)).0 here) in
      let kept : test e.0 ≡ true = subst (λ z. test z ≡ true) same passes in
      ap (λ b. lookup (is_at (path_cmp q)) (cond b (e ∷ filter (λ e. test e.0) t) (filter (λ e. test e.0) t))) kept
      ∙ ap (λ b. cond b (Some e.1) (lookup (is_at (path_cmp q)) (filter (λ e. test e.0) t))) here
      ∙ sym (ap (λ b. cond b (Some e.1) (node_at t q)) here))
      (λ other. by_test (test e.0)
      (λ kept.
      ap (λ b. lookup (is_at (path_cmp q)) (cond b (e ∷ filter (λ e. test e.0) t) (filter (λ e. test e.0) t))) kept
      ∙ ap (λ b. cond b (Some e.1) (lookup (is_at (path_cmp q)) (filter (λ e. test e.0) t))) other
      ∙ node_filtered t
      ∙ sym (ap (λ b. cond b (Some e.1) (node_at t q)) other))
      (λ left.
      ap (λ b. lookup (is_at (path_cmp q)) (cond b (e ∷ filter (λ e. test e.0) t) (filter (λ e. test e.0) t))) left
      ∙ node_filtered t
      ∙ sym (ap (λ b. cond b (Some e.1) (node_at t q)) other)))

module _ (t : Nodes) (p : List ℕ) (sorted : IsPathSorted t) where
  abbrev entries : Nodes
  entries = filter (λ e. is_below p e.0) t

  rises : IsPathSorted entries
  rises = sorted_filtered (is_below p) t sorted

  lies_below : (k : ℕ) (d : List ℕ × Node) → k < length entries → is_below p (get_or entries k d).0 ≡ true
  lies_below k d l = filter_passes (λ (e : List ℕ × Node). is_below p e.0) t k d l

  abbrev first_at : ℕ → List ℕ × Node → Type 0
  first_at k d = (j : ℕ) → k ≡ j + 1 → bytes_eq (name_of p (get_or entries k d).0) (name_of p (get_or entries j d).0) ≡ false

  -- if the first entry of a child isn't at the child's own path, no entry has that path
  gap_of_child : (k : ℕ) (d : List ℕ × Node) → k < length entries → first_at k d → ends_by (start p) (get_or entries k d).0 ≡ false → IsGapFor entries (child_of p (get_or entries k d).0) k
  gap_of_child k d l first ends =
      let q = (get_or entries k d).0 in
      let below = lies_below k d l in
      gap_between entries (child_of p q) k rises (omega arith)
      (λ i e next.
      let less = below_later path_total entries i k d rises (omega arith) l in
      subst (λ z. path_cmp z.0 (child_of p q) ≡ Less) (get_or_default entries i d e (omega arith)) (before_child p q below (get_or entries i d).0 ends less (first i next)))
      (λ e within. subst (λ z. path_cmp z.0 (child_of p q) ≡ Greater) (get_or_default entries k d e within) (child_before p q below ends))

  index_of_child : (k : ℕ) (d : List ℕ × Node) → k < length entries → ends_by (start p) (get_or entries k d).0 ≡ true → IsIndexOf entries (child_of p (get_or entries k d).0) k
  index_of_child k d l ends =
      let q = (get_or entries k d).0 in
      let own : path_cmp q (child_of p q) ≡ Equal = ap (path_cmp q) (sym (own_path p q (lies_below k d l) ends)) ∙ tied_itself path_total q in
      record { within = l; same = λ e. subst (λ z. path_cmp z.0 (child_of p q) ≡ Equal) (get_or_default entries k d e l) own }

  own_node : (k : ℕ) (d : List ℕ × Node) → k < length entries → first_at k d → (child_at (start p) (get_or entries k d)).1 ≡ node_at entries (child_of p (get_or entries k d).0)
  own_node k d l first =
      let e = get_or entries k d in
      by_test (ends_by (start p) e.0)
      (λ ends. ap (λ b. cond b (Some e.1) None) ends ∙ sym (found_node entries (child_of p e.0) k rises (index_of_child k d l ends) d))
      (λ ends. ap (λ b. cond b (Some e.1) None) ends ∙ absent_node entries (child_of p e.0) k (gap_of_child k d l first ends))

  below_itself : (name : List ℕ) → is_below p (join p name) ≡ true
  below_itself name = front (folder p) name
    where
      front : (f r : List ℕ) → starts_with nat_eq (f ++ r) f ≡ true
      front [] r = refl
      front (x ∷ f) r = ap (λ b. b && starts_with nat_eq (f ++ r) f) (eq-eqb x x refl) ∙ front f r

  pub listed : kind_at t p ≡ Dir → dedup is_same_child (map (child_at (start p)) entries) ≡ listing_of t p
  listed dir =
      all_grouped bytes_eq (λ m n. (bytes_eq-Decides m n).0) (λ (e : List ℕ × Node). name_of p e.0) (λ (e : List ℕ × Node). (child_at (start p) e).1) (λ name. node_at t (join p name)) entries
      (λ k d l first. own_node k d l first ∙ node_filtered (is_below p) (child_of p (get_or entries k d).0) (below_itself (name_of p (get_or entries k d).0)) t)
      ∙ ap (λ kind. map (λ name. (name, node_at t (join p name))) (of_dir kind (dedup bytes_eq (names_below t p)))) (sym dir)

-- ---- listings

none_of : {A : Type 0} (f : List ℕ → A) (kind : Kind) (names : List (List ℕ)) → (kind ≡ Dir → ⊥) → [] ≡ map f (of_dir kind names)
none_of f Dir names h = absurd (h refl)
none_of f Absent names h = refl
none_of f File names h = refl
none_of f Link names h = refl

pub none_listed : (t : Nodes) (p : List ℕ) → (kind_at t p ≡ Dir → ⊥) → [] ≡ listing_of t p
none_listed t p h = none_of (λ name. (name, node_at t (join p name))) (kind_at t p) (dedup bytes_eq (names_below t p)) h

names_kept : {N V : Type 0} (f : N → V) (names : List N) → map (λ (c : N × V). c.0) (map (λ n. (n, f n)) names) ≡ names
names_kept f [] = refl
names_kept f (n ∷ names) = ap (λ l. n ∷ l) (names_kept f names)

pub names_listed : (t : Nodes) (p : List ℕ) → map (λ c. c.0) (listing_of t p) ≡ children_of t p
names_listed t p = names_kept (λ name. node_at t (join p name)) (children_of t p)
