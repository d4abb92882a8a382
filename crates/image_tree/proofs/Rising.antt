-- The names below a directory are sorted as the tree's list is.
use Rattle.std.proofs.Common.{◌≡◌, ℕ, suc, ◌+◌, ◌<◌, Bool, true, false, cond, ◌==◌, not, nat_eq, List, [], ◌∷◌, ◌++◌, length, get_or, take, drop, refl, sym, ap, subst, ◌∙◌, arith}
use Rattle.std.proofs.lemmas.Bool.Decides.{Decides-eqb, nat_tests}
use Rattle.std.proofs.lemmas.Bool.{eqb-true}
use Rattle.std.proofs.lemmas.Cmp.{nat_list_cmp_total}
use Rattle.std.proofs.lemmas.List.{get_or-map, length-map}
use Rattle.std.proofs.lemmas.List.Elements.{filter_passes}
use Rattle.std.proofs.lemmas.List.Kept.{IsStrictlySortedBy-dedup}
use Rattle.std.proofs.lemmas.Map.Text.{is_eq-slice_cmp}
use Rattle.std.proofs.lemmas.Slice.Eq.{starts_is}
use Rattle.std.specs.Cmp.Lexicographic.{slice_cmp}
use Rattle.std.specs.List.{filter, dedup, before_first, position_or_len, AllByRecursion}
use Rattle.std.specs.List.Sorted.{IsSorted, IsStrictlySortedBy}
use Rattle.std.specs.Map.{keys_of}
use Rattle.std.specs.Ordering.{nat_cmp, ordering_then, is_lt}
use Rattle.std.specs.Str.{bytes_eq}
use Rattle.std.specs.declared.cmp.Ordering.TheVariants.{Less, Equal, Greater}
use Rattle.image_tree.proofs.Below.{cmp_step, after_slash, rank_equal, nat_cmp_equal, nat_cmp_itself}
use Rattle.image_tree.proofs.Order.{path_total}
use Rattle.lib_types.proofs.SortedPairs.{by_ordering, by_test, below_later}
use Rattle.image_tree.specs.Paths.{path_cmp, path_rank, folder, is_below, name_after}
use Rattle.image_tree.specs.Tree.{Nodes, IsPathSorted, of_dir, kind_at, names_below, children_of}
use Rattle.image_tree.specs.declared.node.Node.{Node}
use Rattle.image_tree.specs.declared.node.Node.TheVariants as node
use Rattle.image_tree.specs.declared.tree.Kind.{Kind}
use Rattle.image_tree.specs.declared.tree.Kind.TheVariants.{Absent, Dir, File, Link}

abbrev pub first_name : List ℕ → List ℕ
first_name = before_first (λ b. b == 47)

abbrev IsNotBelow : List ℕ → List ℕ → Type 0
IsNotBelow xs ys = is_lt (slice_cmp nat_cmp xs ys) ≡ false

not_below_empty : (xs : List ℕ) → IsNotBelow xs []
not_below_empty [] = refl
not_below_empty (x ∷ xs) = refl

pub name_ended : (x : ℕ) (s : List ℕ) → nat_eq x 47 ≡ true → first_name (x ∷ s) ≡ []
name_ended x s h = ap (λ b. take (cond (not b) (1 + position_or_len (λ b. b == 47) s) 0) (x ∷ s)) h

pub name_goes_on : (x : ℕ) (s : List ℕ) → nat_eq x 47 ≡ false → first_name (x ∷ s) ≡ x ∷ first_name s
name_goes_on x s h =
    let n = position_or_len (λ (b : ℕ). b == 47) s in
    let e : 1 + n ≡ suc n = omega arith in
    ap (λ b. take (cond (not b) (1 + n) 0) (x ∷ s)) h ∙ ap (λ k. take k (x ∷ s)) e

same_bytes : (x y : ℕ) → nat_eq x 47 ≡ false → nat_eq y 47 ≡ false → nat_cmp (path_rank x) (path_rank y) ≡ Less → nat_cmp y x ≡ Greater
same_bytes x y h k a = grind (arith, nat_tests)

names_rise : (s u : List ℕ) → path_cmp s u ≡ Less → IsNotBelow (first_name u) (first_name s)
names_rise [] u h = not_below_empty (first_name u)
names_rise (x ∷ s) [] h = absurd (cc)
names_rise (x ∷ s) (y ∷ u) h = by_test (nat_eq x 47)
    (λ e. subst (λ (z : List ℕ). IsNotBelow (first_name (y ∷ u)) z) (sym (name_ended x s e)) (not_below_empty (first_name (y ∷ u))))
    (λ e. by_test (nat_eq y 47)
    (λ f.
    let g : path_rank y ≡ path_rank 47 = ap path_rank (eqb-true y 47 f) in
    let z : Less ≡ Greater = sym h ∙ cmp_step x y s u Greater (ap (λ r. nat_cmp (path_rank x) r) g ∙ after_slash x e) in absurd (cc))
    (λ f.
    let P : List ℕ → Type 0 = λ z. IsNotBelow z (x ∷ first_name s) in
    let Q : List ℕ → Type 0 = λ z. IsNotBelow (first_name (y ∷ u)) z in
    let rises : IsNotBelow (y ∷ first_name u) (x ∷ first_name s) = by_ordering (nat_cmp (path_rank x) (path_rank y))
    (λ a. ap (λ r. is_lt (ordering_then r (slice_cmp nat_cmp (first_name u) (first_name s)))) (same_bytes x y e f a))
    (λ a.
    let same : nat_cmp y x ≡ Equal = ap (λ z. nat_cmp z x) (sym (rank_equal x y (nat_cmp_equal _ _ a))) ∙ nat_cmp_itself x in
    ap (λ r. is_lt (ordering_then r (slice_cmp nat_cmp (first_name u) (first_name s)))) same
    ∙ names_rise s u (sym (cmp_step x y s u Equal a) ∙ h))
    (λ a. let z : Less ≡ Greater = sym h ∙ cmp_step x y s u Greater a in absurd (cc)) in
    subst Q (sym (name_goes_on x s e)) (subst P (sym (name_goes_on y u f)) rises)))

without_front : (f s u : List ℕ) → path_cmp (f ++ s) (f ++ u) ≡ path_cmp s u
without_front [] s u = refl
without_front (x ∷ f) s u = cmp_step x x (f ++ s) (f ++ u) Equal (nat_cmp_itself (path_rank x)) ∙ without_front f s u

pub below_rest : (p q : List ℕ) → is_below p q ≡ true → q ≡ folder p ++ drop (length (folder p)) q
below_rest p q h = (starts_is Decides-eqb q (folder p) (is_below p q) refl).0 h

names_of_later : (p q r : List ℕ) → is_below p q ≡ true → is_below p r ≡ true → path_cmp q r ≡ Less → IsNotBelow (name_after (length (folder p)) r) (name_after (length (folder p)) q)
names_of_later p q r h k less =
    let n = length (folder p) in
    let P : List ℕ → Type 0 = λ z. path_cmp z r ≡ Less in
    let Q : List ℕ → Type 0 = λ z. path_cmp (folder p ++ drop n q) z ≡ Less in
    names_rise (drop n q) (drop n r) (sym (without_front (folder p) (drop n q) (drop n r)) ∙ subst Q (below_rest p r k) (subst P (below_rest p q h) less))

module _ (test : List ℕ → Bool) where
  all_filtered : (P : List ℕ → Type 0) (t : Nodes) → AllByRecursion P (keys_of t) → AllByRecursion P (keys_of (filter (λ e. test e.0) t))
  all_filtered P [] a = tt
  all_filtered P (e ∷ t) a = elim (test e.0) as (λ b. AllByRecursion P (keys_of (cond b (e ∷ filter (λ e. test e.0) t) (filter (λ e. test e.0) t))))
      [ true ↦ (a.0, all_filtered P t a.1) | false ↦ all_filtered P t a.1 ]

  pub sorted_filtered : (t : Nodes) → IsPathSorted t → IsPathSorted (filter (λ e. test e.0) t)
  unfolding IsStrictlySortedBy
  sorted_filtered [] s = tt
  sorted_filtered (e ∷ t) s = elim (test e.0) as (λ b. IsPathSorted (cond b (e ∷ filter (λ e. test e.0) t) (filter (λ e. test e.0) t)))
      [ true ↦ (all_filtered _ t s.0, sorted_filtered t s.1) | false ↦ sorted_filtered t s.1 ]

names_sorted : (t : Nodes) (p : List ℕ) → IsPathSorted t → IsSorted (slice_cmp nat_cmp) (names_below t p)
names_sorted t p sorted k d low high =
    let es = filter (λ (e : List ℕ × Node). is_below p e.0) t in
    let name = λ (e : List ℕ × Node). name_after (length (folder p)) e.0 in
    let some : List ℕ × Node = ([], node.Dir) in
    let h : k + 1 < length es = rw length-map at high in
    let passes = filter_passes (λ (e : List ℕ × Node). is_below p e.0) t in
    let now = get_or-map name es k some d (omega arith) in
    let next = get_or-map name es (k + 1) some d h in
    rw (now, next)
    (names_of_later p (get_or es k some).0 (get_or es (k + 1) some).0 (passes k some (omega arith)) (passes (k + 1) some h)
    (below_later path_total es k (k + 1) some (sorted_filtered (is_below p) t sorted) (omega arith) h))

dir_alone : (kind : Kind) (names : List (List ℕ)) → IsStrictlySortedBy (slice_cmp nat_cmp) names → IsStrictlySortedBy (slice_cmp nat_cmp) (of_dir kind names)
unfolding IsStrictlySortedBy
dir_alone Dir names s = s
dir_alone Absent names s = tt
dir_alone File names s = tt
dir_alone Link names s = tt

-- the children are strictly sorted by their bytes, so each occurs once
pub children_sorted : (t : Nodes) (p : List ℕ) → IsPathSorted t → IsStrictlySortedBy (slice_cmp nat_cmp) (children_of t p)
children_sorted t p sorted =
    dir_alone (kind_at t p) (dedup bytes_eq (names_below t p))
    (IsStrictlySortedBy-dedup nat_list_cmp_total (λ x y. sym (is_eq-slice_cmp x y)) (names_below t p) (names_sorted t p sorted))
