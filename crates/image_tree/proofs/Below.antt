-- The entries below a path come directly after it.
use Rattle.std.proofs.Common.{◌≡◌, ℕ, ◌+◌, ◌<◌, ◌≤◌, true, false, cond, nat_eq, List, [], ◌∷◌, ◌++◌, length, get_or, drop, refl, sym, ap, subst, ◌∙◌, ⊎_elim, arith, append_assoc, Ordering}
use Rattle.std.proofs.lemmas.Bool.{cases_lt, eqb-true}
use Rattle.std.proofs.lemmas.Bool.Decides.{Decides-eqb, nat_tests}
use Rattle.std.proofs.lemmas.Cmp.{nat_cmp_total}
use Rattle.std.proofs.lemmas.List.Folds.{list_any_none, list_any_at}
use Rattle.std.proofs.lemmas.Slice.Eq.{bytes_eq-Decides, starts_is}
use Rattle.std.specs.Cmp.{nat_cmp_is}
use Rattle.std.specs.List.{starts_with}
use Rattle.std.specs.Ordering.{nat_cmp, ordering_then, is_gt}
use Rattle.std.specs.Str.{bytes_eq}
use Rattle.std.specs.declared.cmp.Ordering.TheVariants.{Less, Equal, Greater}
use Rattle.image_tree.proofs.Order.{path_total}
use Rattle.lib_types.proofs.SortedPairs.{by_ordering, by_test, flipped, below_later, before_index}
use Rattle.image_tree.specs.Paths.{path_cmp, path_rank, is_path, root, folder, is_below}
use Rattle.image_tree.specs.declared.node.Node.{Node}
use Rattle.image_tree.specs.Index.{IsIndexOf, IsGapFor, IsAfter}
use Rattle.image_tree.specs.Tree.{Nodes, IsPathSorted, has_below}

-- equal numbers compare as Equal, and bytes with equal ranks are equal
pub nat_cmp_itself : (n : ℕ) → nat_cmp n n ≡ Equal
nat_cmp_itself n = sym (nat_cmp_is n n Equal refl)

pub nat_cmp_equal : (m n : ℕ) → nat_cmp m n ≡ Equal → m ≡ n
nat_cmp_equal m n h = grind (arith, nat_tests)

pub rank_equal : (x y : ℕ) → path_rank x ≡ path_rank y → x ≡ y
rank_equal x y h = grind (arith, nat_tests)

-- a path comes before the paths below it
pub comes_before : (p s : List ℕ) → path_cmp p (p ++ 47 ∷ s) ≡ Less
comes_before [] s = refl
comes_before (x ∷ p) s = rw (nat_cmp_itself (path_rank x)) (comes_before p s)

pub cmp_step : (x y : ℕ) (p q : List ℕ) (r : Ordering) → nat_cmp (path_rank x) (path_rank y) ≡ r → path_cmp (x ∷ p) (y ∷ q) ≡ ordering_then r (path_cmp p q)
cmp_step x y p q r h = ap (λ o. ordering_then o (path_cmp p q)) h

pub after_slash : (y : ℕ) → nat_eq y 47 ≡ false → nat_cmp (path_rank y) (path_rank 47) ≡ Greater
after_slash y h = grind (arith, nat_tests)

-- a path between p and a path below p lies below p too
pub between : (p q s : List ℕ) → path_cmp p q ≡ Less → path_cmp q (p ++ 47 ∷ s) ≡ Less → (t : List ℕ) × (q ≡ p ++ 47 ∷ t)
between [] [] s h k = absurd (cc)
between [] (y ∷ q) s h k = by_test (nat_eq y 47) (λ e. (q, ap (λ z. z ∷ q) (eqb-true y 47 e)))
    (λ e. let z : Less ≡ Greater = sym k ∙ cmp_step y 47 q s Greater (after_slash y e) in absurd (cc))
between (x ∷ p) [] s h k = absurd (cc)
between (x ∷ p) (y ∷ q) s h k = by_ordering (nat_cmp (path_rank x) (path_rank y))
    (λ a. let z : Less ≡ Greater = sym k ∙ cmp_step y x q (p ++ 47 ∷ s) Greater (flipped nat_cmp_total (path_rank x) (path_rank y) Less a) in absurd (cc))
    (λ a.
    let r = between p q s (sym (cmp_step x y p q Equal a) ∙ h) (sym (cmp_step y x q (p ++ 47 ∷ s) Equal (flipped nat_cmp_total (path_rank x) (path_rank y) Equal a)) ∙ k) in
    let e : x ≡ y = rank_equal x y (nat_cmp_equal _ _ a) in
    let f : q ≡ p ++ 47 ∷ r.0 = r.1 in
    let g : y ∷ q ≡ x ∷ (p ++ 47 ∷ r.0) = cc in
    (r.0, g))
    (λ a. let z : Less ≡ Greater = sym h ∙ cmp_step x y p q Greater a in absurd (cc))

-- the root isn't the path of a node
pub not_root : (p : List ℕ) → is_path p ≡ true → bytes_eq p root ≡ false
not_root p h = by_test (bytes_eq p root)
    (λ e. let f : is_path p ≡ false = ap is_path ((bytes_eq-Decides p root).0 e) in absurd (cc))
    (λ e. e)

folder_is : (p : List ℕ) → is_path p ≡ true → folder p ≡ p ++ root
folder_is p h = ap (λ b. cond b [] p ++ root) (not_root p h)

-- if q lies below p, q is p followed by a slash and more
pub below_is : (p q : List ℕ) → is_path p ≡ true → is_below p q ≡ true → (s : List ℕ) × (q ≡ p ++ 47 ∷ s)
below_is p q h b =
    let f = (starts_is Decides-eqb q (p ++ root) (is_below p q) (ap (λ f. starts_with nat_eq q f) (folder_is p h))).0 b in
    (drop (length (p ++ root)) q, f ∙ append_assoc p root _)

pub below_from : (p q s : List ℕ) → is_path p ≡ true → q ≡ p ++ 47 ∷ s → is_below p q ≡ true
below_from p q s h e =
    (starts_is Decides-eqb q (p ++ root) (is_below p q) (ap (λ f. starts_with nat_eq q f) (folder_is p h))).1 s (e ∙ sym (append_assoc p root s))

module _ (t : Nodes) (path : List ℕ) (at : ℕ) (proper : is_path path ≡ true) (following : IsAfter t path at) where
  pub none_before : (k : ℕ) (d : List ℕ × Node) → k < at → is_below path (get_or t k d).0 ≡ false
  none_before k d h = by_test (is_below path (get_or t k d).0)
      (λ e.
      let s = below_is path (get_or t k d).0 proper e in
      let less : path_cmp path (get_or t k d).0 ≡ Less = subst (λ (q : List ℕ). path_cmp path q ≡ Less) (sym s.1) (comes_before path s.0) in
      let g : is_gt (path_cmp (get_or t k d).0 path) ≡ true = ap is_gt (flipped path_total path (get_or t k d).0 Less less) in
      let n = following.before k d (omega arith) h in absurd (cc))
      (λ e. e)

  -- an entry between the path and an entry below it lies below it too
  pub below_as_later : IsPathSorted t → (i j : ℕ) (d : List ℕ × Node) → at ≤ i → i < j → j < length t → is_below path (get_or t j d).0 ≡ true → is_below path (get_or t i d).0 ≡ true
  below_as_later sorted i j d h k l e =
      let s = below_is path (get_or t j d).0 proper e in
      let first : path_cmp path (get_or t i d).0 ≡ Less = flipped path_total (get_or t i d).0 path Greater (following.after i d h (omega arith)) in
      let later : path_cmp (get_or t i d).0 (path ++ 47 ∷ s.0) ≡ Less = subst (λ (q : List ℕ). path_cmp (get_or t i d).0 q ≡ Less) s.1 (below_later path_total t i j d sorted k l) in
      let r = between path (get_or t i d).0 s.0 first later in
      below_from path (get_or t i d).0 r.0 proper r.1

  none_after : (d : List ℕ × Node) → IsPathSorted t → is_below path (get_or t at d).0 ≡ false → (k : ℕ) → at < k → k < length t → is_below path (get_or t k d).0 ≡ false
  none_after d sorted none k h l = by_test (is_below path (get_or t k d).0)
      (λ e. let b = below_as_later sorted at k d (omega arith) h l e in absurd (cc))
      (λ e. e)

  pub none_below_end : at ≡ length t → false ≡ has_below t path
  none_below_end e = sym (list_any_none (λ (e : List ℕ × Node). is_below path e.0) t (λ k d h. none_before k d (omega arith)))

  pub none_below_next : IsPathSorted t → at < length t → ((d : List ℕ × Node) → is_below path (get_or t at d).0 ≡ false) → has_below t path ≡ false
  none_below_next sorted l none = list_any_none (λ (e : List ℕ × Node). is_below path e.0) t (λ k d h.
      ⊎_elim (none_before k d)
      (λ ge. ⊎_elim (λ lt. none_after d sorted (none d) k lt h) (λ le. let e : at ≡ k = omega arith in subst (λ (n : ℕ). is_below path (get_or t n d).0 ≡ false) e (none d)) (cases_lt at k))
      (cases_lt k at))

  pub some_below_next : (d : List ℕ × Node) → at < length t → is_below path (get_or t at d).0 ≡ true → has_below t path ≡ true
  some_below_next d l e = list_any_at (λ (e : List ℕ × Node). is_below path e.0) t at d l e

-- the entries after the path's own entry are the ones after the path
pub after_index : (t : Nodes) (path : List ℕ) (at : ℕ) → IsPathSorted t → IsIndexOf t path at → IsAfter t path (at + 1)
after_index t path at s p = record {
  within = omega (arith, p.within);
  before = λ k d low high. ⊎_elim
      (λ lt. ap is_gt (before_index path_total t path at s p.within p.same k d (omega arith) lt))
      (λ ge. let e : k ≡ at = omega arith in subst (λ (n : ℕ). is_gt (path_cmp (get_or t n d).0 path) ≡ false) (sym e) (ap is_gt (p.same d)))
      (cases_lt k at);
  after = λ k d low high.
      let less = below_later path_total t at k d s (omega arith) high in
      flipped path_total path (get_or t k d).0 Less (sym (path_total.congr (get_or t at d).0 path (get_or t k d).0 (p.same d)) ∙ less);
}

pub after_gap : (t : Nodes) (path : List ℕ) (at : ℕ) → IsGapFor t path at → IsAfter t path at
after_gap t path at p = record { within = p.within; before = λ k d low high. ap is_gt (p.before k d low high); after = p.after }

-- paths that compare as Equal are equal
pub exact : (p q : List ℕ) → path_cmp p q ≡ Equal → p ≡ q
exact [] [] h = refl
exact [] (y ∷ q) h = absurd (cc)
exact (x ∷ p) [] h = absurd (cc)
exact (x ∷ p) (y ∷ q) h = by_ordering (nat_cmp (path_rank x) (path_rank y))
    (λ a. let z : Equal ≡ Less = sym h ∙ cmp_step x y p q Less a in absurd (cc))
    (λ a.
    let e : x ≡ y = rank_equal x y (nat_cmp_equal _ _ a) in
    let f : p ≡ q = exact p q (sym (cmp_step x y p q Equal a) ∙ h) in cc)
    (λ a. let z : Equal ≡ Greater = sym h ∙ cmp_step x y p q Greater a in absurd (cc))
