-- `put` and `remove` keep a tree free of clashes.
use Rattle.std.proofs.Common.{◌≡◌, ℕ, Bool, true, false, cond, ◌&&◌, ◌||◌, not, List, [], ◌∷◌, refl, sym, ap, subst, ◌∙◌}
use Rattle.std.proofs.lemmas.Bool.{and_parts, and_from, or_parts, or_from}
use Rattle.std.proofs.lemmas.Cmp.{tied_itself}
use Rattle.std.specs.List.{list_all, list_any}
use Rattle.std.specs.Map.{remove_entry}
use Rattle.std.specs.declared.cmp.Ordering.TheVariants.{Less, Equal, Greater}
use Rattle.image_tree.proofs.Below.{exact, below_is, comes_before}
use Rattle.image_tree.proofs.Order.{path_total}
use Rattle.lib_types.proofs.SortedPairs.{by_ordering, by_test, put_step}
use Rattle.lib_types.proofs.Bools.{not_true, and_false, turned}
use Rattle.image_tree.specs.Node.{is_dir}
use Rattle.image_tree.specs.Paths.{path_cmp, is_path, is_below}
use Rattle.image_tree.specs.Tree as tree
use Rattle.image_tree.specs.Tree.{Nodes, clash_with, clashes}
use Rattle.image_tree.specs.declared.node.Node.{Node}

-- ---- a test of each entry

module _ (p : List ℕ × Node → Bool) where
  pub all_put : (t : Nodes) (path : List ℕ) (node : Node) → list_all p t ≡ true → p (path, node) ≡ true → list_all p (tree.put t path node) ≡ true
  all_put [] path node all h = and_from _ _ h refl
  all_put (e ∷ t) path node all h = by_ordering (path_cmp path e.0)
      (λ a. rw (put_step path_total path e t node Less a) (and_from _ _ h all))
      (λ a. rw (put_step path_total path e t node Equal a) (and_from _ _ (subst (λ (q : List ℕ). p (q, node) ≡ true) (exact path e.0 a) h) (and_parts _ _ all).1))
      (λ a. rw (put_step path_total path e t node Greater a) (and_from _ _ (and_parts _ _ all).0 (all_put t path node (and_parts _ _ all).1 h)))

  pub none_put : (t : Nodes) (path : List ℕ) (node : Node) → list_any p t ≡ false → p (path, node) ≡ false → list_any p (tree.put t path node) ≡ false
  none_put [] path node none h = or_from _ _ h refl
  none_put (e ∷ t) path node none h = by_ordering (path_cmp path e.0)
      (λ a. rw (put_step path_total path e t node Less a) (or_from _ _ h none))
      (λ a. rw (put_step path_total path e t node Equal a) (or_from _ _ (subst (λ (q : List ℕ). p (q, node) ≡ false) (exact path e.0 a) h) (or_parts _ _ none).1))
      (λ a. rw (put_step path_total path e t node Greater a) (or_from _ _ (or_parts _ _ none).0 (none_put t path node (or_parts _ _ none).1 h)))

  pub all_removed : (test : List ℕ → Bool) (t : Nodes) → list_all p t ≡ true → list_all p (remove_entry test t) ≡ true
  all_removed test [] all = refl
  all_removed test (e ∷ t) all = elim (test e.0) as (λ b. list_all p (cond b t (e ∷ remove_entry test t)) ≡ true)
      [ true ↦ (and_parts _ _ all).1 | false ↦ and_from _ _ (and_parts _ _ all).0 (all_removed test t (and_parts _ _ all).1) ]

  none_left : (test : List ℕ → Bool) (t : Nodes) → list_any p t ≡ false → list_any p (remove_entry test t) ≡ false
  none_left test [] none = refl
  none_left test (e ∷ t) none = elim (test e.0) as (λ b. list_any p (cond b t (e ∷ remove_entry test t)) ≡ false)
      [ true ↦ (or_parts _ _ none).1 | false ↦ or_from _ _ (or_parts _ _ none).0 (none_left test t (or_parts _ _ none).1) ]

-- ---- no clash

not_below_itself : (path : List ℕ) → is_path path ≡ true → is_below path path ≡ false
not_below_itself path proper = by_test (is_below path path)
    (λ e.
    let s = below_is path path proper e in
    let less : path_cmp path path ≡ Less = subst (λ (q : List ℕ). path_cmp path q ≡ Less) (sym s.1) (comes_before path s.0) in
    let same : path_cmp path path ≡ Equal = tied_itself path_total path in
    let z : Less ≡ Equal = sym less ∙ same in absurd (cc))
    (λ e. e)

no_clash_itself : (path : List ℕ) (node : Node) → is_path path ≡ true → clash_with path node (path, node) ≡ false
no_clash_itself path node proper =
    ap (λ b. (b && not (is_dir node)) || (not (is_dir node) && b)) (not_below_itself path proper) ∙ and_false (not (is_dir node))

abbrev pub AreClear : Nodes → Nodes → Type 0
AreClear t s = list_all (λ e. not (clashes t e.0 e.1)) s ≡ true

module _ (t : Nodes) (path : List ℕ) (node : Node) (proper : is_path path ≡ true) where
  others_clear : (s : Nodes) → AreClear t s → list_any (clash_with path node) s ≡ false → AreClear (tree.put t path node) s
  others_clear [] clear free = refl
  others_clear (e ∷ s) clear free =
      let one = turned (is_below path e.0) (not (is_dir node)) (not (is_dir e.1)) (is_below e.0 path) ∙ (or_parts _ _ free).0 in
      and_from _ _ (ap not (none_put (clash_with e.0 e.1) t path node (not_true _ (and_parts _ _ clear).0) one)) (others_clear s (and_parts _ _ clear).1 (or_parts _ _ free).1)

  pub clear_put : AreClear t t → clashes t path node ≡ false → AreClear (tree.put t path node) (tree.put t path node)
  clear_put clear free =
      all_put (λ (e : List ℕ × Node). not (clashes (tree.put t path node) e.0 e.1)) t path node (others_clear t clear free)
      (ap not (none_put (clash_with path node) t path node free (no_clash_itself path node proper)))

module _ (t : Nodes) (test : List ℕ → Bool) where
  rest_clear : (s : Nodes) → AreClear t s → AreClear (remove_entry test t) s
  rest_clear [] clear = refl
  rest_clear (e ∷ s) clear = and_from _ _ (ap not (none_left (clash_with e.0 e.1) test t (not_true _ (and_parts _ _ clear).0))) (rest_clear s (and_parts _ _ clear).1)

  pub clear_removed : AreClear t t → AreClear (remove_entry test t) (remove_entry test t)
  clear_removed clear = all_removed (λ (e : List ℕ × Node). not (clashes (remove_entry test t) e.0 e.1)) test t (rest_clear t clear)
