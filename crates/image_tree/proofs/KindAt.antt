-- The kind of a path, from the place that a search found for it.
use Rattle.std.proofs.Common.{◌≡◌, ◌<◌, ℕ, true, false, not, ◌&&◌, ◌==◌, List, [], ◌∷◌, length, get_or, None, refl, sym, ap, ◌∙◌, arith}
use Rattle.std.proofs.lemmas.Bool.{and_from, and_parts}
use Rattle.std.proofs.lemmas.Bool.Decides.{nat_tests}
use Rattle.std.specs.Str.{bytes_eq}
use Rattle.lib_types.proofs.SortedPairs.{by_test}
use Rattle.image_tree.proofs.Above.{found_entry, path_of_entry}
use Rattle.image_tree.proofs.Below.{none_below_end, none_below_next, some_below_next}
use Rattle.image_tree.proofs.Index.{found_node, absent_node}
use Rattle.image_tree.proofs.Prefixes.{above_is_path}
use Rattle.image_tree.specs.Index.{IsAfter, IsIndexOf, IsGapFor}
use Rattle.image_tree.specs.Paths.{is_above, is_below, is_path, root}
use Rattle.image_tree.specs.Tree.{Nodes, IsTree, has_below, kind_at, kind_of, kind_there, node_at}
use Rattle.image_tree.specs.declared.node.Node.{Node}
use Rattle.image_tree.specs.declared.tree.Kind.TheVariants.{Absent, Dir}

module _ (t : Nodes) (path : List ℕ) (proper : bytes_eq path root ≡ false) where
  kind_of_path : is_path path ≡ true → kind_at t path ≡ kind_there (node_at t path) (has_below t path)
  kind_of_path p = rw (proper, p) refl

  pub kind_of_none : is_path path ≡ false → kind_at t path ≡ Absent
  kind_of_none p = rw (proper, p) refl

  pub kind_found : (at : ℕ) → IsTree t → IsIndexOf t path at → (d : List ℕ × Node) → kind_at t path ≡ kind_of (get_or t at d).1
  kind_found at tree index d =
      let node = found_node t path at tree.sorted index d in
      kind_of_path (and_parts _ _ (found_entry t path (get_or t at d).1 tree.entries node)).0 ∙ ap (λ o. kind_there o (has_below t path)) node

  -- a text without a node is a directory if it is a path and something lies below it
  pub kind_in_gap : (at : ℕ) → IsGapFor t path at → kind_at t path ≡ kind_there None (is_path path && has_below t path)
  kind_in_gap at gap = by_test (is_path path)
      (λ p. kind_of_path p ∙ ap (λ o. kind_there o (has_below t path)) (sym (absent_node t path at gap)) ∙ ap (λ b. kind_there None (b && has_below t path)) (sym p))
      (λ p. kind_of_none p ∙ ap (λ b. kind_there None (b && has_below t path)) (sym p))

  pub dir_has_path : kind_at t path ≡ Dir → is_path path ≡ true
  dir_has_path dir = by_test (is_path path) (λ e. e) (λ e. let z : Dir ≡ Absent = sym dir ∙ kind_of_none e in absurd (cc))

module _ (t : Nodes) (path : List ℕ) (proper : bytes_eq path root ≡ false) (at : ℕ) (following : IsAfter t path at) where
  not_empty : is_path path ≡ true → not (length path == 0) ≡ true
  not_empty p = by path p
    where
      by : (q : List ℕ) → is_path q ≡ true → not (length q == 0) ≡ true
      by [] h = absurd (cc)
      by (x ∷ q) h = grind (arith, nat_tests)

  none_if : (is_path path ≡ true → has_below t path ≡ false) → (is_path path && has_below t path) ≡ false
  none_if none = by_test (is_path path)
      (λ p. ap (λ b. b && has_below t path) p ∙ none p)
      (λ p. ap (λ b. b && has_below t path) p)

  pub nothing_at_end : at ≡ length t → false ≡ (is_path path && has_below t path)
  nothing_at_end end = sym (none_if (λ p. sym (none_below_end t path at p following end)))

  pub nothing_above : IsTree t → at < length t → ((d : List ℕ × Node) → is_above path (get_or t at d).0 ≡ false) → (is_path path && has_below t path) ≡ false
  nothing_above tree within none = none_if (λ p. none_below_next t path at p following tree.sorted within (λ d.
      sym (ap (λ b. b && is_below path (get_or t at d).0) (not_empty p)) ∙ none d))

  pub something_above : IsTree t → (d : List ℕ × Node) → at < length t → is_above path (get_or t at d).0 ≡ true → (is_path path && has_below t path) ≡ true
  something_above tree d within above =
      let parts = and_parts (not (length path == 0)) _ above in
      let p : is_path path ≡ true = above_is_path path (get_or t at d).0 (λ e. some e parts.0) proper (path_of_entry t at d tree.entries within) parts.1 in
      and_from _ _ p (some_below_next t path at p following d within parts.1)
    where
      some : path ≡ [] → not (length path == 0) ≡ true → ⊥
      some e h = let z : false ≡ true = sym (ap (λ (q : List ℕ). not (length q == 0)) e) ∙ h in absurd (cc)
