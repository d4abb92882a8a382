-- Adding a node to a part, and adding a node to both a tree and its part.
use Rattle.std.proofs.Common.{◌≡◌, ℕ, Bool, true, false, ◌&&◌, ◌||◌, not, List, refl, ap, sym, subst, ◌∙◌, Option, Some, None}
use Rattle.std.proofs.lemmas.Bool.{and_parts, false≢true}
use Rattle.std.proofs.lemmas.Slice.Eq.{bytes_eq-Decides}
use Rattle.std.specs.Str.{bytes_eq}
use Rattle.lib_types.proofs.SortedPairs.{by_test}
use Rattle.lib_types.proofs.SortedPairs as pairs
use Rattle.image_tree.proofs.Above.{found_any, found_entry, path_of_found}
use Rattle.image_tree.proofs.Clear.{all_put}
use Rattle.image_tree.proofs.OneMore.{put_here, put_other}
use Rattle.image_tree.proofs.Order.{path_total}
use Rattle.image_tree.specs.Node.{is_dir}
use Rattle.image_tree.specs.Paths.{is_below, is_path}
use Rattle.image_tree.specs.Tree as tree
use Rattle.image_tree.specs.Tree.{Nodes, clash_with, clashes, has_below, is_entry, node_at}
use Rattle.image_tree.specs.declared.node.Node.{Node}
use Rattle.image_tree.specs.declared.node.Node.TheVariants.{Dir}
use Rattle.root_folder.proofs.Dirs.{dir_above}
use Rattle.root_folder.specs.Whole.{IsWhole}
use Rattle.seen_tree.proofs.Found.{IsFoundBy, any_found}
use Rattle.seen_tree.specs.Part.{IsPart, IsSeen}
use Rattle.image_tree.proofs.FoundNodes.{by_some}

-- ---- a node of the tree

module _ (t part : Nodes) (is : IsPart t part) (q : List ℕ) (n : Node) (at : node_at t q ≡ Some n) where
  pub seen_here : IsSeen t (tree.put part q n) q
  seen_here = put_here q n part ∙ sym at

  pub others_seen : (z : List ℕ) → IsSeen t part z → IsSeen t (tree.put part q n) z
  others_seen z seen = by_test (bytes_eq z q)
      (λ e. subst (IsSeen t (tree.put part q n)) (sym ((bytes_eq-Decides z q).0 e)) seen_here)
      (λ e. put_other q n z e part ∙ seen)

  pub part_with : IsWhole t → IsPart t (tree.put part q n)
  part_with whole = record {
    sorted = pairs.sorted_put path_total q part n is.sorted;
    entries = all_put is_entry part q n is.entries (found_entry t q n whole.entries at);
    nodes = λ z m e. by_test (bytes_eq z q)
        (λ f. subst (λ (x : List ℕ). node_at (tree.put part q n) x ≡ Some m → node_at t x ≡ Some m) (sym ((bytes_eq-Decides z q).0 f)) (λ g. sym seen_here ∙ g) e)
        (λ f. is.nodes z m (sym (put_other q n z f part) ∙ e));
  }

  -- the node doesn't clash with the nodes of the part
  pub no_clash : IsWhole t → clashes part q n ≡ false
  no_clash whole = by_test (clashes part q n) (λ c. absurd (by (any_found (clash_with q n) part is.sorted c))) (λ c. c)
    where
      not_a_dir : (m : Node) → m ≡ Dir → not (is_dir m) ≡ true → ⊥
      not_a_dir m e h = false≢true (sym (ap (λ k. not (is_dir k)) e) ∙ h)

      by : IsFoundBy (clash_with q n) part → ⊥
      by f =
          let there = is.nodes f.path f.node f.found in
          by_test (is_below f.path q && not (is_dir f.node))
          (λ a.
          let parts = and_parts (is_below f.path q) (not (is_dir f.node)) a in
          let below : has_below t f.path ≡ true = found_any (λ (e : List ℕ × Node). is_below f.path e.0) t q n at parts.0 in
          let dir = dir_above t whole f.path (path_of_found t f.path (Some f.node) whole.entries there refl) below in
          not_a_dir f.node (by_some (sym there ∙ dir)) parts.1)
          (λ a.
          let parts = and_parts (not (is_dir n)) (is_below q f.path) (sym (ap (λ b. b || (not (is_dir n) && is_below q f.path)) a) ∙ f.passes) in
          let below : has_below t q ≡ true = found_any (λ (e : List ℕ × Node). is_below q e.0) t f.path f.node there parts.1 in
          let dir = dir_above t whole q (path_of_found t q (Some n) whole.entries at refl) below in
          not_a_dir n (by_some (sym at ∙ dir)) parts.0)

-- ---- adding a node to both

module _ (t : Nodes) (q : List ℕ) (n : Node) (part : Nodes) where
  pub seen_both : (z : List ℕ) → IsSeen t part z → IsSeen (tree.put t q n) (tree.put part q n) z
  seen_both z seen = by_test (bytes_eq z q)
      (λ e. subst (IsSeen (tree.put t q n) (tree.put part q n)) (sym ((bytes_eq-Decides z q).0 e)) (put_here q n part ∙ sym (put_here q n t)))
      (λ e. put_other q n z e part ∙ seen ∙ sym (put_other q n z e t))

  pub part_both : is_entry (q, n) ≡ true → IsPart t part → IsPart (tree.put t q n) (tree.put part q n)
  part_both entry is = record {
    sorted = pairs.sorted_put path_total q part n is.sorted;
    entries = all_put is_entry part q n is.entries entry;
    nodes = λ z m e. by_test (bytes_eq z q)
        (λ f. subst (λ (x : List ℕ). node_at (tree.put part q n) x ≡ Some m → node_at (tree.put t q n) x ≡ Some m) (sym ((bytes_eq-Decides z q).0 f))
        (λ g. put_here q n t ∙ sym (put_here q n part) ∙ g) e)
        (λ f. put_other q n z f t ∙ is.nodes z m (sym (put_other q n z f part) ∙ e));
  }
