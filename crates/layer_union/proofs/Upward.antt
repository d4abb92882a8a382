-- The file or link at a path or above it.
use Rattle.std.proofs.Common.{◌≡◌, ℕ, ◌<◌, Bool, true, false, ◌&&◌, ◌||◌, not, List, length, get_or, filter, Option, Some, None, refl, sym, ap, ◌∙◌}
use Rattle.std.proofs.lemmas.Bool.{and_from}
use Rattle.std.proofs.lemmas.List.Folds.{list_any_at}
use Rattle.std.specs.Str.{bytes_eq}
use Rattle.lib_types.proofs.Bools.{and_false, not_true}
use Rattle.lib_types.proofs.SortedPairs.{by_test}
use Rattle.image_tree.proofs.Above.{clash_above, found_passes, path_of_entry}
use Rattle.image_tree.proofs.KindAt.{dir_has_path}
use Rattle.image_tree.specs.Index.{has_file_above, is_file_above}
use Rattle.image_tree.specs.Node.{is_dir}
use Rattle.image_tree.specs.Paths.{is_below, is_path, root}
use Rattle.image_tree.specs.Tree as tree
use Rattle.image_tree.specs.Tree.{Nodes, IsTree, clash_with, clashes, has_below, kind_at, kind_of, kind_there, node_at}
use Rattle.image_tree.specs.declared.node.Node.{Node}
use Rattle.image_tree.specs.declared.node.Node.TheVariants as node
use Rattle.image_tree.specs.declared.tree.Kind.TheVariants as kind
use Rattle.path_walk.proofs.KindsAt.{at_none, at_path, dir_above, kind_of_node}
use Rattle.path_walk.specs.Names.{parent}
use Rattle.layer_union.proofs.Lists.{all_kept, alike, twice}
use Rattle.layer_union.proofs.Paths.{above_parent, none_above_root, not_at_root}
use Rattle.layer_union.proofs.Trees.{in_tree, removed_filter, same_is}
use Rattle.layer_union.specs.Steps.{is_file_from}

dir_is : (n : Node) → kind_of n ≡ kind.Dir → is_dir n ≡ true
dir_is node.Dir e = refl
dir_is (node.File key id) e = absurd (cc)
dir_is (node.Link target) e = absurd (cc)

file_is : (n : Node) → (kind_of n ≡ kind.Dir → ⊥) → is_dir n ≡ false
file_is node.Dir other = absurd (other refl)
file_is (node.File key id) other = refl
file_is (node.Link target) other = refl

pub file_from : (n : Node) → (n ≡ node.Dir → ⊥) → is_dir n ≡ false
file_from node.Dir other = absurd (other refl)
file_from (node.File key id) other = refl
file_from (node.Link target) other = refl

present : (n : Node) → kind_of n ≡ kind.Absent → ⊥
present node.Dir e = absurd (cc)
present (node.File key id) e = absurd (cc)
present (node.Link target) e = absurd (cc)

no_file : (d b : Bool) → (b ≡ true → d ≡ true) → (not d && b) ≡ false
no_file true b h = refl
no_file false true h = let z : false ≡ true = h refl in absurd (cc)
no_file false false h = refl

abbrev pub without_file : List ℕ → Nodes → Nodes
without_file q t = filter (λ e. not (is_file_from q e)) t

module _ (t : Nodes) (valid : IsTree t) where
  kind_of_entry : (k : ℕ) (d : List ℕ × Node) → k < length t → kind_at t (get_or t k d).0 ≡ kind_of (get_or t k d).1
  kind_of_entry k d l = kind_of_node t (get_or t k d).0 (get_or t k d).1 (path_of_entry t k d valid.entries l) (in_tree t valid.sorted k d l)

  -- an entry at the path has its kind
  kind_here : (q : List ℕ) (k : ℕ) (d : List ℕ × Node) → k < length t → bytes_eq q (get_or t k d).0 ≡ true → kind_of (get_or t k d).1 ≡ kind_at t q
  kind_here q k d l e = sym (kind_of_entry k d l) ∙ ap (kind_at t) (sym (same_is q (get_or t k d).0 e))

  pub at_root : without_file root t ≡ t
  at_root = all_kept (λ (e : List ℕ × Node). not (is_file_from root e)) t (λ k d l.
      let e = get_or t k d in
      let proper : is_path e.0 ≡ true = path_of_entry t k d valid.entries l in
      ap (λ b. not (not (is_dir e.1) && (b || is_below e.0 root))) (not_at_root e.0 proper)
      ∙ ap (λ b. not (not (is_dir e.1) && b)) (none_above_root e.0 proper)
      ∙ ap not (and_false (not (is_dir e.1))))

  module _ (q : List ℕ) where
    -- if nothing is at the path, its directory decides
    pub at_absent : kind_at t q ≡ kind.Absent → without_file q t ≡ without_file (parent q) t
    at_absent none = alike (λ (e : List ℕ × Node). not (is_file_from q e)) (λ (e : List ℕ × Node). not (is_file_from (parent q) e)) t (λ k d l.
        let e = get_or t k d in
        let proper : is_path e.0 ≡ true = path_of_entry t k d valid.entries l in
        let other : bytes_eq q e.0 ≡ false = by_test (bytes_eq q e.0)
        (λ same. absurd (present e.1 (kind_here q k d l same ∙ none)))
        (λ h. h) in
        ap (λ b. not (not (is_dir e.1) && (b || is_below e.0 q))) other
        ∙ ap (λ b. not (not (is_dir e.1) && b)) (above_parent e.0 q proper))

    -- a directory has no file or link above it
    pub at_dir : bytes_eq q root ≡ false → kind_at t q ≡ kind.Dir → without_file q t ≡ t
    at_dir other dir = all_kept (λ (e : List ℕ × Node). not (is_file_from q e)) t (λ k d l.
        let e = get_or t k d in
        let proper : is_path e.0 ≡ true = path_of_entry t k d valid.entries l in
        let next : is_path q ≡ true = dir_has_path t q other dir in
        ap not (no_file (is_dir e.1) (bytes_eq q e.0 || is_below e.0 q) (λ h. by_test (bytes_eq q e.0)
        (λ same. dir_is e.1 (kind_here q k d l same ∙ dir))
        (λ b.
        let below : is_below e.0 q ≡ true = sym (ap (λ b. b || is_below e.0 q) b) ∙ h in
        dir_is e.1 (sym (kind_of_entry k d l) ∙ dir_above t valid e.0 q proper next below dir)))))

    node_there : (o : Option Node) (b : Bool) → kind_there o b ≡ kind_at t q → (kind_at t q ≡ kind.Dir → ⊥) → (kind_at t q ≡ kind.Absent → ⊥) → (n : Node) × (o ≡ Some n)
    node_there (Some n) b e dir absent = (n, refl)
    node_there None true e dir absent = absurd (dir (sym e))
    node_there None false e dir absent = absurd (absent (sym e))

    -- a file or link is the only one
    pub at_file : bytes_eq q root ≡ false → (kind_at t q ≡ kind.Dir → ⊥) → (kind_at t q ≡ kind.Absent → ⊥) → tree.remove t q ≡ without_file q t
    at_file other dir absent = by_test (is_path q)
        (λ proper.
        let found = node_there (node_at t q) (has_below t q) (sym (at_path t q other proper)) dir absent in
        let n = found.0 in
        let is : node_at t q ≡ Some n = found.1 in
        let kinds : kind_at t q ≡ kind_of n = kind_of_node t q n proper is in
        let free : clashes t q n ≡ false = not_true _ (found_passes (λ (x : List ℕ × Node). not (clashes t x.0 x.1)) t q n is valid.clear) in
        removed_filter q t valid.sorted
        ∙ alike (λ (e : List ℕ × Node). not (bytes_eq q e.0)) (λ (e : List ℕ × Node). not (is_file_from q e)) t (λ k d l.
        let e = get_or t k d in
        by_test (bytes_eq q e.0)
        (λ same.
        let file : is_dir e.1 ≡ false = file_is e.1 (λ h. dir (sym (kind_here q k d l same) ∙ h)) in
        ap not (same ∙ sym (ap (λ b. not b && (bytes_eq q e.0 || is_below e.0 q)) file ∙ ap (λ b. b || is_below e.0 q) same)))
        (λ differs.
        ap not (differs ∙ sym (ap (λ b. not (is_dir e.1) && (b || is_below e.0 q)) differs ∙ no_file (is_dir e.1) (is_below e.0 q) (λ below. by_test (is_dir e.1)
        (λ h. h)
        (λ file.
        let above : has_file_above t q ≡ true = list_any_at (is_file_above q) t k d l (and_from _ _ below (ap not file)) in
        let z : true ≡ false = sym (clash_above t q n above) ∙ free in absurd (cc))))))))
        (λ proper. absurd (absent (at_none t q other proper)))

-- ---- the entries with which a node clashes

module _ (t : Nodes) (valid : IsTree t) (path : List ℕ) where
  above_only : (node : Node) (rest : List ℕ × Node → Bool) → ((e : List ℕ × Node) → rest e ≡ (not (is_dir node) && is_below path e.0))
      → filter (λ e. not (rest e)) (without_file (parent path) t) ≡ filter (λ e. not (clash_with path node e)) t
  above_only node rest is =
      twice (λ (e : List ℕ × Node). not (rest e)) (λ (e : List ℕ × Node). not (is_file_from (parent path) e)) t
      ∙ alike (λ (e : List ℕ × Node). not (rest e) && not (is_file_from (parent path) e)) (λ (e : List ℕ × Node). not (clash_with path node e)) t (λ k d l.
      let e = get_or t k d in
      let proper : is_path e.0 ≡ true = path_of_entry t k d valid.entries l in
      ap (λ b. not (rest e) && not (not (is_dir e.1) && b)) (sym (above_parent e.0 path proper))
      ∙ ap (λ b. not b && not (not (is_dir e.1) && is_below e.0 path)) (is e)
      ∙ flip (not (is_dir node) && is_below path e.0) (not (is_dir e.1)) (is_below e.0 path))
    where
      flip : (a b c : Bool) → (not a && not (b && c)) ≡ not ((c && b) || a)
      flip true true true = refl
      flip true true false = refl
      flip true false true = refl
      flip true false false = refl
      flip false true true = refl
      flip false true false = refl
      flip false false true = refl
      flip false false false = refl

  pub clash_of_dir : (node : Node) → is_dir node ≡ true → without_file (parent path) t ≡ filter (λ e. not (clash_with path node e)) t
  clash_of_dir node dir =
      sym (all_kept (λ (e : List ℕ × Node). true) (without_file (parent path) t) (λ k d l. refl))
      ∙ above_only node (λ e. false) (λ e. sym (ap (λ b. not b && is_below path e.0) dir))

  pub clash_of_file : (node : Node) → is_dir node ≡ false → filter (λ e. not (is_below path e.0)) (without_file (parent path) t) ≡ filter (λ e. not (clash_with path node e)) t
  clash_of_file node file = above_only node (λ e. is_below path e.0) (λ e. sym (ap (λ b. not b && is_below path e.0) file))
