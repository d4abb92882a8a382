-- A tree with one node more: the nodes at paths, and what lies below them.
use Rattle.std.proofs.Common.{◌≡◌, ℕ, Bool, true, false, cond, not, ◌&&◌, ◌||◌, List, [], ◌∷◌, length, map, refl, ap, sym, subst, ◌∙◌, Some}
use Rattle.std.proofs.lemmas.Bool.{and_from}
use Rattle.std.proofs.lemmas.Slice.Eq.{bytes_eq-Decides}
use Rattle.std.specs.List.{filter, list_any}
use Rattle.std.specs.Str.{bytes_eq}
use Rattle.std.specs.declared.cmp.Ordering.TheVariants.{Less, Equal, Greater}
use Rattle.lib_types.proofs.Bools.{and_false}
use Rattle.lib_types.proofs.SortedPairs.{by_ordering, by_test, put_step}
use Rattle.string_pool.proofs.Either.{swapped, twice}
use Rattle.image_tree.proofs.Above.{found_any}
use Rattle.image_tree.proofs.Below.{exact}
use Rattle.image_tree.proofs.Order.{path_total}
use Rattle.image_tree.specs.Index.{has_file_above, is_file_above}
use Rattle.image_tree.specs.Node.{is_dir}
use Rattle.image_tree.specs.Paths.{folder, is_below, name_after, path_cmp}
use Rattle.image_tree.specs.Tree as tree
use Rattle.image_tree.specs.Tree.{Nodes, names_below, node_at}
use Rattle.image_tree.specs.declared.node.Node.{Node}

-- ---- tests of the paths

module _ (path : List ℕ) (node : Node) where
  pub any_put : (test : List ℕ → Bool) (t : Nodes) → list_any (λ e. test e.0) (tree.put t path node) ≡ (test path || list_any (λ e. test e.0) t)
  any_put test [] = refl
  any_put test (e ∷ t) = by_ordering (path_cmp path e.0)
      (λ a. rw (put_step path_total path e t node Less a) refl)
      (λ a.
      rw (put_step path_total path e t node Equal a)
      (subst (λ (z : List ℕ). (test e.0 || list_any (λ e. test e.0) t) ≡ (test z || (test e.0 || list_any (λ e. test e.0) t))) (sym (exact path e.0 a)) (twice (test e.0) _)))
      (λ a. rw (put_step path_total path e t node Greater a) (ap (λ b. test e.0 || b) (any_put test t) ∙ swapped (test e.0) (test path) _))

  pub kept_put : (keep : List ℕ → Bool) → keep path ≡ false → (t : Nodes) → filter (λ e. keep e.0) (tree.put t path node) ≡ filter (λ e. keep e.0) t
  kept_put keep h [] = rw h refl
  kept_put keep h (e ∷ t) = by_ordering (path_cmp path e.0)
      (λ a. rw (put_step path_total path e t node Less a) (rw h refl))
      (λ a.
      let here : keep e.0 ≡ false = subst (λ (z : List ℕ). keep z ≡ false) (exact path e.0 a) h in
      rw (put_step path_total path e t node Equal a) (rw here refl))
      (λ a. rw (put_step path_total path e t node Greater a) (ap (λ es. cond (keep e.0) (e ∷ es) es) (kept_put keep h t)))

-- ---- the names below a directory

module _ (d x : List ℕ) where
  abbrev name_in : List ℕ → List ℕ
  name_in q = name_after (length (folder d)) q

  abbrev pub is_other : List ℕ → Bool
  is_other name = not (bytes_eq name x)

  abbrev keeps : List ℕ → Bool
  keeps q = is_below d q && is_other (name_in q)

  names_kept : (t : Nodes) → filter is_other (names_below t d) ≡ map (λ e. name_in e.0) (filter (λ e. keeps e.0) t)
  names_kept [] = refl
  names_kept (e ∷ t) = by_test (is_below d e.0)
      (λ b. by_test (bytes_eq (name_in e.0) x)
      (λ s. rw (b, s) (names_kept t))
      (λ s. rw (b, s) (ap (λ names. name_in e.0 ∷ names) (names_kept t))))
      (λ b. rw b (names_kept t))

-- the other names are the same
pub others_same : (t : Nodes) (path : List ℕ) (node : Node) (d : List ℕ) →
    let x = name_after (length (folder d)) path in filter (is_other d x) (names_below (tree.put t path node) d) ≡ filter (is_other d x) (names_below t d)
others_same t path node d =
    let x = name_after (length (folder d)) path in
    let itself : bytes_eq x x ≡ true = (bytes_eq-Decides x x).1 refl in
    let gone : keeps d x path ≡ false = ap (λ b. is_below d path && not b) itself ∙ and_false (is_below d path) in
    names_kept d x (tree.put t path node) ∙ ap (map (λ e. name_after (length (folder d)) e.0)) (kept_put path node (keeps d x) gone t) ∙ sym (names_kept d x t)

-- nothing of it is below the directory, so all names are the same
pub names_same : (t : Nodes) (path : List ℕ) (node : Node) (d : List ℕ) → is_below d path ≡ false → names_below (tree.put t path node) d ≡ names_below t d
names_same t path node d differ = ap (map (λ e. name_after (length (folder d)) e.0)) (kept_put path node (is_below d) differ t)

-- ---- what is above a path

pub above_found : (path q : List ℕ) (node : Node) (t : Nodes) → node_at t q ≡ Some node → is_below q path ≡ true → is_dir node ≡ false → has_file_above t path ≡ true
above_found path q node t e below file = found_any (is_file_above path) t q node e (and_from _ _ below (ap not file))
