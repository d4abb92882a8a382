-- A node is listed in its directory under the last name of its path.
use Rattle.std.proofs.Common.{◌≡◌, ℕ, Bool, true, ◌&&◌, ◌||◌, List, [], ◌∷◌, length, refl, ap, sym, ◌∙◌, Some}
use Rattle.std.proofs.lemmas.Bool.{and_from}
use Rattle.std.proofs.lemmas.Cmp.{nat_list_eq_equiv}
use Rattle.std.proofs.lemmas.List.Kept.{Contains-dedup}
use Rattle.std.proofs.lemmas.Map.Views.{Contains-from_any, list_any-from_Contains}
use Rattle.std.proofs.lemmas.Slice.Eq.{bytes_eq-Decides}
use Rattle.std.specs.List.{dedup, list_all, list_any}
use Rattle.std.specs.Str.{bytes_eq}
use Rattle.lib_types.proofs.SortedPairs.{by_test}
use Rattle.image_tree.proofs.Above.{found_any, path_of_found}
use Rattle.image_tree.specs.Paths.{folder, is_below, name_after}
use Rattle.image_tree.specs.Tree.{Nodes, children_of, is_entry, kind_at, names_below, node_at, of_dir}
use Rattle.image_tree.specs.declared.node.Node.{Node}
use Rattle.image_tree.specs.declared.tree.Kind.TheVariants as kinds
use Rattle.path_walk.specs.Names.{last, parent}
use Rattle.root_tree.proofs.Names.{below_parent, named_after}

once : (z : List ℕ) (names : List (List ℕ)) → list_any (bytes_eq z) names ≡ true → list_any (bytes_eq z) (dedup bytes_eq names) ≡ true
once z names h =
    let exact = λ (x y : List ℕ) (e : bytes_eq x y ≡ true). (bytes_eq-Decides x y).0 e in
    list_any-from_Contains nat_list_eq_equiv z (dedup bytes_eq names) (Contains-dedup nat_list_eq_equiv exact names z (Contains-from_any exact z names h))

module _ (d z : List ℕ) where
  -- the path is below the directory, and the next name is `z`
  abbrev goes_by : List ℕ → Bool
  goes_by p = is_below d p && bytes_eq z (name_after (length (folder d)) p)

  in_below : (t : Nodes) → list_any (bytes_eq z) (names_below t d) ≡ list_any (λ e. goes_by e.0) t
  in_below [] = refl
  in_below (e ∷ t) = by_test (is_below d e.0)
      (λ b. rw b (ap (λ c. bytes_eq z (name_after (length (folder d)) e.0) || c) (in_below t)))
      (λ b. rw b (in_below t))

pub child_of : (t : Nodes) (q : List ℕ) (n : Node) → list_all is_entry t ≡ true → node_at t q ≡ Some n → kind_at t (parent q) ≡ kinds.Dir
    → list_any (bytes_eq (last q)) (children_of t (parent q)) ≡ true
child_of t q n entries at dir =
    let proper = path_of_found t q (Some n) entries at refl in
    let goes : goes_by (parent q) (last q) q ≡ true = and_from _ _ (below_parent q proper) ((bytes_eq-Decides (last q) _).1 (sym (named_after q proper))) in
    let any : list_any (λ (e : List ℕ × Node). goes_by (parent q) (last q) e.0) t ≡ true = found_any (λ (e : List ℕ × Node). goes_by (parent q) (last q) e.0) t q n at goes in
    ap (λ kind. list_any (bytes_eq (last q)) (of_dir kind (dedup bytes_eq (names_below t (parent q))))) dir
    ∙ once (last q) (names_below t (parent q)) (in_below (parent q) (last q) t ∙ any)
