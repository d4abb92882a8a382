-- How many nodes a tree has with the links of a plan.
use Rattle.std.proofs.Common.{◌≡◌, ◌+◌, ℕ, Bool, true, false, cond, not, List, [], ◌∷◌, length, refl, ap, sym, subst, ◌∙◌, Option, Some, None, arith}
use Rattle.std.proofs.lemmas.Map.Entries.{length-keys_of}
use Rattle.std.proofs.lemmas.Slice.Eq.{bytes_eq-Decides}
use Rattle.std.specs.List.{cons_option, filter, filter_map}
use Rattle.std.specs.Map.{keys_of}
use Rattle.std.specs.Option.{is_none, is_some}
use Rattle.std.specs.Ordering.{is_eq}
use Rattle.std.specs.Str.{bytes_eq}
use Rattle.std.specs.declared.cmp.Ordering.TheVariants.{Less, Greater}
use Rattle.lib_types.proofs.SortedPairs.{by_ordering, by_test, put_step, sorted_put}
use Rattle.image_tree.proofs.Order.{path_total}
use Rattle.image_tree.specs.Paths.{path_cmp}
use Rattle.image_tree.specs.Tree as tree
use Rattle.image_tree.specs.Tree.{Nodes, IsPathSorted, node_at}
use Rattle.image_tree.specs.declared.node.Node.{Node}
use Rattle.image_tree.specs.declared.node.Node.TheVariants.{Link}
use Rattle.string_pool.proofs.Ordered.{filtered_same, keys_put, keys_stay}
use Rattle.image_tree.proofs.OneMore.{put_here, put_other}
use Rattle.soname_links.specs.Apply.{new_path, nodes_with}
use Rattle.string_pool.specs.Order.{ascending}
use Rattle.soname_links.specs.Plan.{with_link, with_links}
use Rattle.link_plan.specs.declared.kinds.Planned.{Planned}
use Rattle.string_pool.proofs.InByteOrder.{count_more}
use Rattle.string_pool.proofs.Counted.{none_there}

-- ---- the nodes

module _ (path : List ℕ) (node : Node) where
  length_known : (t : Nodes) → IsPathSorted t → is_some (node_at t path) ≡ true → length (tree.put t path node) ≡ length t
  length_known t sorted there =
      let more : length (keys_of (tree.put t path node)) ≡ length (tree.put t path node) = length-keys_of (tree.put t path node) in
      let same : length (keys_of t) ≡ length t = length-keys_of t in
      sym more ∙ ap length (keys_put path_cmp t path node ∙ sym (keys_stay path_total path t sorted there)) ∙ same

  length_new : (t : Nodes) → is_some (node_at t path) ≡ false → length (tree.put t path node) ≡ length t + 1
  length_new [] h = refl
  length_new (e ∷ t) h = by_ordering (path_cmp path e.0)
      (λ a. ap length (put_step path_total path e t node Less a) ∙ (omega arith))
      (λ a. let z : true ≡ false = sym (ap (λ r. is_some (cond (is_eq r) (Some e.1) (node_at t path))) a) ∙ h in absurd (cc))
      (λ a.
      let less = length_new t (sym (ap (λ r. is_some (cond (is_eq r) (Some e.1) (node_at t path))) a) ∙ h) in
      ap length (put_step path_total path e t node Greater a) ∙ (omega arith))

absent : (o : Option Node) → is_none o ≡ true → is_some o ≡ false
absent None h = refl
absent (Some node) h = absurd (cc)

present : (o : Option Node) → is_none o ≡ false → is_some o ≡ true
present None h = absurd (cc)
present (Some node) h = refl

-- ---- the paths of new nodes after one link more

module _ (t : Nodes) (planned : Planned) where
  has_node : is_none (node_at (with_link t planned) planned.path) ≡ false
  has_node = ap is_none (put_here planned.path (Link planned.file) t)

  none_elsewhere : (q : List ℕ) → bytes_eq q planned.path ≡ false → is_none (node_at (with_link t planned) q) ≡ is_none (node_at t q)
  none_elsewhere q e = ap is_none (put_other planned.path (Link planned.file) q e t)

  path_by : (s : Nodes) (other : Planned) (b : Bool) → is_none (node_at s other.path) ≡ b → new_path s other ≡ cond b (Some other.path) None
  path_by s other b e = ap (λ c. cond c (Some other.path) None) e

  known_same : is_none (node_at t planned.path) ≡ false → (other : Planned) → new_path (with_link t planned) other ≡ new_path t other
  known_same known other = ap (λ b. cond b (Some other.path) None) (by_test (bytes_eq other.path planned.path)
      (λ e.
      let same : planned.path ≡ other.path = sym ((bytes_eq-Decides other.path planned.path).0 e) in
      subst (λ (q : List ℕ). is_none (node_at (with_link t planned) q) ≡ is_none (node_at t q)) same (has_node ∙ sym known))
      (λ e. none_elsewhere other.path e))

  others_new : is_none (node_at t planned.path) ≡ true → (plan : List Planned)
      → filter_map (new_path (with_link t planned)) plan ≡ filter (λ y. not (bytes_eq y planned.path)) (filter_map (new_path t) plan)
  others_new none [] = refl
  others_new none (other ∷ plan) =
      let s = with_link t planned in
      let keep = λ (y : List ℕ). not (bytes_eq y planned.path) in
      let rest = filter_map (new_path t) plan in
      by_test (bytes_eq other.path planned.path)
      (λ e.
      let same : planned.path ≡ other.path = sym ((bytes_eq-Decides other.path planned.path).0 e) in
      let now = path_by s other false (subst (λ (q : List ℕ). is_none (node_at s q) ≡ false) same has_node) in
      let before = path_by t other true (subst (λ (q : List ℕ). is_none (node_at t q) ≡ true) same none) in
      ap (λ o. cons_option o (filter_map (new_path s) plan)) now ∙ others_new none plan
      ∙ sym (ap (λ o. filter keep (cons_option o rest)) before ∙ ap (λ b. cond (not b) (other.path ∷ filter keep rest) (filter keep rest)) e))
      (λ e. by_test (is_none (node_at t other.path))
      (λ n.
      ap (λ o. cons_option o (filter_map (new_path s) plan)) (path_by s other true (none_elsewhere other.path e ∙ n)) ∙ ap (λ ps. other.path ∷ ps) (others_new none plan)
      ∙ sym (ap (λ o. filter keep (cons_option o rest)) (path_by t other true n) ∙ ap (λ b. cond (not b) (other.path ∷ filter keep rest) (filter keep rest)) e))
      (λ n.
      ap (λ o. cons_option o (filter_map (new_path s) plan)) (path_by s other false (none_elsewhere other.path e ∙ n)) ∙ others_new none plan
      ∙ sym (ap (λ o. filter keep (cons_option o rest)) (path_by t other false n))))

abbrev count_of : List (List ℕ) → ℕ
count_of paths = length (ascending paths)

-- the tree with the links has the nodes that it had, and those at new paths
pub nodes_counted : (plan : List Planned) (t : Nodes) → IsPathSorted t → nodes_with t plan ≡ length (with_links t plan)
nodes_counted [] t sorted = let none = none_there in omega arith
nodes_counted (planned ∷ plan) t sorted =
    let s = with_link t planned in
    let rest = filter_map (new_path t) plan in
    let later : length s + count_of (filter_map (new_path s) plan) ≡ length (with_links s plan) =
    nodes_counted plan s (sorted_put path_total planned.path t (Link planned.file) sorted) in
    by_test (is_none (node_at t planned.path))
    (λ n.
    let size : length s ≡ length t + 1 = length_new planned.path (Link planned.file) t (absent _ n) in
    let paths : count_of (filter_map (new_path s) plan) ≡ count_of (filter (λ y. not (bytes_eq y planned.path)) rest) = ap count_of (others_new t planned n plan) in
    let one : count_of (planned.path ∷ rest) ≡ count_of (filter (λ y. not (bytes_eq y planned.path)) rest) + 1 = count_more planned.path rest in
    let whole : count_of (filter_map (new_path t) (planned ∷ plan)) ≡ count_of (planned.path ∷ rest) = ap (λ o. count_of (cons_option o rest)) (path_by t planned t planned true n) in
    omega arith)
    (λ n.
    let size : length s ≡ length t = length_known planned.path (Link planned.file) t sorted (present _ n) in
    let paths : count_of (filter_map (new_path s) plan) ≡ count_of rest = ap count_of (filtered_same (new_path s) (new_path t) (known_same t planned n) plan) in
    let whole : count_of (filter_map (new_path t) (planned ∷ plan)) ≡ count_of rest = ap (λ o. count_of (cons_option o rest)) (path_by t planned t planned false n) in
    omega arith)
