-- The first child of a directory, and what is left after it is cleared.
use Rattle.std.proofs.Common.{◌≡◌, ℕ, ◌+◌, ◌<◌, Bool, true, false, cond, ◌&&◌, ◌||◌, not, nat_eq, List, [], ◌∷◌, ◌++◌, drop, length, length-append, get_or, map, filter, Option, Some, None, refl, sym, ap, subst, ◌∙◌, arith}
use Rattle.std.proofs.lemmas.Bool.{and_from, and_parts}
use Rattle.std.proofs.lemmas.Bool.Decides.{nat_tests, Decides-eqb}
use Rattle.std.proofs.lemmas.Slice.Eq.{starts_is}
use Rattle.std.proofs.lemmas.List.{append-nil}
use Rattle.std.proofs.lemmas.List.Folds.{list_any_none}
use Rattle.std.specs.List.{dedup, list_all, list_any, starts_with}
use Rattle.std.specs.Str.{bytes_eq}
use Rattle.lib_types.proofs.Bools.{not_true}
use Rattle.lib_types.proofs.SortedPairs.{by_test}
use Rattle.lib_types.specs.Name.{slash}
use Rattle.image_tree.proofs.Above.{clash_above, clash_below, found_passes, path_of_entry}
use Rattle.image_tree.proofs.Below.{below_from, not_root}
use Rattle.image_tree.proofs.Names.{child_path, same_child}
use Rattle.image_tree.proofs.Prefixes.{above_is_path, path_above}
use Rattle.image_tree.specs.Index.{has_file_above}
use Rattle.image_tree.specs.Node.{is_dir}
use Rattle.image_tree.specs.Paths.{folder, is_below, is_path, join, name_after, root, stem}
use Rattle.image_tree.specs.Runs.{IsPathOfChild, is_name_end}
use Rattle.image_tree.specs.Tree as tree
use Rattle.image_tree.specs.Tree.{Nodes, IsTree, children_of, clashes, has_below, is_entry, kind_at, kind_there, names_below, node_at, of_dir}
use Rattle.image_tree.specs.declared.node.Node.{Node}
use Rattle.image_tree.specs.declared.node.Node.TheVariants as node
use Rattle.image_tree.specs.declared.tree.Kind.{Kind}
use Rattle.image_tree.specs.declared.tree.Kind.TheVariants as kind
use Rattle.path_walk.proofs.KindsAt.{at_path, at_root}
use Rattle.layer_union.proofs.Lists.{always, dedup_starts, none_mapped, twice, within}
use Rattle.layer_union.proofs.Paths.{below_below, front}
use Rattle.layer_union.proofs.Trees.{fewer, removed_filter, same_from, same_is, unseen}
use Rattle.layer_union.specs.Steps.{IsChild, is_from}

-- ---- a directory without children

module _ (t : Nodes) (valid : IsTree t) (q : List ℕ) where
  abbrev name_of : List ℕ × Node → List ℕ
  name_of e = name_after (length (folder q)) e.0

  abbrev lies_below : List ℕ × Node → Bool
  lies_below e = is_below q e.0

  dir_with_node : (n : Node) → node_at t q ≡ Some n → has_below t q ≡ true → kind_there (Some n) true ≡ kind.Dir
  dir_with_node node.Dir is some = refl
  dir_with_node (node.File key id) is some = let z : true ≡ false = sym some ∙ none_below (node.File key id) is refl in absurd (cc)
    where
      none_below : (n : Node) → node_at t q ≡ Some n → not (is_dir n) ≡ true → has_below t q ≡ false
      none_below n e other =
          let clear : clashes t q n ≡ false = not_true _ (found_passes (λ (x : List ℕ × Node). not (clashes t x.0 x.1)) t q n e valid.clear) in
          by_test (has_file_above t q)
          (λ a. let z : true ≡ false = sym (clash_above t q n a) ∙ clear in absurd (cc))
          (λ a. sym (clash_below t q n a other) ∙ clear)
  dir_with_node (node.Link target) is some = let z : true ≡ false = sym some ∙ none_below (node.Link target) is refl in absurd (cc)
    where
      none_below : (n : Node) → node_at t q ≡ Some n → not (is_dir n) ≡ true → has_below t q ≡ false
      none_below n e other =
          let clear : clashes t q n ≡ false = not_true _ (found_passes (λ (x : List ℕ × Node). not (clashes t x.0 x.1)) t q n e valid.clear) in
          by_test (has_file_above t q)
          (λ a. let z : true ≡ false = sym (clash_above t q n a) ∙ clear in absurd (cc))
          (λ a. sym (clash_below t q n a other) ∙ clear)

  dir_there : (o : Option Node) → node_at t q ≡ o → has_below t q ≡ true → kind_there o true ≡ kind.Dir
  dir_there (Some n) is some = dir_with_node n is some
  dir_there None is some = refl

  -- what has something below it is a directory
  dir_above : (q ≡ [] → ⊥) → has_below t q ≡ true → kind_at t q ≡ kind.Dir
  dir_above named some = by_test (bytes_eq q root)
      (λ r. at_root t q r)
      (λ r. by_test (is_path q)
      (λ p. at_path t q r p ∙ ap (kind_there (node_at t q)) some ∙ dir_there (node_at t q) refl some)
      (λ p.
      let none : has_below t q ≡ false = list_any_none lies_below t (λ k d l. by_test (lies_below (get_or t k d))
      (λ h. let z : true ≡ false = sym (above_is_path q (get_or t k d).0 named r (path_of_entry t k d valid.entries l) h) ∙ p in absurd (cc))
      (λ h. h)) in
      let z : true ≡ false = sym some ∙ none in absurd (cc)))

  dedup_none : (xs : List (List ℕ)) → dedup bytes_eq xs ≡ [] → xs ≡ []
  dedup_none [] h = refl
  dedup_none (x ∷ xs) h = let s = dedup_starts bytes_eq x xs in let z : x ∷ s.0 ≡ [] = sym s.1 ∙ h in absurd (cc)

  pub no_children : (q ≡ [] → ⊥) → children_of t q ≡ [] → has_below t q ≡ false
  no_children named none = by_test (has_below t q)
      (λ some.
      let dir = dir_above named some in
      let names : names_below t q ≡ [] = dedup_none (names_below t q) (sym (ap (λ k. of_dir k (dedup bytes_eq (names_below t q))) dir) ∙ none) in
      none_mapped name_of lies_below t names)
      (λ h. h)

-- ---- the first child

-- the entry from which a list of names has its first name
record IsFirst (p : List ℕ × Node → Bool) (f : List ℕ × Node → List ℕ) (t : Nodes) (name : List ℕ) : Type 0 where
  e : List ℕ × Node
  passes : p e ≡ true
  value : name ≡ f e
  any : (g : List ℕ × Node → Bool) → g e ≡ true → list_any g t ≡ true
  all : (g : List ℕ × Node → Bool) → list_all g t ≡ true → g e ≡ true

or_right : (a b : Bool) → b ≡ true → (a || b) ≡ true
or_right true b h = refl
or_right false b h = h

first_of : (p : List ℕ × Node → Bool) (f : List ℕ × Node → List ℕ) (t : Nodes) (name : List ℕ) (rest : List (List ℕ)) → dedup bytes_eq (map f (filter p t)) ≡ name ∷ rest → IsFirst p f t name
first_of p f [] name rest h = absurd (cc)
first_of p f (x ∷ t) name rest h = by_test (p x)
    (λ k.
    let s = dedup_starts bytes_eq (f x) (map f (filter p t)) in
    let z : f x ∷ s.0 ≡ name ∷ rest = sym s.1 ∙ sym (ap (λ b. dedup bytes_eq (map f (cond b (x ∷ filter p t) (filter p t)))) k) ∙ h in
    record { e = x; passes = k; value = cc; any = λ g i. ap (λ b. b || list_any g t) i; all = λ g a. (and_parts (g x) (list_all g t) a).0 })
    (λ k.
    let r = first_of p f t name rest (sym (ap (λ b. dedup bytes_eq (map f (cond b (x ∷ filter p t) (filter p t)))) k) ∙ h) in
    record { e = r.e; passes = r.passes; value = r.value; any = λ g i. or_right (g x) (list_any g t) (r.any g i); all = λ g a. r.all g (and_parts (g x) (list_all g t) a).1 })

of_dir_some : (k : Kind) (names rest : List (List ℕ)) (name : List ℕ) → of_dir k names ≡ name ∷ rest → names ≡ name ∷ rest
of_dir_some kind.Dir names rest name h = h
of_dir_some kind.Absent names rest name h = absurd (cc)
of_dir_some kind.File names rest name h = absurd (cc)
of_dir_some kind.Link names rest name h = absurd (cc)

slash_last : (f name : List ℕ) → (f ++ root) ++ name ≡ [] → ⊥
slash_last [] name e = absurd (cc)
slash_last (x ∷ f) name e = absurd (cc)

module _ (q path name : List ℕ) (proper : is_path path ≡ true) (below : is_below q path ≡ true) (is : name ≡ name_after (length (folder q)) path) where
  abbrev child : List ℕ
  child = join q name

  parts : (is_name_end (drop (length child) path) && starts_with nat_eq path child) ≡ true
  parts =
      let taken = child_path (folder q) name path below is in
      let own : IsPathOfChild (folder q) name child = record { whole = refl; alone = taken.alone } in
      same_child (folder q) name child path own ∙ and_from _ _ below (same_from _ _ (sym is))

  whole : path ≡ child ++ drop (length child) path
  whole = (starts_is Decides-eqb path child (starts_with nat_eq path child) refl).0 (and_parts _ _ parts).1

  found : (rest : List ℕ) → path ≡ child ++ rest → is_name_end rest ≡ true → (is_path child ≡ true) × (is_from child path ≡ true)
  found [] e end =
      let same : path ≡ child = e ∙ append-nil child in
      (sym (ap is_path same) ∙ proper, ap (λ b. b || is_below child path) (same_from child path (sym same)))
  found (b ∷ rest) e end =
      let here : b ≡ slash = grind (arith, nat_tests) in
      let longer : path ≡ child ++ slash ∷ rest = e ∙ ap (λ c. child ++ c ∷ rest) here in
      let own : is_path child ≡ true = path_above child rest (slash_last (stem q) name) (sym (ap is_path longer) ∙ proper) in
      (own, or_right (bytes_eq child path) (is_below child path) (below_from child path rest own longer))

  pub child_found : (is_path child ≡ true) × (is_from child path ≡ true)
  child_found = found (drop (length child) path) whole (and_parts _ _ parts).0

child_longer : (q name : List ℕ) → is_path (join q name) ≡ true → length q < length (join q name)
child_longer q name proper = by_test (bytes_eq q root)
    (λ r.
    let at : q ≡ root = same_is q root r in
    by name (subst (λ (z : List ℕ). is_path (join z name) ≡ true) at proper) at)
    (λ r.
    let size : length (join q name) ≡ length (q ++ root) + length name = ap (λ b. length ((cond b [] q ++ root) ++ name)) r ∙ length-append (q ++ root) name in
    let inner = length-append q root in
    let one : length root ≡ 1 = refl in
    omega arith)
  where
    by : (n : List ℕ) → is_path (join root n) ≡ true → q ≡ root → length q < length (join q n)
    by [] p at = let z : true ≡ false = not_root root p in absurd (cc)
    by (x ∷ n) p at =
        let here : length q ≡ 1 = ap length at in
        let there : length (join q (x ∷ n)) ≡ length (join root (x ∷ n)) = ap (λ z. length (join z (x ∷ n))) at in
        let two : length (join root (x ∷ n)) ≡ 2 + length n = omega arith in
        omega arith

pub some_child : (t : Nodes) (q name : List ℕ) (rest : List (List ℕ)) → IsTree t → children_of t q ≡ name ∷ rest → IsChild t q (join q name)
some_child t q name rest valid h =
    let names = of_dir_some (kind_at t q) (dedup bytes_eq (names_below t q)) rest name h in
    let first = first_of (λ e. is_below q e.0) (λ e. name_after (length (folder q)) e.0) t name rest names in
    let entry : is_entry first.e ≡ true = first.all is_entry valid.entries in
    let both = child_found q first.e.0 name (and_parts _ _ entry).0 first.passes first.value in
    record {
      below = front (folder q) name;
      proper = both.0;
      longer = child_longer q name both.0;
      some = first.any (λ e. is_from (join q name) e.0) both.1;
    }

-- ---- after a child is cleared

module _ (t : Nodes) (q child : List ℕ) (is : IsChild t q child) where
  abbrev pub cleared : Nodes
  cleared = filter (λ e. not (is_below child e.0)) (tree.remove t child)

  pub same_left : filter (λ e. not (is_below q e.0)) cleared ≡ filter (λ e. not (is_below q e.0)) t
  same_left =
      within (λ (e : List ℕ × Node). not (is_below q e.0)) (λ (e : List ℕ × Node). not (is_below child e.0))
      (λ e h. by_test (is_below child e.0)
      (λ b. let z : true ≡ false = sym (below_below q child e.0 is.proper is.below b) ∙ not_true _ h in absurd (cc))
      (λ b. ap not b))
      (tree.remove t child)
      ∙ unseen (λ (e : List ℕ × Node). not (is_below q e.0)) child (λ n. ap not is.below) t

  pub fewer_left : length cleared < length t
  fewer_left = fewer (λ (e : List ℕ × Node). not (is_below child e.0)) child t (any_not t ∙ is.some)
    where
      double : (a : Bool) → not (not a) ≡ a
      double true = refl
      double false = refl

      any_not : (t : Nodes) → list_any (λ e. bytes_eq child e.0 || not (not (is_below child e.0))) t ≡ list_any (λ e. is_from child e.0) t
      any_not [] = refl
      any_not (e ∷ t) =
          ap (λ b. (bytes_eq child e.0 || b) || list_any (λ e. bytes_eq child e.0 || not (not (is_below child e.0))) t) (double (is_below child e.0))
          ∙ ap (λ b. is_from child e.0 || b) (any_not t)

pub from_filter : (t : Nodes) (q : List ℕ) → IsTree t → filter (λ e. not (is_below q e.0)) (tree.remove t q) ≡ filter (λ e. not (is_from q e.0)) t
from_filter t q valid =
    ap (filter (λ e. not (is_below q e.0))) (removed_filter q t valid.sorted)
    ∙ twice (λ (e : List ℕ × Node). not (is_below q e.0)) (λ (e : List ℕ × Node). not (bytes_eq q e.0)) t
    ∙ always (λ (e : List ℕ × Node). not (is_below q e.0) && not (bytes_eq q e.0)) (λ (e : List ℕ × Node). not (is_from q e.0)) (λ e. both (is_below q e.0) (bytes_eq q e.0)) t
  where
    both : (a b : Bool) → (not a && not b) ≡ not (b || a)
    both true true = refl
    both true false = refl
    both false true = refl
    both false false = refl
