-- In a directory that was listed, the part and the tree have the same names that pass the test.
use Rattle.std.proofs.Common.{◌≡◌, ◌⊎◌, inl, inr, ⊎_elim, get_or, ℕ, Bool, true, cond, not, ◌&&◌, ◌||◌, List, [], ◌∷◌, ◌++◌, append_assoc, length, drop, filter, map, refl, ap, sym, subst, ◌∙◌, Option, Some}
use Rattle.std.proofs.lemmas.Bool.{and_from, and_parts, cases_lt, eqb-true}
use Rattle.std.proofs.lemmas.Bool.Decides.{Decides-eqb}
use Rattle.std.proofs.lemmas.List.{drop_at, take_all}
use Rattle.std.proofs.lemmas.List.Kept.{IsStrictlySortedBy-filter}
use Rattle.std.proofs.lemmas.List.Sums.{passes_at_first, split_at_first}
use Rattle.std.proofs.lemmas.Slice.Eq.{bytes_eq-Decides, starts_is}
use Rattle.std.specs.Cmp.Lexicographic.{slice_cmp}
use Rattle.std.specs.List.{after_first, before_first, dedup, list_any, position_or_len}
use Rattle.std.specs.Ordering.{nat_cmp}
use Rattle.std.specs.Str.{bytes_eq}
use Rattle.lib_types.proofs.SortedPairs.{by_test}
use Rattle.lib_types.specs.Name.{slash}
use Rattle.image_tree.proofs.Above.{found_any, path_of_found}
use Rattle.image_tree.proofs.Below.{below_from}
use Rattle.image_tree.proofs.Prefixes.{path_above}
use Rattle.image_tree.proofs.Rising.{below_rest, children_sorted, first_name, name_ended, name_goes_on}
use Rattle.image_tree.specs.Paths.{folder, is_below, is_path, is_slash, join, name_after, root, stem}
use Rattle.image_tree.specs.Tree.{Nodes, children_of, has_below, kind_at, names_below, node_at, of_dir}
use Rattle.image_tree.specs.declared.node.Node.{Node}
use Rattle.image_tree.specs.declared.node.Node.TheVariants.{Dir}
use Rattle.image_tree.specs.declared.tree.Kind.{Kind}
use Rattle.image_tree.specs.declared.tree.Kind.TheVariants as kinds
use Rattle.path_walk.proofs.Linked.{some_join}
use Rattle.root_folder.proofs.Dirs.{dir_above}
use Rattle.root_folder.specs.Whole.{IsWhole}
use Rattle.string_pool.proofs.Members.{dedup_in, is_in, kept_in, same_members}
use Rattle.seen_tree.proofs.Found.{any_found}
use Rattle.seen_tree.proofs.Same.{kind_seen}
use Rattle.seen_tree.specs.Part.{AreSeen, IsPart, IsSeen, listed}
use Rattle.lib_types.proofs.Bools.{both_ways}

-- ---- paths below a directory whose next name is `z`

-- a name ends before its first slash
first_twice : (s : List ℕ) → first_name (first_name s) ≡ first_name s
first_twice [] = refl
first_twice (b ∷ s) = by_test (is_slash b)
    (λ e. ap first_name (name_ended b s e) ∙ sym (name_ended b s e))
    (λ e. ap first_name (name_goes_on b s e) ∙ name_goes_on b (first_name s) e ∙ ap (λ z. b ∷ z) (first_twice s) ∙ sym (name_goes_on b s e))

module _ (d z : List ℕ) where
  abbrev goes_by : List ℕ → Bool
  goes_by p = is_below d p && bytes_eq z (name_after (length (folder d)) p)

  in_below : (t : Nodes) → is_in (names_below t d) z ≡ list_any (λ e. goes_by e.0) t
  in_below [] = refl
  in_below (e ∷ t) = by_test (is_below d e.0)
      (λ b. rw b (ap (λ c. bytes_eq z (name_after (length (folder d)) e.0) || c) (in_below t)))
      (λ b. rw b (in_below t))

  is_child : (t : Nodes) → kind_at t d ≡ kinds.Dir → is_in (children_of t d) z ≡ list_any (λ e. goes_by e.0) t
  is_child t dir = ap (λ kind. is_in (of_dir kind (dedup bytes_eq (names_below t d))) z) dir ∙ dedup_in (bytes_eq z) (names_below t d) ∙ in_below t

  name_of : (p : List ℕ) → goes_by p ≡ true → z ≡ name_after (length (folder d)) p
  name_of p h = (bytes_eq-Decides z _).0 (and_parts (is_below d p) _ h).1

  -- the path is the name's path, or is below it
  to_name : (p : List ℕ) → goes_by p ≡ true → (p ≡ join d z) ⊎ ((more : List ℕ) × (p ≡ join d z ++ slash ∷ more))
  to_name p h =
      let rest = drop (length (folder d)) p in
      let whole : p ≡ folder d ++ rest = below_rest d p (and_parts (is_below d p) _ h).0 in
      let here : before_first is_slash rest ≡ z = sym (name_of p h) in
      ⊎_elim
      (λ lt.
      let at_slash : get_or rest (position_or_len is_slash rest) slash ≡ slash = eqb-true _ slash (passes_at_first is_slash rest slash lt) in
      let parted : rest ≡ z ++ slash ∷ after_first is_slash rest =
      split_at_first is_slash rest slash lt ∙ ap (λ b. before_first is_slash rest ++ b ∷ after_first is_slash rest) at_slash
      ∙ ap (λ name. name ++ slash ∷ after_first is_slash rest) here in
      inr (after_first is_slash rest, whole ∙ ap (λ x. folder d ++ x) parted ∙ sym (append_assoc (folder d) z _)))
      (λ ge. inl (whole ∙ ap (λ x. folder d ++ x) (sym (take_all (position_or_len is_slash rest) rest ge) ∙ here)))
      (cases_lt (position_or_len is_slash rest) (length rest))

  -- the name's own path is one of these paths
  goes_itself : (p : List ℕ) → goes_by p ≡ true → goes_by (join d z) ≡ true
  goes_itself p h =
      let once : first_name z ≡ z = ap first_name (name_of p h) ∙ first_twice (drop (length (folder d)) p) ∙ sym (name_of p h) in
      and_from _ _ ((starts_is Decides-eqb (join d z) (folder d) (is_below d (join d z)) refl).1 z refl)
      ((bytes_eq-Decides z _).1 (sym (ap first_name (drop_at (folder d) z (length (folder d)) refl) ∙ once)))

-- ---- a whole tree

module _ (t : Nodes) (whole : IsWhole t) (d : List ℕ) (dir : kind_at t d ≡ kinds.Dir) (z : List ℕ) where
  record HasChild : Type 0 where
    node : Node
    at : node_at t (join d z) ≡ Some node
    goes : goes_by d z (join d z) ≡ true

  -- a child has a node
  child_node : is_in (children_of t d) z ≡ true → HasChild
  child_node h =
      let one = any_found (λ (e : List ℕ × Node). goes_by d z e.0) t whole.sorted (sym (is_child d z t dir) ∙ h) in
      let itself = goes_itself d z one.path one.passes in
      ⊎_elim
      (λ same. record { node = one.node; at = subst (λ (q : List ℕ). node_at t q ≡ Some one.node) same one.found; goes = itself })
      (λ (more, is).
      let proper : is_path one.path ≡ true = path_of_found t one.path (Some one.node) whole.entries one.found refl in
      let above : is_path (join d z) ≡ true = path_above (join d z) more (some_join (stem d) z) (sym (ap is_path is) ∙ proper) in
      let below : has_below t (join d z) ≡ true = found_any (λ (e : List ℕ × Node). is_below (join d z) e.0) t one.path one.node one.found (below_from (join d z) one.path more above is) in
      record { node = Dir; at = dir_above t whole (join d z) above below; goes = itself })
      (to_name d z one.path one.passes)

-- ---- a part of the tree

by_kind : (k : Kind) → (k ≡ kinds.Dir) ⊎ ((names : List (List ℕ)) → of_dir k names ≡ [])
by_kind kinds.Dir = inl refl
by_kind kinds.Absent = inr (λ names. refl)
by_kind kinds.File = inr (λ names. refl)
by_kind kinds.Link = inr (λ names. refl)

-- if all paths of the names are seen, so is the path of each name
seen_at : (t part : Nodes) (d z : List ℕ) (names : List (List ℕ)) → AreSeen t part (map (join d) names) → is_in names z ≡ true → IsSeen t part (join d z)
seen_at t part d z [] all h = absurd (cc)
seen_at t part d z (name ∷ names) all h = by_test (bytes_eq z name)
    (λ e. subst (λ (x : List ℕ). IsSeen t part (join d x)) (sym ((bytes_eq-Decides z name).0 e)) all.0)
    (λ e. seen_at t part d z names all.1 (sym (ap (λ b. b || is_in names z) e) ∙ h))

module _ (t part : Nodes) (whole : IsWhole t) (is : IsPart t part) (test : List ℕ → Bool) (d : List ℕ) where
  in_tree : (z : List ℕ) → kind_at t d ≡ kinds.Dir → kind_at part d ≡ kinds.Dir → is_in (children_of part d) z ≡ true → is_in (children_of t d) z ≡ true
  in_tree z dir here h =
      let one = any_found (λ (e : List ℕ × Node). goes_by d z e.0) part is.sorted (sym (is_child d z part here) ∙ h) in
      is_child d z t dir ∙ found_any (λ (e : List ℕ × Node). goes_by d z e.0) t one.path one.node (is.nodes one.path one.node one.found) one.passes

  in_part : (z : List ℕ) → kind_at t d ≡ kinds.Dir → kind_at part d ≡ kinds.Dir → IsSeen t part (join d z) → is_in (children_of t d) z ≡ true → is_in (children_of part d) z ≡ true
  in_part z dir here seen h =
      let child = child_node t whole d dir z h in
      is_child d z part here ∙ found_any (λ (e : List ℕ × Node). goes_by d z e.0) part (join d z) child.node (seen ∙ child.at) child.goes

  kept : (a b : Nodes) (z : List ℕ) → (is_in (filter test (children_of a d)) z ≡ true → is_in (children_of a d) z ≡ true → is_in (children_of b d) z ≡ true)
      → is_in (filter test (children_of a d)) z ≡ true → is_in (filter test (children_of b d)) z ≡ true
  kept a b z moved h =
      let parts = and_parts (test z) (is_in (children_of a d) z) (sym (kept_in test z (children_of a d)) ∙ h) in
      kept_in test z (children_of b d) ∙ and_from _ _ parts.0 (moved h parts.1)

  -- if a directory was listed and each of its names that pass the test was looked up, the names are those of the tree
  pub names_seen : AreSeen t part (listed test t d) → filter test (children_of part d) ≡ filter test (children_of t d)
  names_seen all =
      let same : kind_at part d ≡ kind_at t d = kind_seen t part whole is d all.0 in
      ⊎_elim
      (λ dir.
      same_members (filter test (children_of part d)) (filter test (children_of t d))
      (IsStrictlySortedBy-filter (slice_cmp nat_cmp) test (children_of part d) (children_sorted part d is.sorted))
      (IsStrictlySortedBy-filter (slice_cmp nat_cmp) test (children_of t d) (children_sorted t d whole.sorted))
      (λ z. both_ways (is_in (filter test (children_of part d)) z) (is_in (filter test (children_of t d)) z)
      (kept part t z (λ h. in_tree z dir (same ∙ dir)))
      (kept t part z (λ h. in_part z dir (same ∙ dir) (seen_at t part d z (filter test (children_of t d)) all.1 h)))))
      (λ none.
      ap (filter test) (ap (λ k. of_dir k (dedup bytes_eq (names_below part d))) same ∙ none (dedup bytes_eq (names_below part d)))
      ∙ sym (ap (filter test) (none (dedup bytes_eq (names_below t d)))))
      (by_kind (kind_at t d))
