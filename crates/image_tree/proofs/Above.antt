-- The entries above a path, and when a node clashes.
use Rattle.std.proofs.Common.{◌≡◌, ℕ, ◌+◌, ◌<◌, Bool, true, false, ◌&&◌, ◌||◌, not, List, [], ◌∷◌, ◌++◌, length, get_or, Option, Some, None, refl, sym, ap, subst, ◌∙◌, ⊎_elim, arith}
use Rattle.std.proofs.lemmas.Bool.{and_parts, and_from, or_parts, cases_lt}
use Rattle.std.proofs.lemmas.List.Folds.{list_any_none, list_any_at}
use Rattle.std.specs.declared.cmp.Ordering.TheVariants.{Less, Greater}
use Rattle.image_tree.proofs.Order.{path_total}
use Rattle.lib_types.proofs.SortedPairs.{by_test, below_later}
use Rattle.lib_types.proofs.Bools.{not_true}
use Rattle.image_tree.specs.Paths.{path_cmp, is_path, is_below}
use Rattle.image_tree.specs.declared.node.Node.{Node}
use Rattle.image_tree.specs.Node.{is_dir}
use Rattle.image_tree.specs.Index.{IsIndexOf, IsGapFor, is_file_above, has_file_above}
use Rattle.std.proofs.lemmas.List.{get_or_default}
use Rattle.std.proofs.lemmas.List.Sums.{AllPass-from_list_all}
use Rattle.std.proofs.lemmas.Map.Entries.{place_from_lookup}
use Rattle.std.proofs.lemmas.Option.{slice_get_within, get_or_from_slice_get}
use Rattle.std.specs.Option.{IsSome}
use Rattle.std.specs.BTreeMap.{is_at}
use Rattle.std.specs.Cmp.{Equal-is}
use Rattle.std.specs.List.{list_all, list_any}
use Rattle.image_tree.specs.Tree.{Nodes, IsTree, has_below, node_at, is_entry, clash_with, clashes}
use Rattle.image_tree.proofs.Below.{exact, below_is, below_from, comes_before, between}

pub path_of_entry : (t : Nodes) (k : ℕ) (d : List ℕ × Node) → list_all is_entry t ≡ true → k < length t → is_path (get_or t k d).0 ≡ true
path_of_entry t k d all h = (and_parts _ _ (AllPass-from_list_all is_entry t all k d h)).0

module _ (test : List ℕ × Node → Bool) (t : Nodes) (q : List ℕ) (node : Node) (at : node_at t q ≡ Some node) where
  -- if each entry passes the test, the found one does
  pub found_passes : list_all test t ≡ true → test (q, node) ≡ true
  found_passes all =
      let p = place_from_lookup (is_at (path_cmp q)) t node at in
      let d : List ℕ × Node = (p.1, node) in
      let g : get_or t p.0 d ≡ d = get_or_from_slice_get t p.0 d d p.2 in
      let same : q ≡ p.1 = exact q p.1 ((Equal-is (path_cmp q p.1)).0 p.3) in
      let there : test d ≡ true = subst (λ (z : List ℕ × Node). test z ≡ true) g (AllPass-from_list_all test t all p.0 d (slice_get_within t p.0 _ p.2)) in
      subst (λ (z : List ℕ). test (z, node) ≡ true) (sym same) there

  -- if the found entry passes the test, some entry does
  pub found_any : test (q, node) ≡ true → list_any test t ≡ true
  found_any h =
      let p = place_from_lookup (is_at (path_cmp q)) t node at in
      let d : List ℕ × Node = (p.1, node) in
      let g : get_or t p.0 d ≡ d = get_or_from_slice_get t p.0 d d p.2 in
      let same : q ≡ p.1 = exact q p.1 ((Equal-is (path_cmp q p.1)).0 p.3) in
      let there : test d ≡ true = subst (λ (z : List ℕ). test (z, node) ≡ true) same h in
      list_any_at test t p.0 d (slice_get_within t p.0 _ p.2) (subst (λ (z : List ℕ × Node). test z ≡ true) (sym g) there)

-- a node that is found is valid, and so is its path
pub found_entry : (t : Nodes) (q : List ℕ) (node : Node) → list_all is_entry t ≡ true → node_at t q ≡ Some node → is_entry (q, node) ≡ true
found_entry t q node all at = found_passes is_entry t q node at all

pub path_of_found : (t : Nodes) (q : List ℕ) (o : Option Node) → list_all is_entry t ≡ true → node_at t q ≡ o → IsSome o → is_path q ≡ true
path_of_found t q None all at some = absurd (cc)
path_of_found t q (Some node) all at some = (and_parts _ _ (found_entry t q node all at)).0

-- ---- files and links above a path

regroup : (a b c x y : Bool) → ((a || (c && b)) || (x || (c && y))) ≡ ((a || x) || (c && (b || y)))
regroup true b c x y = refl
regroup false b false x y = refl
regroup false false true x y = refl
regroup false true true true y = refl
regroup false true true false y = refl

differ : (path : List ℕ) (node : Node) (t : Nodes) → clashes t path node ≡ (has_file_above t path || (not (is_dir node) && has_below t path))
differ path node [] = grind arith
differ path node (e ∷ t) =
    ap (λ z. clash_with path node e || z) (differ path node t)
    ∙ regroup (is_below e.0 path && not (is_dir e.1)) (is_below path e.0) (not (is_dir node)) (has_file_above t path) (has_below t path)

above_free : (t : Nodes) (path : List ℕ) (node : Node) → clashes t path node ≡ false → has_file_above t path ≡ false
above_free t path node free = (or_parts (has_file_above t path) (not (is_dir node) && has_below t path) (sym (differ path node t) ∙ free)).0

module _ (t : Nodes) (tree : IsTree t) where
  none_above_entry : (k : ℕ) (d : List ℕ × Node) → k < length t → has_file_above t (get_or t k d).0 ≡ false
  none_above_entry k d h = above_free t (get_or t k d).0 (get_or t k d).1 (not_true _ (AllPass-from_list_all (λ (e : List ℕ × Node). not (clashes t e.0 e.1)) t tree.clear k d h))

  -- no file or link lies above a path that has an entry
  pub none_above_found : (path : List ℕ) (k : ℕ) (d : List ℕ × Node) → IsIndexOf t path k → has_file_above t path ≡ false
  none_above_found path k d index = subst (λ q. has_file_above t q ≡ false) (exact (get_or t k d).0 path (index.same d)) (none_above_entry k d index.within)

  module _ (path : List ℕ) where
    -- an entry above the path comes before it
    above_is_less : (k : ℕ) (d : List ℕ × Node) → k < length t → is_file_above path (get_or t k d) ≡ true → path_cmp (get_or t k d).0 path ≡ Less
    above_is_less k d h above =
        let q = (get_or t k d).0 in
        let s = below_is q path (path_of_entry t k d tree.entries h) (and_parts _ _ above).0 in
        subst (λ z. path_cmp q z ≡ Less) (sym s.1) (comes_before q s.0)

    pub none_above_first : IsGapFor t path 0 → has_file_above t path ≡ false
    none_above_first gap = list_any_none (is_file_above path) t (λ k d h.
        by_test (is_file_above path (get_or t k d))
        (λ above. let z : Less ≡ Greater = sym (above_is_less k d h above) ∙ gap.after k d (omega arith) h in absurd (cc))
        (λ e. e))

    -- an entry above the path is the one directly before it, since only entries below that entry can come in between
    above_is_before : (index i k : ℕ) (d : List ℕ × Node) → index ≡ i + 1 → IsGapFor t path index → k < length t → is_file_above path (get_or t k d) ≡ true → k ≡ i
    above_is_before index i k d next gap h above =
        let q = (get_or t k d).0 in
        let less = above_is_less k d h above in
        let within = gap.within in
        ⊎_elim
        (λ lt. ⊎_elim
        (λ earlier.
        let proper = path_of_entry t k d tree.entries h in
        let s = below_is q path proper (and_parts _ _ above).0 in
        let there : i < length t = omega arith in
        let first = below_later path_total t k i d tree.sorted earlier there in
        let second : path_cmp (get_or t i d).0 (q ++ 47 ∷ s.0) ≡ Less = subst (λ z. path_cmp (get_or t i d).0 z ≡ Less) s.1 (gap.before i d (omega arith) (omega arith)) in
        let r = between q (get_or t i d).0 s.0 first second in
        let below : is_below q (get_or t i d).0 ≡ true = below_from q (get_or t i d).0 r.0 proper r.1 in
        let some : has_file_above t (get_or t i d).0 ≡ true = list_any_at (is_file_above (get_or t i d).0) t k d h (and_from _ _ below (and_parts (is_below q path) (not (is_dir (get_or t k d).1)) above).1) in
        let z : true ≡ false = sym some ∙ none_above_entry i d there in absurd (cc))
        (λ later. omega arith)
        (cases_lt k i))
        (λ ge. let z : Less ≡ Greater = sym less ∙ gap.after k d ge h in absurd (cc))
        (cases_lt k index)

    pub above_by_before : (index i : ℕ) (d : List ℕ × Node) → index ≡ i + 1 → IsGapFor t path index → is_file_above path (get_or t i d) ≡ has_file_above t path
    above_by_before index i d next gap =
        let within = gap.within in
        by_test (is_file_above path (get_or t i d))
        (λ above. above ∙ sym (list_any_at (is_file_above path) t i d (omega arith) above))
        (λ none. none ∙ sym (list_any_none (is_file_above path) t (λ k e h.
        by_test (is_file_above path (get_or t k e))
        (λ above.
        let same : k ≡ i = above_is_before index i k e next gap h above in
        let moved : is_file_above path (get_or t i d) ≡ true = subst (λ z. is_file_above path z ≡ true) (get_or_default t i e d (subst (λ n. n < length t) same h)) (subst (λ n. is_file_above path (get_or t n e) ≡ true) same above) in
        let z : true ≡ false = sym moved ∙ none in absurd (cc))
        (λ e. e))))

module _ (t : Nodes) (path : List ℕ) (node : Node) where
  pub clash_above : has_file_above t path ≡ true → clashes t path node ≡ true
  clash_above h = differ path node t ∙ ap (λ z. z || (not (is_dir node) && has_below t path)) h

  pub clash_below : has_file_above t path ≡ false → not (is_dir node) ≡ true → clashes t path node ≡ has_below t path
  clash_below h k = differ path node t ∙ ap (λ z. z || (not (is_dir node) && has_below t path)) h ∙ ap (λ z. z && has_below t path) k
