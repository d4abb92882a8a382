-- A place in sorted runs, and its index in the joined list.
use Rattle.std.proofs.Common.{◌≡◌, ◌≢◌, ℕ, zero, suc, ◌+◌, ◌-◌, ◌<◌, ◌≤◌, Bool, true, false, not, cond, nat_le, ◌==◌, if◌then◌else◌, List, [], ◌∷◌, ◌++◌, length, get_or, set, take, drop, refl, sym, ap, subst, ◌∙◌, ⊎_elim, arith, append_assoc, length-append, Ordering}
use Rattle.std.proofs.lemmas.Bool.{and_parts, and_from, cases_lt}
use Rattle.std.proofs.lemmas.Bool.Decides.{nat_tests}
use Rattle.std.proofs.lemmas.List.{get_or_default, set-append_left, set-append_right, take-append-drop, length-set, length-take-le, length-drop, drop-append-le}
use Rattle.std.proofs.lemmas.List.Edits.{insert-append_left, insert-append_right, remove-append_left, remove-append_right, length-insert, get_or-insert_below, get_or-insert_at}
use Rattle.std.proofs.lemmas.Grind.{get_or-set_at}
use Rattle.std.proofs.lemmas.List.Concat.{get_or-flat_map}
use Rattle.std.proofs.lemmas.List.Folds.{length-flat_map-take}
use Rattle.std.proofs.lemmas.List.Sums.{AllPass-from_list_all}
use Rattle.std.specs.List.{list_all, insert, remove, AllByRecursion}
use Rattle.std.specs.List.Sorted.{IsStrictlySortedBy, IsPartitionedBy}
use Rattle.std.specs.Map.{keys_of}
use Rattle.std.specs.Ordering.{is_gt}
use Rattle.std.specs.declared.cmp.Ordering.TheVariants.{Less, Equal, Greater}
use Rattle.lib_types.proofs.SortedPairs.{by_ordering, by_test, below_later, flipped}
use Rattle.image_tree.proofs.Order.{path_total}
use Rattle.image_tree.specs.Paths.{path_cmp}
use Rattle.image_tree.specs.Tree.{Nodes, IsPathSorted}
use Rattle.image_tree.specs.Index.{IsIndexOf, IsGapFor}
use Rattle.image_tree.specs.Runs.{joined, is_run, are_runs, start_of, index_of, run_length, begins_by, HasRoomAt, IsEntryPlace, IsPlace, IsPlaceOf, IsGapAt, IsEntryAt}
use Rattle.image_tree.specs.declared.node.Node.{Node}
use Rattle.image_tree.specs.declared.node.Node.TheVariants.{Dir}
use Rattle.image_tree.specs.declared.tree.runs.Place.{Place}

-- ---- where runs begin

start_suc : (runs : List Nodes) (i : ℕ) → i < length runs → start_of runs (suc i) ≡ start_of runs i + length (get_or runs i [])
start_suc [] i h = absurd (omega arith)
start_suc (r ∷ rs) zero h = omega (arith, length-append r [])
start_suc (r ∷ rs) (suc i) h =
    let ih = start_suc rs i (omega arith) in
    omega (arith, ih, length-append r (joined (take (suc i) rs)), length-append r (joined (take i rs)))

pub start_next : (runs : List Nodes) (i j : ℕ) → j ≡ i + 1 → i < length runs → start_of runs j ≡ start_of runs i + length (get_or runs i [])
start_next runs i j e h = let f : suc i ≡ j = omega arith in subst (λ n. start_of runs n ≡ start_of runs i + length (get_or runs i [])) f (start_suc runs i h)

pub start_end : (runs : List Nodes) (i : ℕ) → length runs ≤ i → start_of runs i ≡ length (joined runs)
start_end [] zero h = refl
start_end [] (suc i) h = refl
start_end (r ∷ rs) zero h = absurd (omega arith)
start_end (r ∷ rs) (suc i) h = let ih = start_end rs i (omega arith) in omega (arith, ih, length-append r (joined (take i rs)), length-append r (joined rs))

pub start_later : (runs : List Nodes) (i j : ℕ) → i < j → j < length runs → start_of runs i + length (get_or runs i []) ≤ start_of runs j
start_later [] i j h l = absurd (omega arith)
start_later (r ∷ rs) i zero h l = absurd (omega arith)
start_later (r ∷ rs) zero (suc j) h l = omega (arith, length-append r (joined (take j rs)))
start_later (r ∷ rs) (suc i) (suc j) h l =
    let ih = start_later rs i j (omega arith) (omega arith) in
    omega (arith, ih, length-append r (joined (take i rs)), length-append r (joined (take j rs)))

-- ---- entries of runs

module _ (runs : List Nodes) (i at : ℕ) (h : i < length runs) (k : at < length (get_or runs i [])) where
  pub entry_within : start_of runs i + at < length (joined runs)
  entry_within = let e = length-flat_map-take (λ (run : Nodes). run) runs i [] h in omega arith

  pub entry_is : (d : List ℕ × Node) → get_or (joined runs) (start_of runs i + at) d ≡ get_or (get_or runs i []) at d
  entry_is d = get_or-flat_map (λ (run : Nodes). run) runs i at [] d h k

pub run_bounds : (r : Nodes) → is_run r ≡ true → (1 ≤ length r) × (length r ≤ 64)
run_bounds r h =
    let low : nat_le 1 (length r) ≡ true = (and_parts _ _ h).0 in
    let high : nat_le (length r) 64 ≡ true = (and_parts _ _ h).1 in
    let above : 1 ≤ length r = grind (arith, nat_tests, low) in
    let below : length r ≤ 64 = grind (arith, nat_tests, high) in
    (above, below)

pub is_run_from : (r : Nodes) → 1 ≤ length r → length r ≤ 64 → is_run r ≡ true
is_run_from r low high =
    let a : nat_le 1 (length r) ≡ true = grind (arith, nat_tests) in
    let b : nat_le (length r) 64 ≡ true = grind (arith, nat_tests) in
    and_from _ _ a b

pub run_bounds_at : (runs : List Nodes) (i : ℕ) → are_runs runs ≡ true → i < length runs → (1 ≤ length (get_or runs i [])) × (length (get_or runs i []) ≤ 64)
run_bounds_at runs i all h = run_bounds _ (AllPass-from_list_all is_run runs all i [] h)

-- ---- runs of a sorted list

module _ (P : List ℕ → Type 0) where
  front_all : (r t : Nodes) → AllByRecursion P (keys_of (r ++ t)) → AllByRecursion P (keys_of r)
  front_all [] t a = tt
  front_all (e ∷ r) t a = (a.0, front_all r t a.1)

sorted_front : (r t : Nodes) → IsPathSorted (r ++ t) → IsPathSorted r
unfolding IsStrictlySortedBy
sorted_front [] t s = tt
sorted_front (e ∷ r) t s = (front_all _ r t s.0, sorted_front r t s.1)

sorted_back : (r t : Nodes) → IsPathSorted (r ++ t) → IsPathSorted t
unfolding IsStrictlySortedBy
sorted_back [] t s = s
sorted_back (e ∷ r) t s = sorted_back r t s.1

pub sorted_run : (runs : List Nodes) (i : ℕ) → i < length runs → IsPathSorted (joined runs) → IsPathSorted (get_or runs i [])
sorted_run [] i h s = absurd (omega arith)
sorted_run (r ∷ rs) zero h s = sorted_front r (joined rs) s
sorted_run (r ∷ rs) (suc i) h s = sorted_run rs i (omega arith) (sorted_back r (joined rs) s)

-- ---- the run of a path

not_after : (r : Ordering) → not (is_gt r) ≡ true → r ≢ Greater
not_after Less h e = cc
not_after Equal h e = cc
not_after Greater h e = cc

after : (r : Ordering) → not (is_gt r) ≡ false → r ≡ Greater
after Less h = absurd (cc)
after Equal h = absurd (cc)
after Greater h = refl

-- a run begins by a path if its first entry isn't after the path
begins_is : (path : List ℕ) (r : Nodes) (d : List ℕ × Node) → 0 < length r → begins_by path r ≡ not (is_gt (path_cmp (get_or r 0 d).0 path))
begins_is path [] d h = absurd (omega arith)
begins_is path (e ∷ r) d h = refl

module _ (runs : List Nodes) (path : List ℕ) (all : are_runs runs ≡ true) (sorted : IsPathSorted (joined runs)) where
  first_is : (i : ℕ) (d : List ℕ × Node) → i < length runs → get_or (joined runs) (start_of runs i + 0) d ≡ get_or (get_or runs i []) 0 d
  first_is i d h = let b = run_bounds_at runs i all h in entry_is runs i 0 h (omega arith) d

  begins_earlier : (i j : ℕ) → i < j → j < length runs → begins_by path (get_or runs j []) ≡ true → begins_by path (get_or runs i []) ≡ true
  begins_earlier i j h l begins =
      let d : List ℕ × Node = ([], Dir) in
      let bi = run_bounds_at runs i all (omega arith) in
      let bj = run_bounds_at runs j all l in
      let later = start_later runs i j h l in
      let within = entry_within runs j 0 l (omega arith) in
      let rises : path_cmp (get_or (get_or runs i []) 0 d).0 (get_or (get_or runs j []) 0 d).0 ≡ Less =
      rw (← first_is i d (omega arith), ← first_is j d l) (below_later path_total (joined runs) (start_of runs i + 0) (start_of runs j + 0) d sorted (omega arith) within) in
      let b = sym (begins_is path (get_or runs j []) d (omega arith)) ∙ begins in
      begins_is path (get_or runs i []) d (omega arith) ∙ begins_less _ _ rises b
    where
      begins_less : (p q : List ℕ) → path_cmp p q ≡ Less → not (is_gt (path_cmp q path)) ≡ true → not (is_gt (path_cmp p path)) ≡ true
      begins_less p q less b = by_ordering (path_cmp q path)
          (λ a. ap (λ r. not (is_gt r)) (path_total.trans p q path less a))
          (λ a. ap (λ r. not (is_gt r)) (flipped path_total path p Greater (path_total.congr path q p (flipped path_total q path Equal a) ∙ flipped path_total p q Less less)))
          (λ a. absurd (not_after _ b a))

  pub parted : IsPartitionedBy (begins_by path) runs
  parted i j d h l begins = ⊎_elim
      (λ lt. let e = get_or_default runs i d [] (omega arith) in let f = get_or_default runs j d [] l in
      subst (λ r. begins_by path r ≡ true) (sym e) (begins_earlier i j lt l (subst (λ r. begins_by path r ≡ true) f begins)))
      (λ ge. let e : j ≡ i = omega arith in subst (λ (n : ℕ). begins_by path (get_or runs n d) ≡ true) e begins)
      (cases_lt i j)

-- if the entry before the index is below the path and the one at the index is above it, the index is the gap of the path
pub gap_between : (t : Nodes) (path : List ℕ) (at : ℕ) → IsPathSorted t → at ≤ length t
    → ((i : ℕ) (d : List ℕ × Node) → at ≡ i + 1 → path_cmp (get_or t i d).0 path ≡ Less)
    → ((d : List ℕ × Node) → at < length t → path_cmp (get_or t at d).0 path ≡ Greater) → IsGapFor t path at
gap_between t path at s h before following = record {
  within = h;
  before = λ k d low high.
      let i = at - 1 in
      let last = before i d (omega arith) in
      ⊎_elim
      (λ lt. path_total.trans (get_or t k d).0 (get_or t i d).0 path (below_later path_total t k i d s lt (omega arith)) last)
      (λ ge. let same : i ≡ k = omega arith in subst (λ n. path_cmp (get_or t n d).0 path ≡ Less) same last)
      (cases_lt k i);
  after = λ k d low high.
      let first = following d (omega arith) in
      ⊎_elim
      (λ lt. flipped path_total path (get_or t k d).0 Less (path_total.trans path (get_or t at d).0 (get_or t k d).0 (flipped path_total (get_or t at d).0 path Greater first) (below_later path_total t at k d s lt high)))
      (λ ge. let same : at ≡ k = omega arith in subst (λ n. path_cmp (get_or t n d).0 path ≡ Greater) same first)
      (cases_lt at k);
}

-- ---- places

module _ (runs : List Nodes) (place : Place) where
  pub entry_there : IsEntryPlace runs place → (e : List ℕ × Node) → ((d : List ℕ × Node) → e ≡ get_or (get_or runs place.run []) place.at d) → IsEntryAt (joined runs) (index_of runs place) e
  entry_there p e same = record {
    within = entry_within runs place.run place.at p.run p.at;
    same = λ d. entry_is runs place.run place.at p.run p.at d ∙ sym (same d);
  }

  pub place_within : IsPlace runs place → index_of runs place ≤ length (joined runs)
  place_within p = ⊎_elim
      (λ lt. let e = length-flat_map-take (λ (run : Nodes). run) runs place.run [] lt in let at = p.at in omega arith)
      (λ ge. let e = start_end runs place.run ge in let none : length (get_or runs place.run []) ≡ 0 = ap length (past runs place.run ge) in let at = p.at in omega arith)
      (cases_lt place.run (length runs))
    where
      past : (rs : List Nodes) (i : ℕ) → length rs ≤ i → get_or rs i [] ≡ []
      past [] i h = refl
      past (r ∷ rs) zero h = absurd (omega arith)
      past (r ∷ rs) (suc i) h = past rs i (omega arith)

  module _ (path : List ℕ) where
    pub place_found : place.run < length runs → IsIndexOf (get_or runs place.run []) path place.at → IsPlaceOf runs path place
    place_found h p = record {
      entry = record { run = h; at = p.within };
      index = record {
        within = entry_within runs place.run place.at h p.within;
        same = λ d. subst (λ (e : List ℕ × Node). path_cmp e.0 path ≡ Equal) (sym (entry_is runs place.run place.at h p.within d)) (p.same d);
      };
    }

    module _ (all : are_runs runs ≡ true) (sorted : IsPathSorted (joined runs)) where
      -- the first entry of the next run comes after the path
      next_greater : (j : ℕ) (d : List ℕ × Node) → j < length runs → begins_by path (get_or runs j []) ≡ false → path_cmp (get_or (joined runs) (start_of runs j + 0) d).0 path ≡ Greater
      next_greater j d h none =
          let b = run_bounds_at runs j all h in
          subst (λ (e : List ℕ × Node). path_cmp e.0 path ≡ Greater) (sym (entry_is runs j 0 h (omega arith) d))
          (after _ (sym (begins_is path (get_or runs j []) d (omega arith)) ∙ none))

      pub gap_first : place.run ≡ 0 → place.at ≡ 0 → (0 < length runs → begins_by path (get_or runs 0 []) ≡ false) → IsGapAt runs path place
      gap_first r a none = record {
        here = record { run = omega arith; at = omega arith };
        gap = subst (λ n. IsGapFor (joined runs) path n) zero_is (gap_between (joined runs) path (start_of runs 0 + 0) sorted (omega arith) (λ i d e. absurd (omega arith))
            (λ d l. next_greater 0 d (some l) (none (some l))));
      }
        where
          zero_is : start_of runs 0 + 0 ≡ index_of runs place
          zero_is = rw (r, a) refl

          some : start_of runs 0 + 0 < length (joined runs) → 0 < length runs
          some l = ⊎_elim (λ lt. lt) (λ ge. let e = start_end runs 0 ge in absurd (omega arith)) (cases_lt 0 (length runs))

      pub gap_in_run : (next : ℕ) → next ≡ place.run + 1 → place.run < length runs → begins_by path (get_or runs place.run []) ≡ true → (next < length runs → begins_by path (get_or runs next []) ≡ false)
          → IsGapFor (get_or runs place.run []) path place.at → IsGapAt runs path place
      gap_in_run next en h begins none p = record {
        here = record { run = omega arith; at = p.within };
        gap = gap_between (joined runs) path (index_of runs place) sorted (place_within (record { run = omega arith; at = p.within })) before_it after_it;
      }
        where
          run : Nodes
          run = get_or runs place.run []

          bounds : (1 ≤ length run) × (length run ≤ 64)
          bounds = run_bounds_at runs place.run all h

          before_it : (i : ℕ) (d : List ℕ × Node) → index_of runs place ≡ i + 1 → path_cmp (get_or (joined runs) i d).0 path ≡ Less
          before_it i d e = ⊎_elim
              (λ lt.
              let k = place.at - 1 in
              let w = p.within in
              let there : start_of runs place.run + k ≡ i = omega arith in
              subst (λ n. path_cmp (get_or (joined runs) n d).0 path ≡ Less) there
              (subst (λ (e : List ℕ × Node). path_cmp e.0 path ≡ Less) (sym (entry_is runs place.run k h (omega arith) d)) (p.before k d (omega arith) (omega arith))))
              (λ ge.
              let b = bounds in
              absurd (not_after _ (sym (begins_is path run d (omega arith)) ∙ begins) (p.after 0 d ge (omega arith))))
              (cases_lt 0 place.at)

          after_it : (d : List ℕ × Node) → index_of runs place < length (joined runs) → path_cmp (get_or (joined runs) (index_of runs place) d).0 path ≡ Greater
          after_it d l = ⊎_elim
              (λ lt. subst (λ (e : List ℕ × Node). path_cmp e.0 path ≡ Greater) (sym (entry_is runs place.run place.at h lt d)) (p.after place.at d (omega arith) lt))
              (λ ge.
              let w = p.within in
              let s = start_next runs place.run next en h in
              ⊎_elim
              (λ more.
              let there : start_of runs next + 0 ≡ index_of runs place = omega arith in
              subst (λ n. path_cmp (get_or (joined runs) n d).0 path ≡ Greater) there (next_greater next d more (none more)))
              (λ end. let e = start_end runs next end in absurd (omega arith))
              (cases_lt next (length runs)))
              (cases_lt place.at (length run))

-- ---- a change of one run

pub inserted_at_end : {X : Type 0} (xs : List X) (i : ℕ) (e : X) → i ≡ length xs → insert xs i e ≡ xs ++ e ∷ []
inserted_at_end [] zero e h = refl
inserted_at_end [] (suc i) e h = absurd (omega arith)
inserted_at_end (x ∷ xs) zero e h = absurd (omega arith)
inserted_at_end (x ∷ xs) (suc i) e h = ap (λ l. x ∷ l) (inserted_at_end xs i e (omega arith))

module _ {X : Type 0} (a r b : List X) (k : ℕ) where
  back_in : length a + k - length a ≡ k
  back_in = omega arith

  insert_in : (e : X) → k ≤ length r → insert (a ++ (r ++ b)) (length a + k) e ≡ a ++ (insert r k e ++ b)
  insert_in e h = insert-append_right a (r ++ b) (length a) (length a + k) e refl (omega arith)
      ∙ ap (λ n. a ++ insert (r ++ b) n e) back_in ∙ ap (λ z. a ++ z) (insert-append_left r b k e h)

  set_in : (e : X) → k < length r → set (a ++ (r ++ b)) (length a + k) e ≡ a ++ (set r k e ++ b)
  set_in e h = set-append_right a (r ++ b) (length a) (length a + k) e refl (omega arith)
      ∙ ap (λ n. a ++ set (r ++ b) n e) back_in ∙ ap (λ z. a ++ z) (set-append_left r b k e h)

  remove_in : k < length r → remove (a ++ (r ++ b)) (length a + k) ≡ a ++ (remove r k ++ b)
  remove_in h = remove-append_right a (r ++ b) (length a) (length a + k) refl (omega arith)
      ∙ ap (λ n. a ++ remove (r ++ b) n) back_in ∙ ap (λ z. a ++ z) (remove-append_left r b k h)

around : (runs : List Nodes) (i : ℕ) → i < length runs → joined runs ≡ joined (take i runs) ++ (get_or runs i [] ++ joined (drop (suc i) runs))
around [] i h = absurd (omega arith)
around (r ∷ rs) zero h = refl
around (r ∷ rs) (suc i) h = ap (λ z. r ++ z) (around rs i (omega arith)) ∙ sym (append_assoc r (joined (take i rs)) _)

set_around : (runs : List Nodes) (i : ℕ) (x : Nodes) → i < length runs → joined (set runs i x) ≡ joined (take i runs) ++ (x ++ joined (drop (suc i) runs))
set_around [] i x h = absurd (omega arith)
set_around (r ∷ rs) zero x h = refl
set_around (r ∷ rs) (suc i) x h = ap (λ z. r ++ z) (set_around rs i x (omega arith)) ∙ sym (append_assoc r (joined (take i rs)) _)

divided_around : (runs : List Nodes) (i : ℕ) (x y : Nodes) → i < length runs → joined (insert (set runs i x) (suc i) y) ≡ joined (take i runs) ++ ((x ++ y) ++ joined (drop (suc i) runs))
divided_around [] i x y h = absurd (omega arith)
divided_around (r ∷ rs) zero x y h = sym (append_assoc x y (joined rs))
divided_around (r ∷ rs) (suc i) x y h = ap (λ z. r ++ z) (divided_around rs i x y (omega arith)) ∙ sym (append_assoc r (joined (take i rs)) _)

module _ (runs : List Nodes) (i k : ℕ) (h : i < length runs) where
  pub inserted_in_run : (e : List ℕ × Node) → k ≤ length (get_or runs i []) → joined (set runs i (insert (get_or runs i []) k e)) ≡ insert (joined runs) (start_of runs i + k) e
  inserted_in_run e l = set_around runs i _ h ∙ sym (insert_in (joined (take i runs)) (get_or runs i []) _ k e l) ∙ ap (λ t. insert t (start_of runs i + k) e) (sym (around runs i h))

  pub set_in_run : (e : List ℕ × Node) → k < length (get_or runs i []) → joined (set runs i (set (get_or runs i []) k e)) ≡ set (joined runs) (start_of runs i + k) e
  set_in_run e l = set_around runs i _ h ∙ sym (set_in (joined (take i runs)) (get_or runs i []) _ k e l) ∙ ap (λ t. set t (start_of runs i + k) e) (sym (around runs i h))

  pub removed_in_run : k < length (get_or runs i []) → joined (set runs i (remove (get_or runs i []) k)) ≡ remove (joined runs) (start_of runs i + k)
  removed_in_run l = set_around runs i _ h ∙ sym (remove_in (joined (take i runs)) (get_or runs i []) _ k l) ∙ ap (λ t. remove t (start_of runs i + k)) (sym (around runs i h))

  pub joined_divided : (j : ℕ) → j ≡ i + 1 → joined (insert (set runs i (take k (get_or runs i []))) j (drop k (get_or runs i []))) ≡ joined runs
  joined_divided j e =
      let f : suc i ≡ j = omega arith in
      let r = get_or runs i [] in
      subst (λ n. joined (insert (set runs i (take k r)) n (drop k r)) ≡ joined runs) f
      (divided_around runs i (take k r) (drop k r) h ∙ ap (λ z. joined (take i runs) ++ (z ++ joined (drop (suc i) runs))) (take-append-drop k r) ∙ sym (around runs i h))

-- removing an empty run doesn't change the joined list
pub joined_without : (runs : List Nodes) (i : ℕ) → i < length runs → length (get_or runs i []) ≡ 0 → joined (remove runs i) ≡ joined runs
joined_without [] i h e = absurd (omega arith)
joined_without ([] ∷ rs) zero h e = refl
joined_without ((x ∷ r) ∷ rs) zero h e = absurd (omega arith)
joined_without (r ∷ rs) (suc i) h e = ap (λ z. r ++ z) (joined_without rs i (omega arith) e)

-- ---- every run

module _ {X : Type 0} (p : X → Bool) where
  pub all_set : (xs : List X) (i : ℕ) (x : X) → list_all p xs ≡ true → p x ≡ true → list_all p (set xs i x) ≡ true
  all_set [] zero x all h = refl
  all_set [] (suc i) x all h = refl
  all_set (y ∷ ys) zero x all h = and_from _ _ h (and_parts _ _ all).1
  all_set (y ∷ ys) (suc i) x all h = and_from _ _ (and_parts _ _ all).0 (all_set ys i x (and_parts _ _ all).1 h)

  pub all_inserted : (xs : List X) (i : ℕ) (x : X) → list_all p xs ≡ true → p x ≡ true → list_all p (insert xs i x) ≡ true
  all_inserted [] zero x all h = and_from _ _ h refl
  all_inserted [] (suc i) x all h = and_from _ _ h refl
  all_inserted (y ∷ ys) zero x all h = and_from _ _ h all
  all_inserted (y ∷ ys) (suc i) x all h = and_from _ _ (and_parts _ _ all).0 (all_inserted ys i x (and_parts _ _ all).1 h)

  -- if all items pass, they still do after one is removed
  pub all_set_removed : (xs : List X) (i : ℕ) (x : X) → list_all p xs ≡ true → i < length xs → list_all p (remove (set xs i x) i) ≡ true
  all_set_removed [] i x all h = absurd (omega arith)
  all_set_removed (y ∷ ys) zero x all h = (and_parts _ _ all).1
  all_set_removed (y ∷ ys) (suc i) x all h = and_from _ _ (and_parts _ _ all).0 (all_set_removed ys i x (and_parts _ _ all).1 (omega arith))

-- removing a run that has become empty doesn't change the joined list
pub joined_tidied : (runs : List Nodes) (i : ℕ) → i < length runs → joined (if run_length runs i == 0 then remove runs i else runs) ≡ joined runs
joined_tidied runs i h = by_test (run_length runs i == 0)
    (λ e.
    let none : length (get_or runs i []) ≡ 0 = grind (arith, nat_tests) in
    ap (λ b. joined (cond b (remove runs i) runs)) e ∙ joined_without runs i h none)
    (λ e. ap (λ b. joined (cond b (remove runs i) runs)) e)

pub runs_tidied : (runs : List Nodes) (i : ℕ) (x : Nodes) → are_runs runs ≡ true → i < length runs → length x ≤ 64
    → are_runs (if run_length (set runs i x) i == 0 then remove (set runs i x) i else set runs i x) ≡ true
runs_tidied runs i x all h l = by_test (run_length (set runs i x) i == 0)
    (λ e. ap (λ b. are_runs (cond b (remove (set runs i x) i) (set runs i x))) e ∙ all_set_removed is_run runs i x all h)
    (λ e.
    let at : get_or (set runs i x) i [] ≡ x = get_or-set_at runs i i x [] refl h in
    let some : (length x == 0) ≡ false = ap (λ (r : Nodes). length r == 0) (sym at) ∙ e in
    let low : 1 ≤ length x = grind (arith, nat_tests) in
    ap (λ b. are_runs (cond b (remove (set runs i x) i) (set runs i x))) e ∙ all_set is_run runs i x all (is_run_from x low l))

-- ---- a run that was divided

take_divided : (runs : List Nodes) (i : ℕ) (x y : Nodes) → i < length runs → take i (insert (set runs i x) (suc i) y) ≡ take i runs
take_divided [] i x y h = absurd (omega arith)
take_divided (r ∷ rs) zero x y h = refl
take_divided (r ∷ rs) (suc i) x y h = ap (λ z. r ∷ z) (take_divided rs i x y (omega arith))

module _ (runs : List Nodes) (i j : ℕ) (next : j ≡ i + 1) (h : i < length runs) (all : are_runs runs ≡ true) (full : length (get_or runs i []) ≡ 64) where
  abbrev pub halved : List Nodes
  halved = insert (set runs i (take 32 (get_or runs i []))) j (drop 32 (get_or runs i []))

  front_length : length (take 32 (get_or runs i [])) ≡ 32
  front_length = length-take-le 32 (get_or runs i []) (omega arith)

  back_length : length (drop 32 (get_or runs i [])) ≡ 32
  back_length = let e = length-drop 32 (get_or runs i []) in omega arith

  there : j ≤ length (set runs i (take 32 (get_or runs i [])))
  there = let e = length-set runs i (take 32 (get_or runs i [])) in omega arith

  pub runs_halved : are_runs halved ≡ true
  runs_halved =
      let f = front_length in let b = back_length in
      all_inserted is_run (set runs i (take 32 (get_or runs i []))) j (drop 32 (get_or runs i []))
      (all_set is_run runs i (take 32 (get_or runs i [])) all (is_run_from (take 32 (get_or runs i [])) (omega arith) (omega arith)))
      (is_run_from (drop 32 (get_or runs i [])) (omega arith) (omega arith))

  count_halved : length halved ≡ length runs + 1
  count_halved = length-insert (set runs i (take 32 (get_or runs i []))) j (drop 32 (get_or runs i [])) there ∙ ap (λ n. n + 1) (length-set runs i (take 32 (get_or runs i [])))

  front_is : get_or halved i [] ≡ take 32 (get_or runs i [])
  front_is = get_or-insert_below (set runs i (take 32 (get_or runs i []))) j (drop 32 (get_or runs i [])) [] i (omega arith) there ∙ get_or-set_at runs i i (take 32 (get_or runs i [])) [] refl h

  back_is : get_or halved j [] ≡ drop 32 (get_or runs i [])
  back_is = get_or-insert_at (set runs i (take 32 (get_or runs i []))) j (drop 32 (get_or runs i [])) [] there

  pub room_in_front : (place : Place) → place.run ≡ i → place.at ≤ 32 → HasRoomAt halved place
  room_in_front place e l =
      let f = ap length front_is ∙ front_length in
      let c = count_halved in
      let at : length (get_or halved place.run []) ≡ 32 = ap (λ n. length (get_or halved n [])) e ∙ f in
      record { run = omega arith; at = omega arith; room = omega arith }

  pub room_in_back : (place : Place) → place.run ≡ j → place.at ≤ 32 → HasRoomAt halved place
  room_in_back place e l =
      let f = ap length back_is ∙ back_length in
      let c = count_halved in
      let at : length (get_or halved place.run []) ≡ 32 = ap (λ n. length (get_or halved n [])) e ∙ f in
      record { run = omega arith; at = omega arith; room = omega arith }

  pub start_front : start_of halved i ≡ start_of runs i
  start_front =
      let f : suc i ≡ j = omega arith in
      subst (λ n. start_of (insert (set runs i (take 32 (get_or runs i []))) n (drop 32 (get_or runs i []))) i ≡ start_of runs i) f (ap joined_length (take_divided runs i (take 32 (get_or runs i [])) (drop 32 (get_or runs i [])) h))
    where
      joined_length : List Nodes → ℕ
      joined_length rs = length (joined rs)

  pub start_back : start_of halved j ≡ start_of runs i + 32
  start_back =
      let c = count_halved in
      let s = start_next halved i j next (omega arith) in
      let f = ap length front_is ∙ front_length in
      let t = start_front in omega arith

-- the rest of one run and the later runs are the joined list from that place on
pub joined_from : (runs : List Nodes) (i j k : ℕ) → j ≡ i + 1 → i < length runs → k ≤ length (get_or runs i []) → drop k (get_or runs i []) ++ joined (drop j runs) ≡ drop (start_of runs i + k) (joined runs)
joined_from runs i j k e h l =
    let f : suc i ≡ j = omega arith in
    let r = get_or runs i [] in
    let a = joined (take i runs) in
    let b = joined (drop (suc i) runs) in
    subst (λ n. drop k r ++ joined (drop n runs) ≡ drop (start_of runs i + k) (joined runs)) f
    (sym (drop-append-le k r b l) ∙ sym (drop_in a (r ++ b) k) ∙ ap (λ t. drop (start_of runs i + k) t) (sym (around runs i h)))
  where
    drop_in : (a r : Nodes) (k : ℕ) → drop (length a + k) (a ++ r) ≡ drop k r
    drop_in [] r k = let e : 0 + k ≡ k = omega arith in ap (λ n. drop n r) e
    drop_in (x ∷ a) r k = let e : length (x ∷ a) + k ≡ suc (length a + k) = omega arith in ap (λ n. drop n (x ∷ a ++ r)) e ∙ drop_in a r k

pub all_dropped : {X : Type 0} (p : X → Bool) (xs : List X) (n : ℕ) → list_all p xs ≡ true → list_all p (drop n xs) ≡ true
all_dropped p [] zero all = refl
all_dropped p [] (suc n) all = refl
all_dropped p (x ∷ xs) zero all = all
all_dropped p (x ∷ xs) (suc n) all = all_dropped p xs n (and_parts _ _ all).1
