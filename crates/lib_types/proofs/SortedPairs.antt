-- Lists of keys and values in the order of the keys: the index of a key, and the list after a change at that index.
use Rattle.std.proofs.Common.{◌≡◌, ℕ, zero, suc, ◌<◌, ◌≤◌, Bool, true, false, cond, List, [], ◌∷◌, length, get_or, set, Some, None, refl, sym, ap, subst, ◌∙◌, ⊎_elim, arith, Ordering}
use Rattle.std.proofs.lemmas.List.{get_or-map}
use Rattle.std.proofs.lemmas.Map.Keys.{Less-from_sorted}
use Rattle.std.proofs.lemmas.Map.Entries.{length-keys_of}
use Rattle.std.proofs.lemmas.Bool.{cases_lt}
use Rattle.std.specs.BTreeMap.{insert_entry, is_at}
use Rattle.std.specs.Cmp.{IsTotalOrder}
use Rattle.std.specs.List.{insert, remove, AllWithin, HoldsAt, AllByRecursion}
use Rattle.std.specs.List.Sorted.{IsStrictlySortedBy, IsNonDecreasingBy}
use Rattle.std.specs.Map.{keys_of, lookup, remove_entry}
use Rattle.std.specs.Ordering.{ordering_reverse, ordering_index, match_ordering, is_eq}
use Rattle.std.specs.declared.cmp.Ordering.TheVariants.{Less, Equal, Greater}

-- each result of a comparison
pub by_ordering : {P : Type 0} (r : Ordering) → (r ≡ Less → P) → (r ≡ Equal → P) → (r ≡ Greater → P) → P
by_ordering Less a b c = a refl
by_ordering Equal a b c = b refl
by_ordering Greater a b c = c refl

pub by_test : {P : Type 0} (b : Bool) → (b ≡ true → P) → (b ≡ false → P) → P
by_test true a c = a refl
by_test false a c = c refl

module _ {K : Type 0} {cmp : K → K → Ordering} (o : IsTotalOrder cmp) where
  pub flipped : (x y : K) (r : Ordering) → cmp x y ≡ r → cmp y x ≡ ordering_reverse r
  flipped x y r h = o.antisymm y x ∙ ap ordering_reverse h

  -- if x is below y, the comparison of x with k is at most that of y with k
  rises : (x y k : K) → cmp x y ≡ Less → ordering_index (cmp x k) ≤ ordering_index (cmp y k)
  rises x y k h = by_ordering (cmp x k)
      (λ a. rw a (omega arith))
      (λ a. rw (a, flipped k y Less (sym (o.congr x k y a) ∙ h)) (omega arith))
      (λ a. rw (a, flipped k y Less (o.trans k x y (flipped x k Greater a) h)) (omega arith))

  all_below : (k x : K) (ks : List K) → cmp k x ≡ Less → AllByRecursion (λ y. cmp x y ≡ Less) ks → AllByRecursion (λ y. cmp k y ≡ Less) ks
  all_below k x [] h a = tt
  all_below k x (y ∷ ks) h a = (o.trans k x y h a.0, all_below k x ks h a.1)

module _ {K X : Type 0} {cmp : K → K → Ordering} (o : IsTotalOrder cmp) where
  pub below_later : (es : List (K × X)) (i j : ℕ) (d : K × X) → IsStrictlySortedBy cmp (keys_of es) → i < j → j < length es → cmp (get_or es i d).0 (get_or es j d).0 ≡ Less
  below_later es i j d s h k =
      let e = Less-from_sorted cmp (keys_of es) i j d.0 s h (rw length-keys_of k) in
      let first = get_or-map (λ (x : K × X). x.0) es i d d.0 (omega arith) in
      let later = get_or-map (λ (x : K × X). x.0) es j d d.0 k in
      rw (first, later) at e

  pub rises_by : (es : List (K × X)) (k : K) → IsStrictlySortedBy cmp (keys_of es) → IsNonDecreasingBy (λ e. ordering_index (cmp e.0 k)) es
  rises_by es k s i j d h l =
      let P : ℕ → Type 0 = λ n. ordering_index (cmp (get_or es i d).0 k) ≤ ordering_index (cmp (get_or es n d).0 k) in
      ⊎_elim (λ lt. rises o _ _ k (below_later es i j d s lt l)) (λ ge. let e : i ≡ j = omega arith in subst P e (omega arith)) (cases_lt i j)

  -- the entries before the entry of a key are below the key
  pub before_index : (es : List (K × X)) (k : K) (i : ℕ) → IsStrictlySortedBy cmp (keys_of es) → i < length es → HoldsAt (λ e. cmp e.0 k ≡ Equal) es i → AllWithin (λ e. cmp e.0 k ≡ Less) es 0 i
  before_index es k i s h at j d low high =
      flipped o k _ Greater (sym (o.congr _ k _ (at d)) ∙ flipped o _ _ Less (below_later es j i d s high h))

  module _ (k : K) where
    pub put_step : (e : K × X) (es : List (K × X)) (v : X) (r : Ordering) → cmp k e.0 ≡ r → insert_entry cmp (e ∷ es) k v ≡ match_ordering r ((k, v) ∷ e ∷ es) ((e.0, v) ∷ es) (e ∷ insert_entry cmp es k v)
    put_step e es v r h = ap (λ o. match_ordering o ((k, v) ∷ e ∷ es) ((e.0, v) ∷ es) (e ∷ insert_entry cmp es k v)) h

    pub put_in_gap : (es : List (K × X)) (i : ℕ) (v : X) → i ≤ length es → AllWithin (λ e. cmp e.0 k ≡ Less) es 0 i → AllWithin (λ e. cmp e.0 k ≡ Greater) es i (length es)
        → insert es i (k, v) ≡ insert_entry cmp es k v
    put_in_gap [] zero v h before after = refl
    put_in_gap [] (suc i) v h before after = absurd (omega arith)
    put_in_gap (e ∷ es) zero v h before after = sym (put_step e es v Less (flipped o _ _ Greater (after 0 e (omega arith) (omega arith))))
    put_in_gap (e ∷ es) (suc i) v h before after =
        ap (λ l. e ∷ l) (put_in_gap es i v (omega arith) (λ j d p q. before (suc j) d (omega arith) (omega arith)) (λ j d p q. after (suc j) d (omega arith) (omega arith)))
        ∙ sym (put_step e es v Greater (flipped o _ _ Less (before 0 e (omega arith) (omega arith))))

    pub put_at_index : (es : List (K × X)) (i : ℕ) (v : X) (d : K × X) → i < length es → HoldsAt (λ e. cmp e.0 k ≡ Equal) es i → AllWithin (λ e. cmp e.0 k ≡ Less) es 0 i
        → set es i ((get_or es i d).0, v) ≡ insert_entry cmp es k v
    put_at_index [] i v d h at before = absurd (omega arith)
    put_at_index (e ∷ es) zero v d h at before = sym (put_step e es v Equal (flipped o _ _ Equal (at d)))
    put_at_index (e ∷ es) (suc i) v d h at before =
        ap (λ l. e ∷ l) (put_at_index es i v d (omega arith) at (λ j d p q. before (suc j) d (omega arith) (omega arith)))
        ∙ sym (put_step e es v Greater (flipped o _ _ Less (before 0 e (omega arith) (omega arith))))

    pub found_at_index : (es : List (K × X)) (i : ℕ) (d : K × X) → i < length es → HoldsAt (λ e. cmp e.0 k ≡ Equal) es i → AllWithin (λ e. cmp e.0 k ≡ Less) es 0 i
        → lookup (is_at (cmp k)) es ≡ Some (get_or es i d).1
    found_at_index [] i d h at before = absurd (omega arith)
    found_at_index (e ∷ es) zero d h at before = ap (λ r. cond (is_eq r) (Some e.1) (lookup (is_at (cmp k)) es)) (flipped o _ _ Equal (at d))
    found_at_index (e ∷ es) (suc i) d h at before =
        ap (λ r. cond (is_eq r) (Some e.1) (lookup (is_at (cmp k)) es)) (flipped o _ _ Less (before 0 e (omega arith) (omega arith)))
        ∙ found_at_index es i d (omega arith) at (λ j d p q. before (suc j) d (omega arith) (omega arith))

    pub removed_at_index : (es : List (K × X)) (i : ℕ) → i < length es → HoldsAt (λ e. cmp e.0 k ≡ Equal) es i → AllWithin (λ e. cmp e.0 k ≡ Less) es 0 i
        → remove es i ≡ remove_entry (is_at (cmp k)) es
    removed_at_index [] i h at before = absurd (omega arith)
    removed_at_index (e ∷ es) zero h at before = sym (ap (λ r. cond (is_eq r) es (e ∷ remove_entry (is_at (cmp k)) es)) (flipped o _ _ Equal (at e)))
    removed_at_index (e ∷ es) (suc i) h at before =
        ap (λ l. e ∷ l) (removed_at_index es i (omega arith) at (λ j d p q. before (suc j) d (omega arith) (omega arith)))
        ∙ sym (ap (λ r. cond (is_eq r) es (e ∷ remove_entry (is_at (cmp k)) es)) (flipped o _ _ Less (before 0 e (omega arith) (omega arith))))

    -- if the key falls between two entries, it isn't found and removing it changes nothing
    pub none_in_gap : (es : List (K × X)) (i : ℕ) → i ≤ length es → AllWithin (λ e. cmp e.0 k ≡ Less) es 0 i → AllWithin (λ e. cmp e.0 k ≡ Greater) es i (length es)
        → lookup (is_at (cmp k)) es ≡ None
    none_in_gap [] i h before after = refl
    none_in_gap (e ∷ es) zero h before after =
        ap (λ r. cond (is_eq r) (Some e.1) (lookup (is_at (cmp k)) es)) (flipped o _ _ Greater (after 0 e (omega arith) (omega arith)))
        ∙ none_in_gap es zero (omega arith) (λ j d p q. absurd (omega arith)) (λ j d p q. after (suc j) d (omega arith) (omega arith))
    none_in_gap (e ∷ es) (suc i) h before after =
        ap (λ r. cond (is_eq r) (Some e.1) (lookup (is_at (cmp k)) es)) (flipped o _ _ Less (before 0 e (omega arith) (omega arith)))
        ∙ none_in_gap es i (omega arith) (λ j d p q. before (suc j) d (omega arith) (omega arith)) (λ j d p q. after (suc j) d (omega arith) (omega arith))

    pub kept_in_gap : (es : List (K × X)) (i : ℕ) → i ≤ length es → AllWithin (λ e. cmp e.0 k ≡ Less) es 0 i → AllWithin (λ e. cmp e.0 k ≡ Greater) es i (length es)
        → es ≡ remove_entry (is_at (cmp k)) es
    kept_in_gap [] i h before after = refl
    kept_in_gap (e ∷ es) zero h before after =
        ap (λ l. e ∷ l) (kept_in_gap es zero (omega arith) (λ j d p q. absurd (omega arith)) (λ j d p q. after (suc j) d (omega arith) (omega arith)))
        ∙ sym (ap (λ r. cond (is_eq r) es (e ∷ remove_entry (is_at (cmp k)) es)) (flipped o _ _ Greater (after 0 e (omega arith) (omega arith))))
    kept_in_gap (e ∷ es) (suc i) h before after =
        ap (λ l. e ∷ l) (kept_in_gap es i (omega arith) (λ j d p q. before (suc j) d (omega arith) (omega arith)) (λ j d p q. after (suc j) d (omega arith) (omega arith)))
        ∙ sym (ap (λ r. cond (is_eq r) es (e ∷ remove_entry (is_at (cmp k)) es)) (flipped o _ _ Less (before 0 e (omega arith) (omega arith))))

    all_put : (P : K → Type 0) (es : List (K × X)) (v : X) → AllByRecursion P (keys_of es) → P k → AllByRecursion P (keys_of (insert_entry cmp es k v))
    all_put P [] v a p = (p, tt)
    all_put P (e ∷ es) v a p = elim (cmp k e.0) as (λ r. AllByRecursion P (keys_of (match_ordering r ((k, v) ∷ e ∷ es) ((e.0, v) ∷ es) (e ∷ insert_entry cmp es k v))))
        [ Less ↦ (p, a) | Equal ↦ a | Greater ↦ (a.0, all_put P es v a.1 p) ]

    pub sorted_put : (es : List (K × X)) (v : X) → IsStrictlySortedBy cmp (keys_of es) → IsStrictlySortedBy cmp (keys_of (insert_entry cmp es k v))
    unfolding IsStrictlySortedBy
    sorted_put [] v s = (tt, tt)
    sorted_put (e ∷ es) v s = by_ordering (cmp k e.0)
        (λ a. rw (put_step e es v Less a) ((a, all_below o k e.0 (keys_of es) a s.0), s))
        (λ a. rw (put_step e es v Equal a) s)
        (λ a. rw (put_step e es v Greater a) (all_put _ es v s.0 (flipped o _ _ Greater a), sorted_put es v s.1))

  module _ (test : K → Bool) where
    all_removed : (P : K → Type 0) (es : List (K × X)) → AllByRecursion P (keys_of es) → AllByRecursion P (keys_of (remove_entry test es))
    all_removed P [] a = tt
    all_removed P (e ∷ es) a = elim (test e.0) as (λ b. AllByRecursion P (keys_of (cond b es (e ∷ remove_entry test es)))) [ true ↦ a.1 | false ↦ (a.0, all_removed P es a.1) ]

    pub sorted_removed : (es : List (K × X)) → IsStrictlySortedBy cmp (keys_of es) → IsStrictlySortedBy cmp (keys_of (remove_entry test es))
    unfolding IsStrictlySortedBy
    sorted_removed [] s = tt
    sorted_removed (e ∷ es) s = elim (test e.0) as (λ b. IsStrictlySortedBy cmp (keys_of (cond b es (e ∷ remove_entry test es))))
        [ true ↦ s.1 | false ↦ (all_removed _ es s.0, sorted_removed es s.1) ]
