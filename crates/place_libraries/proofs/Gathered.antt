-- The folds of items that are sorted by their sonames. The items of each soname are consecutive.
use Rattle.std.proofs.Common.{◌≡◌, inl, inr, ◌<◌, ◌+◌, ◌-◌, ℕ, suc, zero, Bool, true, false, cond, not, ◌&&◌, ◌||◌, List, [], ◌∷◌, ◌++◌, append_assoc, get_or, length, map, refl, ap, sym, subst, ◌∙◌, Option, Some, None, arith}
use Rattle.std.proofs.lemmas.Cmp.{nat_list_cmp_total, tied_itself}
use Rattle.std.proofs.lemmas.List.Elements.{filter_agree}
use Rattle.std.proofs.lemmas.List.Sorted.{length_permutation, list_any-IsPermutation, ranks_by, sorted_far}
use Rattle.std.proofs.lemmas.Map.Keys.{sorted_head, sorted_tail}
use Rattle.std.proofs.lemmas.Slice.Eq.{bytes_eq-Decides}
use Rattle.std.specs.BTreeMap.{is_at}
use Rattle.std.specs.Cmp.{IsStrictWeakOrder}
use Rattle.std.specs.Cmp.Lexicographic.{texts_ties}
use Rattle.std.specs.List.{AllByRecursion, filter, fold, list_any, slice_get}
use Rattle.std.specs.List.Sorted.{IsPermutation, IsSorted, IsSortedBy, IsStable, IsStrictlySortedBy, ties}
use Rattle.std.specs.Map.{keys_of}
use Rattle.std.specs.Option.{is_some, option_map, unwrap_or}
use Rattle.std.specs.Ordering.{is_eq, is_lt, match_ordering}
use Rattle.std.specs.Str.{bytes_eq}
use Rattle.std.specs.declared.cmp.Ordering.TheVariants.{Less, Equal, Greater}
use Rattle.lib_types.proofs.SortedPairs.{by_ordering, by_test, flipped}
use Rattle.string_pool.proofs.InByteOrder.{ascending_sorted, in_ascending, same_text}
use Rattle.string_pool.proofs.Members.{is_in, same_members, cmp}
use Rattle.string_pool.proofs.Ordered.{keys_stay}
use Rattle.string_pool.specs.Order.{AreAscending, ascending, with_text}
use Rattle.place_libraries.specs.Sonames.{AreBySoname, AreGathered, AreOrdered, IsGathered, found_at, gathered_at, is_last, of_soname, soname_order, soname_order-total}
use Rattle.lib_types.proofs.SameTexts.{itself}
use Rattle.file_table.proofs.Copied.{without}

-- ---- a sort by sonames

tie : (a b : List ℕ) → (not (is_lt (cmp a b)) && not (is_lt (cmp b a))) ≡ bytes_eq b a
tie a b = by_ordering (cmp a b)
    (λ less.
    let other : bytes_eq b a ≡ false = texts_ties b a ∙ ap is_eq (flipped nat_list_cmp_total a b Less less) in
    rw (less, other) refl)
    (λ same.
    let turned : cmp b a ≡ Equal = flipped nat_list_cmp_total a b Equal same in
    let eq : bytes_eq b a ≡ true = texts_ties b a ∙ ap is_eq turned in
    rw (same, turned, eq) refl)
    (λ greater.
    let turned : cmp b a ≡ Less = flipped nat_list_cmp_total a b Greater greater in
    let other : bytes_eq b a ≡ false = texts_ties b a ∙ ap is_eq turned in
    rw (greater, turned, other) refl)

module _ {X : Type 0} where
  abbrev lt : List ℕ × X → List ℕ × X → Bool
  lt a b = is_lt (soname_order a b)

  weak : IsStrictWeakOrder lt
  weak = ranks_by soname_order-total (λ x. x)

  sorted_rest : (x : List ℕ × X) (xs : List (List ℕ × X)) → IsSortedBy lt (x ∷ xs) → IsSortedBy lt xs
  sorted_rest x xs sorted k d low high =
      let e : suc k + 1 ≡ suc (k + 1) = omega arith in
      subst (λ n. lt (get_or (x ∷ xs) n d) (get_or xs k d) ≡ false) e (sorted (suc k) d (omega arith) (omega arith))

  all_after : (x : List ℕ × X) (xs : List (List ℕ × X)) → ((i : ℕ) → i < length xs → lt (get_or xs i x) x ≡ false)
      → AllByRecursion (λ other. is_lt (cmp other x.0) ≡ false) (keys_of xs)
  all_after x [] h = tt
  all_after x (y ∷ ys) h = (h 0 (omega arith), all_after x ys (λ i within. h (suc i) (omega (arith, within))))

  are_ascending : (xs : List (List ℕ × X)) → IsSortedBy lt xs → AreAscending (keys_of xs)
  are_ascending [] up = tt
  are_ascending (x ∷ xs) up =
      (all_after x xs (λ i within. sorted_far lt weak (x ∷ xs) up 0 (suc i) x (omega arith) (omega (arith, within))), are_ascending xs (sorted_rest x xs up))

  none_from : (sorted : List (List ℕ × X)) → length sorted ≡ 0 → sorted ≡ []
  none_from [] e = refl
  none_from (x ∷ xs) e = absurd (omega (arith, e))

  stable_at : (items sorted : List (List ℕ × X)) → IsPermutation items sorted → IsStable soname_order items sorted → (soname : List ℕ) → of_soname soname sorted ≡ of_soname soname items
  stable_at [] sorted same stable soname = ap (of_soname soname) (none_from sorted (length_permutation [] sorted same))
  stable_at (e ∷ es) sorted same stable soname =
      let x : List ℕ × X = (soname, e.1) in
      let agree : (y : List ℕ × X) → ties lt x y ≡ bytes_eq y.0 soname = λ y. tie soname y.0 in
      sym (filter_agree (ties lt x) (λ y. bytes_eq y.0 soname) agree sorted) ∙ stable x ∙ filter_agree (ties lt x) (λ y. bytes_eq y.0 soname) agree (e ∷ es)

  pub sorted_by_soname : (items sorted : List (List ℕ × X)) → IsPermutation items sorted → IsSorted soname_order sorted → IsStable soname_order items sorted → AreBySoname items sorted
  sorted_by_soname items sorted same up stable = record { same = same; ascending = are_ascending sorted up; stable = stable_at items sorted same stable }

-- ---- texts in ascending order

without_one : (P : List ℕ → Type 0) (xs : List (List ℕ)) (k : List ℕ) (ys : List (List ℕ)) → AllByRecursion P (xs ++ k ∷ ys) → AllByRecursion P (xs ++ ys)
without_one P [] k ys a = a.1
without_one P (x ∷ xs) k ys a = (a.0, without_one P xs k ys a.1)

left_ascending : (xs : List (List ℕ)) (k : List ℕ) (ys : List (List ℕ)) → AreAscending (xs ++ k ∷ ys) → AreAscending (xs ++ ys)
left_ascending [] k ys up = up.1
left_ascending (x ∷ xs) k ys up = (without_one (λ other. is_lt (cmp other x) ≡ false) xs k ys up.0, left_ascending xs k ys up.1)

-- a text after others is not less than any of them
not_below : (xs : List (List ℕ)) (k : List ℕ) (ys : List (List ℕ)) → AreAscending (xs ++ k ∷ ys) → AllByRecursion (λ x. is_lt (cmp k x) ≡ false) xs
not_below [] k ys up = tt
not_below (x ∷ xs) k ys up = (without (λ other. is_lt (cmp other x) ≡ false) xs k ys up.0, not_below xs k ys up.1)

module _ {G : Type 0} where
  keys_both : (xs ys : List (List ℕ × G)) → keys_of (xs ++ ys) ≡ keys_of xs ++ keys_of ys
  keys_both [] ys = refl
  keys_both (x ∷ xs) ys = ap (λ ks. x.0 ∷ ks) (keys_both xs ys)

  module _ (k : List ℕ) (g : G) where
    -- ---- the last entry changes

    module _ (last : G) where
      same_keys : (front : List (List ℕ × G)) → keys_of (front ++ (k, g) ∷ []) ≡ keys_of (front ++ (k, last) ∷ [])
      same_keys [] = refl
      same_keys (e ∷ front) = ap (λ ks. e.0 ∷ ks) (same_keys front)

      at_itself : is_at (cmp k) k ≡ true
      at_itself = ap is_eq (tied_itself nat_list_cmp_total k)

      is_there : (front : List (List ℕ × G)) → is_some (found_at (front ++ (k, last) ∷ []) k) ≡ true
      is_there [] = rw at_itself refl
      is_there (e ∷ front) = elim (is_at (cmp k) e.0) as (λ b. is_some (cond b (Some e.1) (found_at (front ++ (k, last) ∷ []) k)) ≡ true) [ true ↦ refl | false ↦ is_there front ]

      pub keys_again : (front : List (List ℕ × G)) → AreOrdered (front ++ (k, last) ∷ []) → keys_of (front ++ (k, g) ∷ []) ≡ with_text (keys_of (front ++ (k, last) ∷ [])) k
      keys_again front s = same_keys front ∙ keys_stay nat_list_cmp_total k (front ++ (k, last) ∷ []) s (is_there front)

      pub ordered_again : (front : List (List ℕ × G)) → AreOrdered (front ++ (k, last) ∷ []) → AreOrdered (front ++ (k, g) ∷ [])
      ordered_again front s = subst (IsStrictlySortedBy cmp) (sym (same_keys front)) s

      last_differs : (e : List ℕ × G) (front : List (List ℕ × G)) → AllByRecursion (λ y. cmp e.0 y ≡ Less) (keys_of (front ++ (k, last) ∷ [])) → bytes_eq k e.0 ≡ false
      last_differs e [] a = texts_ties k e.0 ∙ ap is_eq (flipped nat_list_cmp_total e.0 k Less a.0)
      last_differs e (f ∷ front) a = last_differs e front a.1

      pub found_again : (front : List (List ℕ × G)) → AreOrdered (front ++ (k, last) ∷ [])
          → (q : List ℕ) → found_at (front ++ (k, g) ∷ []) q ≡ cond (bytes_eq k q) (Some g) (found_at (front ++ (k, last) ∷ []) q)
      found_again [] s q = by_test (bytes_eq k q)
          (λ e.
          let here : is_at (cmp q) k ≡ true = sym (texts_ties q k) ∙ (bytes_eq-Decides q k).1 (sym ((bytes_eq-Decides k q).0 e)) in
          rw (here, e) refl)
          (λ e.
          let other : is_at (cmp q) k ≡ false = sym (texts_ties q k) ∙ turned_off e in
          rw (other, e) refl)
        where
          turned_off : bytes_eq k q ≡ false → bytes_eq q k ≡ false
          turned_off e = by_test (bytes_eq q k)
              (λ f. let there : bytes_eq k q ≡ true = (bytes_eq-Decides k q).1 (sym ((bytes_eq-Decides q k).0 f)) in absurd (cc))
              (λ f. f)
      found_again (e ∷ front) s q = by_test (is_at (cmp q) e.0)
          (λ h.
          let same : q ≡ e.0 = (bytes_eq-Decides q e.0).0 (texts_ties q e.0 ∙ h) in
          let differs : bytes_eq k q ≡ false =
          subst (λ (p : List ℕ). bytes_eq k p ≡ false) (sym same) (last_differs e front (sorted_head cmp e.0 (keys_of (front ++ (k, last) ∷ [])) s)) in
          rw (h, differs) refl)
          (λ h. rw h (found_again front (sorted_tail cmp e.0 (keys_of (front ++ (k, last) ∷ [])) s) q))

    -- ---- an entry after all others

    pub keys_more : (es : List (List ℕ × G)) → AllByRecursion (λ x. cmp x k ≡ Less) (keys_of es) → keys_of (es ++ (k, g) ∷ []) ≡ with_text (keys_of es) k
    keys_more [] a = refl
    keys_more (e ∷ es) a =
        let greater : cmp k e.0 ≡ Greater = flipped nat_list_cmp_total e.0 k Less a.0 in
        ap (λ ks. e.0 ∷ ks) (keys_more es a.1) ∙ sym (ap (λ o. match_ordering o (k ∷ e.0 ∷ keys_of es) (e.0 ∷ keys_of es) (e.0 ∷ with_text (keys_of es) k)) greater)

    also_less : (x : List ℕ) (es : List (List ℕ × G)) → cmp x k ≡ Less → AllByRecursion (λ y. cmp x y ≡ Less) (keys_of es) → AllByRecursion (λ y. cmp x y ≡ Less) (keys_of (es ++ (k, g) ∷ []))
    also_less x [] h a = (h, tt)
    also_less x (e ∷ es) h a = (a.0, also_less x es h a.1)

    pub ordered_more : (es : List (List ℕ × G)) → AllByRecursion (λ x. cmp x k ≡ Less) (keys_of es) → AreOrdered es → AreOrdered (es ++ (k, g) ∷ [])
    unfolding IsStrictlySortedBy
    ordered_more [] a s = (tt, tt)
    ordered_more (e ∷ es) a s = (also_less e.0 es a.0 s.0, ordered_more es a.1 s.1)

    pub found_more : (es : List (List ℕ × G)) → AllByRecursion (λ x. cmp x k ≡ Less) (keys_of es)
        → (q : List ℕ) → found_at (es ++ (k, g) ∷ []) q ≡ cond (bytes_eq k q) (Some g) (found_at es q)
    found_more [] a q = by_test (bytes_eq k q)
        (λ e.
        let here : is_at (cmp q) k ≡ true = sym (texts_ties q k) ∙ (bytes_eq-Decides q k).1 (sym ((bytes_eq-Decides k q).0 e)) in
        rw (here, e) refl)
        (λ e.
        let other : is_at (cmp q) k ≡ false = sym (texts_ties q k) ∙ by_test (bytes_eq q k)
        (λ f. let there : bytes_eq k q ≡ true = (bytes_eq-Decides k q).1 (sym ((bytes_eq-Decides q k).0 f)) in absurd (cc))
        (λ f. f) in
        rw (other, e) refl)
    found_more (e ∷ es) a q = by_test (is_at (cmp q) e.0)
        (λ h.
        let same : q ≡ e.0 = (bytes_eq-Decides q e.0).0 (texts_ties q e.0 ∙ h) in
        let differs : bytes_eq k q ≡ false =
        subst (λ (p : List ℕ). bytes_eq k p ≡ false) (sym same) (texts_ties k e.0 ∙ ap is_eq (flipped nat_list_cmp_total e.0 k Less a.0)) in
        rw (h, differs) refl)
        (λ h. rw h (found_more es a.1 q))

    less_from : (x : List ℕ) → is_lt (cmp k x) ≡ false → bytes_eq x k ≡ false → cmp x k ≡ Less
    less_from x h other = by_ordering (cmp k x)
        (λ a. let z : true ≡ false = sym (ap is_lt a) ∙ h in absurd (cc))
        (λ a.
        let there : bytes_eq x k ≡ true = (bytes_eq-Decides x k).1 (sym (same_text k x a)) in absurd (cc))
        (λ a. flipped nat_list_cmp_total k x Greater a)

    -- if a key is not less than any entry's key and differs from the last, all entries' keys are less than it
    pub all_less : (es : List (List ℕ × G)) → AreOrdered es → AllByRecursion (λ x. is_lt (cmp k x) ≡ false) (keys_of es) → is_last k es ≡ false
        → AllByRecursion (λ x. cmp x k ≡ Less) (keys_of es)
    all_less [] s a other = tt
    all_less (e ∷ []) s a other = (less_from e.0 a.0 other, tt)
    all_less (e ∷ f ∷ es) s a other =
        let rest = all_less (f ∷ es) (sorted_tail cmp e.0 (keys_of (f ∷ es)) s) a.1 other in
        (nat_list_cmp_total.trans e.0 f.0 k (sorted_head cmp e.0 (keys_of (f ∷ es)) s).0 rest.0, rest)

module _ {G : Type 0} (soname : List ℕ) where
  last_at : (es : List (List ℕ × G)) (at : ℕ) → at ≡ length es - 1 → is_last soname es ≡ unwrap_or (option_map (λ e. bytes_eq e.0 soname) (slice_get es at)) false
  last_at [] zero h = refl
  last_at [] (suc at) h = refl
  last_at (e ∷ []) zero h = refl
  last_at (e ∷ []) (suc at) h = absurd (omega arith)
  last_at (e ∷ f ∷ es) zero h = absurd (omega arith)
  last_at (e ∷ f ∷ es) (suc at) h = last_at (f ∷ es) at (omega arith)

  -- the last entry, if there is one
  pub last_is : (es : List (List ℕ × G)) (o : Option (List ℕ × G)) → o ≡ slice_get es (length es - 1) → is_last soname es ≡ unwrap_or (option_map (λ e. bytes_eq e.0 soname) o) false
  last_is es o e = last_at es (length es - 1) refl ∙ ap (λ p. unwrap_or (option_map (λ e. bytes_eq e.0 soname) p) false) (sym e)

  ends : (front : List (List ℕ × G)) (last : List ℕ × G) → is_last soname (front ++ last ∷ []) ≡ bytes_eq last.0 soname
  ends [] last = refl
  ends (e ∷ []) last = refl
  ends (e ∷ f ∷ front) last = ends (f ∷ front) last

  pub last_has : (es front : List (List ℕ × G)) (last : List ℕ × G) → es ≡ front ++ last ∷ [] → is_last soname es ≡ true → es ≡ front ++ (soname, last.1) ∷ []
  last_has es front last e h =
      let same : last.0 ≡ soname = (bytes_eq-Decides last.0 soname).0 (sym (ends front last) ∙ sym (ap (is_last soname) e) ∙ h) in
      e ∙ ap (λ q. front ++ (q, last.1) ∷ []) same

-- ---- adding an item

module _ {X G : Type 0} (step : Option G → X → Option G) (soname : List ℕ) (item : X) where
  there_last : (front : List (List ℕ × G)) (last : G) → AreOrdered (front ++ (soname, last) ∷ []) → found_at (front ++ (soname, last) ∷ []) soname ≡ Some last
  there_last front last s = found_again soname last last front s soname ∙ ap (λ b. cond b (Some last) (found_at (front ++ (soname, last) ∷ []) soname)) (itself soname)

  -- the item is added to the last entry, which has its soname
  pub gathered_last : (es front : List (List ℕ × G)) (last g : G) (new : List (List ℕ × G)) → es ≡ front ++ (soname, last) ∷ [] → AreOrdered es
      → Some g ≡ step (Some last) item → new ≡ front ++ (soname, g) ∷ [] → IsGathered step es soname item new
  gathered_last es front last g new is s steps made =
      subst (λ xs. IsGathered step xs soname item new) (sym is) (subst (λ ys. IsGathered step (front ++ (soname, last) ∷ []) soname item ys) (sym made) (made_of (subst AreOrdered is s)))
    where
      made_of : AreOrdered (front ++ (soname, last) ∷ []) → IsGathered step (front ++ (soname, last) ∷ []) soname item (front ++ (soname, g) ∷ [])
      made_of o = record {
        keys = keys_again soname g last front o;
        found = λ q. found_again soname g last front o q ∙ by_test (bytes_eq soname q)
            (λ e.
            let here : soname ≡ q = (bytes_eq-Decides soname q).0 e in
            let was : found_at (front ++ (soname, last) ∷ []) q ≡ Some last =
            subst (λ (p : List ℕ). found_at (front ++ (soname, last) ∷ []) p ≡ Some last) here (there_last front last o) in
            rw (e, was) steps)
            (λ e. rw e refl);
        ordered = ordered_again soname g last front o;
        same_or_more = inl (same_keys soname g last front);
      }

  -- the item is the first with its soname
  pub gathered_new : (es : List (List ℕ × G)) (g : G) (new : List (List ℕ × G)) → AllByRecursion (λ x. cmp x soname ≡ Less) (keys_of es) → AreOrdered es → Some g ≡ step None item
      → new ≡ es ++ (soname, g) ∷ [] → IsGathered step es soname item new
  gathered_new es g new less s steps made =
      subst (λ ys. IsGathered step es soname item ys) (sym made) (record {
        keys = keys_more soname g es less;
        found = λ q. found_more soname g es less q ∙ by_test (bytes_eq soname q)
            (λ e.
            let here : soname ≡ q = (bytes_eq-Decides soname q).0 e in
            let none : found_at es q ≡ None = subst (λ (p : List ℕ). found_at es p ≡ None) here (none_at es less) in
            rw (e, none) steps)
            (λ e. rw e refl);
        ordered = ordered_more soname g es less s;
        same_or_more = inr (keys_both es ((soname, g) ∷ []));
      })
    where
      none_at : (es : List (List ℕ × G)) → AllByRecursion (λ x. cmp x soname ≡ Less) (keys_of es) → found_at es soname ≡ None
      none_at [] a = refl
      none_at (e ∷ es) a =
          let other : cmp soname e.0 ≡ Greater = flipped nat_list_cmp_total e.0 soname Less a.0 in
          rw other (none_at es a.1)

-- ---- all items

-- the remaining items complete the folds of those so far
pub record GoesOn {X G : Type 0} (step : Option G → X → Option G) (items : List (List ℕ × X)) (es : List (List ℕ × G)) (rest : List (List ℕ × X)) : Type 0 where
  pub keys : fold with_text (keys_of es) (keys_of rest) ≡ ascending (keys_of items)
  pub found : (soname : List ℕ) → fold (λ found e. step found e.1) (found_at es soname) (of_soname soname rest) ≡ gathered_at step items soname
  pub ordered : AreOrdered es
  pub up : AreAscending (keys_of es ++ keys_of rest)

module _ {X G : Type 0} (step : Option G → X → Option G) (items : List (List ℕ × X)) where
  pub begins : AreAscending (keys_of items) → GoesOn step items [] items
  unfolding ascending IsStrictlySortedBy
  begins up = record { keys = refl; found = λ soname. refl; ordered = tt; up = up }

  pub none_below_next : (es : List (List ℕ × G)) (e : List ℕ × X) (rest : List (List ℕ × X)) → GoesOn step items es (e ∷ rest) → AllByRecursion (λ x. is_lt (cmp e.0 x) ≡ false) (keys_of es)
  none_below_next es e rest on = not_below (keys_of es) e.0 (keys_of rest) on.up

  pub goes_on : (es new : List (List ℕ × G)) (e : List ℕ × X) (rest : List (List ℕ × X)) → GoesOn step items es (e ∷ rest) → IsGathered step es e.0 e.1 new → GoesOn step items new rest
  goes_on es new e rest on is = record {
    keys = ap (λ ks. fold with_text ks (keys_of rest)) is.keys ∙ on.keys;
    found = λ soname. one_then soname (bytes_eq e.0 soname) refl;
    ordered = is.ordered;
    up = elim is.same_or_more [
      | inl same ↦ subst (λ ks. AreAscending (ks ++ keys_of rest)) (sym same) (left_ascending (keys_of es) e.0 (keys_of rest) on.up)
      | inr more ↦ subst AreAscending (sym (ap (λ ks. ks ++ keys_of rest) more ∙ append_assoc (keys_of es) (e.0 ∷ []) (keys_of rest))) on.up
    ];
  }
    where
      steps : Option G → List ℕ × X → Option G
      steps found x = step found x.1

      one_then : (soname : List ℕ) (b : Bool) → bytes_eq e.0 soname ≡ b → fold (λ found x. step found x.1) (found_at new soname) (of_soname soname rest) ≡ gathered_at step items soname
      one_then soname true h =
          ap (λ o. fold (λ found x. step found x.1) o (of_soname soname rest)) (is.found soname ∙ ap (λ b. cond b (step (found_at es soname) e.1) (found_at es soname)) h)
          ∙ sym (ap (fold (λ found x. step found x.1) (found_at es soname)) (ap (λ b. cond b (e ∷ of_soname soname rest) (of_soname soname rest)) h))
          ∙ on.found soname
      one_then soname false h =
          ap (λ o. fold (λ found x. step found x.1) o (of_soname soname rest)) (is.found soname ∙ ap (λ b. cond b (step (found_at es soname) e.1) (found_at es soname)) h)
          ∙ sym (ap (fold (λ found x. step found x.1) (found_at es soname)) (ap (λ b. cond b (e ∷ of_soname soname rest) (of_soname soname rest)) h))
          ∙ on.found soname

  pub done : (es : List (List ℕ × G)) → GoesOn step items es [] → AreGathered step items es
  done es on = record { keys = on.keys; found = on.found; ordered = on.ordered }

  -- sorting the items doesn't change the folds
  pub all_gathered : (sorted : List (List ℕ × X)) (es : List (List ℕ × G)) → AreBySoname items sorted → AreGathered step sorted es → AreGathered step items es
  all_gathered sorted es by on = record {
    keys = on.keys ∙ same_members (ascending (keys_of sorted)) (ascending (keys_of items)) (ascending_sorted (keys_of sorted)) (ascending_sorted (keys_of items))
        (λ z. in_ascending (keys_of sorted) z ∙ in_keys z sorted ∙ sym (list_any-IsPermutation (λ e. bytes_eq z e.0) items sorted by.same) ∙ sym (in_keys z items) ∙ sym (in_ascending (keys_of items) z));
    found = λ soname. on.found soname ∙ ap (fold (λ found e. step found e.1) None) (by.stable soname);
    ordered = on.ordered;
  }
    where
      in_keys : (z : List ℕ) (xs : List (List ℕ × X)) → is_in (keys_of xs) z ≡ list_any (λ e. bytes_eq z e.0) xs
      in_keys z [] = refl
      in_keys z (x ∷ xs) = ap (λ b. bytes_eq z x.0 || b) (in_keys z xs)

-- ---- items with their own sonames

abbrev pub keyed : {X : Type 0} → (X → List ℕ) → List X → List (List ℕ × X)
keyed soname xs = map (λ x. (soname x, x)) xs

module _ {X : Type 0} (soname : X → List ℕ) where
  pub keys_keyed : (xs : List X) → keys_of (keyed soname xs) ≡ map soname xs
  keys_keyed [] = refl
  keys_keyed (x ∷ xs) = ap (λ ks. soname x ∷ ks) (keys_keyed xs)

  pub gathered_keyed : {G : Type 0} (step : Option G → X → Option G) (q : List ℕ) (xs : List X) (found : Option G)
      → fold (λ found e. step found e.1) found (of_soname q (keyed soname xs)) ≡ fold step found (filter (λ x. bytes_eq (soname x) q) xs)
  gathered_keyed step q [] found = refl
  gathered_keyed step q (x ∷ xs) found = by_test (bytes_eq (soname x) q)
      (λ e. rw e (gathered_keyed step q xs (step found x)))
      (λ e. rw e (gathered_keyed step q xs found))
