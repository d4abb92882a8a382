-- Ordered maps: the keys after an insertion, and the values by key.
use Rattle.std.proofs.Common.{◌≡◌, true, false, List, [], ◌∷◌, refl, ap, ◌∙◌, Option, Ordering}
use Rattle.std.proofs.lemmas.Map.Keys.{sorted_head, sorted_tail}
use Rattle.std.specs.BTreeMap.{insert_entry, is_at}
use Rattle.std.specs.BTreeSet.{insert_key}
use Rattle.std.specs.Cmp.{IsTotalOrder}
use Rattle.std.specs.List.{AllByRecursion, cons_option, filter_map}
use Rattle.std.specs.List.Sorted.{IsStrictlySortedBy}
use Rattle.std.specs.Map.{keys_of, values_of, lookup}
use Rattle.std.specs.Ordering.{match_ordering}
use Rattle.std.specs.Option.{is_some, option_map}
use Rattle.std.specs.declared.cmp.Ordering.TheVariants.{Less, Equal, Greater}
use Rattle.lib_types.proofs.SortedPairs.{by_ordering, flipped}

module _ {K : Type 0} {X : Type 0} (cmp : K → K → Ordering) where
  put : (r : Ordering) (k : K) (v : X) (e : K × X) (es more : List (K × X)) (rest : List K) → keys_of more ≡ rest
      → keys_of (match_ordering r ((k, v) ∷ e ∷ es) ((e.0, v) ∷ es) (e ∷ more)) ≡ match_ordering r (k ∷ e.0 ∷ keys_of es) (e.0 ∷ keys_of es) (e.0 ∷ rest)
  put Less k v e es more rest h = refl
  put Equal k v e es more rest h = refl
  put Greater k v e es more rest h = ap (λ r. e.0 ∷ r) h

  pub keys_put : (es : List (K × X)) (k : K) (v : X) → keys_of (insert_entry cmp es k v) ≡ insert_key cmp (keys_of es) k
  keys_put [] k v = refl
  keys_put (e ∷ es) k v = put (cmp k e.0) k v e es _ _ (keys_put es k v)

module _ {K : Type 0} {cmp : K → K → Ordering} (o : IsTotalOrder cmp) where
  tied : (x : K) → cmp x x ≡ Equal
  tied x = by_ordering (cmp x x) (λ a. absurd (cc (a, flipped o x x Less a))) (λ a. a) (λ a. absurd (cc (a, flipped o x x Greater a)))

  pub all_below : (k x : K) (ks : List K) → cmp k x ≡ Less → AllByRecursion (λ y. cmp x y ≡ Less) ks → AllByRecursion (λ y. cmp k y ≡ Less) ks
  all_below k x [] h a = tt
  all_below k x (y ∷ ks) h a = (o.trans k x y h a.0, all_below k x ks h a.1)

module _ {K : Type 0} {X : Type 0} {cmp : K → K → Ordering} (o : IsTotalOrder cmp) where
  -- a key that is less than all keys is not in the map
  none_below : (k : K) (es : List (K × X)) → AllByRecursion (λ y. cmp k y ≡ Less) (keys_of es) → is_some (lookup (is_at (cmp k)) es) ≡ false
  none_below k [] a = refl
  none_below k (e ∷ es) a = rw a.0 (none_below k es a.1)

  -- inserting a key that is already there does not change the keys
  pub keys_stay : (k : K) (es : List (K × X)) → IsStrictlySortedBy cmp (keys_of es) → is_some (lookup (is_at (cmp k)) es) ≡ true → keys_of es ≡ insert_key cmp (keys_of es) k
  keys_stay k [] s h = cc
  keys_stay k (e ∷ es) s h = by_ordering (cmp k e.0)
      (λ a. let none = none_below k es (all_below o k e.0 (keys_of es) a (sorted_head cmp e.0 (keys_of es) s)) in
      let there : is_some (lookup (is_at (cmp k)) es) ≡ true = (rw a at h) in
      cc)
      (λ a. rw a refl)
      (λ a. let there : is_some (lookup (is_at (cmp k)) es) ≡ true = (rw a at h) in
      rw a (ap (λ ks. e.0 ∷ ks) (keys_stay k es (sorted_tail cmp e.0 (keys_of es) s) there)))

  -- a key after the first key is not the first key
  passes : {Y : Type 0} (f : K → Option X → Option Y) (e : K × X) (es : List (K × X)) (ks : List K) → AllByRecursion (λ y. cmp e.0 y ≡ Less) ks
      → filter_map (λ k. f k (lookup (is_at (cmp k)) (e ∷ es))) ks ≡ filter_map (λ k. f k (lookup (is_at (cmp k)) es)) ks
  passes f e es [] a = refl
  passes f e es (k ∷ ks) a =
      let following : cmp k e.0 ≡ Greater = flipped o e.0 k Less a.0 in
      rw following (ap (cons_option (f k (lookup (is_at (cmp k)) es))) (passes f e es ks a.1))

  -- looking up all keys gives the values
  pub by_keys : (es : List (K × X)) → IsStrictlySortedBy cmp (keys_of es) → filter_map (λ k. lookup (is_at (cmp k)) es) (keys_of es) ≡ values_of es
  by_keys [] s = refl
  by_keys (e ∷ es) s =
      rw (tied o e.0) (ap (λ vs. e.1 ∷ vs) (passes (λ k found. found) e es (keys_of es) (sorted_head cmp e.0 (keys_of es) s) ∙ by_keys es (sorted_tail cmp e.0 (keys_of es) s)))

  -- looking up all keys gives the entries
  pub by_entries : (es : List (K × X)) → IsStrictlySortedBy cmp (keys_of es) → filter_map (λ k. option_map (λ v. (k, v)) (lookup (is_at (cmp k)) es)) (keys_of es) ≡ es
  by_entries [] s = refl
  by_entries (e ∷ es) s =
      rw (tied o e.0) (ap (λ rest. e ∷ rest) (passes (λ k found. option_map (λ v. (k, v)) found) e es (keys_of es) (sorted_head cmp e.0 (keys_of es) s)
      ∙ by_entries es (sorted_tail cmp e.0 (keys_of es) s)))

pub filtered_same : {X Y : Type 0} (f g : X → Option Y) → ((x : X) → f x ≡ g x) → (xs : List X) → filter_map f xs ≡ filter_map g xs
filtered_same f g same [] = refl
filtered_same f g same (x ∷ xs) = rw (same x) (ap (cons_option (g x)) (filtered_same f g same xs))
