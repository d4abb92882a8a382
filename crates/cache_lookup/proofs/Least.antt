-- The first candidate with the lowest rank is the entry that the loader takes.
use Rattle.std.proofs.Common.{◌≡◌, ◌<◌, ◌≤◌, ℕ, zero, suc, ◌+◌, Bool, true, false, cond, nat_lt, ◌&&◌, List, [], ◌∷◌, length, get_or, Option, Some, None, option_map, refl, sym, ap, ◌∙◌, subst, arith}
use Rattle.std.proofs.Math.Decide.{dec_lt}
use Rattle.std.proofs.lemmas.Bool.Decides.{nat_tests}
use Rattle.std.specs.List.{position}
use Rattle.std.specs.Ordering.{is_eq}
use Rattle.std.specs.Str.{bytes_eq}
use Rattle.std.specs.Cmp.Lexicographic.{bytes_decides}
use Rattle.std.proofs.lemmas.Cmp.{tied_itself}
use Rattle.lib_types.specs.declared.abi.Abi.{Abi}
use Rattle.name_order.proofs.Total.{token_order-total}
use Rattle.cache_reader.specs.Cache.{CachedEntry}
use Rattle.cache_lookup.specs.Scan.{chosen, first_for, is_candidate, uses}
use Rattle.cache_lookup.specs.Probing.{order_to, rank_of}
use Rattle.cache_lookup.specs.Searches.{IsLeast, IsLeastAt, better, is_below}
use Rattle.cache_lookup.specs.declared.choice.Choice.{Choice}
use Rattle.cache_lookup.proofs.Positions.{first_is, none_is, position-cons, shifted}
use Rattle.cache_lookup.proofs.EntryAbis.{no_entry}

-- ---- candidates have equal names

candidate_equal : (name : List ℕ) (entry : CachedEntry) → bytes_eq entry.name name ≡ true → is_eq (order_to name entry) ≡ true
candidate_equal name entry e =
    let same : entry.name ≡ name = (bytes_decides entry.name name).0 e in
    rw (same, tied_itself token_order-total name) refl

-- If an entry's name isn't equal to the looked-up name in the loader's order, the entry isn't a candidate.
pub no_rank : (name : List ℕ) (abi : Abi) (caps : List (List ℕ)) (entry : CachedEntry) → is_eq (order_to name entry) ≡ false → rank_of name abi caps entry ≡ None
no_rank name abi caps entry e = by (bytes_eq entry.name name) refl
  where
    by : (b : Bool) → bytes_eq entry.name name ≡ b → rank_of name abi caps entry ≡ None
    by true h = absurd (let is : is_eq (order_to name entry) ≡ true = candidate_equal name entry h in cc)
    by false h = rw h refl

-- ---- one more entry

-- A fact about all indexes before n and about n is a fact about all indexes before n + 1.
and_last : (P : ℕ → Type 0) (n : ℕ) → ((k : ℕ) → k < n → P k) → P n → (k : ℕ) → k < n + 1 → P k
and_last P n before last k h = elim (dec_lt k n) as (λ _. P k) [
  | yes less ↦ before k less
  | no ge ↦ let e : n ≡ k = omega arith in subst P e last
]

-- If a rank isn't below a bound, it isn't below a smaller bound.
lesser : (a b : ℕ) (o : Option ℕ) → a ≤ b → is_below b o ≡ false → is_below a o ≡ false
lesser a b None h e = refl
lesser a b (Some r) h e = grind (arith, nat_tests)

module _ (rank : CachedEntry → Option ℕ) (entries : List CachedEntry) (n : ℕ) where
  last_none : (best : Option Choice) → IsLeast rank entries n best → ((d : CachedEntry) → rank (get_or entries n d) ≡ None) → IsLeast rank entries (n + 1) best
  last_none None least none = λ k d h. and_last (λ k. rank (get_or entries k d) ≡ None) n (λ k less. least k d less) (none d) k h
  last_none (Some c) least none = record {
    within = let a = least.within in omega arith;
    has = least.has;
    before = least.before;
    all = λ k d h. and_last (λ k. is_below c.rank (rank (get_or entries k d)) ≡ false) n (λ k less. least.all k d less) (rw (none d) refl) k h;
  }

  last_some : (best : Option Choice) (r : ℕ) → IsLeast rank entries n best → ((d : CachedEntry) → rank (get_or entries n d) ≡ Some r) → IsLeast rank entries (n + 1) (better best n (Some r))
  last_some None r least is = record {
    within = omega arith;
    has = is;
    before = λ k d h. rw (least k d h) refl;
    all = λ k d h. and_last (λ k. is_below r (rank (get_or entries k d)) ≡ false) n (λ k less. rw (least k d less) refl) (rw (is d) (grind (arith, nat_tests))) k h;
  }
  last_some (Some c) r least is = by (nat_lt r c.rank) refl
    where
      by : (b : Bool) → nat_lt r c.rank ≡ b → IsLeast rank entries (n + 1) (cond b (Some (record { index = n; rank = r })) (Some c))
      by true e =
          let less : r < c.rank = grind (arith, nat_tests) in
          record {
            within = omega arith;
            has = is;
            before = λ k d h. lesser (r + 1) c.rank _ (omega arith) (least.all k d h);
            all = λ k d h. and_last (λ k. is_below r (rank (get_or entries k d)) ≡ false) n (λ k before. lesser r c.rank _ (omega arith) (least.all k d before)) (rw (is d) (grind (arith, nat_tests))) k h;
          }
      by false e = record {
        within = let a = least.within in omega arith;
        has = least.has;
        before = least.before;
        all = λ k d h. and_last (λ k. is_below c.rank (rank (get_or entries k d)) ≡ false) n (λ k before. least.all k d before) (rw (is d) e) k h;
      }

  -- the best of the entries before n and of the entry at n
  pub least_more : (best : Option Choice) (o : Option ℕ) → IsLeast rank entries n best → ((d : CachedEntry) → rank (get_or entries n d) ≡ o) → IsLeast rank entries (n + 1) (better best n o)
  least_more best None least is = last_none best least is
  least_more best (Some r) least is = last_some best r least is

-- If no entry from n on has a rank, these entries don't change the best one.
pub least_rest : (rank : CachedEntry → Option ℕ) (entries : List CachedEntry) (n more : ℕ) (best : Option Choice) → IsLeast rank entries n best
    → ((k : ℕ) (d : CachedEntry) → n ≤ k → k < n + more → rank (get_or entries k d) ≡ None) → IsLeast rank entries (n + more) best
least_rest rank entries n zero best least none = let e : n ≡ n + zero = omega arith in subst (λ m. IsLeast rank entries m best) e least
least_rest rank entries n (suc more) best least none =
    let rest = least_rest rank entries n more best least (λ k d a b. none k d a (omega arith)) in
    let e : n + more + 1 ≡ n + suc more = omega arith in
    subst (λ m. IsLeast rank entries m best) e (last_none rank entries (n + more) best rest (λ d. none (n + more) d (omega arith) (omega arith)))

-- ---- all entries

module _ (entries : List CachedEntry) (candidate : CachedEntry → Bool) where
  abbrev ranks : List (CachedEntry → Bool) → CachedEntry → Option ℕ
  ranks tests entry = cond (candidate entry) (position (λ fits. fits entry) tests) None

  ranks-cons : (test : CachedEntry → Bool) (tests : List (CachedEntry → Bool)) (entry : CachedEntry)
      → ranks (test ∷ tests) entry ≡ cond (candidate entry && test entry) (Some 0) (option_map suc (ranks tests entry))
  ranks-cons test tests entry = by (candidate entry)
    where
      by : (b : Bool) → cond b (position (λ fits. fits entry) (test ∷ tests)) None ≡ cond (b && test entry) (Some 0) (option_map suc (cond b (position (λ fits. fits entry) tests) None))
      by true = position-cons (λ fits. fits entry) test tests
      by false = refl

  no_first : (b : Bool) (o : Option ℕ) → cond b (Some 0) (option_map suc o) ≡ None → (b ≡ false) × (o ≡ None)
  no_first true o e = cc
  no_first false (Some r) e = cc
  no_first false None e = (refl, refl)

  is_first : (b : Bool) (o : Option ℕ) → cond b (Some 0) (option_map suc o) ≡ Some 0 → b ≡ true
  is_first true o e = refl
  is_first false None e = cc
  is_first false (Some r) e = cc

  is_later : (b : Bool) (o : Option ℕ) (m : ℕ) → cond b (Some 0) (option_map suc o) ≡ Some (suc m) → o ≡ Some m
  is_later true o m e = cc
  is_later false None m e = cc
  is_later false (Some r) m e = cc

  not_below : (b : Bool) (o : Option ℕ) (m : ℕ) → is_below (suc m) (cond b (Some 0) (option_map suc o)) ≡ false → (b ≡ false) × (is_below m o ≡ false)
  not_below true o m e = absurd (let less : nat_lt 0 (suc m) ≡ true = grind (arith, nat_tests) in cc)
  not_below false None m e = (refl, refl)
  not_below false (Some r) m e = (refl, sym (shifted r m) ∙ e)

  none_first : (tests : List (CachedEntry → Bool)) → ((k : ℕ) (d : CachedEntry) → k < length entries → ranks tests (get_or entries k d) ≡ None) → first_for entries candidate tests ≡ None
  none_first [] none = refl
  none_first (test ∷ tests) none =
      let both : (k : ℕ) (d : CachedEntry) → k < length entries → ((candidate (get_or entries k d) && test (get_or entries k d)) ≡ false) × (ranks tests (get_or entries k d) ≡ None) = λ k d h. no_first _ _ (sym (ranks-cons test tests (get_or entries k d)) ∙ none k d h) in
      rw (none_is (λ e. candidate e && test e) entries (λ k d h. (both k d h).0)) (none_first tests (λ k d h. (both k d h).1))

  least_first : (tests : List (CachedEntry → Bool)) (i m : ℕ) → IsLeastAt (ranks tests) entries (length entries) i m → first_for entries candidate tests ≡ Some i
  least_first [] i m least = absurd (let e = least.has no_entry in none_ranked (candidate (get_or entries i no_entry)) e)
    where
      none_ranked : (b : Bool) → cond b None None ≡ Some m → ⊥
      none_ranked true e = cc
      none_ranked false e = cc
  least_first (test ∷ tests) i zero least =
      let here : (d : CachedEntry) → (candidate (get_or entries i d) && test (get_or entries i d)) ≡ true = λ d. is_first _ _ (sym (ranks-cons test tests (get_or entries i d)) ∙ least.has d) in
      let before : (k : ℕ) (d : CachedEntry) → k < i → (candidate (get_or entries k d) && test (get_or entries k d)) ≡ false = λ k d h. (not_below _ _ 0 (sym (ap (is_below 1) (ranks-cons test tests (get_or entries k d))) ∙ least.before k d h)).0 in
      rw (first_is (λ e. candidate e && test e) entries i least.within here before) refl
  least_first (test ∷ tests) i (suc m) least =
      let all : (k : ℕ) (d : CachedEntry) → k < length entries → ((candidate (get_or entries k d) && test (get_or entries k d)) ≡ false) × (is_below m (ranks tests (get_or entries k d)) ≡ false) = λ k d h. not_below _ _ m (sym (ap (is_below (suc m)) (ranks-cons test tests (get_or entries k d))) ∙ least.all k d h) in
      let rest : IsLeastAt (ranks tests) entries (length entries) i m = record {
        within = least.within;
        has = λ d. is_later _ _ m (sym (ranks-cons test tests (get_or entries i d)) ∙ least.has d);
        before = λ k d h. (not_below _ _ (m + 1) (sym (ap (is_below (suc (m + 1))) (ranks-cons test tests (get_or entries k d))) ∙ lesser (suc (m + 1)) (suc m + 1) _ (omega arith) (least.before k d h))).1;
        all = λ k d h. (all k d h).1;
      } in
      rw (none_is (λ e. candidate e && test e) entries (λ k d h. (all k d h).0)) (least_first tests i m rest)

-- the best of all entries is the entry that the loader takes
pub least_chosen : (entries : List CachedEntry) (name : List ℕ) (abi : Abi) (caps : List (List ℕ)) (best : Option Choice)
    → IsLeast (rank_of name abi caps) entries (length entries) best → option_map (λ c. c.index) best ≡ chosen entries name abi caps
unfolding chosen
least_chosen entries name abi caps None least = sym (none_first entries (is_candidate name abi) (uses caps) least)
least_chosen entries name abi caps (Some c) least = sym (least_first entries (is_candidate name abi) (uses caps) c.index c.rank least)
