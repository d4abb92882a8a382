-- Entries whose names don't rise before an index.
use Rattle.std.proofs.Common.{◌≡◌, ◌<◌, ◌≤◌, ℕ, ◌+◌, ◌-◌, true, false, List, length, get_or, sym, subst, arith}
use Rattle.std.proofs.Math.Decide.{dec_lt}
use Rattle.std.proofs.lemmas.List.{get_or-take, length-take}
use Rattle.std.specs.Ordering.{is_lt}
use Rattle.name_order.specs.Order.{token_order}
use Rattle.cache_reader.specs.Cache.{CachedEntry}
use Rattle.cache_lookup.specs.Scan.{IsFirstRise}
use Rattle.cache_lookup.specs.Searches.{AreDescendingTo, IsNameAt}

module _ (entries : List CachedEntry) (i : ℕ) (before name : List ℕ) (following : 1 ≤ i) (within : i < length entries) (so_far : AreDescendingTo entries i)
    (above : IsNameAt entries (i - 1) before) (here : IsNameAt entries i name) where
  same_before : (k : ℕ) (d : CachedEntry) → k + 1 ≡ i → (get_or entries k d).name ≡ before
  same_before k d e = let same : i - 1 ≡ k = omega (arith, e) in subst (λ n. (get_or entries n d).name ≡ before) same (above d)

  -- one more entry
  pub one_more : is_lt (token_order before name) ≡ false → AreDescendingTo entries (i + 1)
  one_more falls k d from to = elim (dec_lt (k + 1) i) as (λ _. is_lt (token_order (get_or entries k d).name (get_or entries (k + 1) d).name) ≡ false) [
    | yes less ↦ so_far k d from less
    | no ge ↦
        let e : k + 1 ≡ i = omega arith in
        let last : (get_or entries (k + 1) d).name ≡ name = subst (λ n. (get_or entries n d).name ≡ name) (sym e) (here d) in
        rw (same_before k d e, last) falls
  ]

  -- the first entry whose name rises
  pub first : is_lt (token_order before name) ≡ true → IsFirstRise entries i
  first rises = record {
    following = omega arith;
    within = within;
    before = λ k d from to.
        let size = length-take i entries in
        rw (get_or-take i entries (k + 1) d (omega arith), get_or-take i entries k d (omega arith)) (so_far k d from (omega arith));
    rises = λ d. rw (above d, here d) rises;
  }
