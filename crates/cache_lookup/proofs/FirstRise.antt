-- Comparing neighbouring entries finds the first name that is above its predecessor.
use Rattle.std.proofs.Common.{◌≡◌, ◌<◌, ℕ, zero, suc, ◌+◌, ◌-◌, Bool, true, false, List, [], ◌∷◌, Some, None, Err, option_map, length, get_or, ap, arith, refl, subst}
use Rattle.std.proofs.lemmas.List.{get_or-take, length-take}
use Rattle.std.specs.Ordering.{is_lt}
use Rattle.name_order.specs.Order.{token_order}
use Rattle.cache_lookup.specs.Scan.{AreDescending, IsFirstRise}
use Rattle.cache_reader.specs.Cache.{CachedEntry, defect, read}
use Rattle.cache_reader.specs.declared.defect.CacheDefect.TheVariants.{Unsorted}
use Rattle.cache_lookup.specs.Sorted.{first_rise, rise_after, sorted_in}

-- the name at one index is below the name at another
abbrev below : List CachedEntry → ℕ → ℕ → CachedEntry → Bool
below entries k n d = is_lt (token_order (get_or entries k d).name (get_or entries n d).name)

next : (k : ℕ) → k + 1 ≡ suc k
next k = omega arith

-- ---- names that don't rise

never : (e : CachedEntry) (entries : List CachedEntry) → ((k : ℕ) (d : CachedEntry) → suc k < length (e ∷ entries) → below (e ∷ entries) k (suc k) d ≡ false) → rise_after e.name entries ≡ None
never e [] falls = refl
never e (n ∷ entries) falls =
    let here : is_lt (token_order e.name n.name) ≡ false = falls zero n (omega arith) in
    let rest : rise_after n.name entries ≡ None = never n entries (λ k d within. falls (suc k) d (omega (arith, within))) in
    rw (here, rest) refl

pub no_rise : (entries : List CachedEntry) → AreDescending entries → first_rise entries ≡ None
no_rise [] falls = refl
no_rise (e ∷ entries) falls = ap (option_map suc) (never e entries (λ k d within. subst (λ n. below (e ∷ entries) k n d ≡ false) (next k) (falls k d (omega arith) (omega (arith, within)))))

-- ---- a first rise

found : (i : ℕ) (e : CachedEntry) (entries : List CachedEntry) → i < length entries → ((k : ℕ) (d : CachedEntry) → k < i → below (e ∷ entries) k (suc k) d ≡ false)
    → ((d : CachedEntry) → below (e ∷ entries) i (suc i) d ≡ true) → rise_after e.name entries ≡ Some i
found i e [] within before here = absurd (omega (arith, within))
found zero e (n ∷ entries) within before here =
    let first : is_lt (token_order e.name n.name) ≡ true = here n in
    rw first refl
found (suc i) e (n ∷ entries) within before here =
    let first : is_lt (token_order e.name n.name) ≡ false = before zero n (omega arith) in
    let rest : rise_after n.name entries ≡ Some i = found i n entries (omega (arith, within)) (λ k d less. before (suc k) d (omega (arith, less))) here in
    rw (first, rest) refl

falls_before : (entries : List CachedEntry) (index k : ℕ) (d : CachedEntry) → IsFirstRise entries index → k + 1 < index → below entries k (k + 1) d ≡ false
falls_before entries index k d first less =
    let size = length-take index entries in
    rw (get_or-take index entries (k + 1) d less, get_or-take index entries k d (omega (arith, less))) at (first.before k d (omega arith) (omega (arith, size, less, first.within)))

rises_at : (entries : List CachedEntry) (i : ℕ) (d : CachedEntry) → IsFirstRise entries (suc i) → below entries i (suc i) d ≡ true
rises_at entries i d first = let same : suc i - 1 ≡ i = omega arith in subst (λ n. below entries n (suc i) d ≡ true) same (first.rises d)

first_is : (entries : List CachedEntry) (index : ℕ) → IsFirstRise entries index → first_rise entries ≡ Some index
first_is [] index first = absurd (omega (arith, first.within))
first_is (e ∷ entries) zero first = absurd (omega (arith, first.following))
first_is (e ∷ entries) (suc i) first = ap (option_map suc) (found i e entries (omega (arith, first.within))
    (λ k d less. subst (λ n. below (e ∷ entries) k n d ≡ false) (next k) (falls_before (e ∷ entries) (suc i) k d first (omega (arith, less)))) (λ d. rises_at (e ∷ entries) i d first))

-- a cache whose names rise
pub unsorted : (bytes : List ℕ) (index entry : ℕ) → defect bytes ≡ None → IsFirstRise (read bytes) index → entry ≡ index → Err (Unsorted entry) ≡ sorted_in bytes
unsorted bytes index entry accepted first is = rw (accepted, first_is (read bytes) index first, is) refl
