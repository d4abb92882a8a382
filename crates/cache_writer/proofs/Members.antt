-- The hwcaps name of each entry is in the list of names, at its index.
use Rattle.std.proofs.Common.{◌≡◌, ℕ, zero, suc, ◌+◌, ◌<◌, ◌||◌, Bool, true, false, not, cond, List, [], ◌∷◌, length, fold, get_or, Option, Some, None, Ordering, refl, sym, arith, bytes_eq, true≢false}
use Rattle.std.proofs.Math.Bool.{or-true}
use Rattle.std.proofs.lemmas.Map.Lookups.{exact_bytes}
use Rattle.std.proofs.lemmas.Slice.Eq.{bytes_eq-Decides}
use Rattle.std.specs.BTreeSet.{insert_key}
use Rattle.std.specs.Cmp.Lexicographic.{slice_cmp}
use Rattle.std.specs.List.{list_any, position_or_len}
use Rattle.std.specs.Option.{option_map_or}
use Rattle.std.specs.Ordering.{nat_cmp, match_ordering}
use Rattle.std.specs.declared.cmp.Ordering.TheVariants.{Less, Equal, Greater}
use Rattle.lib_types.specs.declared.entry.Entry.{Entry}
use Rattle.cache_writer.specs.CacheText.{hwcaps_names, with_name}

itself : (t : List ℕ) → bytes_eq t t ≡ true
itself t = (bytes_eq-Decides t t).1 refl

-- an inserted name is in the list
put_there : (xs : List (List ℕ)) (k : List ℕ) → list_any (bytes_eq k) (insert_key (slice_cmp nat_cmp) xs k) ≡ true
put_there [] k = rw itself refl
put_there (x ∷ xs) k = by (slice_cmp nat_cmp k x) refl (put_there xs k)
  where
    by : (r : Ordering) → slice_cmp nat_cmp k x ≡ r → list_any (bytes_eq k) (insert_key (slice_cmp nat_cmp) xs k) ≡ true
        → list_any (bytes_eq k) (match_ordering r (k ∷ x ∷ xs) (x ∷ xs) (x ∷ insert_key (slice_cmp nat_cmp) xs k)) ≡ true
    by Less e rest = rw (itself k) refl
    by Equal e rest = let same : k ≡ x = exact_bytes k x e in rw (← same, itself k) refl
    by Greater e rest = rw rest (or-true (bytes_eq k x))

or_cases : (a b c : Bool) → (a || b) ≡ true → (b ≡ true → c ≡ true) → (a || c) ≡ true
or_cases true b c h f = refl
or_cases false b c h f = f h

-- names that were in the list are still there
put_keeps : (xs : List (List ℕ)) (k t : List ℕ) → list_any (bytes_eq t) xs ≡ true → list_any (bytes_eq t) (insert_key (slice_cmp nat_cmp) xs k) ≡ true
put_keeps [] k t h = absurd (true≢false (sym h))
put_keeps (x ∷ xs) k t h = by (slice_cmp nat_cmp k x) (put_keeps xs k t)
  where
    by : (r : Ordering) → (list_any (bytes_eq t) xs ≡ true → list_any (bytes_eq t) (insert_key (slice_cmp nat_cmp) xs k) ≡ true)
        → list_any (bytes_eq t) (match_ordering r (k ∷ x ∷ xs) (x ∷ xs) (x ∷ insert_key (slice_cmp nat_cmp) xs k)) ≡ true
    by Less rest = rw h (or-true (bytes_eq t k))
    by Equal rest = h
    by Greater rest = or_cases (bytes_eq t x) (list_any (bytes_eq t) xs) (list_any (bytes_eq t) (insert_key (slice_cmp nat_cmp) xs k)) h rest

with_keeps : (ns : List (List ℕ)) (e : Entry) (t : List ℕ) → list_any (bytes_eq t) ns ≡ true → list_any (bytes_eq t) (with_name ns e) ≡ true
with_keeps ns e t h = by e.cap
  where
    by : (cap : Option (List ℕ)) → list_any (bytes_eq t) (option_map_or (insert_key (slice_cmp nat_cmp) ns) cap ns) ≡ true
    by None = h
    by (Some cap) = put_keeps ns cap t h

all_keep : (ns : List (List ℕ)) (es : List Entry) (t : List ℕ) → list_any (bytes_eq t) ns ≡ true → list_any (bytes_eq t) (fold with_name ns es) ≡ true
all_keep ns [] t h = h
all_keep ns (e ∷ es) t h = all_keep (with_name ns e) es t (with_keeps ns e t h)

cap_there : (ns : List (List ℕ)) (es : List Entry) (i : ℕ) (d : Entry) (c : List ℕ) → i < length es → (get_or es i d).cap ≡ Some c → list_any (bytes_eq c) (fold with_name ns es) ≡ true
cap_there ns [] i d c h is = absurd (omega arith)
cap_there ns (e ∷ es) zero d c h is =
    let here : list_any (bytes_eq c) (with_name ns e) ≡ true = rw is (put_there ns c) in
    all_keep (with_name ns e) es c here
cap_there ns (e ∷ es) (suc i) d c h is = cap_there (with_name ns e) es i d c (omega arith) is

pub cap_among : (es : List Entry) (i : ℕ) (d : Entry) (c : List ℕ) → i < length es → (get_or es i d).cap ≡ Some c → list_any (bytes_eq c) (hwcaps_names es) ≡ true
unfolding hwcaps_names
cap_among es i d c h is = cap_there [] es i d c h is

-- the index of a name in the list
pub index_there : (c : List ℕ) (ns : List (List ℕ)) (d : List ℕ) → list_any (bytes_eq c) ns ≡ true → (position_or_len (bytes_eq c) ns < length ns) × (get_or ns (position_or_len (bytes_eq c) ns) d ≡ c)
index_there c [] d h = absurd (true≢false (sym h))
index_there c (n ∷ ns) d h = by (bytes_eq c n) refl h (index_there c ns d)
  where
    by : (b : Bool) → bytes_eq c n ≡ b → (b || list_any (bytes_eq c) ns) ≡ true
        → (list_any (bytes_eq c) ns ≡ true → (position_or_len (bytes_eq c) ns < length ns) × (get_or ns (position_or_len (bytes_eq c) ns) d ≡ c))
        → (cond (not b) (1 + position_or_len (bytes_eq c) ns) 0 < length (n ∷ ns)) × (get_or (n ∷ ns) (cond (not b) (1 + position_or_len (bytes_eq c) ns) 0) d ≡ c)
    by true e t rest = (omega arith, sym ((bytes_eq-Decides c n).0 e))
    by false e t rest =
        let more = rest t in
        let one : 1 + position_or_len (bytes_eq c) ns ≡ suc (position_or_len (bytes_eq c) ns) = omega arith in
        (omega (arith, more.0), rw one more.1)
