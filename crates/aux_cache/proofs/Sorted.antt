-- Index results of searching and inserting in sorted stamps.
use Rattle.std.proofs.Common.{◌≡◌, ℕ, zero, suc, ◌<◌, ◌≤◌, List, [], ◌∷◌, length, map, get_or, set, Some, None, Result, Ok, Err, Ordering, refl, sym, ap, ◌∙◌, arith}
use Rattle.std.proofs.lemmas.List.{get_or-map, length-map, map-set}
use Rattle.std.proofs.lemmas.Map.Lookups.{exact_bytes}
use Rattle.std.proofs.lemmas.Option.{slice_get-get_or}
use Rattle.std.specs.BTreeMap.{insert_entry}
use Rattle.std.specs.Cmp.{IsTotalOrder}
use Rattle.std.specs.Cmp.Lexicographic.{on_texts}
use Rattle.std.specs.List.{insert, slice_get, AllWithin, HoldsAt}
use Rattle.std.specs.List.Sorted.{IsBinarySearchResult, IsSearchInRange, IsStrictlySortedBy, IsNonDecreasingBy}
use Rattle.std.specs.Map.{keys_of, values_of}
use Rattle.std.specs.Ordering.{ordering_index, match_ordering}
use Rattle.std.specs.Result.{MatchResult}
use Rattle.std.specs.declared.cmp.Ordering.TheVariants.{Less, Equal, Greater}
use Rattle.lib_types.proofs.SortedPairs as pairs
use Rattle.image_tree.specs.declared.node.Id.{Id}
use Rattle.aux_cache.specs.Ids.{id_cmp, numbers_of}
use Rattle.aux_cache.specs.Index.{IsIndexOf, IsGapFor}
use Rattle.aux_cache.specs.Stamps.{by_id, IsSortedById, stamp_of, put}
use Rattle.aux_cache.specs.declared.stamps.Stamp.{Stamp}

-- ---- the order of identities

pub id_total : IsTotalOrder id_cmp
id_total = on_texts numbers_of

same_id : (a b : Id) → numbers_of a ≡ numbers_of b → a ≡ b
same_id a b e =
    let d : a.dev ≡ b.dev = cc in
    let n : a.inode ≡ b.inode = cc in
    let c : a.ctime ≡ b.ctime = cc in
    let s : a.size ≡ b.size = cc in
    λ i. record { dev = d i; inode = n i; ctime = c i; size = s i }

-- identities that compare equal are equal
pub exact : (a b : Id) → id_cmp a b ≡ Equal → a ≡ b
exact a b e = same_id a b (exact_bytes (numbers_of a) (numbers_of b) e)

-- ---- stamps keyed by identity

pub ids_of : (xs : List Stamp) → keys_of (by_id xs) ≡ map (λ s. s.id) xs
ids_of [] = refl
ids_of (x ∷ xs) = ap (λ ks. x.id ∷ ks) (ids_of xs)

pub values_are : (xs : List Stamp) → values_of (by_id xs) ≡ xs
values_are [] = refl
values_are (x ∷ xs) = ap (λ ys. x ∷ ys) (values_are xs)

sorted_pairs : (xs : List Stamp) → IsSortedById xs → IsStrictlySortedBy id_cmp (keys_of (by_id xs))
sorted_pairs xs s = rw (ids_of xs) s

pair_at : (xs : List Stamp) (i : ℕ) (e : Id × Stamp) → i < length xs → get_or (by_id xs) i e ≡ ((get_or xs i e.1).id, get_or xs i e.1)
pair_at xs i e h = get_or-map (λ (s : Stamp). (s.id, s)) xs i e.1 e h

length_pairs : (xs : List Stamp) → length (by_id xs) ≡ length xs
length_pairs xs = length-map xs (λ (s : Stamp). (s.id, s))

insert_pair : (xs : List Stamp) (i : ℕ) (s : Stamp) → insert (by_id xs) i (s.id, s) ≡ by_id (insert xs i s)
insert_pair [] zero s = refl
insert_pair [] (suc i) s = refl
insert_pair (x ∷ xs) zero s = refl
insert_pair (x ∷ xs) (suc i) s = ap (λ es. (x.id, x) ∷ es) (insert_pair xs i s)

module _ (P : Id → Type 0) (xs : List Stamp) where
  pair_holds : (i : ℕ) → i < length xs → HoldsAt (λ s. P s.id) xs i → HoldsAt (λ e. P e.0) (by_id xs) i
  pair_holds i h at e = rw (pair_at xs i e h) (at e.1)

  pairs_hold : (low high : ℕ) → high ≤ length xs → AllWithin (λ s. P s.id) xs low high → AllWithin (λ e. P e.0) (by_id xs) low high
  pairs_hold low high h all i e l k = rw (pair_at xs i e (omega arith)) (all i e.1 l k)

-- ---- searching

pub searched : (xs : List Stamp) (id : Id) (r : Result ℕ ℕ) → IsSortedById xs → IsSearchInRange r (length xs) → IsBinarySearchResult (λ s. id_cmp s.id id) xs r
    → MatchResult r (IsIndexOf xs id) (IsGapFor xs id)
searched xs id (Ok at) s h found = record { within = h; same = found }
searched xs id (Err at) s h gap = let p = gap rises in record { within = h; before = p.0; after = p.1 }
  where
    rises : IsNonDecreasingBy (λ s. ordering_index (id_cmp s.id id)) xs
    rises i j d low high =
        let e = pairs.rises_by id_total (by_id xs) id (sorted_pairs xs s) i j (d.id, d) low (rw (length_pairs xs) high) in
        rw (pair_at xs i (d.id, d) (omega arith), pair_at xs j (d.id, d) high) at e

module _ (xs : List Stamp) (id : Id) (at : ℕ) where
  same_at : IsIndexOf xs id at → HoldsAt (λ e. id_cmp e.0 id ≡ Equal) (by_id xs) at
  same_at p = pair_holds (λ k. id_cmp k id ≡ Equal) xs at p.within p.same

  inside : IsIndexOf xs id at → at < length (by_id xs)
  inside p = rw (length_pairs xs) p.within

  before_at : IsSortedById xs → IsIndexOf xs id at → AllWithin (λ e. id_cmp e.0 id ≡ Less) (by_id xs) 0 at
  before_at s p = pairs.before_index id_total (by_id xs) id at (sorted_pairs xs s) (inside p) (same_at p)

  pub found_stamp : IsSortedById xs → IsIndexOf xs id at → slice_get xs at ≡ stamp_of xs id
  found_stamp s p =
      let d = get_or xs at (dummy xs p.within) in
      let found = pairs.found_at_index id_total id (by_id xs) at (d.id, d) (inside p) (same_at p) (before_at s p) in
      slice_get-get_or xs at d p.within ∙ sym (found ∙ ap (λ (e : Id × Stamp). Some e.1) (pair_at xs at (d.id, d) p.within))
    where
      dummy : (ys : List Stamp) → at < length ys → Stamp
      dummy [] h = absurd (omega arith)
      dummy (y ∷ ys) h = y

  gap_before : IsGapFor xs id at → AllWithin (λ e. id_cmp e.0 id ≡ Less) (by_id xs) 0 at
  gap_before p = pairs_hold (λ k. id_cmp k id ≡ Less) xs 0 at p.within p.before

  gap_after : IsGapFor xs id at → AllWithin (λ e. id_cmp e.0 id ≡ Greater) (by_id xs) at (length (by_id xs))
  gap_after p = rw (length_pairs xs) (pairs_hold (λ k. id_cmp k id ≡ Greater) xs at (length xs) (omega arith) p.after)

  gap_within : IsGapFor xs id at → at ≤ length (by_id xs)
  gap_within p = rw (length_pairs xs) p.within

  pub absent_stamp : IsGapFor xs id at → None ≡ stamp_of xs id
  absent_stamp p = sym (pairs.none_in_gap id_total id (by_id xs) at (gap_within p) (gap_before p) (gap_after p))

-- ---- inserting

pub inserted : (xs : List Stamp) (s : Stamp) (at : ℕ) → IsGapFor xs s.id at → insert xs at s ≡ put xs s
inserted xs s at p =
    sym (ap values_of (insert_pair xs at s) ∙ values_are (insert xs at s))
    ∙ ap values_of (pairs.put_in_gap id_total s.id (by_id xs) at s (gap_within xs s.id at p) (gap_before xs s.id at p) (gap_after xs s.id at p))

pub replaced : (xs : List Stamp) (s : Stamp) (at : ℕ) → IsSortedById xs → IsIndexOf xs s.id at → set xs at s ≡ put xs s
replaced xs s at sorted p =
    let d : Id × Stamp = (s.id, s) in
    let key = (get_or (by_id xs) at d).0 in
    sym (map-set (λ (e : Id × Stamp). e.1) (by_id xs) at (key, s) ∙ ap (λ ys. set ys at s) (values_are xs))
    ∙ ap values_of (pairs.put_at_index id_total s.id (by_id xs) at s d (inside xs s.id at p) (same_at xs s.id at p) (before_at xs s.id at sorted p))

pub put_pairs : (xs : List Stamp) (s : Stamp) → insert_entry id_cmp (by_id xs) s.id s ≡ by_id (put xs s)
put_pairs [] s = refl
put_pairs (x ∷ xs) s = by (id_cmp s.id x.id) refl (put_pairs xs s)
  where
    kept : by_id xs ≡ by_id (values_of (by_id xs))
    kept = ap by_id (sym (values_are xs))

    by : (r : Ordering) → id_cmp s.id x.id ≡ r → insert_entry id_cmp (by_id xs) s.id s ≡ by_id (put xs s)
        → match_ordering r ((s.id, s) ∷ (x.id, x) ∷ by_id xs) ((x.id, s) ∷ by_id xs) ((x.id, x) ∷ insert_entry id_cmp (by_id xs) s.id s)
        ≡ by_id (values_of (match_ordering r ((s.id, s) ∷ (x.id, x) ∷ by_id xs) ((x.id, s) ∷ by_id xs) ((x.id, x) ∷ insert_entry id_cmp (by_id xs) s.id s)))
    by Less e rest = ap (λ es. (s.id, s) ∷ (x.id, x) ∷ es) kept
    by Equal e rest = let same : x.id ≡ s.id = sym (exact s.id x.id e) in λ i. (same i, s) ∷ kept i
    by Greater e rest = ap (λ es. (x.id, x) ∷ es) rest

-- inserting keeps stamps sorted
pub sorted_put : (xs : List Stamp) (s : Stamp) → IsSortedById xs → IsSortedById (put xs s)
sorted_put xs s sorted = rw (ids_of (put xs s)) at (rw (put_pairs xs s) at (pairs.sorted_put id_total s.id (by_id xs) s (sorted_pairs xs sorted)))
