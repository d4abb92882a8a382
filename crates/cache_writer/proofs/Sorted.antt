-- Names sorted by their bytes, while they are gathered.
use Rattle.std.proofs.Common.{◌≡◌, ℕ, ◌+◌, ◌≤◌, nat_lt, Bool, true, false, cond, not, List, [], ◌∷◌, ◌++◌, length, map, Some, None, refl, ap, ◌∙◌, Bor, Ordering, bytes_eq, unwrap_or, arith, append_assoc}
use Rattle.std.proofs.lemmas.Bool.Decides.{nat_tests}
use Rattle.std.proofs.lemmas.Cmp.{nat_list_cmp_total}
use Rattle.std.proofs.lemmas.List.Sums.{prefix_len-le-length}
use Rattle.std.proofs.lemmas.Map.Keys.{sorted_head, sorted_tail}
use Rattle.std.proofs.lemmas.Slice.Eq.{bytes_eq-Decides}
use Rattle.std.specs.BTreeSet.{insert_key}
use Rattle.std.specs.Cmp.Lexicographic.{slice_cmp}
use Rattle.std.specs.List.{AllByRecursion, list_any, position, position_or_len}
use Rattle.std.specs.List.Sorted.{IsStrictlySortedBy}
use Rattle.std.specs.Ordering.{nat_cmp, match_ordering, ordering_reverse}
use Rattle.std.specs.declared.cmp.Ordering.TheVariants.{Less, Equal, Greater}
use Rattle.indexmap.specs.IndexSet.{insert_key as put_last}

-- the order of borrowed names
abbrev pub by_bytes : Bor (List ℕ) → Bor (List ℕ) → Ordering
by_bytes a b = slice_cmp nat_cmp a.now b.now

-- ---- inserting a name in sorted order

placed : (r : Ordering) (k x : Bor (List ℕ)) (xs more : List (Bor (List ℕ))) (rest : List (List ℕ)) → map (λ n. n.now) more ≡ rest
    → map (λ n. n.now) (match_ordering r (k ∷ x ∷ xs) (x ∷ xs) (x ∷ more)) ≡ match_ordering r (k.now ∷ x.now ∷ map (λ n. n.now) xs) (x.now ∷ map (λ n. n.now) xs) (x.now ∷ rest)
placed Less k x xs more rest e = refl
placed Equal k x xs more rest e = refl
placed Greater k x xs more rest e = ap (λ ns. x.now ∷ ns) e

pub inserted : (xs : List (Bor (List ℕ))) (k : Bor (List ℕ)) → map (λ n. n.now) (insert_key by_bytes xs k) ≡ insert_key (slice_cmp nat_cmp) (map (λ n. n.now) xs) k.now
inserted [] k = refl
inserted (x ∷ xs) k = placed (by_bytes k x) k x xs (insert_key by_bytes xs k) (insert_key (slice_cmp nat_cmp) (map (λ n. n.now) xs) k.now) (inserted xs k)

-- ---- gathering names in this order

tied : (x : List ℕ) → slice_cmp nat_cmp x x ≡ Equal
tied x = by (slice_cmp nat_cmp x x) refl
  where
    turned : slice_cmp nat_cmp x x ≡ ordering_reverse (slice_cmp nat_cmp x x)
    turned = nat_list_cmp_total.antisymm x x

    by : (r : Ordering) → slice_cmp nat_cmp x x ≡ r → r ≡ Equal
    by Less e = absurd (cc (e, turned, ap ordering_reverse e))
    by Equal e = refl
    by Greater e = absurd (cc (e, turned, ap ordering_reverse e))

differ : (a b : List ℕ) → slice_cmp nat_cmp a b ≡ Less → bytes_eq b a ≡ false
differ a b h = by (bytes_eq b a) refl
  where
    by : (t : Bool) → bytes_eq b a ≡ t → t ≡ false
    by true e =
        let same : b ≡ a = (bytes_eq-Decides b a).0 e in
        let equal : slice_cmp nat_cmp a a ≡ Less = rw same at h in
        cc (tied a)
    by false e = refl

at_end : (P : Bor (List ℕ) → Type 0) (xs : List (Bor (List ℕ))) (k : Bor (List ℕ)) (rest : List (Bor (List ℕ))) → AllByRecursion P (xs ++ k ∷ rest) → P k
at_end P [] k rest all = all.0
at_end P (x ∷ xs) k rest all = at_end P xs k rest all.1

-- the next name is different from all names before it
pub next_is_new : (xs : List (Bor (List ℕ))) (k : Bor (List ℕ)) (rest : List (Bor (List ℕ))) → IsStrictlySortedBy by_bytes (xs ++ k ∷ rest)
    → list_any (λ n. bytes_eq k.now n.now) xs ≡ false
next_is_new [] k rest s = refl
next_is_new (x ∷ xs) k rest s =
    let less : by_bytes x k ≡ Less = at_end (λ y. by_bytes x y ≡ Less) xs k rest (sorted_head by_bytes x (xs ++ k ∷ rest) s) in
    rw (differ x.now k.now less) (next_is_new xs k rest (sorted_tail by_bytes x (xs ++ k ∷ rest) s))

-- so it is added at the end, and the names that are left stay the same
pub gathered : (xs : List (Bor (List ℕ))) (k : Bor (List ℕ)) (rest : List (Bor (List ℕ))) → IsStrictlySortedBy by_bytes (xs ++ k ∷ rest)
    → put_last (λ a b. bytes_eq a.now b.now) xs k ++ rest ≡ xs ++ k ∷ rest
gathered xs k rest s = rw (next_is_new xs k rest s) (append_assoc xs (k ∷ []) rest)

-- ---- the index of a name

mapped_index : (p : List ℕ → Bool) (xs : List (Bor (List ℕ))) → position_or_len (λ n. p n.now) xs ≡ position_or_len p (map (λ n. n.now) xs)
mapped_index p [] = refl
mapped_index p (x ∷ xs) = ap (λ n. cond (not (p x.now)) (1 + n) 0) (mapped_index p xs)

index_or : (p : Bor (List ℕ) → Bool) (xs : List (Bor (List ℕ))) → unwrap_or (position p xs) (length xs) ≡ position_or_len p xs
index_or p xs =
    let within : position_or_len p xs ≤ length xs = prefix_len-le-length _ xs in
    by (position_or_len p xs) (length xs) within
  where
    by : (n len : ℕ) → n ≤ len → unwrap_or (cond (nat_lt n len) (Some n) None) len ≡ n
    by n len h = grind (arith, nat_tests)

pub index_is : (p : List ℕ → Bool) (xs : List (Bor (List ℕ))) → unwrap_or (position (λ n. p n.now) xs) (length xs) ≡ position_or_len p (map (λ n. n.now) xs)
index_is p xs = index_or (λ n. p n.now) xs ∙ mapped_index p xs
