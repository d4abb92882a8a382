-- The rules of the entries from an index on.
use Rattle.std.proofs.Common.{◌≡◌, ℕ, suc, ◌+◌, ◌-◌, ◌<◌, List, [], ◌∷◌, ◌++◌, Option, Some, None, Ok, Err, refl, ◌∙◌, arith, flat_map, find, true, false, cond, option_map}
use Rattle.std.specs.Option.{option_or}
use Rattle.std.specs.List.{range_with_len}
use Rattle.cache_reader.specs.declared.defect.CacheDefect.{CacheDefect}
use Rattle.cache_reader.specs.Cache.{Sentence, first_defect}
use Rattle.cache_reader.specs.Checks.{checked, rest_from}

-- the indexes from i on start with i
pub range_from : (i n : ℕ) → i < n → range_with_len i (n - i) ≡ i ∷ range_with_len (i + 1) (n - (i + 1))
range_from i n h =
    let e : n - i ≡ suc (n - (i + 1)) = omega arith in
    rw e refl

-- the first defect of two lists of rules, one after the other
pub first-append : (xs ys : List Sentence) → first_defect (xs ++ ys) ≡ option_or (first_defect xs) (first_defect ys)
first-append [] ys = refl
first-append (x ∷ xs) ys = let rest = first-append xs ys in elim x.0 as (λ b. option_map (λ s. s.1) (cond b (Some x) (find (λ s. s.0) (xs ++ ys))) ≡ option_or (option_map (λ s. s.1) (cond b (Some x) (find (λ s. s.0) xs))) (first_defect ys)) [
  | true ↦ refl
  | false ↦ rest
]

-- If the check passed, there was nothing to report.
pub no_defect : (o : Option CacheDefect) → Ok tt ≡ checked o → o ≡ None
no_defect None h = refl
no_defect (Some d) h = cc

-- If the check failed, it returned this defect.
pub that_defect : (o : Option CacheDefect) (d : CacheDefect) → Err d ≡ checked o → o ≡ Some d
that_defect None d h = cc
that_defect (Some e) d h = cc

at_first : (S : ℕ → List Sentence) (i n : ℕ) → i < n → rest_from S i n ≡ option_or (first_defect (S i)) (rest_from S (i + 1) n)
at_first S i n h =
    rw (range_from i n h) (first-append (S i) (flat_map S (range_with_len (i + 1) (n - (i + 1)))))

-- If this entry has no defect, the first defect is that of the later entries.
pub passed : (S : ℕ → List Sentence) (i n : ℕ) → i < n → Ok tt ≡ checked (first_defect (S i)) → rest_from S i n ≡ rest_from S (i + 1) n
passed S i n h e = at_first S i n h ∙ rw (no_defect (first_defect (S i)) e) refl

-- If this entry has a defect, it is the first one.
pub failed : (S : ℕ → List Sentence) (i n : ℕ) (d : CacheDefect) → i < n → Err d ≡ checked (first_defect (S i)) → rest_from S i n ≡ Some d
failed S i n d h e = at_first S i n h ∙ rw (that_defect (first_defect (S i)) d e) refl

-- After the last entry nothing is left to check.
pub all_passed : (S : ℕ → List Sentence) (i n : ℕ) → n ≡ i → rest_from S i n ≡ None
all_passed S i n h = let e : n - i ≡ 0 = omega arith in rw e refl

-- Before the first entry all entries are left to check.
pub none_passed : (S : ℕ → List Sentence) (n : ℕ) → rest_from S 0 n ≡ first_defect (flat_map S (range_with_len 0 n))
none_passed S n = let e : n - 0 ≡ n = omega arith in rw e refl
