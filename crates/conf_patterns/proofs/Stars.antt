-- The parts between two stars may take the first position where they fit.
use Rattle.std.proofs.Common.{◌≡◌, ◌<◌, ℕ, zero, suc, Bool, true, false, ◌&&◌, List, [], ◌∷◌, length, drop, eqb, refl, ap, sym, ◌∙◌, arith}
use Rattle.std.proofs.lemmas.Bool.{and_parts}
use Rattle.lib_types.proofs.SortedPairs.{by_test}
use Rattle.conf_patterns.specs.Glob.{Part, is_star, takes, some_tail, first_and_rest, matches}
use Rattle.conf_patterns.specs.Pieces.{takes_first}
use Rattle.conf_patterns.specs.Matching.{Decides, Goes, comes_to, is_failure}
use Rattle.conf_patterns.specs.declared.glob.Reach.{Reach}
use Rattle.conf_patterns.specs.declared.glob.Reach.TheVariants.{Fails, Ends, Star}

module _ (f : List ℕ → Bool) where
  pub tail_here : (xs : List ℕ) → f xs ≡ true → some_tail f xs ≡ true
  tail_here [] h = h
  tail_here (b ∷ rest) h = rw h refl

  pub no_tail : (xs : List ℕ) → length xs ≡ 0 → f xs ≡ false → some_tail f xs ≡ false
  no_tail [] e h = h
  no_tail (b ∷ rest) e h = absurd (omega arith)

  pub next_tail : (xs : List ℕ) → 0 < length xs → f xs ≡ false → some_tail f xs ≡ some_tail f (drop 1 xs)
  next_tail [] e h = absurd (omega arith)
  next_tail (b ∷ rest) e h = rw h refl

  -- a suffix that passes the test begins at some index
  tail_at : (xs : List ℕ) → some_tail f xs ≡ true → (n : ℕ) × (f (drop n xs) ≡ true)
  tail_at [] h = (0, h)
  tail_at (b ∷ rest) h = by_test (f (b ∷ rest)) (λ e. (0, e)) (λ e. let more = tail_at rest (rw e at h) in (suc more.0, more.1))

  -- if a suffix of a suffix passes the test, a suffix of the whole list passes it
  tail_of_tail : (n : ℕ) (xs : List ℕ) → some_tail f (drop n xs) ≡ true → some_tail f xs ≡ true
  tail_of_tail zero xs h = h
  tail_of_tail (suc n) [] h = h
  tail_of_tail (suc n) (b ∷ rest) h = by_test (f (b ∷ rest)) (λ e. rw e refl) (λ e. rw e (tail_of_tail n rest h))

drop_none : (n : ℕ) → drop {A = ℕ} n [] ≡ []
drop_none zero = refl
drop_none (suc n) = refl

drop_one : (n : ℕ) (xs : List ℕ) → drop 1 (drop n xs) ≡ drop n (drop 1 xs)
drop_one zero xs = refl
drop_one (suc n) [] = refl
drop_one (suc n) (b ∷ []) = ap (drop 1) (drop_none n)
drop_one (suc n) (b ∷ c ∷ rest) = drop_one n (c ∷ rest)

first_rest : (part : Part) (f : List ℕ → Bool) (xs : List ℕ) → first_and_rest part f xs ≡ (takes_first part xs && f (drop 1 xs))
first_rest part f [] = refl
first_rest part f (b ∷ rest) = refl

module _ (ps : List Part) (name : List ℕ) where
  pub goes_none : Goes ps ps name name
  goes_none = record { here = refl; later = λ n m. m }

  module _ (part : Part) (rest : List Part) (left : List ℕ) (goes : Goes ps (part ∷ rest) name left) where
    one_part : is_star part ≡ false → (xs : List ℕ) → matches (part ∷ rest) xs ≡ (takes_first part xs && matches rest (drop 1 xs))
    one_part star xs = rw star (first_rest part (matches rest) xs)

    pub goes_on : is_star part ≡ false → takes_first part left ≡ true → Goes ps rest name (drop 1 left)
    goes_on star takes = record {
      here = goes.here ∙ one_part star left ∙ rw takes refl;
      later = λ n m.
          let both = and_parts (takes_first part (drop n left)) (matches rest (drop 1 (drop n left))) (sym (one_part star (drop n left)) ∙ goes.later n m) in
          sym (ap (matches rest) (drop_one n left)) ∙ both.1;
    }

    pub goes_not : is_star part ≡ false → takes_first part left ≡ false → matches ps name ≡ false
    goes_not star takes = goes.here ∙ one_part star left ∙ rw takes refl

    star_here : is_star part ≡ true → matches ps name ≡ some_tail (matches rest) left
    star_here star = goes.here ∙ rw star refl

    star_later : is_star part ≡ true → some_tail (matches ps) name ≡ true → some_tail (matches rest) left ≡ true
    star_later star some =
        let at = tail_at (matches ps) name some in
        let there : matches (part ∷ rest) (drop at.0 left) ≡ true = goes.later at.0 at.1 in
        let passes : some_tail (matches rest) (drop at.0 left) ≡ true = rw star at there in
        tail_of_tail (matches rest) at.0 left passes

    star_back : is_star part ≡ true → some_tail (matches rest) left ≡ true → some_tail (matches ps) name ≡ true
    star_back star some = tail_here (matches ps) name (star_here star ∙ some)

    pub goes_to_star : is_star part ≡ true → (matches ps name ≡ some_tail (matches rest) left) × (some_tail (matches ps) name ≡ some_tail (matches rest) left)
    goes_to_star star = (
      star_here star,
      by_test (some_tail (matches ps) name) (λ e. e ∙ sym (star_later star e)) (λ e. by_test (some_tail (matches rest) left) (λ some. star_back star some ∙ sym some) (λ none. e ∙ sym none)),
    )

  pub ends : (rest : List Part) (left : List ℕ) → Goes ps rest name left → rest ≡ [] → matches ps name ≡ eqb (length left) 0
  ends rest left goes e = goes.here ∙ ap (λ r. matches r left) e

module _ (ps : List Part) (name : List ℕ) where
  pub decided : (r : Reach) → Decides ps name r → comes_to r ≡ matches ps name
  decided Fails d = sym d
  decided Ends d = sym d
  decided (Star rest left) d = sym d.0

  pub found : (r : Reach) → Decides ps name r → is_failure r ≡ false → comes_to r ≡ some_tail (matches ps) name
  found Fails d e = cc
  found Ends d e = sym (tail_here (matches ps) name d)
  found (Star rest left) d e = sym d.1

  pub failed : (r : Reach) → Decides ps name r → is_failure r ≡ true → matches ps name ≡ false
  failed Fails d e = d
  failed Ends d e = cc
  failed (Star rest left) d e = cc
