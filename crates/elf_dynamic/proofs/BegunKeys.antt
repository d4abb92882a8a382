-- The files that are opened, by their keys and in order.
use Rattle.std.proofs.Common.{◌≡◌, ◌+◌, ◌||◌, ◌++◌, ℕ, Bool, true, false, cond, List, [], ◌∷◌, Option, Some, None, refl, ap, sym, subst, ◌∙◌}
use Rattle.std.proofs.lemmas.List.Folds.{list_any-append}
use Rattle.std.proofs.lemmas.List.Sums.{sum_by-append}
use Rattle.elf_dynamic.specs.Taken.{most_under}
use Rattle.lib_types.proofs.SortedPairs.{by_test}
use Rattle.tree_face.proofs.StoreUse.{IsPartial, summed, reads_early, reads_then}
use Rattle.tree_face.specs.Known.{IfKnown}
use Rattle.tree_face.specs.Store.{Contents, StoreState}
use Rattle.tree_face.specs.StoreUse.{Ending, Complete, ReadsFiles}
use Rattle.elf_dynamic.specs.Begun.{LacksOne, ReadsBy, is_lacking, lacks_one, most_known_of, most_of, until_known, until_lacking}

-- ---- up to and including the first key that isn't held

module _ (held : Contents) where
  abbrev rest : List (List ℕ) → List (List ℕ) → List (List ℕ)
  rest ks more = cond (lacks_one held ks) [] (until_lacking held more)

  until_append : (ks more : List (List ℕ)) → until_lacking held (ks ++ more) ≡ until_lacking held ks ++ rest ks more
  until_append [] more = refl
  until_append (key ∷ ks) more = by_test (is_lacking held key)
      (λ e. rw e refl)
      (λ e. rw e (ap (λ l. key ∷ l) (until_append ks more)))

  most_append : (xs ys : List (List ℕ)) → most_of held (xs ++ ys) ≡ most_of held xs + most_of held ys
  most_append xs ys = sum_by-append (most_under held) xs ys

  lacks_later : (ks more : List (List ℕ)) → lacks_one held more ≡ true → lacks_one held (ks ++ more) ≡ true
  lacks_later ks more e = list_any-append (is_lacking held) ks more ∙ later (lacks_one held ks) (lacks_one held more) e
    where
      later : (a b : Bool) → b ≡ true → (a || b) ≡ true
      later true b e = refl
      later false b e = e

  lacks_before : (ks more : List (List ℕ)) → lacks_one held ks ≡ true → lacks_one held (ks ++ more) ≡ true
  lacks_before ks more e = list_any-append (is_lacking held) ks more ∙ ap (λ b. b || lacks_one held more) e

  -- none of them is missing
  pub none_lacks : (ks more : List (List ℕ)) → lacks_one held ks ≡ false → lacks_one held more ≡ false → lacks_one held (ks ++ more) ≡ false
  none_lacks ks more e f = list_any-append (is_lacking held) ks more ∙ ap (λ b. b || lacks_one held more) e ∙ f

-- ---- the same, if it may be unknown which keys are held

abbrev rest_known : Option Contents → List (List ℕ) → List (List ℕ) → List (List ℕ)
rest_known None ks more = more
rest_known (Some held) ks more = rest held ks more

until_known_append : (known : Option Contents) (ks more : List (List ℕ)) → until_known known (ks ++ more) ≡ until_known known ks ++ rest_known known ks more
until_known_append None ks more = refl
until_known_append (Some held) ks more = until_append held ks more

-- If all of these keys are held, the next keys follow.
rest_held : (known : Option Contents) (ks more : List (List ℕ)) → IfKnown known (λ held. lacks_one held ks ≡ false) → rest_known known ks more ≡ until_known known more
rest_held None ks more e = refl
rest_held (Some held) ks more e = ap (λ b. cond b [] (until_lacking held more)) e

summed_known : (known : Option Contents) (xs ys : List (List ℕ)) → summed (most_known_of known xs) (most_known_of known ys) ≡ most_known_of known (xs ++ ys)
summed_known None xs ys = refl
summed_known (Some held) xs ys = ap Some (sym (most_append held xs ys))

later_known : (known : Option Contents) (ks more : List (List ℕ)) → LacksOne known more → LacksOne known (ks ++ more)
later_known None ks more e = e
later_known (Some held) ks more e = lacks_later held ks more e

before_known : (known : Option Contents) (ks more : List (List ℕ)) → LacksOne known ks → LacksOne known (ks ++ more)
before_known None ks more e = e
before_known (Some held) ks more e = lacks_before held ks more e

module _ (known : Option Contents) (ks more : List (List ℕ)) (e : Ending) (a b c : StoreState) where
  -- first some keys, which are all held, and then more keys
  pub keys_then : IfKnown known (λ held. lacks_one held ks ≡ false) → ReadsBy known ks Complete a b → ReadsBy known more e b c → ReadsBy known (ks ++ more) e a c
  keys_then none first next =
      let keys : until_known known (ks ++ more) ≡ until_known known ks ++ until_known known more =
      until_known_append known ks more ∙ ap (λ l. until_known known ks ++ l) (rest_held known ks more none) in
      let both = reads_then e a b c (LacksOne known ks) (LacksOne known more) (LacksOne known (ks ++ more)) _ _ _ _ (later_known known ks more) first next in
      subst (λ l. ReadsFiles (LacksOne known (ks ++ more)) (Some l) (most_known_of known l) e a c) (sym keys)
      (rw (summed_known known (until_known known ks) (until_known known more)) at both)

module _ (known : Option Contents) (ks more : List (List ℕ)) (e : Ending) (a b : StoreState) where
  -- the call ends before it has opened all keys
  pub keys_early : IsPartial e → ReadsBy known ks e a b → ReadsBy known (ks ++ more) e a b
  keys_early partial first =
      let tail = rest_known known ks more in
      let early = reads_early e a b partial (LacksOne known ks) (LacksOne known (ks ++ more)) (Some (until_known known ks)) (Some tail)
      (most_known_of known (until_known known ks)) (most_known_of known tail) (before_known known ks more) first in
      subst (λ l. ReadsFiles (LacksOne known (ks ++ more)) (Some l) (most_known_of known l) e a b) (sym (until_known_append known ks more))
      (rw (summed_known known (until_known known ks) tail) at early)
