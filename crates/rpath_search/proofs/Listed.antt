-- The objects of a chain, and the search paths of a name that the first object needs.
use Rattle.std.proofs.Common.{◌≡◌, ◌<◌, ◌+◌, ◌-◌, ◌==◌, ℕ, zero, suc, false, List, [], ◌∷◌, ◌++◌, length, drop, get_or, Option, refl, sym, ap, ◌∙◌, arith}
use Rattle.std.proofs.lemmas.List.{length-append, length-drop}
use Rattle.std.proofs.Math.Seq.{get_or-append_seam}
use Rattle.rpath_search.specs.Candidates.{all_paths}
use Rattle.rpath_search.specs.Listed.{HasLast, reach_in}
use Rattle.rpath_search.specs.Loaders.{not_found, reach_at, reach_over}
use Rattle.rpath_search.specs.Places.{Reach, env_for, has_slash, paths, reach_of, with_caps_once}
use Rattle.rpath_search.specs.declared.kinds.Env.{Env}
use Rattle.rpath_search.specs.declared.kinds.Owner.{Owner}

drop_at : (xs : List Owner) (i : ℕ) (d : Owner) → i < length xs → drop i xs ≡ get_or xs i d ∷ drop (i + 1) xs
drop_at [] i d within = absurd (omega (arith, within))
drop_at (x ∷ xs) zero d within = refl
drop_at (x ∷ xs) (suc i) d within = let next : suc i + 1 ≡ suc (i + 1) = omega arith in rw next (drop_at xs i d (omega (arith, within)))

none_left : (xs : List Owner) (n : ℕ) → n ≡ length xs → drop n xs ≡ []
none_left [] zero e = refl
none_left [] (suc n) e = absurd (omega (arith, e))
none_left (x ∷ xs) zero e = absurd (omega (arith, e))
none_left (x ∷ xs) (suc n) e = none_left xs n (omega (arith, e))

last_is : (reaches : List Reach) (r : Reach) → reach_at (reaches ++ r ∷ []) (length (reaches ++ r ∷ []) - 1) ≡ r
last_is reaches r =
    let len : length (reaches ++ r ∷ []) - 1 ≡ length reaches = omega (arith, length-append reaches (r ∷ [])) in
    ap (reach_at (reaches ++ r ∷ [])) len ∙ get_or-append_seam reaches r [] not_found

module _ (env : Env) (owners : List Owner) where
  -- the last object of the chain alone
  pub begins : (i : ℕ) (owner : Owner) → i < length owners → i + 1 ≡ length owners → get_or owners i owner ≡ owner → HasLast env (drop i owners) (reach_of env owner [] ∷ [])
  begins i owner within end is = record {
    some = omega arith;
    last = sym (ap (reach_in env) (drop_at owners i owner within ∙ ap (λ l. get_or owners i owner ∷ l) (none_left owners (i + 1) end) ∙ ap (λ o. o ∷ []) is));
  }

  -- the next object
  pub goes_on : (i j : ℕ) (owner : Owner) (reaches : List Reach) → i ≡ j + 1 → i < length owners → get_or owners j owner ≡ owner → HasLast env (drop i owners) reaches →
      HasLast env (drop j owners) (reaches ++ reach_over env owner (reach_at reaches (length reaches - 1)) ∷ [])
  goes_on i j owner reaches next within is so_far = record {
    some = omega (arith, length-append reaches (reach_over env owner (reach_at reaches (length reaches - 1)) ∷ []));
    last = last_is reaches (reach_over env owner (reach_at reaches (length reaches - 1))) ∙ ap (reach_over env owner) so_far.last ∙ over (drop i owners) some ∙ sym (ap (reach_in env) whole);
  }
    where
      some : 0 < length (drop i owners)
      some = omega (arith, within, length-drop i owners)

      whole : drop j owners ≡ owner ∷ drop i owners
      whole = drop_at owners j owner (omega (arith, next, within)) ∙ ap (λ o. o ∷ drop (j + 1) owners) is ∙ ap (λ n. owner ∷ drop n owners) (sym next)

      over : (rest : List Owner) → 0 < length rest → reach_over env owner (reach_in env rest) ≡ reach_in env (owner ∷ rest)
      over [] some = absurd (omega (arith, some))
      over (o ∷ more) some = refl

-- the search paths of the first object
pub all_listed : (name : List ℕ) (chain : List Owner) (env : Env) (cached : Option (List ℕ)) (reach : Reach) → has_slash name ≡ false → (length chain == 0) ≡ false → reach ≡ reach_in env chain →
    all_paths name (env_for env env.abi) reach cached ≡ paths name chain (with_caps_once env) cached
unfolding paths
all_listed name [] env cached reach plain some same = absurd (cc)
all_listed name (o ∷ more) env cached reach plain some same = rw (plain, same) refl
