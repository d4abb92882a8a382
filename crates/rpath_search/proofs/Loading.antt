-- The search directories of the objects, computed one object after another.
use Rattle.std.proofs.Common.{◌≡◌, ◌<◌, ◌≤◌, ℕ, false, List, [], ◌∷◌, ◌++◌, length, get_or, Option, Some, None, IfSome, refl, sym, ap, ◌∙◌, ⊎_elim, arith}
use Rattle.std.proofs.lemmas.Bool.{cases_lt}
use Rattle.std.proofs.lemmas.List.{get_or_append_left, length-append}
use Rattle.std.proofs.Math.Seq.{get_or-append_seam}
use Rattle.rpath_search.specs.declared.loaders.Link.{Link}
use Rattle.rpath_search.specs.declared.kinds.Env.{Env}
use Rattle.rpath_search.specs.declared.kinds.Owner.{Owner}
use Rattle.rpath_search.specs.Loaders.{AreLinked, not_found, own_dirs, reach_at, reach_by, reach_over, reaches_from, reaches_of, rpaths_from}
use Rattle.rpath_search.specs.Places.{Reach}

-- some object
abbrev some_link : Link
some_link = record { dirs = record { rpath = []; runpath = None; nodeflib = false }; above = None }

module _ (library : List (List ℕ)) (links : List Link) (are : AreLinked library links) (i : ℕ) (within : i < length (reaches_of library links)) where
  inside : i < length links
  inside = omega (arith, within, are.all)

  pub reach_library : (reach_at (reaches_of library links) i).library ≡ library
  reach_library = ap (λ (r : Reach). r.library) (are.linked i some_link inside)

-- ---- one more object

reaches_more : (library : List (List ℕ)) (reaches : List Reach) (links : List Link) (l : Link) →
    reaches_from library reaches (links ++ l ∷ []) ≡ reaches_from library reaches links ++ reach_by library (reaches_from library reaches links) l ∷ []
reaches_more library reaches [] l = refl
reaches_more library reaches (k ∷ links) l = reaches_more library (reaches ++ reach_by library reaches k ∷ []) links l

rpaths_more : (reaches more : List Reach) (above : Option ℕ) → IfSome above (λ j. j < length reaches) → rpaths_from (reaches ++ more) above ≡ rpaths_from reaches above
rpaths_more reaches more None within = refl
rpaths_more reaches more (Some j) within = ap (λ (r : Reach). r.rpaths) (get_or_append_left reaches more not_found j within)

within_more : (above : Option ℕ) (n m : ℕ) → n ≤ m → IfSome above (λ j. j < n) → IfSome above (λ j. j < m)
within_more None n m more within = tt
within_more (Some j) n m more within = omega (arith, more, within)

get_or_in : {X : Type 0} (xs : List X) (y : X) (n : ℕ) (d : X) → n ≡ length xs → get_or (xs ++ y ∷ []) n d ≡ y
get_or_in xs y n d e = ap (λ m. get_or (xs ++ y ∷ []) m d) e ∙ get_or-append_seam xs y [] d

module _ (library : List (List ℕ)) (links : List Link) (l : Link) (are : AreLinked library links) (within : IfSome l.above (λ j. j < length links)) where
  abbrev before : List Reach
  before = reaches_of library links

  abbrev last : Reach
  last = reach_by library before l

  pub one_more : reaches_of library (links ++ l ∷ []) ≡ before ++ last ∷ []
  one_more = reaches_more library [] links l

  by_more : (k : Link) → IfSome k.above (λ j. j < length before) → reach_by library (before ++ last ∷ []) k ≡ reach_by library before k
  by_more k inside = ap (λ r. record { rpaths = k.dirs.rpath ++ r; library = library; runpath = k.dirs.runpath; nodeflib = k.dirs.nodeflib }) (rpaths_more before (last ∷ []) k.above inside)

  pub linked_on : AreLinked library (links ++ l ∷ [])
  linked_on = record {
    all = ap length one_more ∙ omega (arith, are.all, length-append before (last ∷ []), length-append links (l ∷ []));
    below = λ i d inside. ⊎_elim
        (λ early. rw (get_or_append_left links (l ∷ []) d i early) (are.below i d early))
        (λ late. let e : i ≡ length links = omega (arith, late, inside, length-append links (l ∷ [])) in
        rw (get_or_in links l i d e) (within_more l.above (length links) i (omega (arith, e)) within))
        (cases_lt i (length links));
    linked = λ i d inside. ⊎_elim
        (λ early.
        let here : i < length before = omega (arith, early, are.all) in
        let near : i ≤ length before = omega (arith, here) in
        rw (one_more, get_or_append_left links (l ∷ []) d i early)
        (get_or_append_left before (last ∷ []) not_found i here ∙ are.linked i d early
        ∙ sym (by_more (get_or links i d) (within_more (get_or links i d).above i (length before) near (are.below i d early)))))
        (λ late.
        let e : i ≡ length links = omega (arith, late, inside, length-append links (l ∷ [])) in
        let at : i ≡ length before = omega (arith, e, are.all) in
        let near : length links ≤ length before = omega (arith, are.all) in
        rw (one_more, get_or_in links l i d e)
        (get_or_in before last i not_found at ∙ sym (by_more l (within_more l.above (length links) (length before) near within))))
        (cases_lt i (length links));
  }

  -- the added object has the search directories of an object with this loader
  pub added : (env : Env) (owner : Owner) (loader : ℕ) → loader < length before → l.dirs ≡ own_dirs env owner → rpaths_from before l.above ≡ rpaths_from before (Some loader) →
      reaches_of library (links ++ l ∷ []) ≡ before ++ reach_over env owner (reach_at before loader) ∷ []
  added env owner loader there dirs upwards = one_more ∙ ap (λ (r : Reach). before ++ r ∷ []) (rw (dirs, upwards, reach_library library links are loader there) refl)
