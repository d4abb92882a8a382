-- If the state matches the record, it still matches after a request is answered.
use Rattle.std.proofs.Common.{◌≡◌, ◌+◌, ◌<◌, ◌||◌, ◌&&◌, ℕ, zero, suc, Bool, true, false, cond, List, [], ◌∷◌, ◌++◌, length, map, drop, get_or, set, Option, Some, Result, Ok, Err, OnOk, refl, sym, ap, subst, ◌∙◌, arith}
use Rattle.std.proofs.lemmas.List.{length-map, map-append}
use Rattle.std.proofs.lemmas.List.Folds.{list_any-append}
use Rattle.std.proofs.lemmas.Slice.Eq.{bytes_eq-Decides}
use Rattle.std.specs.List.{AllByRecursion, IsDistinct, list_any}
use Rattle.std.specs.Str.{bytes_eq}
use Rattle.lib_types.proofs.SortedPairs.{by_test}
use Rattle.rpath_search.specs.declared.kinds.Owner.{Owner}
use Rattle.rpath_search.specs.declared.kinds.Env.{Env}
use Rattle.rpath_search.specs.Loaders.{reach_at, reach_over}
use Rattle.rpath_search.specs.Places.{Reach, reach_of}
use Rattle.ldd_resolve.specs.Links.{following, reach_in}
use Rattle.ldd_resolve.specs.declared.kinds.Member.{Member}
use Rattle.rpath_search.specs.Searching.{is_among}
use Rattle.ldd_resolve.specs.Listing.{Loaded, is_called, named, places_of, requests}
use Rattle.ldd_resolve.specs.Loading.{with_last_name}
use Rattle.ldd_resolve.specs.Resolving.{member_of}
use Rattle.lib_types.proofs.Bools.{or_assoc}

-- ---- Booleans

pub or_false : (b : Bool) → (b || false) ≡ b
or_false true = refl
or_false false = refl

or_true : (b : Bool) → (b || true) ≡ true
or_true true = refl
or_true false = refl

pub or_first : (a b : Bool) → (a || b) ≡ false → a ≡ false
or_first true b e = e
or_first false b e = refl

pub or_second : (a b : Bool) → (a || b) ≡ false → b ≡ false
or_second true b e = absurd (cc)
or_second false b e = e

-- ---- texts

among_append : (xs ys : List (List ℕ)) (x : List ℕ) → is_among (xs ++ ys) x ≡ (is_among xs x || is_among ys x)
among_append xs ys x = list_any-append (bytes_eq x) xs ys

pub among_one : (xs : List (List ℕ)) (name x : List ℕ) → is_among (xs ++ name ∷ []) x ≡ (is_among xs x || bytes_eq x name)
among_one xs name x = among_append xs (name ∷ []) x ∙ ap (λ b. is_among xs x || b) (or_false (bytes_eq x name))

-- a text that is already in the list isn't inserted again
pub among_inserted : (xs : List (List ℕ)) (name x : List ℕ) →
    is_among (cond (is_among xs name) xs (xs ++ name ∷ [])) x ≡ (is_among xs x || bytes_eq x name)
among_inserted xs name x = by_test (is_among xs name)
    (λ there. ap (λ b. is_among (cond b xs (xs ++ name ∷ [])) x) there ∙ by_test (bytes_eq x name)
    (λ same. let e : is_among xs x ≡ true = subst (λ y. is_among xs y ≡ true) (sym ((bytes_eq-Decides x name).0 same)) there in e ∙ sym (ap (λ b. b || bytes_eq x name) e))
    (λ other. sym (ap (λ b. is_among xs x || b) other ∙ or_false (is_among xs x))))
    (λ new. ap (λ b. is_among (cond b xs (xs ++ name ∷ [])) x) new ∙ among_one xs name x)

pub on_ok : {A B P Q : Type 0} (r : Result A B) → (P → Q) → OnOk r P → OnOk r Q
on_ok (Ok a) f p = f p
on_ok (Err e) f p = tt

-- ---- the search directories of the objects

module _ (env : Env) where
  abbrev reaches : List Loaded → List (Option Reach)
  reaches os = map (λ (o : Loaded). reach_in env o.chain) os

  abbrev somes : List Reach → List (Option Reach)
  somes rs = map (λ reach. Some reach) rs

  pub same_count : (rs : List Reach) (os : List Loaded) → somes rs ≡ reaches os → length rs ≡ length os
  same_count rs os linked = sym (length-map rs (λ (r : Reach). Some r)) ∙ ap length linked ∙ length-map os (λ (o : Loaded). reach_in env o.chain)

  -- the search directories of the object with a number
  pub reach_there : (rs : List Reach) (os : List Loaded) (n : ℕ) → somes rs ≡ reaches os → n < length rs →
      reach_in env (get_or (map (λ (o : Loaded). o.chain) os) n []) ≡ Some (reach_at rs n)
  reach_there [] os n linked within = absurd (omega (arith, within))
  reach_there (r ∷ rs) [] n linked within = absurd (cc)
  reach_there (r ∷ rs) (o ∷ os) zero linked within = let first : Some r ≡ reach_in env o.chain = cc in sym first
  reach_there (r ∷ rs) (o ∷ os) (suc n) linked within = let others : somes rs ≡ reaches os = cc in reach_there rs os n others (omega (arith, within))

  -- the search directories of an object whose loader has this chain
  over : (owner : Owner) (chain : List Owner) (above : Reach) → reach_in env chain ≡ Some above → Some (reach_over env owner above) ≡ reach_in env (owner ∷ chain)
  over owner [] above same = absurd (cc)
  over owner (o ∷ more) above same = let is : reach_of env o more ≡ above = cc in ap (λ (r : Reach). Some (reach_over env owner r)) (sym is)

  -- one more object
  pub linked_on : (rs : List Reach) (os : List Loaded) (o : Loaded) (owner : Owner) (k : ℕ) → somes rs ≡ reaches os → k < length rs →
      o.chain ≡ owner ∷ following (map (λ (o : Loaded). o.chain) os) (Some k) → somes (rs ++ reach_over env owner (reach_at rs k) ∷ []) ≡ reaches (os ++ o ∷ [])
  linked_on rs os o owner k linked within chain =
      map-append (λ (r : Reach). Some r) rs (reach_over env owner (reach_at rs k) ∷ [])
      ∙ ap (λ l. l ++ Some (reach_over env owner (reach_at rs k)) ∷ []) linked
      ∙ ap (λ (r : Option Reach). reaches os ++ r ∷ []) (over owner (following (map (λ (o : Loaded). o.chain) os) (Some k)) (reach_at rs k) (reach_there rs os k linked within) ∙ sym (ap (reach_in env) chain))
      ∙ sym (map-append (λ (o : Loaded). reach_in env o.chain) os (o ∷ []))

-- ---- requests

pub drop_next : {X : Type 0} (n : ℕ) (xs ys : List X) (q : X) (rest : List X) → drop n xs ≡ q ∷ rest → drop (suc n) (xs ++ ys) ≡ rest ++ ys
drop_next zero [] ys q rest e = absurd (cc)
drop_next zero (x ∷ xs) ys q rest e = let tail : xs ≡ rest = cc in ap (λ l. l ++ ys) tail
drop_next (suc n) [] ys q rest e = absurd (cc)
drop_next (suc n) (x ∷ xs) ys q rest e = drop_next n xs ys q rest e

pub drop_one : {X : Type 0} (n : ℕ) (xs : List X) (q : X) (rest : List X) → drop n xs ≡ q ∷ rest → drop (suc n) xs ≡ rest
drop_one zero [] q rest e = absurd (cc)
drop_one zero (x ∷ xs) q rest e = cc
drop_one (suc n) [] q rest e = absurd (cc)
drop_one (suc n) (x ∷ xs) q rest e = drop_one n xs q rest e

-- ---- names of objects

module _ (real name : List ℕ) where
  abbrev also : Loaded → Loaded
  also = named real name

  pub same_by : {X : Type 0} (f : Loaded → X) → ((o : Loaded) → f (also o) ≡ f o) → (os : List Loaded) → map f (map also os) ≡ map f os
  same_by f same [] = refl
  same_by f same (o ∷ os) = rw (same o, same_by f same os) refl

  pub same_real : (o : Loaded) → (also o).real ≡ o.real
  same_real o = by_test (bytes_eq real o.real) (λ h. rw h refl) (λ h. rw h refl)

  pub same_chain : (o : Loaded) → (also o).chain ≡ o.chain
  same_chain o = by_test (bytes_eq real o.real) (λ h. rw h refl) (λ h. rw h refl)

  pub same_needed : (o : Loaded) → (also o).needed ≡ o.needed
  same_needed o = by_test (bytes_eq real o.real) (λ h. rw h refl) (λ h. rw h refl)

  pub same_path : (o : Loaded) → (also o).path ≡ o.path
  same_path o = by_test (bytes_eq real o.real) (λ h. rw h refl) (λ h. rw h refl)

  pub same_requests : (os : List Loaded) → requests (map also os) ≡ requests os
  same_requests [] = refl
  same_requests (o ∷ os) = by_test (bytes_eq real o.real) (λ h. rw (h, same_requests os) refl) (λ h. rw (h, same_requests os) refl)

  or_more : (a b c d : Bool) → ((a || b) || (c || (d && b))) ≡ ((a || c) || ((true || d) && b))
  or_more true b c d = refl
  or_more false true true d = refl
  or_more false true false d = refl
  or_more false false true d = refl
  or_more false false false true = refl
  or_more false false false false = refl

  called_with : (os : List Loaded) (x : List ℕ) → list_any (is_called x) (map also os) ≡ (list_any (is_called x) os || (is_among (places_of os) real && bytes_eq x name))
  called_with [] x = refl
  called_with (o ∷ os) x = by_test (bytes_eq real o.real)
      (λ h. rw (h, among_inserted o.names name x, called_with os x) (or_more (is_among o.names x) (bytes_eq x name) (list_any (is_called x) os) (is_among (places_of os) real)))
      (λ h. rw (h, called_with os x) (sym (or_assoc (is_called x o) (list_any (is_called x) os) (is_among (places_of os) real && bytes_eq x name))))

  pub called_there : (os : List Loaded) (x : List ℕ) → is_among (places_of os) real ≡ true → list_any (is_called x) (map also os) ≡ (list_any (is_called x) os || bytes_eq x name)
  called_there os x there = called_with os x ∙ ap (λ b. list_any (is_called x) os || (b && bytes_eq x name)) there

-- ---- the object with a number

-- a text at an index of a list is among the list's texts
pub among_at : (xs : List (List ℕ)) (i : ℕ) → i < length xs → is_among xs (get_or xs i []) ≡ true
among_at [] i within = absurd (omega (arith, within))
among_at (x ∷ xs) zero within = rw ((bytes_eq-Decides x x).1 refl) refl
among_at (x ∷ xs) (suc i) within = ap (λ b. bytes_eq (get_or xs i []) x || b) (among_at xs i (omega (arith, within))) ∙ or_true (bytes_eq (get_or xs i []) x)

all_at : {X : Type 0} (P : X → Type 0) (xs : List X) (i : ℕ) (d : X) → AllByRecursion P xs → i < length xs → P (get_or xs i d)
all_at P [] i d all within = absurd (omega (arith, within))
all_at P (x ∷ xs) zero d all within = all.0
all_at P (x ∷ xs) (suc i) d all within = all_at P xs i d all.1 (omega (arith, within))

differ : (x y : List ℕ) → bytes_eq x y ≡ false → bytes_eq y x ≡ false
differ x y other = by_test (bytes_eq y x)
    (λ same. absurd (let e : bytes_eq x y ≡ true = (bytes_eq-Decides x y).1 (sym ((bytes_eq-Decides y x).0 same)) in cc))
    (λ h. h)

module _ (name : List ℕ) where
  -- the other objects keep their names
  others_same : (real : List ℕ) (os : List Loaded) → AllByRecursion (λ y. bytes_eq real y ≡ false) (places_of os) → map (named real name) os ≡ os
  others_same real [] all = refl
  others_same real (o ∷ os) all = rw (all.0, others_same real os all.1) refl

  -- the object with this number also gets the name
  pub named_at : (os : List Loaded) (i : ℕ) (d : Member) → IsDistinct bytes_eq (places_of os) → i < length os → list_any (is_called name) os ≡ false →
      set (map member_of os) i (with_last_name (get_or (map member_of os) i d) name) ≡ map member_of (map (named (get_or (places_of os) i []) name) os)
  unfolding IsDistinct
  named_at [] i d distinct within new = absurd (omega (arith, within))
  named_at (o ∷ os) zero d distinct within new = rw ((bytes_eq-Decides o.real o.real).1 refl, or_first (is_called name o) (list_any (is_called name) os) new, others_same o.real os distinct.0) refl
  named_at (o ∷ os) (suc i) d distinct within new =
      let here : i < length os = omega (arith, within) in
      let len : length (places_of os) ≡ length os = length-map os (λ (o : Loaded). o.real) in
      let there : i < length (places_of os) = omega (arith, here, len) in
      rw (differ o.real (get_or (places_of os) i []) (all_at (λ y. bytes_eq o.real y ≡ false) (places_of os) i [] distinct.0 there))
      (ap (λ l. member_of o ∷ l) (named_at os i d distinct.1 here (or_second (is_called name o) (list_any (is_called name) os) new)))

-- ---- names that are added one after another

among_drop : (xs : List (List ℕ)) (i : ℕ) (x : List ℕ) → i < length xs → is_among (drop i xs) x ≡ (bytes_eq x (get_or xs i []) || is_among (drop (i + 1) xs) x)
among_drop [] i x within = absurd (omega (arith, within))
among_drop (y ∷ xs) zero x within = refl
among_drop (y ∷ xs) (suc i) x within =
    let next : suc i + 1 ≡ suc (i + 1) = omega arith in
    rw next (among_drop xs i x (omega (arith, within)))

pub among_more : (all new names : List (List ℕ)) (name : List ℕ) (i : ℕ) (x : List ℕ) → i < length names → get_or names i [] ≡ name → new ≡ cond (is_among all name) all (all ++ name ∷ []) →
    (is_among new x || is_among (drop (i + 1) names) x) ≡ (is_among all x || is_among (drop i names) x)
among_more all new names name i x within is added =
    ap (λ l. is_among l x || is_among (drop (i + 1) names) x) added
    ∙ ap (λ b. b || is_among (drop (i + 1) names) x) (among_inserted all name x)
    ∙ or_assoc (is_among all x) (bytes_eq x name) (is_among (drop (i + 1) names) x)
    ∙ ap (λ b. is_among all x || b) (ap (λ n. bytes_eq x n || is_among (drop (i + 1) names) x) (sym is) ∙ sym (among_drop names i x within))
