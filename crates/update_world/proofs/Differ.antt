-- Updaters with different tags.
use Rattle.std.proofs.Common.{◌≡◌, ◌+◌, ◌<◌, ◌||◌, ℕ, zero, suc, Bool, true, false, List, [], ◌∷◌, ◌++◌, length, drop, get_or, not, drop-cons, Some, None, is_some, refl, sym, ap, ◌∙◌, eqb, slice_get, nat_lt, ◌⊎◌, inl, inr, arith, if◌then◌else◌, unwrap_or, le_of_suc-le-suc, not-suc-le-zero}
use Rattle.std.specs.List.{list_any}
use Rattle.std.proofs.lemmas.Bool.{false≢true}
use Rattle.std.proofs.lemmas.Bool.Decides.{nat_tests}
use Rattle.std.proofs.lemmas.List.Folds.{list_any-append}
use Rattle.update_world.specs.declared.post.Post.{Post}
use Rattle.update_world.specs.Turns.{repeated, repeated_among}

left_false : (a b : Bool) → (a || b) ≡ false → a ≡ false
left_false false b e = refl
left_false true b e = absurd (false≢true (sym e))

right_false : (a b : Bool) → (a || b) ≡ false → b ≡ false
right_false false b e = e
right_false true b e = absurd (false≢true (sym e))

same_post : (p q : Post) → Some p ≡ Some q → p ≡ q
same_post p q e = ap (λ o. unwrap_or o p) e

-- no updater has one of these tags
none_among : (tags : List ℕ) (posts : List Post) → repeated_among tags posts ≡ None → (j : ℕ) (q : Post) → slice_get posts j ≡ Some q → list_any (λ t. eqb q.tag.0 t) tags ≡ false
none_among tags [] none j q e = absurd (false≢true (ap is_some e))
none_among tags (x ∷ xs) none j q e = by (list_any (λ t. eqb x.tag.0 t) tags) refl none j e (λ none j e. none_among (tags ++ x.tag.0 ∷ []) xs none j q e)
  where
    by : (b : Bool) → list_any (λ t. eqb x.tag.0 t) tags ≡ b → (if b then Some x.tag else repeated_among (tags ++ x.tag.0 ∷ []) xs) ≡ None → (j : ℕ) → slice_get (x ∷ xs) j ≡ Some q
        → (repeated_among (tags ++ x.tag.0 ∷ []) xs ≡ None → (j : ℕ) → slice_get xs j ≡ Some q → list_any (λ t. eqb q.tag.0 t) (tags ++ x.tag.0 ∷ []) ≡ false)
        → list_any (λ t. eqb q.tag.0 t) tags ≡ false
    by true is none j e rest = absurd (false≢true (sym (ap is_some none)))
    by false is none zero e rest = ap (λ (p : Post). list_any (λ t. eqb p.tag.0 t) tags) (sym (same_post x q e)) ∙ is
    by false is none (suc j) e rest = left_false _ _ (sym (list_any-append (λ t. eqb q.tag.0 t) tags (x.tag.0 ∷ [])) ∙ rest none j e)

later_differ : (tags : List ℕ) (posts : List Post) → repeated_among tags posts ≡ None → (i j : ℕ) (p q : Post) → i < j → slice_get posts i ≡ Some p → slice_get posts j ≡ Some q → eqb q.tag.0 p.tag.0 ≡ false
later_differ tags [] none i j p q less is e = absurd (false≢true (ap is_some e))
later_differ tags (x ∷ xs) none i zero p q less is e = absurd (not-suc-le-zero less)
later_differ tags (x ∷ xs) none i (suc j) p q less is e = by (list_any (λ t. eqb x.tag.0 t) tags) none i less is (λ none i less is. later_differ (tags ++ x.tag.0 ∷ []) xs none i j p q less is e)
  where
    by : (b : Bool) → (if b then Some x.tag else repeated_among (tags ++ x.tag.0 ∷ []) xs) ≡ None → (i : ℕ) → i < suc j → slice_get (x ∷ xs) i ≡ Some p
        → (repeated_among (tags ++ x.tag.0 ∷ []) xs ≡ None → (i : ℕ) → i < j → slice_get xs i ≡ Some p → eqb q.tag.0 p.tag.0 ≡ false) → eqb q.tag.0 p.tag.0 ≡ false
    by true none i less is rest = absurd (false≢true (sym (ap is_some none)))
    by false none zero less is rest =
        ap (λ (p : Post). eqb q.tag.0 p.tag.0) (sym (same_post x p is))
        ∙ left_false _ _ (right_false _ _ (sym (list_any-append (λ t. eqb q.tag.0 t) tags (x.tag.0 ∷ [])) ∙ none_among (tags ++ x.tag.0 ∷ []) xs none j q e))
    by false none (suc i) less is rest = rest none i (le_of_suc-le-suc less) is

-- whether the first of the remaining updaters has one of these tags
module _ (tags : List ℕ) (posts : List Post) (k : ℕ) (post : Post) (within : k < length posts) (is : post ≡ get_or posts k post) (added : Bool) (new : added ≡ not (list_any (λ t. eqb post.tag.0 t) tags)) where
  parted : repeated_among tags (drop k posts) ≡ (if list_any (λ t. eqb post.tag.0 t) tags then Some post.tag else repeated_among (tags ++ post.tag.0 ∷ []) (drop (suc k) posts))
  parted = ap (repeated_among tags) (drop-cons posts k post within ∙ ap (λ (p : Post). p ∷ drop (suc k) posts) (sym is))

  turned : (b c : Bool) → b ≡ not c → c ≡ not b
  turned b true e = ap not (sym e)
  turned b false e = ap not (sym e)

  pub repeated_here : added ≡ false → Some post.tag ≡ repeated_among tags (drop k posts)
  repeated_here e = sym (parted ∙ ap (λ b. if b then Some post.tag else repeated_among (tags ++ post.tag.0 ∷ []) (drop (suc k) posts)) (turned _ _ new ∙ ap not e))

  pub repeated_later : added ≡ true → repeated_among (tags ++ post.tag.0 ∷ []) (drop (k + 1) posts) ≡ repeated_among tags (drop k posts)
  repeated_later e = ap (λ n. repeated_among (tags ++ post.tag.0 ∷ []) (drop n posts)) (let one : k + 1 ≡ suc k = omega (arith) in one) ∙ sym (parted ∙ ap (λ b. if b then Some post.tag else repeated_among (tags ++ post.tag.0 ∷ []) (drop (suc k) posts)) (turned _ _ new ∙ ap not e))

pub tags_differ : (posts : List Post) → repeated posts ≡ None → (i j : ℕ) (p q : Post) → eqb i j ≡ false → slice_get posts i ≡ Some p → slice_get posts j ≡ Some q → eqb q.tag.0 p.tag.0 ≡ false
tags_differ posts none i j p q differ is e = elim (either i j differ (nat_lt i j) refl) [
  | inl less ↦ later_differ [] posts none i j p q less is e
  | inr more ↦ turned p.tag.0 q.tag.0 (later_differ [] posts none j i q p more e is)
]
  where
    either : (i j : ℕ) → eqb i j ≡ false → (b : Bool) → nat_lt i j ≡ b → (i < j) ⊎ (j < i)
    either i j e true less = inl (grind (arith, nat_tests, less))
    either i j e false less = inr (grind (arith, nat_tests, e, less))

    turned : (a b : ℕ) → eqb a b ≡ false → eqb b a ≡ false
    turned a b e = grind (arith, nat_tests, e)
