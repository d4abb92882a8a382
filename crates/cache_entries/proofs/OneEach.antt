-- Each soname has at most one library, if each name in a sorted list gives at most one library with this soname.
use Rattle.std.proofs.Common.{◌≡◌, ℕ, true, false, cond, ◌||◌, List, [], ◌∷◌, Bool, refl, ap, sym, subst, ◌∙◌, Option, Some, None}
use Rattle.std.proofs.lemmas.Map.Keys.{sorted_head, sorted_tail}
use Rattle.std.proofs.lemmas.Slice.Eq.{bytes_eq-Decides}
use Rattle.std.specs.Cmp.Lexicographic.{slice_cmp}
use Rattle.std.specs.List.{cons_option, filter, filter_map, find, slice_get}
use Rattle.std.specs.Ordering.{nat_cmp}
use Rattle.std.specs.Str.{bytes_eq}
use Rattle.lib_types.proofs.SortedPairs.{by_test}
use Rattle.string_pool.proofs.Members.{AreSorted, is_in, none_below}
use Rattle.place_libraries.specs.Best.{has_soname}
use Rattle.place_libraries.specs.Library.{Library}
use Rattle.lib_types.proofs.SameTexts.{turned}

-- the first item that passes is the first of the filtered items
pub find_first : {X : Type 0} (p : X → Bool) (xs : List X) → find p xs ≡ slice_get (filter p xs) 0
find_first p [] = refl
find_first p (x ∷ xs) = elim (p x) as (λ b. cond b (Some x) (find p xs) ≡ slice_get (cond b (x ∷ filter p xs) (filter p xs)) 0) [ true ↦ refl | false ↦ find_first p xs ]

module _ (f : List ℕ → Option Library) (own : (name : List ℕ) (library : Library) → f name ≡ Some library → library.soname ≡ name) (soname : List ℕ) where
  abbrev left : List (List ℕ) → List Library
  left names = filter (has_soname soname) (filter_map f names)

  pub none_left : (names : List (List ℕ)) → is_in names soname ≡ false → left names ≡ []
  none_left [] h = refl
  none_left (name ∷ names) h = by_test (bytes_eq soname name)
      (λ e. let z : true ≡ false = sym (ap (λ b. b || is_in names soname) e) ∙ h in absurd (cc))
      (λ e.
      let others = none_left names (sym (ap (λ b. b || is_in names soname) e) ∙ h) in
      elim (f name) as (λ o. f name ≡ o → filter (has_soname soname) (cons_option o (filter_map f names)) ≡ []) [
        | None ↦ λ g. others
        | Some library ↦ λ g.
            let other : bytes_eq library.soname soname ≡ false = ap (λ q. bytes_eq q soname) (own name library g) ∙ sym (turned name soname) ∙ e in
            rw other others
      ] refl)

  pub one_left : (names : List (List ℕ)) → AreSorted names → is_in names soname ≡ true → left names ≡ cons_option (f soname) []
  one_left [] s h = absurd (cc)
  one_left (name ∷ names) s h = by_test (bytes_eq soname name)
      (λ e.
      let same : soname ≡ name = (bytes_eq-Decides soname name).0 e in
      let others = none_left names (subst (λ (q : List ℕ). is_in names q ≡ false) (sym same) (none_below name names (sorted_head (slice_cmp nat_cmp) name names s))) in
      elim (f name) as (λ o. f name ≡ o → filter (has_soname soname) (cons_option o (filter_map f names)) ≡ cons_option (f soname) []) [
        | None ↦ λ g. others ∙ sym (ap (λ o. cons_option o []) (ap f same ∙ g))
        | Some library ↦ λ g.
            let here : bytes_eq library.soname soname ≡ true = ap (λ q. bytes_eq q soname) (own name library g) ∙ sym (turned name soname) ∙ e in
            rw here (ap (λ ls. library ∷ ls) others ∙ sym (ap (λ o. cons_option o []) (ap f same ∙ g)))
      ] refl)
      (λ e.
      let others = one_left names (sorted_tail (slice_cmp nat_cmp) name names s) (sym (ap (λ b. b || is_in names soname) e) ∙ h) in
      elim (f name) as (λ o. f name ≡ o → filter (has_soname soname) (cons_option o (filter_map f names)) ≡ cons_option (f soname) []) [
        | None ↦ λ g. others
        | Some library ↦ λ g.
            let other : bytes_eq library.soname soname ≡ false = ap (λ q. bytes_eq q soname) (own name library g) ∙ sym (turned name soname) ∙ e in
            rw other others
      ] refl)
