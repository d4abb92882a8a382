-- The directories that were already added, and the remaining ones.
use Rattle.std.proofs.Common.{◌≡◌, ℕ, Bool, true, false, cond, not, ◌&&◌, ◌||◌, List, [], ◌∷◌, ◌++◌, append_assoc, refl, ap, sym, ◌∙◌, Some}
use Rattle.std.proofs.lemmas.List.{append-nil}
use Rattle.std.proofs.lemmas.List.Folds.{list_any-append}
use Rattle.std.proofs.lemmas.Slice.Eq.{bytes_eq-Decides}
use Rattle.std.specs.List.{filter, filter_map, flat_map, list_any}
use Rattle.std.specs.Str.{bytes_eq}
use Rattle.indexmap.specs.IndexSet.{insert_key}
use Rattle.lib_types.proofs.SortedPairs.{by_test}
use Rattle.image_tree.specs.Tree.{Nodes}
use Rattle.hwcap_dirs.specs.Gathering.{was_met, new_places, places_left, all_places}
use Rattle.hwcap_dirs.specs.Places.{Led, led_at, firsts, leads_elsewhere, places_of, dir_at}
use Rattle.hwcap_dirs.specs.declared.kinds.Place.{Place}

module _ {A : Type 0} (p q r : A → Bool) (same : (x : A) → (q x && p x) ≡ r x) where
  filtered : (x : A) (kept rest : List A) (a b c : Bool) → (b && a) ≡ c → a ≡ p x → filter p kept ≡ rest → filter p (cond b (x ∷ kept) kept) ≡ cond c (x ∷ rest) rest
  filtered x kept rest a true c e h k = rw (← h) (rw e (ap (λ xs. cond c (x ∷ xs) xs) k))
  filtered x kept rest a false c e h k = rw (← e) k

  pub filtered_again : (xs : List A) → filter p (filter q xs) ≡ filter r xs
  filtered_again [] = refl
  filtered_again (x ∷ xs) = filtered x (filter q xs) (filter r xs) (p x) (q x) (r x) (same x) refl (filtered_again xs)

abbrev fresh : List (List ℕ) → Led → Bool
fresh met led = not (was_met met led)

differ : (a b : Bool) → (not a && not b) ≡ not (b || (a || false))
differ true true = refl
differ true false = refl
differ false true = refl
differ false false = refl

module _ (met : List (List ℕ)) (led : Led) where
  known : was_met met led ≡ true → (x : Led) → (leads_elsewhere led x && fresh met x) ≡ fresh met x
  known e x = by_test (bytes_eq x.1 led.1)
      (λ same.
      let there : x.1 ≡ led.1 = (bytes_eq-Decides x.1 led.1).0 same in
      let here : was_met met x ≡ true = ap (λ dir. list_any (bytes_eq dir) met) there ∙ e in
      rw (same, here) refl)
      (λ other. rw other refl)

  unknown : (x : Led) → (leads_elsewhere led x && fresh met x) ≡ fresh (met ++ led.1 ∷ []) x
  unknown x = differ (bytes_eq x.1 led.1) (was_met met x) ∙ ap not (sym (list_any-append (bytes_eq x.1) met (led.1 ∷ [])))

module _ (t : Nodes) where
  pub new_here : (met : List (List ℕ)) (places : List Place) (led : Led) → was_met met led ≡ false → places ++ places_of t led ≡ places ++ new_places t met led
  new_here met places led e = rw e refl

  pub old_here : (met : List (List ℕ)) (places : List Place) (led : Led) → was_met met led ≡ true → places ≡ places ++ new_places t met led
  old_here met places led e = rw e (sym (append-nil places))

  -- one more directory: either it was already added, or its search directories come first
  more : (met : List (List ℕ)) (led : Led) (leds : List Led) (b : Bool) → was_met met led ≡ b →
      cond b [] (places_of t led) ++ places_left t (cond b met (met ++ led.1 ∷ [])) leds ≡ places_left t met (led ∷ leds)
  more met led leds true e =
      rw e (ap (flat_map (places_of t)) (sym (filtered_again (fresh met) (leads_elsewhere led) (fresh met) (known met led e) (firsts leds))))
  more met led leds false e =
      rw e (ap (λ ls. places_of t led ++ flat_map (places_of t) ls)
      (sym (filtered_again (fresh met) (leads_elsewhere led) (fresh (met ++ led.1 ∷ [])) (unknown met led) (firsts leds))))

  pub one_more : (met : List (List ℕ)) (places : List Place) (text real : List ℕ) (texts : List (List ℕ)) → dir_at t text ≡ Some real →
      all_places t (insert_key bytes_eq met real) (places ++ new_places t met (text, real)) texts ≡ all_places t met places (text ∷ texts)
  one_more met places text real texts e =
      rw e (append_assoc places _ _ ∙ ap (λ ps. places ++ ps) (more met (text, real) (filter_map (led_at t) texts) (was_met met (text, real)) refl))

  all_fresh : (leds : List Led) → filter (fresh []) leds ≡ leds
  all_fresh [] = refl
  all_fresh (led ∷ leds) = ap (λ rest. led ∷ rest) (all_fresh leds)

  pub from_none : (texts : List (List ℕ)) → all_places t [] [] texts ≡ flat_map (places_of t) (firsts (filter_map (led_at t) texts))
  from_none texts = ap (flat_map (places_of t)) (all_fresh (firsts (filter_map (led_at t) texts)))
