-- The hosts of the texts that were met.
use Rattle.std.proofs.Common.{◌≡◌, ℕ, ◌+◌, ◌<◌, ◌≤◌, List, [], ◌∷◌, ◌++◌, length, map, reverse, set, Option, Some, None, ⊎_elim, sym, ap, subst, ◌∙◌, arith, ltb}
use Rattle.std.proofs.lemmas.Bool.Decides.{nat_tests}
use Rattle.std.proofs.lemmas.List.{length-map, reverse-append}
use Rattle.std.proofs.lemmas.Option.{slice_get-map, slice_get_within}
use Rattle.std.specs.List.{slice_get}
use Rattle.std.specs.Option.{option_map, unwrap_or}
use Rattle.lib_types.proofs.SortedPairs.{by_test}
use Rattle.string_pool.specs.Backward.{AreBackward}
use Rattle.string_pool.specs.Hosts.{AreDifferent, host_of, left_below, least_above}
use Rattle.string_pool.specs.declared.backward.Numbered.{Numbered}
use Rattle.string_pool.proofs.Gets.{get_same, get_set, get_set_same, get_there, same_gets}
use Rattle.string_pool.proofs.Stack.{Before, IsStack, host_is, next_stack}

abbrev pub AreHosted : List (List ℕ) → List Numbered → ℕ → List ℕ → Type 0
AreHosted ts items count hosts = (y : Numbered) → Before items count y → slice_get hosts y.number ≡ Some (host_of ts y.text.now)

module _ (ts : List (List ℕ)) (items : List Numbered) (apart : AreDifferent ts) (back : AreBackward ts items) where
  module _ (count : ℕ) (x : Numbered) (here : slice_get items count ≡ Some x) (stack : List Numbered) (h : IsStack ts items count stack)
      (found : Option ℕ) (is : found ≡ least_above x.text.now None stack) (host : ℕ) (host_given : host ≡ unwrap_or found x.number) where
    host_whole : host ≡ unwrap_or (least_above x.text.now None stack) x.number
    host_whole = host_given ∙ ap (λ o. unwrap_or o x.number) is

    host_right : host ≡ host_of ts x.text.now
    host_right = host_whole ∙ host_is ts items apart back count x here stack h

    pub stack_right : (kept new : List Numbered) → reverse kept ≡ left_below x.text.now stack → new ≡ kept ++ record { text = x.text; number = host } ∷ [] → IsStack ts items (count + 1) (reverse new)
    stack_right kept new left pushed =
        let top : reverse new ≡ record { text = x.text; number = host } ∷ left_below x.text.now stack = ap reverse pushed ∙ reverse-append kept (record { text = x.text; number = host } ∷ []) ∙ ap (λ (xs : List Numbered). record { text = x.text; number = host } ∷ xs) left in
        subst (IsStack ts items (count + 1)) (sym (top ∙ ap (λ n. record { text = x.text; number = n } ∷ left_below x.text.now stack) host_whole)) (next_stack ts items apart back count x here stack h)

    pub hosts_right : (hosts : List ℕ) → length hosts ≡ length ts → AreHosted ts items count hosts → AreHosted ts items (count + 1) (set hosts x.number host)
    hosts_right hosts many old y before = by_test (ltb before.index count)
        (λ less.
        let known = old y (record { index = before.index; less = grind (arith, nat_tests, less); there = before.there }) in
        ⊎_elim (λ same. same)
        (λ written.
        let at : slice_get ts x.number ≡ Some y.text.now = ap (slice_get ts) (sym written.0) ∙ (back.numbered before.index y before.there).is in
        let text : x.text.now ≡ y.text.now = get_same ts x.number x.text.now y.text.now (back.numbered count x here).is at in
        written.1 ∙ ap (λ n. Some n) (host_right ∙ ap (host_of ts) text))
        (get_set hosts x.number y.number host (host_of ts y.text.now) known))
        (λ more.
        let at : before.index ≡ count = grind (arith, nat_tests, more, before.less) in
        let there : slice_get items count ≡ Some y = subst (λ i. slice_get items i ≡ Some y) at before.there in
        let same : x ≡ y = get_same items count x y here there in
        let within : x.number < length hosts = omega (arith, many, slice_get_within ts x.number x.text.now (back.numbered count x here).is) in
        subst (λ (z : Numbered). slice_get (set hosts x.number host) z.number ≡ Some (host_of ts z.text.now)) same (get_set_same hosts x.number host within ∙ ap (λ n. Some n) host_right))

  -- after the last item all texts have their hosts
  pub all_hosted : (count : ℕ) (hosts : List ℕ) → length items ≤ count → length hosts ≡ length ts → AreHosted ts items count hosts → hosts ≡ map (host_of ts) ts
  all_hosted count hosts all many known = same_gets hosts (map (host_of ts) ts) (many ∙ sym (length-map ts (host_of ts))) (λ k y there.
      let within : k < length ts = omega (arith, slice_get_within (map (host_of ts) ts) k y there, length-map ts (host_of ts)) in
      let t = get_there ts k within in
      let item = back.each k t.0 t.1 in
      let at = known item.item (record { index = item.index; less = omega (arith, slice_get_within items item.index item.item item.there, all); there = item.there }) in
      let value : Some (host_of ts t.0) ≡ Some y = sym (slice_get-map (host_of ts) ts k ∙ ap (option_map (host_of ts)) t.1) ∙ there in
      subst (λ n. slice_get hosts n ≡ Some y) item.number_is (at ∙ ap (λ (u : List ℕ). Some (host_of ts u)) item.text_is ∙ value))
