-- A text is terminated in the file exactly if it starts before the end of the last NUL.
use Rattle.std.proofs.Common.{◌≡◌, ℕ, zero, suc, ◌+◌, ◌-◌, ◌<◌, ◌≤◌, ◌||◌, Bool, true, false, nat_lt, List, [], ◌∷◌, length, drop, get_or, slice_index, refl, ap, ◌∙◌, true≢false, arith, get_or-drop, length-drop}
use Rattle.std.proofs.lemmas.Bool.Decides.{nat_tests}
use Rattle.std.proofs.lemmas.List.{drop-drop}
use Rattle.std.specs.List.{list_any}
use Rattle.cache_reader.specs.Cache.{is_nul, is_ended}
use Rattle.cache_reader.specs.Checks.{EndsAt}

-- If the bytes have no NUL, their suffixes have none.
none_after : (k : ℕ) (xs : List ℕ) → list_any is_nul xs ≡ false → list_any is_nul (drop k xs) ≡ false
none_after zero xs h = h
none_after (suc k) [] h = h
none_after (suc k) (x ∷ xs) h = none_after k xs (without (is_nul x) (list_any is_nul xs) h)
  where
    without : (a b : Bool) → (a || b) ≡ false → b ≡ false
    without true b h = absurd (true≢false h)
    without false b h = h

-- If the byte at an index is a NUL, the bytes have a NUL.
one_after : (k : ℕ) (xs : List ℕ) → k < length xs → is_nul (slice_index xs k) ≡ true → list_any is_nul xs ≡ true
one_after k [] h e = absurd (omega arith)
one_after zero (x ∷ xs) h e = rw e refl
one_after (suc k) (x ∷ xs) h e = let rest = one_after k xs (omega arith) e in elim (is_nul x) as (λ b. (b || list_any is_nul xs) ≡ true) [
  | true ↦ refl
  | false ↦ rest
]

pub ends_at : (bytes : List ℕ) (end : ℕ) → end ≤ length bytes → list_any is_nul (drop end bytes) ≡ false
    → (0 < end → is_nul (slice_index bytes (end - 1)) ≡ true) → EndsAt bytes end
ends_at bytes end within none last = record { within = within; texts = λ at. by at (nat_lt at end) refl }
  where
    by : (at : ℕ) (b : Bool) → nat_lt at end ≡ b → is_ended bytes at ≡ b
    by at true h =
        let before : at < end = grind (arith, nat_tests, h) in
        let nul = last (omega arith) in
        let there : get_or (drop at bytes) (end - 1 - at) 0 ≡ get_or bytes (end - 1) 0 =
        get_or-drop at bytes (end - 1 - at) 0 ∙ ap (λ k. get_or bytes k 0) (omega arith) in
        one_after (end - 1 - at) (drop at bytes) (omega (arith, length-drop at bytes)) (rw there nul)
    by at false h =
        let following : end ≤ at = grind (arith, nat_tests, h) in
        let e : end + (at - end) ≡ at = omega arith in
        let part = none_after (at - end) (drop end bytes) none in
        rw (← e) (rw (← drop-drop {A = ℕ} (at - end) end bytes) part)
