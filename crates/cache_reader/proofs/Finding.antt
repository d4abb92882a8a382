-- Tests of the items from an index on.
use Rattle.std.proofs.Common.{◌≡◌, ℕ, ◌+◌, ◌-◌, ◌<◌, Bool, true, false, List, [], ◌∷◌, map, Some, None, refl, sym, ap, ◌∙◌, true≢false, arith, find}
use Rattle.std.specs.List.{range_with_len, list_all}
use Rattle.cache_reader.specs.Checks.{items_from}
use Rattle.cache_reader.proofs.Ranges.{range_from}

item_first : {X : Type 0} (f : ℕ → X) (i n : ℕ) → i < n → items_from f i n ≡ f i ∷ items_from f (i + 1) n
item_first f i n h = rw (range_from i n h) refl

no_items : {X : Type 0} (f : ℕ → X) (i n : ℕ) → n ≡ i → items_from f i n ≡ []
no_items f i n h = let e : n - i ≡ 0 = omega arith in rw e refl

all_items : {X : Type 0} (f : ℕ → X) (n : ℕ) → items_from f 0 n ≡ map f (range_with_len 0 n)
all_items f n = let e : n - 0 ≡ n = omega arith in rw e refl

-- ---- the first item that passes a test

pub passed_over : {X : Type 0} (p : X → Bool) (f : ℕ → X) (i n : ℕ) → i < n → p (f i) ≡ false → find p (items_from f i n) ≡ find p (items_from f (i + 1) n)
passed_over p f i n h e = rw (item_first f i n h) (rw e refl)

pub found : {X : Type 0} (p : X → Bool) (f : ℕ → X) (i n : ℕ) → i < n → p (f i) ≡ true → find p (items_from f i n) ≡ Some (f i)
found p f i n h e = rw (item_first f i n h) (rw e refl)

pub not_found : {X : Type 0} (p : X → Bool) (f : ℕ → X) (i n : ℕ) → n ≡ i → find p (items_from f i n) ≡ None
not_found p f i n h = rw (no_items f i n h) refl

pub to_find : {X : Type 0} (p : X → Bool) (f : ℕ → X) (n : ℕ) → find p (items_from f 0 n) ≡ find p (map f (range_with_len 0 n))
to_find p f n = ap (find p) (all_items f n)

-- ---- whether all items pass a test

pub holds : {X : Type 0} (p : X → Bool) (f : ℕ → X) (i n : ℕ) → i < n → p (f i) ≡ true → list_all p (items_from f i n) ≡ list_all p (items_from f (i + 1) n)
holds p f i n h e = rw (item_first f i n h) (rw e refl)

pub fails : {X : Type 0} (p : X → Bool) (f : ℕ → X) (i n : ℕ) → i < n → p (f i) ≡ false → list_all p (items_from f i n) ≡ false
fails p f i n h e = rw (item_first f i n h) (rw e refl)

pub all_hold : {X : Type 0} (p : X → Bool) (f : ℕ → X) (i n : ℕ) → n ≡ i → list_all p (items_from f i n) ≡ true
all_hold p f i n h = rw (no_items f i n h) refl

pub to_hold : {X : Type 0} (p : X → Bool) (f : ℕ → X) (n : ℕ) → list_all p (items_from f 0 n) ≡ list_all p (map f (range_with_len 0 n))
to_hold p f n = ap (list_all p) (all_items f n)

-- If all items pass a test, an item found by another test passes it too.
pub found_passes : {X : Type 0} (p q : X → Bool) (xs : List X) (x : X) → list_all p xs ≡ true → find q xs ≡ Some x → p x ≡ true
found_passes p q [] x h e = cc
found_passes p q (y ∷ ys) x h e = by (p y) (q y) refl refl (found_passes p q ys x)
  where
    by : (a b : Bool) → p y ≡ a → q y ≡ b → (list_all p ys ≡ true → find q ys ≡ Some x → p x ≡ true) → p x ≡ true
    by false b first second rest = absurd (true≢false (sym h ∙ rw first refl))
    by true true first second rest =
        let here : Some y ≡ Some x = sym (rw second refl) ∙ e in
        let same : y ≡ x = cc in
        rw (← same) first
    by true false first second rest = rest (sym (rw first refl) ∙ h) (sym (rw second refl) ∙ e)
