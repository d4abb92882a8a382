-- The first item that passes a test.
use Rattle.std.proofs.Common.{◌≡◌, ◌<◌, ℕ, zero, suc, ◌+◌, Bool, true, false, cond, nat_lt, List, [], ◌∷◌, length, get_or, Option, Some, None, option_map, refl, sym, ap, ◌∙◌, one-add, arith}
use Prim.Native.Nat.compare
use lib.Dec.{is_le}
use Rattle.std.proofs.lemmas.Bool.Decides.{nat_tests}
use Rattle.std.specs.List.{position, position_or_len}
use Rattle.std.specs.Option.{option_or}
use Rattle.cache_reader.specs.Cache.{CachedEntry}
use Rattle.std.specs.Prelude.{◌==◌}
use Rattle.std.specs.Option.{is_some}
use Rattle.std.specs.Str.{bytes_eq}
use Rattle.cache_layout.specs.Layout.{is_named}
use Rattle.cache_lookup.specs.Scan.{is_for, has_no_hwcap, uses}
use Rattle.cache_lookup.specs.Searches.{IsTied}

pub shifted : (m n : ℕ) → nat_lt (suc m) (suc n) ≡ nat_lt m n
shifted m n = ap is_le (compare.suc-suc (suc m) n)

pub position-cons : {X : Type 0} (p : X → Bool) (x : X) (xs : List X) → position p (x ∷ xs) ≡ cond (p x) (Some 0) (option_map suc (position p xs))
position-cons {X} p x xs = by (p x) refl
  where
    following : (n : ℕ) → cond (nat_lt (1 + n) (suc (length xs))) (Some (1 + n)) None ≡ option_map suc (cond (nat_lt n (length xs)) (Some n) None)
    following n = rw (one-add n, shifted n (length xs)) (step (nat_lt n (length xs)))
      where
        step : (b : Bool) → cond b (Some (suc n)) None ≡ option_map suc (cond b (Some n) None)
        step true = refl
        step false = refl

    by : (b : Bool) → p x ≡ b → position p (x ∷ xs) ≡ cond b (Some 0) (option_map suc (position p xs))
    by true e = let first : nat_lt 0 (suc (length xs)) ≡ true = grind (arith, nat_tests) in rw (e, first) refl
    by false e = rw e (following (position_or_len p xs))

-- the index of the first item that passes the test
pub first_is : {X : Type 0} (p : X → Bool) (xs : List X) (i : ℕ) → i < length xs → ((d : X) → p (get_or xs i d) ≡ true) → ((k : ℕ) (d : X) → k < i → p (get_or xs k d) ≡ false) → position p xs ≡ Some i
first_is p [] i h passes fails = absurd (omega arith)
first_is p (x ∷ xs) zero h passes fails = position-cons p x xs ∙ rw (passes x) refl
first_is p (x ∷ xs) (suc i) h passes fails =
    position-cons p x xs ∙ rw (fails 0 x (omega arith), first_is p xs i (omega arith) passes (λ k d less. fails (suc k) d (omega arith))) refl

-- no item passes the test
pub none_is : {X : Type 0} (p : X → Bool) (xs : List X) → ((k : ℕ) (d : X) → k < length xs → p (get_or xs k d) ≡ false) → position p xs ≡ None
none_is p [] fails = refl
none_is p (x ∷ xs) fails = position-cons p x xs ∙ rw (fails 0 x (omega arith), none_is p xs (λ k d less. fails (suc k) d (omega arith))) refl

-- the use that an entry is for, from the hwcaps names that it is for
pub use_is : (entry : CachedEntry) (p : List ℕ → Bool) → ((c : List ℕ) → is_for c entry ≡ p c) → (caps : List (List ℕ))
    → position (λ fits. fits entry) (uses caps) ≡ option_or (position p caps) (cond (has_no_hwcap entry) (Some (length caps)) None)
use_is entry p same [] = position-cons (λ fits. fits entry) has_no_hwcap []
use_is entry p same (c ∷ caps) =
    position-cons (λ fits. fits entry) (is_for c) (uses caps)
    ∙ rw (same c, use_is entry p same caps, position-cons p c caps) (by (p c) (position p caps) (has_no_hwcap entry))
  where
    by : (b : Bool) (o : Option ℕ) (plain : Bool) → cond b (Some 0) (option_map suc (option_or o (cond plain (Some (length caps)) None))) ≡ option_or (cond b (Some 0) (option_map suc o)) (cond plain (Some (suc (length caps))) None)
    by true o plain = refl
    by false (Some i) plain = refl
    by false None true = refl
    by false None false = refl

-- an entry with a hwcaps name is only for this name
pub named_use : (entry : CachedEntry) (text : List ℕ) → IsTied entry → entry.cap ≡ Some text → (caps : List (List ℕ))
    → position (λ c. bytes_eq c text) caps ≡ position (λ fits. fits entry) (uses caps)
named_use entry text tied is caps =
    let named : is_named entry.hwcap ≡ true = sym tied ∙ ap is_some is in
    let same : (c : List ℕ) → is_for c entry ≡ bytes_eq c text = λ c. rw (named, is) refl in
    let plain : has_no_hwcap entry ≡ false = not_plain entry.hwcap named in
    sym (use_is entry (λ c. bytes_eq c text) same caps ∙ rw plain (or_none (position (λ c. bytes_eq c text) caps)))
  where
    or_none : (o : Option ℕ) → option_or o None ≡ o
    or_none None = refl
    or_none (Some i) = refl

    not_plain : (hwcap : ℕ) → is_named hwcap ≡ true → (hwcap == 0) ≡ false
    not_plain zero e = cc
    not_plain (suc n) e = grind (arith, nat_tests)

-- an entry without a hwcaps name is for none of these names
pub other_use : (entry : CachedEntry) → IsTied entry → entry.cap ≡ None → (caps : List (List ℕ))
    → cond (has_no_hwcap entry) (Some (length caps)) None ≡ position (λ fits. fits entry) (uses caps)
other_use entry tied is caps =
    let unnamed : is_named entry.hwcap ≡ false = sym tied ∙ ap is_some is in
    let same : (c : List ℕ) → is_for c entry ≡ false = λ c. rw unnamed refl in
    sym (use_is entry (λ c. false) same caps ∙ rw (none_is (λ c. false) caps (λ k d h. refl)) refl)
