-- The first item that passes a test, and its index.
use Rattle.std.proofs.Common.{◌≡◌, ℕ, ◌<◌, Bool, true, false, cond, List, [], ◌∷◌, length, Some, None, refl, sym, ◌∙◌, ap}
use Rattle.std.proofs.Math.Dec.{ltb}
use Rattle.std.proofs.lemmas.Bool.{ltb-false, ltb-true}
use Rattle.std.proofs.lemmas.Slice.Eq.{bytes_eq-Decides}
use Rattle.std.proofs.lemmas.List.Folds.{find_at}
use Rattle.std.proofs.lemmas.Option.{slice_get_past}
use Rattle.std.specs.List.{find, slice_get, position, position_or_len}
use Rattle.std.specs.Option.{option_and_then, option_map, IfSome}
use Rattle.tree_face.specs.Memory.{Pair, pair_of, pair_at, held_in, is_under}

pub found_at : {X : Type 0} (p : X → Bool) (xs : List X) → option_and_then (slice_get xs) (position p xs) ≡ find p xs
found_at p xs =
    let n = position_or_len p xs in
    elim (ltb n (length xs)) as (λ b. ltb n (length xs) ≡ b → option_and_then (slice_get xs) (cond b (Some n) None) ≡ find p xs) [
      | true ↦ λ e. sym (find_at p xs)
      | false ↦ λ e. sym (find_at p xs ∙ slice_get_past xs n (ltb-false _ _ e))
    ] refl

pub position_within : {X : Type 0} (p : X → Bool) (xs : List X) → IfSome (position p xs) (λ index. index < length xs)
position_within p xs =
    let n = position_or_len p xs in
    elim (ltb n (length xs)) as (λ b. ltb n (length xs) ≡ b → IfSome (cond b (Some n) None) (λ index. index < length xs)) [
      | true ↦ λ e. ltb-true _ _ e
      | false ↦ λ e. tt
    ] refl

-- what is found passes the test
pub find-passes : {X : Type 0} (p : X → Bool) (xs : List X) (x : X) → find p xs ≡ Some x → p x ≡ true
find-passes p [] x e = cc
find-passes p (y ∷ xs) x e =
    elim (p y) as (λ b. p y ≡ b → cond b (Some y) (find p xs) ≡ Some x → p x ≡ true) [
      | true ↦ λ passes found. cc
      | false ↦ λ fails found. find-passes p xs x found
    ] refl e

-- the content at the first index of a key is the content that the store holds for the key
pub content_first : (pairs : List Pair) (key : List ℕ) → option_map (λ pair. pair.1) (pair_at pairs (position (is_under key) pairs)) ≡ held_in pairs key
content_first pairs key = ap (option_map (λ (pair : Pair). pair.1)) (found_at (is_under key) pairs)

-- the key at that index is the key
pub key_first : (pairs : List Pair) (key content : List ℕ) → held_in pairs key ≡ Some content → option_map (λ pair. pair.0) (pair_at pairs (position (is_under key) pairs)) ≡ Some key
key_first pairs key content held =
    ap (option_map (λ (pair : Pair). pair.0)) (found_at (is_under key) pairs)
    ∙ (elim (pair_of pairs key) as (λ o. pair_of pairs key ≡ o → option_map (λ (pair : Pair). pair.1) o ≡ Some content → option_map (λ (pair : Pair). pair.0) o ≡ Some key) [
      | None ↦ λ e none. cc
      | Some pair ↦ λ e here. ap (λ (k : List ℕ). Some k) ((bytes_eq-Decides pair.0 key).0 (find-passes (is_under key) pairs pair e))
    ] refl held)
