-- Consecutive writing calls.
use Rattle.std.proofs.Common.{◌≡◌, ◌⊎◌, ◌+◌, ℕ, zero, suc, List, [], ◌∷◌, ◌++◌, length, take, refl, sym, ap, ◌∙◌, append_assoc, inl, inr, arith}
use Rattle.std.proofs.Math.Seq.{take-append-add, take-append_seam}
use Rattle.std.specs.List.{slice_get}
use Rattle.tree_face.specs.declared.disk.DoneCall.{DoneCall}
use Rattle.tree_face.specs.Follows.{IsFollowedBy, IsFollowedByPart}
use Rattle.atomic_replace.specs.Replace.{StopsAt}

pub get_later : (xs ys : List DoneCall) (n k : ℕ) → k ≡ length xs + n → slice_get (xs ++ ys) k ≡ slice_get ys n
get_later [] ys n k e = ap (slice_get ys) (omega (arith, e))
get_later (x ∷ xs) ys n zero e = let z : ⊥ = omega (arith, e) in absurd z
get_later (x ∷ xs) ys n (suc k) e = get_later xs ys n k (omega (arith, e))

abbrev no_calls : List DoneCall
no_calls = []

take_none : (k : ℕ) → take k no_calls ≡ no_calls
take_none zero = refl
take_none (suc k) = refl

no_more : (l : List DoneCall) → l ++ [] ≡ l
no_more [] = refl
no_more (x ∷ l) = ap (λ m. x ∷ m) (no_more l)

-- the calls before this one were made; this one failed and may or may not have had its effect
pub stop : (front : List DoneCall) (call : DoneCall) (rest a b c : List DoneCall) → IsFollowedBy front a b → IsFollowedByPart (call ∷ []) b c → StopsAt call (front ++ call ∷ rest) a c
stop front call rest a b c first (n, last) = record { number = length front; at = get_later front (call ∷ rest) 0 (length front) (omega arith); made = by n last }
  where
    by : (n : ℕ) → c ≡ b ++ take n (call ∷ []) → (c ≡ a ++ take (length front) (front ++ call ∷ rest)) ⊎ (c ≡ a ++ take (length front + 1) (front ++ call ∷ rest))
    by zero e = inl (e ∙ no_more b ∙ first ∙ ap (λ l. a ++ l) (sym (take-append_seam front (call ∷ rest))))
    by (suc k) e = inr (
        e ∙ ap (λ l. b ++ call ∷ l) (take_none k) ∙ ap (λ l. l ++ call ∷ []) first ∙ append_assoc a front (call ∷ [])
        ∙ ap (λ l. a ++ l) (sym (take-append-add front (call ∷ rest) 1)))
