-- The calls after one more turn.
use Rattle.std.proofs.Common.{◌≡◌, ◌+◌, ℕ, zero, suc, Bool, true, false, not, List, [], ◌∷◌, ◌++◌, length, map, drop, Option, Some, None, refl, sym, ap, subst, ◌∙◌, arith, eqb, le_of_suc-le-suc, not-suc-le-zero, append_assoc, append-nil, cond, slice_get, if◌then◌else◌, nat_lt, is_some, ◌<◌}
use Rattle.std.specs.Option.{option_map_or}
use Rattle.std.proofs.lemmas.Bool.{eqb-true, false≢true}
use Rattle.std.proofs.lemmas.Bool.Decides.{nat_tests}
use Rattle.std.proofs.lemmas.List.{map-append}
use Rattle.std.proofs.lemmas.List.Elements.{filter-append}
use Rattle.atomic_replace.specs.Order.{all_calls, next_of}
use Rattle.tree_face.specs.declared.disk.Call.{Call}
use Rattle.tree_face.specs.declared.disk.Call.TheVariants.{Create, Append, Sync, Publish, Settle}
use Rattle.update_world.specs.declared.post.Post.{Post}
use Rattle.update_world.specs.declared.post.Turn.{Turn}
use Rattle.update_world.specs.declared.post.Turn.TheVariants.{Step, Load}
use Rattle.update_world.specs.Turns.{PostCall, call_of, calls, calls_after, is_publish, is_settle, is_step, last_of, publishers, steps_of, until_settled}
use Rattle.update_world.proofs.Lists.{count_more, last_get, until_before, until_it}

after_more : (n : ℕ) (before xs : List Turn) (t : Turn) → calls_after n before (xs ++ t ∷ []) ≡ calls_after n before xs ++ call_of n (before ++ xs) t
after_more n before [] t = append-nil (call_of n before t) ∙ ap (λ b. call_of n b t) (sym (append-nil before))
after_more n before (x ∷ xs) t =
    ap (λ c. call_of n before x ++ c) (after_more n (before ++ x ∷ []) xs t)
    ∙ sym (append_assoc (call_of n before x) (calls_after n (before ++ x ∷ []) xs) (call_of n ((before ++ x ∷ []) ++ xs) t))
    ∙ ap (λ b. (call_of n before x ++ calls_after n (before ++ x ∷ []) xs) ++ call_of n b t) (append_assoc before (x ∷ []) xs)

pub calls_more : (n : ℕ) (turns : List Turn) (t : Turn) → calls n (turns ++ t ∷ []) ≡ calls n turns ++ call_of n turns t
calls_more n turns t = after_more n [] turns t

pub steps_more : (i : ℕ) (turns : List Turn) (t : Turn) → steps_of i (turns ++ t ∷ []) ≡ steps_of i turns + cond (is_step i t) 1 0
steps_more i turns t = count_more (is_step i) turns t

pub load_steps : (j : ℕ) (turns : List Turn) → steps_of j (turns ++ Load ∷ []) ≡ steps_of j turns
load_steps j turns = let is = steps_more j turns Load in omega (arith, is)

module _ (i j : ℕ) (turns : List Turn) where
  pub other_steps : eqb i j ≡ false → steps_of j (turns ++ Step i ∷ []) ≡ steps_of j turns
  other_steps e = let is = steps_more j turns (Step i) ∙ ap (λ b. steps_of j turns + cond b 1 0) e in omega (arith, is)

  pub own_steps : eqb i j ≡ true → steps_of j (turns ++ Step i ∷ []) ≡ suc (steps_of j turns)
  own_steps e = let is = steps_more j turns (Step i) ∙ ap (λ b. steps_of j turns + cond b 1 0) e in omega (arith, is)

-- ---- turns of an updater that doesn't exist

module _ (posts : List Post) (i : ℕ) where
  past : slice_get posts i ≡ None → i < length posts → ⊥
  past e h = absurd (false≢true (sym (ap is_some e) ∙ there posts i h))
    where
      there : (ps : List Post) (i : ℕ) → i < length ps → is_some (slice_get ps i) ≡ true
      there [] i h = absurd (not-suc-le-zero h)
      there (p ∷ ps) zero h = refl
      there (p ∷ ps) (suc i) h = there ps i (le_of_suc-le-suc h)

  pub absent_call : (turns : List Turn) → slice_get posts i ≡ None → call_of (length posts) turns (Step i) ≡ []
  absent_call turns absent = by (nat_lt i (length posts)) refl
    where
      by : (b : Bool) → nat_lt i (length posts) ≡ b
          → ◌≡◌ {A = List PostCall} (if b then option_map_or (λ call. (i, call) ∷ []) (slice_get all_calls (steps_of i turns)) [] else []) []
      by true e = absurd (past absent (grind (arith, nat_tests, e)))
      by false e = refl

  pub absent_differ : slice_get posts i ≡ None → (j : ℕ) → j < length posts → eqb i j ≡ false
  absent_differ absent j h = by (eqb i j) refl
    where
      by : (b : Bool) → eqb i j ≡ b → eqb i j ≡ false
      by false e = e
      by true e = absurd (past absent (subst (λ k. k < length posts) (sym (eqb-true i j e)) h))

pub publishers_more : (cs ds : List PostCall) → publishers (cs ++ ds) ≡ publishers cs ++ publishers ds
publishers_more cs ds = ap (map (λ (c : PostCall). c.0)) (filter-append (λ (c : PostCall). is_publish c.1) cs ds) ∙ map-append (λ (c : PostCall). c.0) _ _

not_true : (b : Bool) → b ≡ false → not b ≡ true
not_true b e = ap not e

not_false : (b : Bool) → b ≡ true → not b ≡ false
not_false b e = ap not e

pub settled_now : (cs : List PostCall) (call : PostCall) → is_settle call.1 ≡ true → until_settled (cs ++ call ∷ []) ≡ cs ++ call ∷ []
settled_now cs call e = until_it (λ (c : PostCall). not (is_settle c.1)) cs call (not_false (is_settle call.1) e)

pub settled_before : (cs : List PostCall) (call : PostCall) → is_settle call.1 ≡ false → until_settled (cs ++ call ∷ []) ≡ until_settled cs
settled_before cs call e = until_before (λ (c : PostCall). not (is_settle c.1)) cs call (not_true (is_settle call.1) e)

-- ---- the calls of one updater

abbrev pub place_of : Option Call → ℕ
place_of None = 5
place_of (Some Create) = 0
place_of (Some Append) = 1
place_of (Some Sync) = 2
place_of (Some Publish) = 3
place_of (Some Settle) = 4

pub next_is : (k : ℕ) → next_of (drop k all_calls) ≡ slice_get all_calls k
next_is zero = refl
next_is (suc zero) = refl
next_is (suc (suc zero)) = refl
next_is (suc (suc (suc zero))) = refl
next_is (suc (suc (suc (suc zero)))) = refl
next_is (suc (suc (suc (suc (suc k))))) = none k
  where
    none : (k : ℕ) → next_of (drop k []) ≡ None
    none zero = refl
    none (suc k) = refl

pub place_is : (k : ℕ) (call : Call) → slice_get all_calls k ≡ Some call → k ≡ place_of (Some call)
place_is zero call e = ap place_of e
place_is (suc zero) call e = ap place_of e
place_is (suc (suc zero)) call e = ap place_of e
place_is (suc (suc (suc zero))) call e = ap place_of e
place_is (suc (suc (suc (suc zero)))) call e = ap place_of e
place_is (suc (suc (suc (suc (suc k))))) call e = absurd (false≢true (ap is_some e))

-- the call of an updater's turn
pub call_is : (n : ℕ) (turns : List Turn) (i : ℕ) → i < n → call_of n turns (Step i) ≡ option_map_or (λ call. (i, call) ∷ []) (slice_get all_calls (steps_of i turns)) []
call_is n turns i h = ap (λ b. if b then option_map_or (λ call. (i, call) ∷ []) (slice_get all_calls (steps_of i turns)) [] else []) (within h)
  where
    within : i < n → nat_lt i n ≡ true
    within h = grind (arith, nat_tests, h)

pub last_more : (posts : List Post) (published : List ℕ) (i : ℕ) → last_of posts (published ++ i ∷ []) ≡ slice_get posts i
last_more posts published i = ap (Rattle.std.specs.Option.option_and_then (slice_get posts)) (last_get published i)
