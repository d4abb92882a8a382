-- The bytes of a place before its last slash.
use Rattle.std.proofs.Common.{◌≡◌, ◌≤◌, ◌+◌, ℕ, zero, suc, false, List, [], ◌∷◌, ◌++◌, drop, length, take, get_or, Some, unwrap_or, refl, ap, sym, ◌∙◌, arith}
use Rattle.std.proofs.lemmas.List.{length-take-le, take_more}
use Rattle.lib_types.specs.Name.{slash}
use Rattle.image_tree.specs.Paths.{is_slash, root}
use Rattle.path_walk.specs.Names.{before_last, last, more_before, parent, unless_empty}
use Rattle.path_walk.specs.Rest.{ends_at}

pub last_slash : (xs : List ℕ) → before_last (xs ++ slash ∷ []) ≡ Some xs
last_slash [] = refl
last_slash (x ∷ xs) = ap (more_before x) (last_slash xs)

pub last_other : (xs : List ℕ) (b : ℕ) → is_slash b ≡ false → before_last (xs ++ b ∷ []) ≡ before_last xs
last_other [] b e = rw e refl
last_other (x ∷ xs) b e = ap (more_before x) (last_other xs b e)

-- one byte less: the byte is the slash that ends the folder, or another byte
module _ (place : List ℕ) (n m : ℕ) (less : n ≡ m + 1) (within : n ≤ length place) where
  cut_off : take n place ≡ take m place ++ get_or place m 0 ∷ []
  cut_off = rw less (take_more place m 0 (omega arith))

  pub goes_on : is_slash (get_or place m 0) ≡ false → before_last (take n place) ≡ before_last place → before_last (take m place) ≡ before_last place
  goes_on e h = sym (last_other (take m place) (get_or place m 0) e) ∙ ap before_last (sym cut_off) ∙ h

  pub ends_here : get_or place m 0 ≡ slash → before_last (take n place) ≡ before_last place → unwrap_or (before_last place) [] ≡ take m place
  ends_here e h = ap (λ o. unwrap_or o []) (sym h ∙ ap before_last (cut_off ∙ ap (λ b. take m place ++ b ∷ []) e) ∙ last_slash (take m place))

-- ---- the folder of a path by the number of bytes before its last slash

module _ (path : List ℕ) (n : ℕ) (ends : ends_at path n) (within : n ≤ length path) where
  -- the last slash is the first byte, or the path has no slash
  pub empty_before : n ≡ 0 → parent path ≡ root
  empty_before e = ap unless_empty (ends ∙ ap (λ m. take m path) e)

  pub some_before : (n ≡ 0 → ⊥) → parent path ≡ take n path
  some_before some = ap unless_empty ends ∙ by path n some within
    where
      by : (xs : List ℕ) (m : ℕ) → (m ≡ 0 → ⊥) → m ≤ length xs → unless_empty (take m xs) ≡ take m xs
      by xs zero other le = absurd (other refl)
      by [] (suc m) other le = absurd (omega arith)
      by (x ∷ xs) (suc m) other le = refl

  pub last_after : last path ≡ drop (n + 1) path
  last_after = ap (λ front. drop (length front + 1) path) ends ∙ ap (λ m. drop (m + 1) path) (length-take-le n path within)
