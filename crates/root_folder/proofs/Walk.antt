-- A walk back through the changes of an in-memory directory.
use Rattle.std.proofs.Common.{◌≡◌, ◌+◌, ℕ, true, false, ◌&&◌, ◌||◌, not, List, [], ◌∷◌, take, get_or, reverse, Some, ap, sym, ◌∙◌, slice_get}
use Rattle.std.proofs.lemmas.List.{reverse-append, take_more}
use Rattle.std.proofs.lemmas.Option.{get_or_from_slice_get, slice_get_within}
use Rattle.root_folder.specs.Found.{Found, found_eq}
use Rattle.root_folder.specs.Past.{found_before, is_settled_by, left_in}
use Rattle.root_folder.specs.declared.memory.past.Change.{Change}

last_first : (cs : List Change) (i : ℕ) (c : Change) → slice_get cs i ≡ Some c → reverse (take (i + 1) cs) ≡ c ∷ reverse (take i cs)
last_first cs i c at =
    ap reverse (take_more cs i c (slice_get_within cs i c at)) ∙ reverse-append (take i cs) (get_or cs i c ∷ [])
    ∙ ap (λ x. x ∷ reverse (take i cs)) (get_or_from_slice_get cs i c c at)

module _ (p : List ℕ) (now x : Found) (cs : List Change) (i n : ℕ) (c : Change) (more : n ≡ i + 1) (at : slice_get cs i ≡ Some c) (other : found_eq now x ≡ false) where
  step : left_in p now (reverse (take n cs)) x ≡ (not (is_settled_by p c) && left_in p (found_before p now c) (reverse (take i cs)) x)
  step =
      ap (λ m. left_in p now (reverse (take m cs)) x) more ∙ ap (λ l. left_in p now l x) (last_first cs i c at)
      ∙ ap (λ b. b || (not (is_settled_by p c) && left_in p (found_before p now c) (reverse (take i cs)) x)) other

  -- the change was an fsync of the path's directory
  pub settled_here : is_settled_by p c ≡ true → left_in p now (reverse (take n cs)) x ≡ false
  settled_here e = step ∙ ap (λ b. not b && left_in p (found_before p now c) (reverse (take i cs)) x) e

  -- the change was not an fsync of the path's directory
  pub goes_back : is_settled_by p c ≡ false → left_in p (found_before p now c) (reverse (take i cs)) x ≡ left_in p now (reverse (take n cs)) x
  goes_back e = sym (step ∙ ap (λ b. not b && left_in p (found_before p now c) (reverse (take i cs)) x) e)

-- a crash may leave what is there
pub left_at_once : (p : List ℕ) (now x : Found) (cs : List Change) → found_eq now x ≡ true → left_in p now cs x ≡ true
left_at_once p now x [] e = e
left_at_once p now x (c ∷ cs) e = ap (λ b. b || (not (is_settled_by p c) && left_in p (found_before p now c) cs x)) e
