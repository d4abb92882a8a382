-- The buffer of the open directories.
use Rattle.std.proofs.Common.{◌≡◌, ◌≤◌, ◌<◌, ◌-◌, suc, ℕ, List, [], ◌∷◌, ◌++◌, length, take, get_or, ap, sym, ◌∙◌, refl, subst, arith, ⊎_elim, length-take}
use Rattle.std.proofs.lemmas.Bool.{cases_lt}
use Rattle.std.proofs.lemmas.List.{take-take, take-append-le, take_all, map-append, get_or-map, get_or-take, length-map}
use Rattle.std.proofs.lemmas.List.Elements.{All-take}
use Rattle.manifest_words.specs.Paths.{current}
use Rattle.mtree_manifest.specs.Stacks.{IsStack, paths_in, top, opened}

-- fewer directories
pub kept : (path lens fewer : List ℕ) (n : ℕ) → IsStack path lens → fewer ≡ take n lens → IsStack path fewer
kept path lens fewer n stack e = subst (IsStack path) (sym e) (record {
  within = All-take (λ m. m ≤ length path) n lens stack.within;
  rising = λ i j d lt within.
      let short = length-take n lens in
      let first : get_or (take n lens) i d ≡ get_or lens i d = get_or-take n lens i d (omega arith) in
      let second : get_or (take n lens) j d ≡ get_or lens j d = get_or-take n lens j d (omega arith) in
      rw (first, second) (stack.rising i j d lt (omega arith));
})

-- extending the current path doesn't change the paths of the open directories
same_paths : (path more lens : List ℕ) (m : ℕ) → m ≤ length path → ((i : ℕ) → i < length lens → get_or lens i 0 ≤ m) → paths_in (take m path ++ more) lens ≡ paths_in path lens
same_paths path more [] m within below = refl
same_paths path more (n ∷ lens) m within below =
    let low : n ≤ m = below 0 (omega arith) in
    let short = length-take m path in
    let first : take n (take m path ++ more) ≡ take n path = take-append-le n (take m path) more (omega arith) ∙ take-take n m path low in
    ap (λ x. x ∷ paths_in (take m path ++ more) lens) first
    ∙ ap (λ xs. take n path ∷ xs) (same_paths path more lens m within (λ i lt. below (suc i) (omega arith)))

-- each length is at most the last length
below_top : (path lens : List ℕ) → IsStack path lens → (i : ℕ) → i < length lens → get_or lens i 0 ≤ top lens
below_top path lens stack i lt =
    ⊎_elim (λ before. stack.rising i (length lens - 1) 0 before (omega arith))
    (λ (last : length lens - 1 ≤ i). let same : i ≡ length lens - 1 = omega arith in rw same (omega arith))
    (cases_lt i (length lens - 1))

top_within : (path lens : List ℕ) → IsStack path lens → top lens ≤ length path
top_within path [] stack = omega arith
top_within path (n ∷ lens) stack = stack.within (length (n ∷ lens) - 1) 0 (omega arith)

current_is : (path lens : List ℕ) → current (paths_in path lens) ≡ take (top lens) path
current_is path [] = refl
current_is path (n ∷ lens) =
    let lens' = n ∷ lens in
    ap (λ k. get_or (paths_in path lens') (k - 1) []) (length-map lens' (λ m. take m path)) ∙ get_or-map (λ m. take m path) lens' (length lens' - 1) 0 [] (omega arith)

pub one_more : (path lens more : List ℕ) → IsStack path lens → paths_in (take (top lens) path ++ more) (lens ++ length (take (top lens) path ++ more) ∷ []) ≡ opened path lens more
one_more path lens more stack =
    let p = take (top lens) path ++ more in
    map-append (λ m. take m p) lens (length p ∷ [])
    ∙ ap (λ xs. xs ++ take (length p) p ∷ []) (same_paths path more lens (top lens) (top_within path lens stack) (below_top path lens stack))
    ∙ ap (λ x. paths_in path lens ++ x ∷ []) (take_all (length p) p (omega arith) ∙ ap (λ x. x ++ more) (sym (current_is path lens)))
