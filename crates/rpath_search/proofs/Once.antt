-- A path that occurs again in a list doesn't change the first good path.
use Rattle.std.proofs.Common.{◌≡◌, ℕ, Bool, false, not, List, [], ◌∷◌, Option, Some, None, refl, sym, subst, ◌∙◌}
use Rattle.std.proofs.lemmas.Slice.Eq.{bytes_eq-Decides}
use Rattle.std.specs.List.{filter, find}
use Rattle.std.specs.Str.{bytes_eq}
use Rattle.lib_types.proofs.SortedPairs.{by_test}
use Rattle.lib_types.specs.declared.abi.Abi.{Abi}
use Rattle.image_tree.specs.Tree.{Nodes}
use Rattle.tree_face.specs.Known.{IfKnown}
use Rattle.tree_face.specs.Store.{Contents}
use Rattle.string_pool.specs.Distinct.{distinct}
use Rattle.rpath_search.specs.Search.{first_good, is_good}

module _ (good : List ℕ → Bool) where
  -- paths equal to a path that isn't good can be dropped
  found_among : (p : List ℕ) → good p ≡ false → (paths : List (List ℕ)) → find good (filter (λ other. not (bytes_eq p other)) paths) ≡ find good paths
  found_among p bad [] = refl
  found_among p bad (x ∷ paths) = by_test (bytes_eq p x)
      (λ same.
      let here : good x ≡ false = subst (λ y. good y ≡ false) ((bytes_eq-Decides p x).0 same) bad in
      rw (same, here) (found_among p bad paths))
      (λ other. by_test (good x)
      (λ found. rw (other, found) refl)
      (λ none. rw (other, none) (found_among p bad paths)))

  found_once : (paths : List (List ℕ)) → find good paths ≡ find good (distinct paths)
  found_once [] = refl
  found_once (p ∷ paths) = by_test (good p)
      (λ found. rw found refl)
      (λ none. rw none (found_once paths ∙ sym (found_among p none (distinct paths))))

-- a list and the list without repetitions have the same first good path
pub first_once : (known : Option Contents) (t : Nodes) (abi : Abi) (paths : List (List ℕ)) (found : Option (List ℕ)) → IfKnown known (λ held. found ≡ first_good held t abi paths) →
    IfKnown known (λ held. found ≡ first_good held t abi (distinct paths))
first_once None t abi paths found first = tt
first_once (Some held) t abi paths found first = first ∙ found_once (is_good held t abi) paths
