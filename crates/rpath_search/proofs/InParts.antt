-- The parts of a search, one after another, are the search paths.
use Rattle.std.proofs.Common.{◌≡◌, ℕ, List, [], ◌∷◌, ◌++◌, append_assoc, flat_map, Option, sym, ap, ◌∙◌}
use Rattle.std.proofs.lemmas.List.{append-nil}
use Rattle.std.proofs.lemmas.List.Concat.{flat_map-append}
use Rattle.rpath_search.specs.Parts.{AreParts, parts, rpaths_of, runpath_of}
use Rattle.rpath_search.specs.Places.{Reach, cached_paths, default_dirs, first_dirs, paths_in}
use Rattle.rpath_search.specs.declared.kinds.Env.{Env}

module _ (name : List ℕ) (env : Env) (reach : Reach) (cached : Option (List ℕ)) where
  abbrev at : List (List ℕ) → List (List ℕ)
  at dirs = flat_map (paths_in name env.caps) dirs

  abbrev before : List (List ℕ)
  before = at (rpaths_of reach) ++ at reach.library

  abbrev tried : List (List ℕ)
  tried = cached_paths reach cached

  abbrev last : List (List ℕ)
  last = at (default_dirs env reach)

  -- the directories before the cache
  firsts : at (first_dirs reach) ≡ before ++ at (runpath_of reach)
  firsts =
      flat_map-append (paths_in name env.caps) (rpaths_of reach ++ reach.library) (runpath_of reach)
      ∙ ap (λ l. l ++ at (runpath_of reach)) (flat_map-append (paths_in name env.caps) (rpaths_of reach) reach.library)

  pub are_parts : AreParts name env reach cached
  are_parts =
      ap (λ l. at (rpaths_of reach) ++ (at reach.library ++ (at (runpath_of reach) ++ (tried ++ l)))) (append-nil last)
      ∙ sym (append_assoc (at (rpaths_of reach)) (at reach.library) (at (runpath_of reach) ++ (tried ++ last)))
      ∙ sym (append_assoc before (at (runpath_of reach)) (tried ++ last))
      ∙ sym (append_assoc (before ++ at (runpath_of reach)) tried last)
      ∙ ap (λ l. (l ++ tried) ++ last) (sym firsts)
