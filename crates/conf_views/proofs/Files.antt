-- If the paths that are looked up were seen, the same files with the same keys are found in the part.
use Rattle.std.proofs.Common.{◌≡◌, ℕ, List, [], ◌∷◌, map, refl, ap, ◌∙◌, Option, Some, None}
use Rattle.std.specs.List.{AllByRecursion}
use Rattle.std.specs.Option.{option_map}
use Rattle.conf_patterns.specs.Patterns.{Found, found_at, results}
use Rattle.conf_views.proofs.Patterns.{found_place_seen, found_seen, results_places_seen, results_seen}
use Rattle.conf_views.specs.Files.{file_at, file_of, file_with, files, key_in}
use Rattle.conf_views.specs.Patterns.{results_looked}
use Rattle.image_tree.specs.Tree.{Nodes}
use Rattle.path_walk.specs.declared.walk.Mode.TheVariants.{Plain}
use Rattle.root_folder.specs.Whole.{IsWhole}
use Rattle.seen_tree.specs.Part.{AreSeen, IsPart, IsSeen, looked_by}

module _ (t part : Nodes) (whole : IsWhole t) (is : IsPart t part) where
  by_seen : (o : Option Found) → ((f : Found) → o ≡ Some f → IsSeen t part f.1) → option_map (file_of part) o ≡ option_map (file_of t) o
  by_seen None here = refl
  by_seen (Some f) here = ap (λ node. Some (file_with f (key_in node))) (here f refl)

  pub file_seen : (text : List ℕ) → AreSeen t part (looked_by t text Plain) → file_at part text ≡ file_at t text
  file_seen text all =
      ap (option_map (file_of part)) (found_seen t part whole is text all)
      ∙ by_seen (found_at t text) (λ f. found_place_seen t part whole is text f all)

  keys_seen : (found : List Found) → AllByRecursion (λ f. IsSeen t part f.1) found → map (file_of part) found ≡ map (file_of t) found
  keys_seen [] all = refl
  keys_seen (f ∷ found) all =
      ap (λ node. file_with f (key_in node) ∷ map (file_of part) found) all.0 ∙ ap (λ more. file_of t f ∷ more) (keys_seen found all.1)

  pub files_seen : (file pattern : List ℕ) → AreSeen t part (results_looked t file pattern) → files part file pattern ≡ files t file pattern
  files_seen file pattern all =
      ap (map (file_of part)) (results_seen t part whole is file pattern all)
      ∙ keys_seen (results t file pattern) (results_places_seen t part whole is file pattern all)
