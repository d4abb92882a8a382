-- The conf file reads the same in trees that are alike.
use Rattle.std.proofs.Common.{◌≡◌, ℕ, zero, suc, ◌+◌, ◌++◌, List, map, [], ◌∷◌, refl, ap, ◌∙◌, Option, Some, None}
use Rattle.std.specs.List.{flat_map}
use Rattle.std.specs.Option.{option_map}
use Rattle.conf_patterns.specs.Patterns.{Found, found_at, results}
use Rattle.conf_views.specs.Files.{file_at, file_of, file_with, files}
use Rattle.conf_views.specs.declared.view.FoundFile.{FoundFile}
use Rattle.ldso_conf.specs.Lines.{arguments_of, hwcap, include, lines_of, text_of, words_of}
use Rattle.ldso_conf.specs.Reading.{ConfFile, Given, Item, Source, Names, Reports, Reads, Passes, Misses, all_from, asked, conf_items, included_at, place_in, steps_in, until_missing, with_steps}
use Rattle.ldso_conf.specs.Reading as conf
use Rattle.ldso_conf.specs.Steps.{included, line_steps, numbered, origin_at, steps_by, steps_of}
use Rattle.ldso_conf.specs.declared.kinds.Origin.{Origin}
use Rattle.ldso_conf.specs.declared.reading.TheConstants.{DEPTH_MAX}
use Rattle.tree_face.specs.Store.{Contents}
use Rattle.image_tree.specs.Tree.{Nodes, IsTree}
use Rattle.planned_tree.proofs.Agree.{agree}
use Rattle.planned_tree.proofs.Alike.{IsAlike, same_key}
use Rattle.planned_tree.proofs.Patterns.{same_found, same_results}

module _ (t new : Nodes) (tree : IsTree t) (after : IsTree new) (alike : IsAlike t new) where
  -- ---- the steps of a file

  file_same : file_of new ≡ file_of t
  file_same = agree (file_of new) (file_of t) (λ f. ap (file_with f) (same_key t new alike f.1))

  files_same : (file pattern : List ℕ) → files new file pattern ≡ files t file pattern
  files_same file pattern =
      ap (λ of. map of (results new file pattern)) file_same ∙ ap (map (file_of t)) (same_results t new tree after alike file pattern)

  by_same : (origin : Origin) (text : List ℕ) (patterns words : Option (List ℕ)) → steps_by new origin text patterns words ≡ steps_by t origin text patterns words
  by_same origin text (Some patterns) words =
      ap (λ f. flat_map f (words_of patterns)) (agree (λ pattern. map included (files new origin.file pattern)) (λ pattern. map included (files t origin.file pattern))
      (λ pattern. ap (map included) (files_same origin.file pattern)))
  by_same origin text None (Some words) = refl
  by_same origin text None None = refl

  steps_same : (file content : List ℕ) → steps_of new file content ≡ steps_of t file content
  unfolding steps_of
  steps_same file content =
      ap (λ f. flat_map f (numbered 1 (lines_of content))) (agree (line_steps new file) (line_steps t file)
      (λ line. by_same (origin_at file line.0) (text_of line.1) (arguments_of include (text_of line.1)) (arguments_of hwcap (text_of line.1))))

  steps_in_same : (item : Item) → steps_in new item ≡ steps_in t item
  steps_in_same (Names dir origin) = refl
  steps_in_same (Reports report) = refl
  steps_in_same (Reads f key content) = steps_same f.0 content
  steps_in_same (Passes f key) = refl
  steps_in_same (Misses f key) = refl

  -- ---- the items

  module _ (held : Contents) where
    items_same : (left : ℕ) (before : List (List ℕ)) (f : FoundFile) → conf.included new held left before f ≡ conf.included t held left before f
    items_same zero before f = refl
    items_same (suc left) before f =
        let item = included_at held (suc left) before f in
        let next = agree (conf.included new held left) (conf.included t held left)
        (λ b. agree (conf.included new held left b) (conf.included t held left b) (λ g. items_same left b g)) in
        ap (λ steps. item ∷ asked (conf.included new held left) (before ++ place_in item) steps) (steps_in_same item)
        ∙ ap (λ file. with_steps file t before item) next

    from_same : (o : Option FoundFile) → all_from new held o ≡ all_from t held o
    from_same None = refl
    from_same (Some f) = items_same (DEPTH_MAX + 1) [] f

  path_same : (path : List ℕ) → file_at new path ≡ file_at t path
  path_same path =
      ap (λ of. option_map of (found_at new path)) file_same ∙ ap (λ found. option_map (file_of t) (found path)) (same_found t new tree after alike)

  pub same_items : (source : Source) (held : Contents) → conf_items source held new ≡ conf_items source held t
  unfolding conf_items
  same_items (Given dirs) held = refl
  same_items (ConfFile path) held =
      ap (λ file. until_missing (all_from new held file)) (path_same path) ∙ ap until_missing (from_same held (file_at t path))
