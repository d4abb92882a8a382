-- If the paths that a conf file's lines look up were seen, its steps in the part are those in the tree.
use Rattle.std.proofs.Common.{◌≡◌, ℕ, List, map, refl, ap, Option, Some, None}
use Rattle.conf_views.proofs.Each.{flat_map_seen}
use Rattle.conf_views.proofs.Files.{files_seen}
use Rattle.conf_views.specs.Files.{files}
use Rattle.conf_views.specs.Patterns.{results_looked}
use Rattle.image_tree.specs.Tree.{Nodes}
use Rattle.ldso_conf.specs.Lines.{arguments_of, hwcap, include, lines_of, text_of, words_of}
use Rattle.ldso_conf.specs.Steps.{included, line_steps, numbered, origin_at, steps_by, steps_of}
use Rattle.ldso_conf.specs.declared.kinds.Origin.{Origin}
use Rattle.root_folder.specs.Whole.{IsWhole}
use Rattle.ldso_conf.specs.Looked.{file_paths, include_paths, line_paths}
use Rattle.seen_tree.specs.Part.{AreSeen, IsPart}

module _ (t part : Nodes) (whole : IsWhole t) (is : IsPart t part) where
  by_seen : (origin : Origin) (text : List ℕ) (patterns words : Option (List ℕ)) → AreSeen t part (include_paths (results_looked t) origin.file patterns)
      → steps_by part origin text patterns words ≡ steps_by t origin text patterns words
  by_seen origin text (Some patterns) words all =
      flat_map_seen t part (results_looked t origin.file)
      (λ pattern. map included (files part origin.file pattern)) (λ pattern. map included (files t origin.file pattern))
      (λ pattern seen. ap (map included) (files_seen t part whole is origin.file pattern seen)) (words_of patterns) all
  by_seen origin text None (Some words) all = refl
  by_seen origin text None None all = refl

  module _ (file : List ℕ) where
    line_seen : (line : ℕ × List ℕ) → AreSeen t part (line_paths (results_looked t) file line) → line_steps part file line ≡ line_steps t file line
    line_seen line all =
        by_seen (origin_at file line.0) (text_of line.1) (arguments_of include (text_of line.1)) (arguments_of hwcap (text_of line.1)) all

    -- a file has the same steps
    pub steps_seen : (content : List ℕ) → AreSeen t part (file_paths (results_looked t) file content)
        → steps_of part file content ≡ steps_of t file content
    unfolding steps_of file_paths
    steps_seen content all =
        flat_map_seen t part (line_paths (results_looked t) file) (line_steps part file) (line_steps t file)
        line_seen (numbered 1 (lines_of content)) all
