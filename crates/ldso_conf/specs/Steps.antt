-- What each line of a conf file asks for (ldconfig(8)), as a list of steps.
use Rattle.std.specs.Prelude.{ℕ, ◌+◌, List, [], ◌∷◌, ◌==◌, if◌then◌else◌, map, flat_map, length, Option, Some, None}
use Rattle.std.specs.List.{list_any}
use Rattle.image_tree.specs.Paths.{root}
use Rattle.image_tree.specs.Tree.{Nodes}
use Rattle.lib_types.specs.Sets.{is_in, slashes, without_end}
use Rattle.ldso_conf.specs.Lines.{lines_of, text_of, words_of, arguments_of, include, hwcap, equals, before_equals}
use Rattle.conf_views.specs.Files.{files}
use Rattle.conf_views.specs.declared.view.FoundFile.{FoundFile}
use Rattle.path_walk.specs.Names.{is_absolute}
use Rattle.ldso_conf.specs.declared.kinds.ConfKind.{ConfKind}
use Rattle.ldso_conf.specs.declared.kinds.ConfKind.TheVariants.{Relative, Equals, Hwcap}
use Rattle.ldso_conf.specs.declared.kinds.Origin.{Origin}
use Rattle.ldso_conf.specs.declared.steps.Step.{Step}
use Rattle.ldso_conf.specs.declared.steps.Step.TheVariants.{Directory, Report, Include}

-- a report about a line
abbrev pub reported : Origin → List ℕ → ConfKind → Step
reported origin place kind = Report (record { place = place; kind = kind; origin = Some origin })

-- ---- a directory

-- a text that has only slashes is the root
abbrev pub or_root : List ℕ → List ℕ
or_root text = if length text == 0 then root else text

abbrev pub without_slashes : List ℕ → List ℕ
without_slashes text = or_root (without_end slashes text)

-- a line of a file
abbrev pub origin_at : List ℕ → ℕ → Origin
origin_at file line = record { file = file; line = line }

-- no step for an empty text, a report for a relative path, or a directory
abbrev pub named : Origin → List ℕ → List Step
named origin text =
    if length text == 0 then [] else
    if is_absolute text then Directory (without_slashes text) origin ∷ [] else reported origin text Relative ∷ []

abbrev pub directory_steps : Origin → List ℕ → List Step
directory_steps origin text =
    if list_any (is_in equals) text then reported origin (before_equals text) Equals ∷ named origin (before_equals text) else named origin text

-- ---- the lines

abbrev pub included : FoundFile → Step
included f = Include f

abbrev pub include_steps : Nodes → List ℕ → List ℕ → List Step
include_steps t file patterns = flat_map (λ pattern. map included (files t file pattern)) (words_of patterns)

-- the steps of a line, given the arguments of `include` and those of `hwcap`, if it has them
abbrev pub steps_by : Nodes → Origin → List ℕ → Option (List ℕ) → Option (List ℕ) → List Step
steps_by t origin text (Some patterns) words = include_steps t origin.file patterns
steps_by t origin text None (Some words) = reported origin origin.file Hwcap ∷ []
steps_by t origin text None None = directory_steps origin text

abbrev pub text_steps : Nodes → Origin → List ℕ → List Step
text_steps t origin text = steps_by t origin text (arguments_of include text) (arguments_of hwcap text)

-- lines with their numbers, starting at `n`
abbrev pub numbered : ℕ → List (List ℕ) → List (ℕ × List ℕ)
numbered n [] = []
numbered n (line ∷ lines) = (n, line) ∷ numbered (n + 1) lines

abbrev pub line_steps : Nodes → List ℕ → ℕ × List ℕ → List Step
line_steps t file line = text_steps t (origin_at file line.0) (text_of line.1)

-- The steps of a file of this path and content. Its lines are numbered from 1.
unfoldable pub steps_of : Nodes → List ℕ → List ℕ → List Step
steps_of t file content = flat_map (line_steps t file) (numbered 1 (lines_of content))
