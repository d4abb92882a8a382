-- The paths that a reading of the conf files looks up, and the directories that it lists (ldconfig(8)).
use Rattle.std.specs.Prelude.{ℕ, List, [], ◌++◌, flat_map, Option, Some, None}
use Rattle.image_tree.specs.Tree.{Nodes}
use Rattle.ldso_conf.specs.Lines.{arguments_of, include, lines_of, text_of, words_of}
use Rattle.ldso_conf.specs.Reading.{Item, Names, Reports, Reads, Passes, Misses, Source, ConfFile, Given, conf_items}
use Rattle.ldso_conf.specs.Steps.{numbered}
use Rattle.path_walk.specs.declared.walk.Mode.TheVariants.{Plain}
use Rattle.conf_views.specs.Patterns.{results_listed, results_looked}
use Rattle.conf_views.specs.View.{LooksUp, ViewState}
use Rattle.seen_tree.specs.Part.{looked_by}
use Rattle.tree_face.specs.Store.{Contents}

-- ---- the paths of all patterns; `of` gives the paths of one pattern in a file

-- if a line has the keyword `include`, its arguments are patterns; no other line has a pattern
abbrev pub include_paths : (List ℕ → List ℕ → List (List ℕ)) → List ℕ → Option (List ℕ) → List (List ℕ)
include_paths of file (Some patterns) = flat_map (of file) (words_of patterns)
include_paths of file None = []

abbrev pub line_paths : (List ℕ → List ℕ → List (List ℕ)) → List ℕ → ℕ × List ℕ → List (List ℕ)
line_paths of file line = include_paths of file (arguments_of include (text_of line.1))

-- a file of this path and content
unfoldable pub file_paths : (List ℕ → List ℕ → List (List ℕ)) → List ℕ → List ℕ → List (List ℕ)
file_paths of file content = flat_map (line_paths of file) (numbered 1 (lines_of content))

-- only a file that is read has lines
abbrev pub item_paths : (List ℕ → List ℕ → List (List ℕ)) → Item → List (List ℕ)
item_paths of (Names dir origin) = []
item_paths of (Reports report) = []
item_paths of (Reads f key content) = file_paths of f.0 content
item_paths of (Passes f key) = []
item_paths of (Misses f key) = []

-- between two states of a view, just these paths of the patterns are looked up and listed
abbrev pub LooksUpBy : ((List ℕ → List ℕ → List (List ℕ)) → List (List ℕ)) → ViewState → ViewState → Type 0
LooksUpBy paths before after = LooksUp (paths (results_looked before.tree)) (paths (results_listed before.tree)) before after

-- ---- the reading

-- the paths that are looked up for the patterns in these items, and the directories that are listed for them
abbrev pub patterns_looked : Nodes → List Item → List (List ℕ)
patterns_looked t items = flat_map (item_paths (results_looked t)) items

abbrev pub patterns_listed : Nodes → List Item → List (List ℕ)
patterns_listed t items = flat_map (item_paths (results_listed t)) items

-- The paths that are looked up to read the conf files: first to resolve the path of the first file, then for the patterns of each file
-- when it is read. If directories are given instead, no path is looked up.
unfoldable pub items_looked : Source → Contents → Nodes → List (List ℕ)
items_looked (ConfFile path) held t = looked_by t path Plain ++ patterns_looked t (conf_items (ConfFile path) held t)
items_looked (Given dirs) held t = []

-- the directories that are listed
unfoldable pub items_listed : Source → Contents → Nodes → List (List ℕ)
items_listed (ConfFile path) held t = patterns_listed t (conf_items (ConfFile path) held t)
items_listed (Given dirs) held t = []

abbrev pub LooksForConf : Source → Contents → ViewState → ViewState → Type 0
LooksForConf source held before after = LooksUp (items_looked source held before.tree) (items_listed source held before.tree) before after
