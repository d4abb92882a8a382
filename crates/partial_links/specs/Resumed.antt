-- An update of a tree with a part of its planned links finds what one of the tree finds; one of a directory ends the same, and writes the same.
use Rattle.std.specs.Prelude.{◌≡◌, ℕ, Bool, true, false, List}
use Rattle.aux_cache.specs.declared.stamps.Stamp.{Stamp}
use Rattle.file_stamps.specs.Stamped.{AreSame, AreTrue, content_of, id_at}
use Rattle.hwcap_dirs.specs.declared.kinds.Scope.{Scope}
use Rattle.hwcap_dirs.specs.declared.kinds.Scope.TheVariants.{Image, Root, Only}
use Rattle.image_session.specs.Session.{Loaded}
use Rattle.image_tree.specs.Tree.{Nodes, IsTree}
use Rattle.ldconfig_core.specs.Outcome.{update_outcome}
use Rattle.ldconfig_core.specs.Texts.{AreAlike, AreTextsOf, UpdateTexts}
use Rattle.ldso_conf.specs.Reading.{conf_keys, conf_lacks}
use Rattle.library_search.specs.Begun.{after_keys, wanted_keys}
use Rattle.library_search.specs.Ldconfig.{conf_in, conf_of, entries_in, links_in, places_in, planned_in, reached_in, info_files, info_wanted, stamps_in, walk_in, wanted_in}
use Rattle.soname_links.specs.Apply.{nodes_with}
use Rattle.tree_face.specs.Store.{Contents}
use Rattle.partial_links.specs.Partial.{missing}

-- It finds what an update of the tree finds, except that fewer links are planned.
pub record FindsSame (scope : Scope) (held : Contents) (t : Nodes) (loaded : List Stamp) (new : Nodes) : Type 0 where
  pub conf : conf_in scope held new ≡ conf_in scope held t
  pub places : places_in scope held new ≡ places_in scope held t
  pub wanted : wanted_in scope held new ≡ wanted_in scope held t
  pub info_first : info_wanted scope held new loaded ≡ info_wanted scope held t loaded
  -- the links that aren't there are planned, and they give the same planned tree
  pub rest : links_in scope held new loaded ≡ missing new (links_in scope held t loaded)
  pub planned : planned_in scope held new loaded ≡ planned_in scope held t loaded
  pub reached : reached_in scope held new loaded ≡ reached_in scope held t loaded
  -- each file is said to be the same
  pub info : info_files scope held new loaded ≡ info_files scope held t loaded
  pub entries : entries_in scope held new loaded ≡ entries_in scope held t loaded
  pub walk : walk_in scope held new loaded ≡ walk_in scope held t loaded
  pub stamps : stamps_in scope held new loaded ≡ stamps_in scope held t loaded
  -- the same files are opened, in the same order
  pub conf_files : conf_keys (conf_of scope) held new ≡ conf_keys (conf_of scope) held t
  pub lacks : conf_lacks (conf_of scope) held new ≡ conf_lacks (conf_of scope) held t
  pub first_files : wanted_keys scope held new loaded ≡ wanted_keys scope held t loaded
  pub later_files : after_keys scope held new loaded ≡ after_keys scope held t loaded
  -- each path has the same identity and content
  pub ids : (path : List ℕ) → id_at new path ≡ id_at t path
  pub contents : (path : List ℕ) → content_of held new path ≡ content_of held t path
  -- the planned tree has as many nodes
  pub nodes : nodes_with new (links_in scope held new loaded) ≡ nodes_with t (links_in scope held t loaded)

-- ---- an update of a directory

-- an update by a manifest; each other update has no manifest to write
abbrev pub is_image : Scope → Bool
is_image Image = true
is_image (Root conf) = false
is_image (Only dirs) = false

-- the image with another tree
abbrev pub with_tree : Loaded → Nodes → Loaded
with_tree s new = record s { tree = new }

-- It ends the same, and writes the same cache and the same auxiliary cache.
pub record WritesSame (scope : Scope) (held : Contents) (s again : Loaded) : Type 0 where
  pub outcome : update_outcome scope held again ≡ update_outcome scope held s
  pub texts : (texts others : UpdateTexts) → AreTextsOf scope held s texts → AreTextsOf scope held again others → AreAlike texts others

-- The tree is one. An update of it plans the links that aren't there, and ends and writes as the update of the image.
pub record IsRepaired (scope : Scope) (held : Contents) (s : Loaded) (new : Nodes) : Type 0 where
  pub is_tree : IsTree new
  pub finds : FindsSame scope held s.tree s.stamps new
  pub writes : WritesSame scope held s (with_tree s new)
  -- so does one with other stamps, if stamps are true and files of equal identity have equal content
  pub stamped : AreTrue held s.tree s.stamps → AreSame held s.tree s.tree
      → (again : Loaded) → again.tree ≡ new → again.edited ≡ s.edited → AreTrue held s.tree again.stamps → WritesSame scope held s again
