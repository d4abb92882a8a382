-- The image after an update is settled: another update finds the same, plans no link and writes the same caches.
use Rattle.std.specs.Prelude.{◌≡◌, ℕ, false, List, [], Option, Some, None, IfSome}
use Rattle.hwcap_dirs.specs.declared.kinds.Scope.{Scope}
use Rattle.hwcap_dirs.specs.declared.kinds.Scope.TheVariants.{Image}
use Rattle.image_session.specs.Manifest.{HasTree, manifest_of}
use Rattle.image_session.specs.Session.{Loaded}
use Rattle.library_search.specs.Ldconfig.{conf_in, entries_in, links_in, places_in, planned_in, reached_in, stamps_in, wanted_in}
use Rattle.aux_cache.specs.declared.stamps.Stamp.{Stamp}
use Rattle.file_stamps.specs.Stamped.{AreSame, AreTrue, content_of, id_at}
use Rattle.tree_face.specs.Store.{Contents}
use Rattle.ldconfig_core.specs.Outcome.{Writes, new_manifest, update_outcome}
use Rattle.ldconfig_core.specs.Texts.{AreTextsOf, UpdateTexts}

-- the image with the planned links and the stamps of its library files
abbrev pub planned_image : Scope → Contents → Loaded → Loaded
planned_image scope held s = record { tree = planned_in scope held s.tree s.stamps; stamps = stamps_in scope held s.tree s.stamps; edited = false; damaged = None }

-- the image without its auxiliary cache
abbrev pub unstamped_image : Loaded → Loaded
unstamped_image s = record s { stamps = [] }

-- a written manifest reads as the image's tree
abbrev pub IfReads : Option (List ℕ) → Loaded → Type 0
IfReads manifest s = IfSome manifest (λ text. manifest_of (Some text) ≡ HasTree s.tree)

-- another update writes no manifest and the same caches
pub record AreCachesAgain (texts again : UpdateTexts) : Type 0 where
  pub manifest : again.manifest ≡ None
  pub cache : again.cache ≡ texts.cache
  pub aux : again.aux ≡ texts.aux

-- an update of the new image equals that of the old one, except that the planned links already exist; the new image's stamps are true
pub record AreSettled (scope : Scope) (held : Contents) (s new : Loaded) : Type 0 where
  pub conf : conf_in scope held new.tree ≡ conf_in scope held s.tree
  pub places : places_in scope held new.tree ≡ places_in scope held s.tree
  pub wanted : wanted_in scope held new.tree ≡ wanted_in scope held s.tree
  pub no_links : links_in scope held new.tree new.stamps ≡ []
  pub planned : planned_in scope held new.tree new.stamps ≡ new.tree
  pub reached : reached_in scope held new.tree new.stamps ≡ reached_in scope held s.tree s.stamps
  pub entries : entries_in scope held new.tree new.stamps ≡ entries_in scope held s.tree s.stamps
  pub stamps : stamps_in scope held new.tree new.stamps ≡ stamps_in scope held s.tree s.stamps
  pub no_manifest : new_manifest scope held new ≡ None
  -- if no manifest of an image is written, the tree already had its links
  pub unchanged : scope ≡ Image → new_manifest scope held s ≡ None → new.tree ≡ s.tree
  -- each path has the same identity and content
  pub ids : (path : List ℕ) → id_at new.tree path ≡ id_at s.tree path
  pub contents : (path : List ℕ) → content_of held new.tree path ≡ content_of held s.tree path
  pub are_true : AreTrue held new.tree new.stamps
  pub same : AreSame held new.tree new.tree
  -- stamps are true for the new image exactly if they are true for the old one
  pub true_too : (stamps : List Stamp) → AreTrue held s.tree stamps → AreTrue held new.tree stamps
  pub true_before : AreTrue held s.tree new.stamps
  pub outcome : update_outcome scope held s ≡ Writes → update_outcome scope held new ≡ Writes
  pub texts : (texts again : UpdateTexts) → AreTextsOf scope held s texts → AreTextsOf scope held new again → AreCachesAgain texts again
