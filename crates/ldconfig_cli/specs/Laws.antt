-- Facts about updates that hold for every command.
use Rattle.std.specs.Prelude.{◌≡◌}
use Rattle.hwcap_dirs.specs.declared.kinds.Scope.TheVariants.{Image}
use Rattle.image_tree.specs.Tree.{Nodes}
use Rattle.ldconfig_core.specs.Texts.{AreAlike, AreTextsOf, UpdateTexts}
use Rattle.image_session.specs.Session.{Loaded}
use Rattle.script_runs.specs.Course.{IsReliable}
use Rattle.library_search.specs.Laws.{IsInfoRight}
use Rattle.library_search.specs.Ldconfig.{stamps_in}
use Rattle.file_stamps.specs.Stamped.{AreSame, AreTrue}
use Rattle.tree_face.specs.Store.{Contents}

pub record UpdateLaws : Type 0 where
  -- the session and the contents determine the texts of an update, and every session has such texts
  pub one_update : (held : Contents) (s : Loaded) (a b : UpdateTexts) → AreTextsOf Image held s a → AreTextsOf Image held s b → a ≡ b
  pub some_update : (held : Contents) (s : Loaded) → (texts : UpdateTexts) × AreTextsOf Image held s texts
  -- Assume that the stamps of a session are true, and that its files of equal identity have equal content. Then the update uses the true
  -- ELF information of each file, so it writes the same as one without stamps.
  pub right : (held : Contents) (s : Loaded) → IsReliable held s → IsInfoRight Image held s.tree s.stamps
  -- what is written depends only on the tree and the contents, not on which true stamps an auxiliary cache has
  pub any_stamps : (held : Contents) (s rebuilt : Loaded) (a b : UpdateTexts) → rebuilt.tree ≡ s.tree → rebuilt.edited ≡ s.edited → IsReliable held s → IsReliable held rebuilt
      → AreTextsOf Image held s a → AreTextsOf Image held rebuilt b → AreAlike a b
  -- the stamps that such an update writes are true of each tree whose files of equal identity have equal content
  pub true_stamps : (held : Contents) (s : Loaded) → IsReliable held s → (u : Nodes) → AreSame held s.tree u → AreTrue held u (stamps_in Image held s.tree s.stamps)
