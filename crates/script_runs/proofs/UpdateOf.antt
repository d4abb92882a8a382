-- The texts of an update that is made.
use Rattle.std.proofs.Common.{◌≡◌, Option, Some, None, refl, subst, ◌∙◌}
use Rattle.hwcap_dirs.specs.declared.kinds.Scope.TheVariants.{Image}
use Rattle.ldconfig_core.proofs.OneText.{one_outcome, one_written}
use Rattle.ldconfig_core.specs.Outcome.{Writes, update_outcome}
use Rattle.ldconfig_core.specs.Settled.{unstamped_image}
use Rattle.ldconfig_core.specs.Texts.{AreTextsOf, UpdateTexts}
use Rattle.ldconfig_core.specs.Update.{AreUpdateTexts}
use Rattle.image_session.specs.Session.{Loaded}
use Rattle.library_search.proofs.Reliable.{none_true}
use Rattle.tree_face.specs.Known.{IfKnown}
use Rattle.tree_face.specs.Store.{Contents}
use Rattle.script_runs.specs.Course.{IsReliable}
use Rattle.script_runs.specs.Left.{IsRebuiltOf, IsUpdateOf}

-- an update without the auxiliary cache has the same texts
rebuilt_of : (held : Contents) (s : Loaded) (texts : UpdateTexts) → update_outcome Image held s ≡ Writes → AreTextsOf Image held s texts → IsReliable held s → IsRebuiltOf held s texts
rebuilt_of held s texts writes are here = record {
  made = one_outcome Image held s (unstamped_image s) refl refl here.1 here.0 (none_true held s.tree) ∙ writes;
  same = λ again others. one_written Image held s (unstamped_image s) refl refl here.1 here.0 (none_true held s.tree) texts again are others;
}

-- the texts are those of the session's update, if the contents are known
pub of_update : (s : Loaded) (texts : UpdateTexts) (known : Option Contents) → AreUpdateTexts Image s known texts → IfKnown known (λ held. update_outcome Image held s ≡ Writes)
    → IfKnown known (λ held. IsUpdateOf held s texts)
of_update s texts None are writes = tt
of_update s texts (Some held) are writes = record {
  made = writes;
  are = are.are_of;
  all = are.are;
  finds = are.finds;
  manifest_read = are.reads;
  aux_read = are.aux_read;
  counted = are.counted;
  right = λ here. are.right here.0 here.1;
  rebuilt = rebuilt_of held s texts writes are.are_of;
  settled = λ here. are.settles here.0 here.1;
}

pub texts_are : (held : Contents) (s : Loaded) (texts : UpdateTexts) (known : Option Contents) → known ≡ Some held → update_outcome Image held s ≡ Writes → AreUpdateTexts Image s known texts → IsUpdateOf held s texts
texts_are held s texts known is writes are = of_update s texts (Some held) (subst (λ (known : Option Contents). AreUpdateTexts Image s known texts) is are) writes
