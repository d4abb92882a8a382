-- The items of one step: one item, or those of an included file.
use Rattle.std.proofs.Common.{ℕ, List, [], ◌∷◌}
use Rattle.conf_views.specs.declared.view.FoundFile.{FoundFile}
use Rattle.ldso_conf.specs.Reading.{Item, asked_by}
use Rattle.ldso_conf.specs.declared.steps.Step.{Step}
use Rattle.ldso_conf.specs.declared.steps.Step.TheVariants.{Directory, Report, Include}

-- what relates two ways to read a file relates the items of a step
pub step_items : (P : List Item → List Item → Type 0) (file new : List (List ℕ) → FoundFile → List Item) (before : List (List ℕ))
    → ((item : Item) → P (item ∷ []) (item ∷ [])) → ((f : FoundFile) → P (file before f) (new before f))
    → (step : Step) → P (asked_by file before step) (asked_by new before step)
step_items P file new before one files (Directory dir origin) = one _
step_items P file new before one files (Report report) = one _
step_items P file new before one files (Include f) = files f
