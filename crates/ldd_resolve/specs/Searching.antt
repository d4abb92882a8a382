-- How the code searches for a name.
use Rattle.std.specs.Prelude.{◌≡◌, ◌<◌, ℕ, false, List, length, Option, Some, None}
use Rattle.tree_face.specs.Store.{Contents, StoreState}
use Rattle.tree_face.specs.StoreUse.{Ending, ReadsFiles}
use Rattle.elf_dynamic.specs.Begun.{ReadsBy}
use Rattle.rpath_search.specs.Searching.{AreHeld, is_among}
use Rattle.rpath_search.specs.declared.search.Answer.{Answer}
use Rattle.rpath_search.specs.declared.search.Answer.TheVariants as answer

abbrev pub IsUnloaded : List (List ℕ) → Option Answer → Type 0
IsUnloaded places None = Unit {0}
IsUnloaded places (Some (answer.Loaded i path)) = i < length places
IsUnloaded places (Some (answer.New f)) = is_among places f.real ≡ false

pub record BeginsHeld (held : Contents) (keys : List (List ℕ)) (ending : Ending) (old new : StoreState) : Type 0 where
  pub reads : ReadsBy (Some held) keys ending old new
  pub none_lacks : AreHeld held keys ending

-- If contents are known, so are the opened keys.
abbrev pub Begins : Option Contents → (Contents → List (List ℕ)) → Ending → StoreState → StoreState → Type 0
Begins None keys ending old new = ReadsFiles ⊥ None None ending old new
Begins (Some held) keys ending old new = BeginsHeld held (keys held) ending old new
