-- How `ldconfig -r ROOT --check` ends. It writes nothing but its lines on the output.
use Rattle.std.specs.Prelude.{◌≡◌, ◌⊎◌, ◌&&◌, ◌||◌, ◌==◌, Bool, length, not, Some}
use Rattle.command_status.specs.declared.status.Status.{Status}
use Rattle.image_session.specs.Session.{Loaded}
use Rattle.ldconfig_core.specs.Texts.{AreTextsOf, UpdateTexts}
use Rattle.library_search.specs.Ldconfig.{links_in}
use Rattle.root_answers.specs.Answers.{Answers, check_text}
use Rattle.root_answers.specs.Ending.{GivesUp}
use Rattle.root_answers.specs.Run.{CountsNoError, FailsFirst, IfDirectory, RunStates, WritesNothing}
use Rattle.root_answers.specs.declared.runs.RootAsked.{RootAsked}
use Rattle.root_update.specs.Check.{FindsChanges, status_of_changes, would_change}
use Rattle.root_update.specs.Made.{RootStates}
use Rattle.root_update.specs.declared.checking.RootChanges.{RootChanges}
use Rattle.root_update.specs.declared.parts.RootParts.{RootParts}
use Rattle.tree_face.specs.Disk.{Content, content_eq}
use Rattle.tree_face.specs.Known.{IfKnown}
use Rattle.tree_face.specs.Store.{Contents}

-- a link is planned, or the cache file has other bytes or is missing; what isn't asked for doesn't count
abbrev pub changes_in : RootParts → Contents → Loaded → Content → UpdateTexts → Bool
changes_in parts held image cache texts =
    (parts.cache && not (content_eq cache (Some texts.cache))) || (parts.links && not (length (links_in parts.scope held image.tree image.stamps) == 0))

-- the check says whether an update of this image would change the links or the cache
pub record SaysWhether (parts : RootParts) (held : Contents) (image : Loaded) (cache : Content) (changes : RootChanges) : Type 0 where
  pub texts : UpdateTexts
  pub are : AreTextsOf parts.scope held image texts
  pub is : would_change changes ≡ changes_in parts held image cache texts

-- everything is made as for an update, and compared with what exists
pub record IsChecked (asked : RootAsked) (changes : RootChanges) (old new : RootStates) : Type 0 where
  pub finds : FindsChanges asked.parts.now changes old new
  pub nothing : WritesNothing old new
  pub errors : CountsNoError old new
  pub says : IfDirectory asked.parts.now old (λ held image. IfKnown old.disk.contents (λ files. SaysWhether asked.parts.now held image files.now.cache changes))

-- The lines of the changes are written, and the status is Missing exactly if anything would change. If memory runs out for the lines,
-- nothing is written.
pub record Lists (asked : RootAsked) (status : Status) (old new : RunStates) : Type 0 where
  pub changes : RootChanges
  pub is : IsChecked asked changes old.files new.files
  pub output : Answers (check_text asked.shown.front.now asked.shown.verbose changes asked.shown.cache.now) (status_of_changes changes) status old.sink new.sink
      ⊎ GivesUp status old.sink new.sink

-- A check fails, or lists what an update would change.
abbrev pub CheckEnds : RootAsked → Status → RunStates → RunStates → Type 0
CheckEnds asked status old new = FailsFirst asked.parts.now status old new ⊎ Lists asked status old new
