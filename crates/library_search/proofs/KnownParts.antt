-- The parts of an update, if contents are known.
use Rattle.std.proofs.Common.{◌≡◌, ◌<◌, ℕ, true, false, List, Option, Some, None, sym, subst}
use Rattle.aux_cache.specs.declared.stamps.Stamp.{Stamp}
use Rattle.hwcap_dirs.specs.declared.kinds.Place.{Place}
use Rattle.hwcap_dirs.specs.declared.kinds.Scope.{Scope}
use Rattle.file_table.specs.Analyses.{AgreeOn, Analyses, HaveNames}
use Rattle.file_table.specs.Table.{analysis_at}
use Rattle.hwcap_dirs.specs.Places.{are_dirs}
use Rattle.planned_tree.proofs.Alike.{same_file}
use Rattle.planned_tree.proofs.Planned.{planned_alike}
use Rattle.soname_links.proofs.Rooms.{have_room}
use Rattle.soname_links.proofs.NoOtherFiles.{settled_agrees}
use Rattle.soname_links.specs.Apply.{nodes_with}
use Rattle.soname_links.specs.Plan.{links, with_links}
use Rattle.soname_links.specs.Settled.{IsSettled}
use Rattle.image_tree.specs.declared.tree.TheConstants.{NODES_MAX}
use Rattle.tree_face.specs.Known.{IfKnown}
use Rattle.tree_face.specs.Store.{Contents}
use Rattle.image_tree.specs.Tree.{IsTree, Nodes}
use Rattle.library_search.proofs.AnyStamps.{LacksOnly, planned_some}
use Rattle.library_search.proofs.FilesAgree.{HaveSameFiles}
use Rattle.library_search.proofs.FoundParts as parts
use Rattle.library_search.proofs.Judged.{judged_agrees}
use Rattle.library_search.proofs.KeysBegun.{then_keys}
use Rattle.library_search.specs.Begun.{lacks_wanted}
use Rattle.library_search.specs.declared.finding.Found.{Found}
use Rattle.library_search.specs.declared.search.Search.{Search}
use Rattle.library_search.specs.Found.{HasTooManyNodes, IsFound, IsSearched}
use Rattle.library_search.specs.Judged.{judged}
use Rattle.library_search.specs.Ldconfig.{places_in, info_wanted}
use Rattle.library_search.specs.Stages.{HasFollowed, IsPlannedFor, IsSearchOf, opened_planned, planned_by}
use Rattle.tree_face.proofs.Known.{known_then}

module _ (scope : Scope) (t : Nodes) (loaded : List Stamp) (search : Search) where
  abbrev nodes_then : ℕ
  nodes_then = nodes_with t (links (analysis_at search.files.table) t search.dirs.places)

  module _ (known : Option Contents) (s : IfKnown known (λ held. IsSearched scope held t loaded search)) where
    pub none_lacks : IfKnown known (λ held. lacks_wanted scope held t loaded ≡ false)
    none_lacks = known_then known _ _ (λ held s. parts.none_lacks scope held t loaded search s) s

    pub too_large : (nodes : ℕ) → (nodes ≡ nodes_then) × (NODES_MAX < nodes) → IfKnown known (λ held. HasTooManyNodes scope held t loaded nodes)
    too_large nodes many = known_then known _ _ (λ held s. parts.too_large scope held t loaded search s nodes many.0 many.1) s

    pub settled : (new : Nodes) → IsSettled (analysis_at search.files.table) t search.dirs.places new → IfKnown known (λ held. IsSettled (judged scope (info_wanted scope held t loaded)) t (places_in scope held t) new)
    settled new still = known_then known _ _ (λ held (s : IsSearched scope held t loaded search).
        subst (λ (p : List Place). IsSettled (judged scope (info_wanted scope held t loaded)) t p new) s.places
        (settled_agrees t (analysis_at search.files.table) (judged scope (info_wanted scope held t loaded)) search.dirs.places new (λ path there. sym (parts.agree_wanted scope held t loaded search s path there)) still)) s

    -- the keys of the link targets that are opened, and the files that they belong to
    pub planned_are : IsSearchOf scope t search → HaveSameFiles t (with_links t (planned_by search t))
        → IfKnown known (λ held. opened_planned loaded search t ≡ then_keys scope held t loaded)
    planned_are is files = known_then known _ _ (λ held s. parts.planned_are scope held t loaded search s is files) s

    pub planned_only : HaveSameFiles t (with_links t (planned_by search t)) → IfKnown known (LacksOnly scope t (opened_planned loaded search t))
    planned_only files = known_then known _ _ (λ held (s : IsSearched scope held t loaded search). planned_some scope held t loaded search files) s

  pub is_found : IsSearchOf scope t search → (found : Found) (new : Nodes) → IsPlannedFor loaded search t found new → (known : Option Contents) → IfKnown known (λ held. IsSearched scope held t loaded search)
      → IfKnown known (λ held. HasFollowed scope held loaded search found new) → IfKnown known (λ held. IsFound scope held t loaded found new)
  is_found is found new p None s f = tt
  is_found is found new p (Some held) s f = parts.is_found scope held t loaded search s is found new p f

-- the planned links leave each file where it is
pub same_files : (t : Nodes) (search : Search) → IsTree t → HaveNames (analysis_at search.files.table) → are_dirs t search.dirs.places ≡ true → HaveSameFiles t (with_links t (planned_by search t))
same_files t search tree named dirs =
    same_file t (with_links t (planned_by search t)) (planned_alike t (planned_by search t) (have_room (analysis_at search.files.table) named t tree search.dirs.places dirs))

-- ---- judged analyses

-- judged analyses agree if the analyses do
module _ (scope : Scope) (what new : Analyses) (judges : (path : List ℕ) → new path ≡ judged scope what path) where
  pub known_judged : (known : Option Contents) (info : Contents → Analyses) (paths : List (List ℕ)) → IfKnown known (λ held. AgreeOn paths (info held) what)
      → IfKnown known (λ held. AgreeOn paths (judged scope (info held)) new)
  known_judged None info paths agree = tt
  known_judged (Some held) info paths agree = judged_agrees scope what new judges (info held) paths agree
