-- The files that are opened after the links are planned.
use Rattle.std.proofs.Common.{◌≡◌, ◌≤◌, ◌<◌, ℕ, false, nat_lt, if◌then◌else◌, List, [], Option, Some, None, Err, ap, refl, subst, sym, ◌∙◌, arith}
use Rattle.aux_cache.specs.declared.stamps.Stamp.{Stamp}
use Rattle.elf_dynamic.proofs.BegunKeys.{keys_early}
use Rattle.elf_dynamic.specs.Begun.{ReadsBy, ReadsKeys, lacks_one}
use Rattle.elf_dynamic.specs.Faults.{analyse_ending}
use Rattle.elf_dynamic.specs.declared.fault.AnalyseFault.{AnalyseFault}
use Rattle.elf_dynamic.specs.declared.fault.AnalyseFault.TheVariants as reading
use Rattle.file_stamps.specs.Stamped.{with_stamps}
use Rattle.file_table.specs.Analyses.{AgreeOn, Analyses}
use Rattle.file_table.specs.Table.{analysis_at}
use Rattle.hwcap_dirs.specs.declared.kinds.Scope.{Scope}
use Rattle.image_tree.specs.Tree.{Nodes}
use Rattle.image_tree.specs.declared.tree.TheConstants.{NODES_MAX}
use Rattle.soname_links.specs.Apply.{nodes_with}
use Rattle.soname_links.specs.Plan.{with_links}
use Rattle.soname_links.specs.declared.kinds.ApplyFault.{ApplyFault}
use Rattle.soname_links.specs.declared.kinds.ApplyFault.TheVariants as applying
use Rattle.tree_face.proofs.StoreUse.{reads_all, reads_none}
use Rattle.tree_face.specs.Known.{IfKnown}
use Rattle.tree_face.specs.Store.{Contents, StoreState}
use Rattle.tree_face.specs.StoreUse.{Complete, GaveUp}
use Rattle.library_search.proofs.Judged.{judged_agrees}
use Rattle.library_search.proofs.Limits.{over}
use Rattle.library_search.specs.After.{info_after, made_after, opened_after, unread_after}
use Rattle.library_search.specs.Faults.{find_ending, of_apply, of_reading}
use Rattle.library_search.specs.Judged.{judged}
use Rattle.library_search.specs.Stages.{HasFollowed, opened_planned, planned_by}
use Rattle.library_search.specs.declared.fault.FindFault.{FindFault}
use Rattle.library_search.specs.declared.fault.FindFault.TheVariants as finding
use Rattle.library_search.specs.declared.finding.Found.{Found}
use Rattle.library_search.specs.declared.search.Search.{Search}
use Rattle.aux_cache.proofs.Back.{not_below}

pub same_ending : (A B : Type 0) (fault : FindFault) → find_ending {A = A} (Err fault) ≡ find_ending {A = B} (Err fault)
same_ending A B finding.StoreFault = refl
same_ending A B (finding.TooLarge nodes) = refl
same_ending A B finding.NoMemory = refl

no_keys : (known : Option Contents) (s : StoreState) → ReadsBy known [] Complete s s
no_keys None s = reads_none _ _ s
no_keys (Some held) s = reads_none _ _ s

-- memory runs out before a file is opened
pub none_read : (keys : List (List ℕ)) (s : StoreState) → ReadsKeys keys GaveUp s s
none_read keys s = keys_early s.held [] keys GaveUp s s tt (reads_all _ _ _ _ _ (no_keys s.held s))

pub reading_ending : (A B : Type 0) (fault : AnalyseFault) → analyse_ending {X = A} (Err fault) ≡ find_ending {A = B} (Err (of_reading fault))
reading_ending A B reading.StoreFault = refl
reading_ending A B reading.NoMemory = refl

module _ (loaded : List Stamp) (search : Search) (t : Nodes) where
  -- the links fit
  pub follow_keys : (new : Nodes) → new ≡ with_links t (planned_by search t) → nodes_with t (planned_by search t) ≤ NODES_MAX
      → opened_after loaded search.files new search.dirs ≡ opened_planned loaded search t
  follow_keys new is few =
      ap (λ n. opened_after loaded search.files n search.dirs) is
      ∙ ap (λ b. if b then [] else opened_after loaded search.files (with_links t (planned_by search t)) search.dirs) (sym (not_below NODES_MAX (nodes_with t (planned_by search t)) few))

  -- the links don't fit
  no_follow : (nodes : ℕ) → (nodes ≡ nodes_with t (planned_by search t)) × (NODES_MAX < nodes) → [] ≡ opened_planned loaded search t
  no_follow nodes many =
      let more : NODES_MAX < nodes_with t (planned_by search t) = omega (arith, many.0, many.1) in
      ap (λ b. if b then [] else opened_after loaded search.files (with_links t (planned_by search t)) search.dirs) (sym (over NODES_MAX (nodes_with t (planned_by search t)) more))

  -- the links can't be put: no file is opened
  pub links_failed : (B : Type 0) (fault : ApplyFault) → ((nodes : ℕ) → fault ≡ applying.TooLarge nodes → (nodes ≡ nodes_with t (planned_by search t)) × (NODES_MAX < nodes))
      → (s : StoreState) → ReadsKeys (opened_planned loaded search t) (find_ending {A = B} (Err (of_apply fault))) s s
  links_failed B (applying.TooLarge nodes) many s = subst (λ keys. ReadsKeys keys Complete s s) (no_follow nodes (many nodes refl)) (no_keys s.held s)
  links_failed B applying.NoMemory many s = none_read (opened_planned loaded search t) s

  -- the link targets were read, and then judged
  module _ (scope : Scope) (found : Found) (tree : Nodes) (what : Analyses) (judges : (path : List ℕ) → analysis_at found.search.files.table path ≡ judged scope what path) where
    pub known_followed : (known : Option Contents) → IfKnown known (λ held. AgreeOn (unread_after search.files tree search.dirs) (info_after held loaded search.files tree search.dirs) what)
        → IfKnown known (λ held. found.search.files.stamps ≡ with_stamps search.files.stamps (made_after held loaded search.files tree search.dirs))
        → IfKnown known (λ held. lacks_one held (opened_after loaded search.files tree search.dirs) ≡ false) → IfKnown known (λ held. HasFollowed scope held loaded search found tree)
    known_followed None info stamps none = tt
    known_followed (Some held) info stamps none = record {
      info = judged_agrees scope what (analysis_at found.search.files.table) judges (info_after held loaded search.files tree search.dirs) (unread_after search.files tree search.dirs) info;
      stamps = stamps;
      none_lacks = none;
    }
