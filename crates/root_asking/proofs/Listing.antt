-- If the programs of a directory have listings, the command lists them.
use Rattle.std.proofs.Common.{◌≡◌, ◌<◌, ◌≤◌, ◌∙◌, ◌⊎◌, length, Option, Some, None, Result, Ok, Err, inr, ap, refl, subst, sym, arith}
use Rattle.std.specs.Result.{result_map_both}
use Rattle.asking_runs.proofs.Completing.{by_image, failed}
use Rattle.asking_runs.specs.Complete.{NoFault}
use Rattle.asking_runs.specs.Faults.{of_list}
use Rattle.asking_runs.specs.Listings.{listed_text}
use Rattle.asking_runs.specs.Resolve.{cache_of}
use Rattle.asking_runs.specs.declared.fault.ListFault.{ListFault}
use Rattle.asking_runs.specs.declared.listings.Listed.{Listed}
use Rattle.command_status.specs.Ending.{AnswerText, EndsAs}
use Rattle.command_status.specs.declared.status.Status.{Status}
use Rattle.command_status.specs.declared.status.Status.TheVariants.{Done, Missing, NoMemory}
use Rattle.tree_face.specs.Devices.{DeviceStates, IfBothKnown}
use Rattle.command_words.specs.declared.kinds.Resolve.{Resolve}
use Rattle.rpath_search.specs.declared.kinds.SystemDirs.TheVariants.{Debian}
use Rattle.image_session.specs.declared.fault.SlotFault.TheVariants as slots
use Rattle.image_session.specs.declared.reading.ReadImage.{ReadImage}
use Rattle.image_tree.specs.Tree.{Nodes}
use Rattle.image_tree.specs.declared.tree.TheConstants.{NODES_MAX}
use Rattle.lib_types.specs.Counts.{HasRisen}
use Rattle.root_asking.specs.Faults.{of_root_list}
use Rattle.root_asking.specs.Reading.{ReadsRoot}
use Rattle.root_asking.specs.Resolve.{AnswersRoot, CompletesRoot, IsRootAnswerable, ResolvesRoot, root_answer}
use Rattle.root_asking.specs.declared.fault.ReadFault.{ReadFault}
use Rattle.root_asking.specs.declared.fault.ReadFault.TheVariants as reading
use Rattle.root_asking.specs.declared.fault.RootListFault.{RootListFault}
use Rattle.root_asking.specs.declared.fault.RootListFault.TheVariants as faults
use Rattle.root_folder.specs.Folder.{FolderContent, FolderState}
use Rattle.root_tree.specs.declared.fault.TreeRead.TheVariants as trees
use Rattle.tree_face.specs.Disk.{DiskContent}
use Rattle.tree_face.specs.Known.{IfKnown}
use Rattle.tree_face.specs.Store.{Contents}

too_many : (t : Nodes) → length t ≤ NODES_MAX → NODES_MAX < length t → ⊥
too_many t small large = absurd (omega (arith, small, large))

module _ (asked : Resolve) (before after : FolderState) (old new : DeviceStates) (status : Status) where
  abbrev EndsBy : Result AnswerText RootListFault → Type 0
  EndsBy answer = EndsAs (result_map_both (λ text. text) of_root_list answer) status old.sink new.sink

  -- the status is that of the listing
  as_listed : (listed : Result AnswerText ListFault) → EndsBy (result_map_both (λ text. text) faults.List listed)
      → EndsAs (result_map_both (λ text. text) of_list listed) status old.sink new.sink
  as_listed (Ok answer) ends = ends
  as_listed (Err fault) ends = ends

  module _ (dir : FolderContent) (held : Contents) (content : DiskContent) (of_dir : before.contents ≡ Some dir) (of_store : old.store.held ≡ Some held)
      (of_disk : old.disk.contents ≡ Some content) (right : IsRootAnswerable asked dir.now held content.now.cache) (risen : HasRisen before.faults after.faults → ⊥) (none : NoFault old new) where
    by_read : (read : Result ReadImage ReadFault) (answer : Result AnswerText RootListFault) → ReadsRoot read before after old.disk new.disk → AnswersRoot asked read answer old.store new.store
        → EndsBy answer → ((status ≡ Done) ⊎ (status ≡ Missing)) ⊎ (status ≡ NoMemory)
    by_read (Ok image) answer reads answers ends =
        let tree = subst (λ (c : Option FolderContent). IfKnown c (λ c. image.tree ≡ c.now)) of_dir reads.tree.tree in
        let cache = subst (λ (c : Option DiskContent). IfKnown c (λ c. c.now.cache ≡ image.cache)) of_disk reads.cache.content in
        by_image old new status asked held Debian dir.now right.entries right.listings none of_store image answers.listed tree (sym (ap cache_of cache) ∙ right.cache_is) answers.lists
        (as_listed answers.listed (subst EndsBy answers.answer_is ends))
    by_read (Err (reading.Tree (trees.Failed at))) answer reads answers ends = absurd (risen reads.tree.reads.failed.0)
    by_read (Err (reading.Tree trees.TooLarge)) answer reads answers ends =
        absurd (too_many dir.now right.small (subst (λ (c : Option FolderContent). IfKnown c (λ c. NODES_MAX < length c.now)) of_dir (reads.tree.too_large refl)))
    by_read (Err (reading.Tree trees.NoMemory)) answer reads answers ends = inr (subst EndsBy answers.0 ends).0
    by_read (Err (reading.Cache (slots.DiskFailed slot))) answer reads answers ends = absurd (failed _ _ none.disk reads.cache.reads.cause)
    by_read (Err (reading.Cache slots.NoMemory)) answer reads answers ends = inr (subst EndsBy answers.0 ends).0

  module _ (read : Result ReadImage ReadFault) (answer : Result AnswerText RootListFault) (reads : ReadsRoot read before after old.disk new.disk)
      (answers : AnswersRoot asked read answer old.store new.store) (ends : EndsBy answer) where
    by_both : (dir : FolderContent) (h : Option Contents) (c : Option DiskContent) → before.contents ≡ Some dir → old.store.held ≡ h → old.disk.contents ≡ c
        → IfBothKnown h c (λ held content. CompletesRoot asked dir.now held content.now.cache before after old new status)
    by_both dir None c of_dir of_store of_disk = tt
    by_both dir (Some held) None of_dir of_store of_disk = tt
    by_both dir (Some held) (Some content) of_dir of_store of_disk = λ right risen none. by_read dir held content of_dir of_store of_disk right risen none read answer reads answers ends

    completes : (d : Option FolderContent) → before.contents ≡ d
        → IfKnown d (λ dir. IfBothKnown old.store.held old.disk.contents (λ held content. CompletesRoot asked dir.now held content.now.cache before after old new status))
    completes None of_dir = tt
    completes (Some dir) of_dir = by_both dir old.store.held old.disk.contents of_dir refl refl

  -- what is written is the answer
  written : (result : Result Listed RootListFault) → EndsAs (result_map_both listed_text of_root_list result) status old.sink new.sink → EndsBy (root_answer result)
  written (Ok listed) ends = ends
  written (Err fault) ends = ends

  pub resolves : (read : Result ReadImage ReadFault) (result : Result Listed RootListFault) → ReadsRoot read before after old.disk new.disk
      → AnswersRoot asked read (root_answer result) old.store new.store → EndsAs (result_map_both listed_text of_root_list result) status old.sink new.sink → new.source ≡ old.source
      → ResolvesRoot asked before after old new status
  resolves read result reads answers ends source = record {
    read = read;
    reads = reads;
    answer = root_answer result;
    answers = answers;
    ends = written result ends;
    source = source;
    complete = completes read (root_answer result) reads answers (written result ends) before.contents refl;
  }
