-- A command that finds what it asks for ends with its answer.
use Rattle.std.proofs.Common.{◌≡◌, ◌⊎◌, ◌≤◌, ℕ, List, Bool, true, false, Option, Some, None, Result, Ok, Err, inl, inr, ap, arith, refl, subst, sym, ◌∙◌}
use Rattle.std.proofs.lemmas.Bool.{true≢false}
use Rattle.std.specs.List.{AllByRecursion}
use Rattle.std.specs.Prelude.{IfOk, if◌then◌else◌}
use Rattle.std.specs.Result.{result_map_both}
use Rattle.tree_face.specs.Devices.{DeviceStates, IfBothKnown}
use Rattle.cache_reader.specs.Cache.{CachedEntry}
use Rattle.cache_reader.specs.declared.defect.CacheDefect.{CacheDefect}
use Rattle.command_words.specs.declared.kinds.Form.{Form}
use Rattle.command_words.specs.declared.kinds.Form.TheVariants.{Files, Json, Listing, Tree}
use Rattle.command_words.specs.declared.kinds.Resolve.{Resolve}
use Rattle.elf_interpreter.specs.Faults.{interpreter_ending}
use Rattle.elf_interpreter.specs.declared.fault.InterpreterFault.{InterpreterFault}
use Rattle.elf_interpreter.specs.declared.fault.InterpreterFault.TheVariants as interpreters
use Rattle.rpath_search.specs.declared.kinds.SystemDirs.{SystemDirs}
use Rattle.rpath_search.specs.declared.kinds.SystemDirs.TheVariants as systems
use Rattle.image_tree.specs.Tree.{Nodes}
use Rattle.ldd_resolve.specs.Each.{IsStopped, ResolvesEach, ResolvesOne}
use Rattle.ldd_resolve.specs.declared.kinds.ProgramFault.{ProgramFault}
use Rattle.ldd_resolve.specs.declared.kinds.ProgramScope.{ProgramScope}
use Rattle.rpath_search.specs.declared.fault.SearchFault.{SearchFault}
use Rattle.rpath_search.specs.declared.fault.SearchFault.TheVariants as searches
use Rattle.image_session.specs.Manifest.{HasTree, Manifest, Empty, Faulty, manifest_of}
use Rattle.image_session.specs.Reading.{ReadsContent, ReadsImage}
use Rattle.image_session.specs.declared.fault.LoadFault.{LoadFault}
use Rattle.image_session.specs.declared.fault.LoadFault.TheVariants as loading
use Rattle.image_session.specs.declared.fault.SlotFault.{SlotFault}
use Rattle.image_session.specs.declared.fault.SlotFault.TheVariants as slot_faults
use Rattle.image_session.specs.declared.reading.ReadImage.{ReadImage}
use Rattle.image_session.specs.declared.reading.TreeSource.TheVariants as sources
use Rattle.tree_face.specs.declared.disk.Slot.TheVariants as slots
use Rattle.tree_face.specs.Disk.{Content, DiskContent}
use Rattle.tree_face.specs.Known.{IfKnown}
use Rattle.tree_face.specs.Store.{Contents, StoreState}
use Rattle.needed_files.specs.Interpreters.{ReadsPrograms, program_keys}
use Rattle.needed_files.specs.declared.files.NeededFiles.{NeededFiles}
use Rattle.lib_types.specs.Counts.{HasRisen}
use Rattle.command_status.specs.Ending.{AnswerText, EndsAs, answered, first_status}
use Rattle.command_status.specs.declared.status.Status.{Status}
use Rattle.command_status.specs.declared.status.Status.TheVariants.{Done, Missing, NoMemory}
use Rattle.asking_runs.specs.AskCache.{CacheAnswer, IsMade, answer_of}
use Rattle.asking_runs.specs.Complete.{Completes, NoFault}
use Rattle.asking_runs.specs.Faults.{of_cache, of_list}
use Rattle.asking_runs.proofs.Choosing.{all_chosen, held_chosen, more_chosen, paths_are}
use Rattle.asking_runs.proofs.Listing.{all_held, all_more, inside, keys_held, lacking, none_faulty, stopped_by_memory}
use Rattle.asking_runs.specs.Listings.{files_answer, first_fault, json_answer, listings_answer, trees_answer}
use Rattle.asking_runs.specs.Resolve.{AnswersAs, AnswersImage, AnswersScopes, Chooses, CompletesListing, HasListing, HaveListings, IsAnswer, IsAnswerable, IsFilesAnswer, ListsAt, ListsChosen, ListsImage, ListsPrograms, ListsWith, cache_of, env_of}
use Rattle.asking_runs.specs.declared.fault.CacheFault.{CacheFault}
use Rattle.asking_runs.specs.declared.fault.ListFault.{ListFault}
use Rattle.asking_runs.specs.declared.fault.ListFault.TheVariants as faults

if_ok : {A E : Type 0} (r : Result A E) (P : A → Type 0) → ((a : A) → P a) → IfOk r P
if_ok (Ok a) P f = f a
if_ok (Err e) P f = tt

pub failed : (before after : ℕ) → (HasRisen before after → ⊥) → HasRisen before after ⊎ ⊥ → ⊥
failed before after none (inl risen) = none risen
failed before after none (inr lacks) = lacks

module _ (old new : DeviceStates) (status : Status) where
  ended : (answer : AnswerText) → EndsAs (Ok answer) status old.sink new.sink → NoFault old new → status ≡ answered answer
  ended answer (inl whole) none = whole.0
  ended answer (inr cut) none = absurd (none.sink cut.1.1)

  -- ---- a command that reads only the cache

  by_answer : (r : Result AnswerText CacheFault) → EndsAs (result_map_both (λ answer. answer) of_cache r) status old.sink new.sink → Completes r old new status
  by_answer (Ok answer) ends = λ none. inl (ended answer ends none)
  by_answer (Err fault) ends = tt

  abbrev EndsMade : Result AnswerText CacheFault → Type 0
  EndsMade made = EndsAs (result_map_both (λ answer. answer) of_cache made) status old.sink new.sink

  by_made : (r made : Result AnswerText CacheFault) → IsMade r made → EndsMade made → Completes r old new status
  by_made (Ok answer) made (inl is) ends = by_answer (Ok answer) (subst EndsMade is ends)
  by_made (Ok answer) made (inr is) ends = λ none. inr (subst EndsMade is ends).0
  by_made (Err fault) made is ends = tt

  module _ (answer : CacheAnswer) (made : Result AnswerText CacheFault) (ends : EndsMade made) where
    by_content : (known : Option DiskContent) (content : Content) → IfKnown known (λ k. k.now.cache ≡ content)
        → IsMade (answer_of answer (Ok content)) made → IfKnown known (λ k. Completes (answer_of answer (Ok k.now.cache)) old new status)
    by_content None content is is_made = tt
    by_content (Some k) content is is_made =
        by_made (answer_of answer (Ok k.now.cache)) made (subst (λ (c : Content). IsMade (answer_of answer (Ok c)) made) (sym is) is_made) ends

    if_known : (known : Option DiskContent) → (NoFault old new → status ≡ NoMemory) → IfKnown known (λ k. Completes (answer_of answer (Ok k.now.cache)) old new status)
    if_known None gives_up = tt
    if_known (Some k) gives_up = if_ok (answer_of answer (Ok k.now.cache)) (λ answer. NoFault old new → (status ≡ answered answer) ⊎ (status ≡ NoMemory)) (λ answer none. inr (gives_up none))

    pub completes : (read : Result Content SlotFault) → ReadsContent slots.Cache read old.disk new.disk → IsMade (answer_of answer read) made
        → IfKnown old.disk.contents (λ content. Completes (answer_of answer (Ok content.now.cache)) old new status)
    completes (Ok content) reads is = by_content old.disk.contents content reads.content is
    completes (Err (slot_faults.DiskFailed slot)) reads is = if_known old.disk.contents (λ none. absurd (failed _ _ none.disk reads.reads.cause))
    completes (Err slot_faults.NoMemory) reads is = if_known old.disk.contents (λ none. (subst EndsMade is ends).0)

  -- ---- a command that reads an image

  abbrev Ends : Type 0
  Ends = ((status ≡ Done) ⊎ (status ≡ Missing)) ⊎ (status ≡ NoMemory)

  by_missing : (missing : Bool) → status ≡ (if missing then Missing else Done) → Ends
  by_missing true is = inl (inr is)
  by_missing false is = inl (inl is)

  module _ (asked : Resolve) (held : Contents) where
    abbrev EndsBy : Result AnswerText ListFault → Type 0
    EndsBy answer = EndsAs (result_map_both (λ answer. answer) of_list answer) status old.sink new.sink

    module _ (system : SystemDirs) (tree : Nodes) (cache : Option (List CachedEntry)) (paths : List (List ℕ)) (all : AllByRecursion (HasListing (env_of system asked) tree cache held) paths)
        (start : StoreState) (quiet : HasRisen start.faults new.store.faults → ⊥) (none : NoFault old new) where
      -- an answer without a fault
      by_text : (text : AnswerText) (answer : Result AnswerText ListFault) → text.fault ≡ None → IsAnswer text answer → EndsBy answer → Ends
      by_text text answer whole (inl is) ends =
          by_missing text.missing (subst (λ (fault : Option ProgramFault). status ≡ first_status fault (if text.missing then Missing else Done)) whole (ended text (subst EndsBy is ends) none))
      by_text text answer whole (inr is) ends = inr (subst EndsBy is ends).0

      module _ (ps : List ProgramScope) (between : StoreState) (resolves : ResolvesEach (Some held) tree cache (env_of system asked) paths (Ok ps) start between) where
        whole : between.faults ≤ new.store.faults → first_fault ps ≡ None
        whole more = none_faulty held (env_of system asked) tree cache paths ps start between all resolves (λ risen. quiet (inside _ _ _ _ (omega arith) more risen))

        by_files : (end : ℕ) (needed : Result NeededFiles InterpreterFault) (answer : Result AnswerText ListFault)
            → ReadsPrograms (Some held) (program_keys tree ps) (interpreter_ending needed) between new.store → IsFilesAnswer end ps needed answer → EndsBy answer → Ends
        by_files end (Ok needed) answer reads is ends = by_text (files_answer end needed ps) answer (whole reads.faults) is ends
        by_files end (Err interpreters.StoreFault) answer reads is ends =
            let before = all_more held (env_of system asked) tree cache paths ps start between resolves in
            absurd (lacking held _ _ (program_keys tree ps) (keys_held held (env_of system asked) tree cache paths ps start between all resolves)
            (λ risen. quiet (inside _ _ _ _ before (omega arith) risen)) reads.cause)
        by_files end (Err interpreters.NoMemory) answer reads is ends = inr (subst EndsBy is ends).0

        by_form : (form : Form) (answer : Result AnswerText ListFault) → between.held ≡ Some held → AnswersAs form tree ps answer between new.store → EndsBy answer → Ends
        by_form Listing answer known answers ends = by_text (listings_answer ps) answer (whole (rw answers.1 (omega arith))) answers.0 ends
        by_form Json answer known answers ends = by_text (json_answer ps) answer (whole (rw answers.1 (omega arith))) answers.0 ends
        by_form Tree answer known answers ends = by_text (trees_answer ps) answer (whole (rw answers.1 (omega arith))) answers.0 ends
        by_form (Files end) answer known answers ends =
            by_files end answers.needed answer (subst (λ (h : Option Contents). ReadsPrograms h (program_keys tree ps) (interpreter_ending answers.needed) between new.store) known answers.reads)
            answers.answer_is ends

      by_scopes : (form : Form) (scopes : Result (List ProgramScope) SearchFault) (between : StoreState) (answer : Result AnswerText ListFault) → start.held ≡ Some held
          → ResolvesEach (Some held) tree cache (env_of system asked) paths scopes start between → AnswersScopes form tree scopes answer between new.store → EndsBy answer → Ends
      by_scopes form (Ok ps) between answer known resolves answers ends =
          by_form ps between resolves form answer (all_held held (env_of system asked) tree cache paths ps start between resolves ∙ known) answers ends
      by_scopes form (Err fault) between answer known resolves answers ends =
          let stopped = subst (λ (s : StoreState). IsStopped (ResolvesOne (Some held) tree cache (env_of system asked)) fault paths start s) (sym answers.1) resolves in
          inr (subst (λ (f : SearchFault). status ≡ of_list (faults.Search f)) (stopped_by_memory held (env_of system asked) tree cache fault paths start new.store all stopped quiet)
          (subst EndsBy answers.0 ends).0)

      by_paths : (answer : Result AnswerText ListFault) → start.held ≡ Some held → ListsAt asked.form paths (env_of system asked) tree cache answer start new.store → EndsBy answer → Ends
      by_paths answer known lists ends =
          by_scopes asked.form lists.scopes lists.between answer known
          (subst (λ (h : Option Contents). ResolvesEach h tree cache (env_of system asked) paths lists.scopes start lists.between) known lists.resolves) lists.answers ends

    module _ (system : SystemDirs) (tree : Nodes) (cache : Option (List CachedEntry)) (all : HaveListings system asked tree cache held) (none : NoFault old new) (known : old.store.held ≡ Some held) where
      abbrev ListsAll : List (List ℕ) → Type 0
      ListsAll paths = AllByRecursion (HasListing (env_of system asked) tree cache held) paths

      by_chosen : (paths : Result (List (List ℕ)) SearchFault) (middle : StoreState) (answer : Result AnswerText ListFault) → Chooses asked.paths tree paths old.store middle
          → ListsChosen asked.form paths (env_of system asked) tree cache answer middle new.store → EndsBy answer → Ends
      by_chosen (Ok paths) middle answer chooses lists ends =
          let before = more_chosen tree asked.paths (Ok paths) old.store middle chooses in
          by_paths system tree cache paths (subst ListsAll (sym (paths_are held tree asked.paths paths old.store middle known chooses)) all.listed)
          middle (λ risen. none.store (inside _ _ _ _ before (omega arith) risen)) none answer (held_chosen tree asked.paths (Ok paths) old.store middle chooses ∙ known) lists ends
      by_chosen (Err searches.StoreFault) middle answer chooses lists ends =
          absurd (all_chosen held tree asked.paths all.found old.store middle known (λ risen. none.store (rw lists.1 risen)) chooses)
      by_chosen (Err searches.NoMemory) middle answer chooses lists ends = inr (subst EndsBy lists.0 ends).0

      by_lists : (answer : Result AnswerText ListFault) → ListsPrograms asked.form asked.paths (env_of system asked) tree cache answer old.store new.store → EndsBy answer → Ends
      by_lists answer lists ends = by_chosen lists.paths lists.middle answer lists.chooses lists.lists ends

      -- an image of this tree and cache was read
      pub by_image : (image : ReadImage) (answer : Result AnswerText ListFault) → image.tree ≡ tree → cache_of image.cache ≡ Ok cache
          → ListsImage system asked image answer old.store new.store → EndsBy answer → Ends
      by_image image answer same entries lists ends =
          let by_tree = subst (λ (t : Nodes). ListsWith asked.form asked.paths (env_of system asked) t (cache_of image.cache) answer old.store new.store) same lists in
          let by_cache = subst (λ (c : Result (Option (List CachedEntry)) CacheDefect). ListsWith asked.form asked.paths (env_of system asked) tree c answer old.store new.store) entries by_tree in
          by_lists answer by_cache ends

    abbrev tree_or : Nodes → Manifest → Nodes
    tree_or other (HasTree tree) = tree
    tree_or other (Faulty fault) = other
    tree_or other Empty = other

    abbrev has_tree : Manifest → Bool
    has_tree (HasTree tree) = true
    has_tree (Faulty fault) = false
    has_tree Empty = false

    module _ (content : DiskContent) (right : IsAnswerable asked held content.now) (none : NoFault old new) (known : old.store.held ≡ Some held) where
      of_manifest : (image : ReadImage) (answer : Result AnswerText ListFault) → manifest_of content.now.manifest ≡ HasTree image.tree → content.now.cache ≡ image.cache
          → ListsImage systems.Loader asked image answer old.store new.store → EndsBy answer → Ends
      of_manifest image answer tree cache lists ends =
          let same : image.tree ≡ right.tree = ap (tree_or image.tree) (sym tree ∙ right.manifest) in
          let entries : cache_of image.cache ≡ Ok right.entries = sym (ap cache_of cache) ∙ right.cache in
          by_image systems.Loader right.tree right.entries right.listings none known image answer same entries lists ends

      by_read : (read : Result ReadImage LoadFault) (answer : Result AnswerText ListFault) → old.disk.contents ≡ Some content → ReadsImage sources.Manifest read old.disk new.disk
          → AnswersImage asked read answer old.store new.store → EndsBy answer → Ends
      by_read (Ok image) answer there reads answers ends =
          of_manifest image answer (subst (λ (c : Option DiskContent). IfKnown c (λ k. manifest_of k.now.manifest ≡ HasTree image.tree)) there reads.tree)
          (subst (λ (c : Option DiskContent). IfKnown c (λ k. k.now.cache ≡ image.cache)) there reads.cache) answers ends
      by_read (Err (loading.DiskFailed slot)) answer there reads answers ends = absurd (failed _ _ none.disk reads.reads.cause)
      by_read (Err loading.NoManifest) answer there reads answers ends =
          absurd (true≢false (ap has_tree (sym right.manifest ∙ subst (λ (c : Option DiskContent). IfKnown c (λ k. manifest_of k.now.manifest ≡ Empty)) there reads.tree)))
      by_read (Err (loading.BadManifest fault)) answer there reads answers ends =
          absurd (true≢false (ap has_tree (sym right.manifest ∙ subst (λ (c : Option DiskContent). IfKnown c (λ k. manifest_of k.now.manifest ≡ Faulty fault)) there reads.tree)))
      by_read (Err loading.NoMemory) answer there reads answers ends = inr (subst EndsBy answers.0 ends).0

    by_held : (content : DiskContent) (read : Result ReadImage LoadFault) (answer : Result AnswerText ListFault) → old.store.held ≡ Some held → old.disk.contents ≡ Some content
        → ReadsImage sources.Manifest read old.disk new.disk → AnswersImage asked read answer old.store new.store → EndsBy answer → CompletesListing asked held content.now old new status
    by_held content read answer known there reads answers ends right none = by_read content right none known read answer there reads answers ends

  module _ (asked : Resolve) (read : Result ReadImage LoadFault) (answer : Result AnswerText ListFault) (reads : ReadsImage sources.Manifest read old.disk new.disk)
      (answers : AnswersImage asked read answer old.store new.store) (ends : EndsAs (result_map_both (λ answer. answer) of_list answer) status old.sink new.sink) where
    by_known : (h : Option Contents) (c : Option DiskContent) → old.store.held ≡ h → old.disk.contents ≡ c → IfBothKnown h c (λ held content. CompletesListing asked held content.now old new status)
    by_known None c known there = tt
    by_known (Some held) None known there = tt
    by_known (Some held) (Some content) known there = by_held asked held content read answer known there reads answers ends

    pub completes_listing : IfBothKnown old.store.held old.disk.contents (λ held content. CompletesListing asked held content.now old new status)
    completes_listing = by_known old.store.held old.disk.contents refl refl
