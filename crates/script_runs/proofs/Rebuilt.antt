-- A script leaves the result of its expected run.
use Rattle.std.proofs.Common.{◌≡◌, ◌≤◌, ◌+◌, ◌++◌, ℕ, List, [], ◌∷◌, Option, Some, None, Result, Ok, Err, append-nil, refl, ap, sym, subst, ◌∙◌, true, inl, inr, arith}
use Rattle.hwcap_dirs.specs.declared.kinds.Scope.TheVariants.{Image}
use Rattle.atomic_replace.specs.Replace.{Write}
use Rattle.tree_face.specs.declared.disk.Slot.{Slot}
use Rattle.ldconfig_core.proofs.WrittenSlots.{slots_are}
use Rattle.ldconfig_core.specs.Outcome.{Lacking, Outcome, TooLarge, TooMany, Writes, update_outcome}
use Rattle.ldconfig_core.specs.Repair.{OldOrNew, slots_after}
use Rattle.ldconfig_core.specs.Settled.{planned_image}
use Rattle.ldconfig_core.specs.Texts.{UpdateTexts, writes_of}
use Rattle.ldconfig_core.specs.Update.{IsAnswer, IsUpdated, Updates}
use Rattle.ldconfig_core.specs.declared.fault.UpdateFault.{UpdateFault}
use Rattle.ldconfig_core.specs.declared.fault.UpdateFault.TheVariants as updating
use Rattle.ldconfig_core.specs.declared.report.Report.{Report}
use Rattle.lib_types.specs.Counts.{HasRisen}
use Rattle.image_session.specs.Session.{Loaded}
use Rattle.manifest_words.specs.declared.fault.LineKind.{LineKind}
use Rattle.atomic_replace.specs.OneByOne.{FailsToReplace, Replaces}
use Rattle.script_lines.specs.Script.{line_of}
use Rattle.library_search.specs.Begun.{lacks_file, update_bytes, update_keys}
use Rattle.script_lines.specs.declared.line.ScriptLine.{ScriptLine}
use Rattle.script_lines.specs.declared.line.ScriptLine.TheVariants as asking
use Rattle.tree_face.proofs.Follows.{follow}
use Rattle.tree_face.proofs.Known.{relates_by, relates_on}
use Rattle.tree_face.specs.Disk.{DiskContent, DiskState, Slots}
use Rattle.tree_face.specs.Follows.{IsFollowedBy, IsFollowedByPart}
use Rattle.tree_face.specs.Known.{IfKnown, Relates}
use Rattle.tree_face.specs.Store.{Contents, StoreState}
use Rattle.tree_face.specs.StoreUse.{Complete, ReadsFiles}
use Rattle.tree_face.specs.Stream.{SinkState}
use Rattle.tree_face.specs.declared.disk.Tag.{Tag}
use Rattle.update_runs.specs.Update.{Reports, States}
use Rattle.update_runs.specs.declared.fault.UpdatingFault.{UpdatingFault}
use Rattle.update_runs.specs.declared.fault.UpdatingFault.TheVariants.{OutputFault, Update}
use Rattle.script_runs.specs.declared.fault.LineFault.{LineFault}
use Rattle.script_runs.specs.declared.fault.ScriptFault.{ScriptFault}
use Rattle.script_runs.specs.declared.fault.ScriptFault.TheVariants.{Line, NoMemory, Updating}
use Rattle.script_runs.proofs.EditedImage.{IsEdit, edit_is}
use Rattle.script_runs.proofs.ReliableCourse.{knowing}
use Rattle.script_runs.proofs.PartWritten.{part_written}
use Rattle.script_runs.proofs.UpdateOf.{texts_are}
use Rattle.script_runs.specs.Course.{Course, course, course_by, course_of_update, ends, goes_on, refused}
use Rattle.script_runs.specs.Faults.{numbered, updated}
use Rattle.script_runs.specs.Left.{AreMade, AreSlots, AreWritten, EndsBy, EndsByUpdate, FollowsAndPart, IsUpdateOf, LeavesRebuilt, joined, keys_of}
use Rattle.script_runs.specs.Run.{DoesLine, DoesUpdate, GoesOn, RunsLines, after_line}
use Rattle.lib_types.proofs.Counts.{risen_since}

-- ---- counts of faults

-- no count of faults fell
pub record AreBefore (old between : States) : Type 0 where
  pub store : old.store.faults ≤ between.store.faults
  pub disk : old.disk.faults ≤ between.disk.faults
  pub sink : old.sink.faults ≤ between.sink.faults

-- ---- the output

nothing_follows : {A : Type 0} (a b : Option (List A)) → b ≡ a → Relates (IsFollowedBy []) a b
nothing_follows None None e = tt
nothing_follows None (Some b) e = absurd (cc)
nothing_follows (Some a) None e = absurd (cc)
nothing_follows {A} (Some a) (Some b) e = ap (λ (o : Option (List A)). items_of b o) e ∙ sym (append-nil a)
  where
    items_of : List A → Option (List A) → List A
    items_of other None = other
    items_of other (Some items) = items

-- a report, and then what follows it
module _ (report : List ℕ) (a b c : Option (List ℕ)) (first : Relates (IsFollowedBy report) a b) where
  all_follow : (rest : List ℕ) → Relates (IsFollowedBy rest) b c → Relates (IsFollowedBy (report ++ rest)) a c
  all_follow rest next = relates_on (IsFollowedBy report) (IsFollowedBy rest) (IsFollowedBy (report ++ rest)) (λ x y z. follow report rest x y z) a b c first next

  part_follows : (front last : List ℕ) → Relates (FollowsAndPart front last) b c → Relates (FollowsAndPart (report ++ front) last) a c
  part_follows front last next =
      relates_on (IsFollowedBy report) (FollowsAndPart front last) (FollowsAndPart (report ++ front) last) (λ x y z one (w, (two, part)). (w, (follow report front x y w one two, part))) a b c first next

module _ (report : List ℕ) (reports : List (List ℕ)) (a b c : Option (List ℕ)) (first : Relates (IsFollowedBy report) a b) where
  all_on : Relates (IsFollowedBy (joined reports)) b c → Relates (IsFollowedBy (joined (report ∷ reports))) a c
  all_on = all_follow report a b c first (joined reports)

  written_on : (to : Result Loaded ScriptFault) → AreWritten to reports b c → AreWritten to (report ∷ reports) a c
  written_on (Err (Updating OutputFault)) (front, (last, (parts, next))) =
      (report ∷ front, (last, (ap (λ l. report ∷ l) parts, part_follows report a b c first (joined front) last next)))
  written_on (Err (Updating (Update fault))) next = all_on next
  written_on (Err (Line number kind)) next = all_on next
  written_on (Err NoMemory) next = all_on next
  written_on (Ok session) next = all_on next

-- ---- the end

-- a reason to end the script after a later moment is also one after an earlier moment
module _ (later whole : Course) (same : whole.end ≡ later.end) (rest : List Loaded) (old between new : States) (before : AreBefore old between) where
  refused_since : (fault : UpdateFault) → EndsByUpdate fault later rest between new → EndsByUpdate fault whole rest old new
  refused_since updating.StoreFault (inl risen) = inl (risen_since old.store.faults between.store.faults new.store.faults before.store risen)
  refused_since updating.StoreFault (inr (none, end)) = inr (none, same ∙ end)
  refused_since (updating.DiskFault fault) risen = risen_since old.disk.faults between.disk.faults new.disk.faults before.disk risen
  refused_since updating.NoMemory end = tt
  refused_since (updating.TooLarge nodes bytes) (none, end) = (none, same ∙ end)
  refused_since (updating.TooMany count) (none, end) = (none, same ∙ end)

  pub ends_since : (to : Result Loaded ScriptFault) → EndsBy to later rest between new → EndsBy to whole rest old new
  ends_since (Ok session) (none, end) = (none, same ∙ end)
  ends_since (Err (Line number kind)) (none, end) = (none, same ∙ end)
  ends_since (Err (Updating (Update fault))) end = refused_since fault end
  ends_since (Err (Updating OutputFault)) risen = risen_since old.sink.faults between.sink.faults new.sink.faults before.sink risen
  ends_since (Err NoMemory) end = tt

-- ---- no update is made

module _ (held : Contents) (course : Course) (content : DiskContent) (old new : States) (known : old.disk.contents ≡ Some content) where
  -- nothing is written
  stopped : (to : Result Loaded ScriptFault) → ((session : Loaded) → to ≡ Ok session → new.store ≡ old.store) → new.disk ≡ old.disk → new.sink ≡ old.sink → AreSlots held to course.updates content.now content.now
      → (Relates (IsFollowedBy []) old.sink.written new.sink.written → AreWritten to [] old.sink.written new.sink.written) → EndsBy to course course.updates old new
      → LeavesRebuilt held course to content old new
  stopped to store disk sink slots written end = record {
    made = [];
    rest = course.updates;
    parts = refl;
    slots = content.now;
    reports = [];
    are_made = (refl, refl);
    now = subst (λ (c : Option DiskContent). IfKnown c (λ left. AreSlots held to course.updates content.now left.now))
        (sym (ap (λ (d : DiskState). d.contents) disk ∙ known)) slots;
    written = written (nothing_follows old.sink.written new.sink.written (ap (λ (o : SinkState). o.written) sink));
    ends = end;
    keys = λ session e. nothing_follows old.store.keys new.store.keys (ap (λ (s : StoreState). s.keys) (store session e));
  }

  -- a line isn't done, and the devices don't change
  unmoved : (to : Result Loaded ScriptFault) → new ≡ old → AreSlots held to course.updates content.now content.now
      → (Relates (IsFollowedBy []) old.sink.written new.sink.written → AreWritten to [] old.sink.written new.sink.written) → EndsBy to course course.updates old new
      → LeavesRebuilt held course to content old new
  unmoved to same = stopped to (λ session e. ap (λ (d : States). d.store) same) (ap (λ (d : States). d.disk) same) (ap (λ (d : States). d.sink) same)

-- ---- one update

module _ (tag : Tag) (held : Contents) (s : Loaded) (more : Loaded → Course) (content : DiskContent) (old between : States)
    (is : old.store.held ≡ Some held) (known : old.disk.contents ≡ Some content) where
  -- the outcome of the update is this one
  by_outcome : (to : Result Loaded ScriptFault) (new : States) (outcome : Outcome) → update_outcome Image held s ≡ outcome → LeavesRebuilt held (course_of_update held s outcome more) to content old new
      → LeavesRebuilt held (course_of_update held s (update_outcome Image held s) more) to content old new
  by_outcome to new outcome e = subst (λ (o : Outcome). LeavesRebuilt held (course_of_update held s o more) to content old new) (sym e)

  -- an update that is made, and what the lines after it leave
  module _ (to : Result Loaded ScriptFault) (new : States) (texts : UpdateTexts) (update : IsUpdateOf held s texts) (after : DiskContent) (slots : after.now ≡ slots_after (writes_of texts) content.now)
      (first : Relates (IsFollowedBy texts.report) old.sink.written between.sink.written) (before : AreBefore old between)
      (begun : Relates (IsFollowedBy (update_keys Image held s.tree s.stamps)) old.store.keys between.store.keys) where
    made_on : LeavesRebuilt held (more (planned_image Image held s)) to after between new → LeavesRebuilt held (course_of_update held s Writes more) to content old new
    made_on left = record {
      made = s ∷ left.made;
      rest = left.rest;
      parts = ap (λ us. s ∷ us) left.parts;
      slots = left.slots;
      reports = texts.report ∷ left.reports;
      are_made = (texts, (update, (left.reports, (refl, subst (λ (slots : Slots). AreMade held left.made slots left.slots left.reports) slots left.are_made))));
      now = left.now;
      written = written_on texts.report left.reports old.sink.written between.sink.written new.sink.written first to left.written;
      ends = ends_since (more (planned_image Image held s)) (course_of_update held s Writes more) refl left.rest old between new before to left.ends;
      keys = λ session e. relates_on (IsFollowedBy (update_keys Image held s.tree s.stamps)) (IsFollowedBy (keys_of held left.made)) (IsFollowedBy (keys_of held (s ∷ left.made)))
          (λ x y z. follow (update_keys Image held s.tree s.stamps) (keys_of held left.made) x y z) old.store.keys between.store.keys new.store.keys begun (left.keys session e);
    }

  -- an update that is made, but whose report isn't written in full
  unreported : (texts : UpdateTexts) → IsUpdateOf held s texts → (after : DiskContent) → after.now ≡ slots_after (writes_of texts) content.now → between.disk.contents ≡ Some after
      → Relates (IsFollowedByPart texts.report) old.sink.written between.sink.written → HasRisen old.sink.faults between.sink.faults
      → LeavesRebuilt held (course_of_update held s Writes more) (Err (Updating OutputFault)) content old between
  unreported texts update after slots there part risen = record {
    made = s ∷ [];
    rest = (more (planned_image Image held s)).updates;
    parts = refl;
    slots = slots_after (writes_of texts) content.now;
    reports = texts.report ∷ [];
    are_made = (texts, (update, ([], (refl, (refl, refl)))));
    now = subst (λ (c : Option DiskContent). IfKnown c (λ left. left.now ≡ slots_after (writes_of texts) content.now)) (sym there) slots;
    written = (
      [],
      (
        texts.report,
        (
          refl,
          relates_by (IsFollowedByPart texts.report) (FollowsAndPart [] texts.report)
              (λ x y follows. (x, (sym (append-nil x), follows))) old.sink.written between.sink.written part,
        ),
      ),
    );
    ends = risen;
    keys = λ session e. absurd (cc);
  }

  -- an update in which a writing call failed
  partly : (texts : UpdateTexts) → IsUpdateOf held s texts → IfKnown between.disk.contents (λ left. OldOrNew (writes_of texts) content.now left.now) → between.sink ≡ old.sink
      → (fault : _) → HasRisen old.disk.faults between.disk.faults
      → LeavesRebuilt held (course_of_update held s Writes more) (Err (Updating (Update (updating.DiskFault fault)))) content old between
  partly texts update now sink fault risen = record {
    made = [];
    rest = s ∷ (more (planned_image Image held s)).updates;
    parts = refl;
    slots = content.now;
    reports = [];
    are_made = (refl, refl);
    now = each between.disk.contents now;
    written = nothing_follows old.sink.written between.sink.written (ap (λ (o : SinkState). o.written) sink);
    ends = risen;
    keys = λ session e. absurd (cc);
  }
    where
      each : (c : Option DiskContent) → IfKnown c (λ left. OldOrNew (writes_of texts) content.now left.now)
          → IfKnown c (λ left. AreSlots held (Err (Updating (Update (updating.DiskFault fault)))) (s ∷ (more (planned_image Image held s)).updates) content.now left.now)
      each None now = tt
      each (Some left) now = (texts, (update, now))

  -- ---- by its result

  abbrev IsLeft : Result Loaded ScriptFault → States → Type 0
  IsLeft to new = LeavesRebuilt held (course_of_update held s (update_outcome Image held s) more) to content old new

  abbrev IsRun : Result (Loaded × Report) UpdateFault → Type 0
  IsRun result = Updates Image tag s result old.store between.store old.disk between.disk

  answer : (result : Result (Loaded × Report) UpdateFault) → IsRun result → IsAnswer (update_outcome Image held s) result old.store between.store
  answer result u = knowing held (λ held. IsAnswer (update_outcome Image held s) result old.store between.store) old.store.held is u.answers

  -- the files when everything is written
  all_written : (writes : List Write) (b : Option DiskContent) → Relates (Replaces tag.0 writes) old.disk.contents b
      → (after : DiskContent) × ((b ≡ Some after) × (after.now ≡ slots_after writes content.now))
  all_written writes None replaced = absurd (subst (λ (a : Option DiskContent). Relates (Replaces tag.0 writes) a None) known replaced)
  all_written writes (Some after) replaced =
      (after, (refl, slots_are tag.0 writes content after (subst (λ (a : Option DiskContent). Relates (Replaces tag.0 writes) a (Some after)) known replaced)))

  -- the files when a writing call has failed
  part_slots : (at : Slot) (writes : List Write) (b : Option DiskContent) → Relates (FailsToReplace tag.0 at writes) old.disk.contents b → IfKnown b (λ left. OldOrNew writes content.now left.now)
  part_slots at writes None fails = tt
  part_slots at writes (Some left) fails =
      part_written tag.0 at writes content left (subst (λ (a : Option DiskContent). Relates (FailsToReplace tag.0 at writes) a (Some left)) known fails)

  not_made : (fault : UpdateFault) → IsRun (Err fault) → between.sink ≡ old.sink → IsLeft (Err (Updating (Update fault))) between
  not_made updating.NoMemory u sink =
      stopped held (course_of_update held s (update_outcome Image held s) more) content old between known (Err (Updating (Update updating.NoMemory))) (λ session e. absurd (cc)) u.written sink refl (λ w. w) tt
  not_made updating.StoreFault u sink = elim (answer (Err updating.StoreFault) u) [
    | inl risen ↦ stopped held (course_of_update held s (update_outcome Image held s) more) content old between known (Err (Updating (Update updating.StoreFault))) (λ session e. absurd (cc)) u.written sink refl (λ w. w) (inl risen)
    | inr lacks ↦ by_outcome (Err (Updating (Update updating.StoreFault))) between Lacking lacks
        (stopped held (refused s updating.StoreFault) content old between known (Err (Updating (Update updating.StoreFault))) (λ session e. absurd (cc)) u.written sink refl (λ w. w) (inr (refl, refl)))
  ]
  not_made (updating.TooLarge nodes bytes) u sink =
      let to : Result Loaded ScriptFault = Err (Updating (Update (updating.TooLarge nodes bytes))) in
      by_outcome to between (TooLarge nodes bytes) (answer (Err (updating.TooLarge nodes bytes)) u)
      (stopped held (refused s (updating.TooLarge nodes bytes)) content old between known to (λ session e. absurd (cc)) u.written sink refl (λ w. w) (refl, refl))
  not_made (updating.TooMany count) u sink =
      let to : Result Loaded ScriptFault = Err (Updating (Update (updating.TooMany count))) in
      by_outcome to between (TooMany count) (answer (Err (updating.TooMany count)) u)
      (stopped held (refused s (updating.TooMany count)) content old between known to (λ session e. absurd (cc)) u.written sink refl (λ w. w) (refl, refl))
  not_made (updating.DiskFault fault) u sink =
      let left = u.written in
      let writes = answer (Err (updating.DiskFault fault)) u in
      by_outcome (Err (Updating (Update (updating.DiskFault fault)))) between Writes writes
      (partly left.texts (texts_are held s left.texts old.store.held is writes left.are)
      (part_slots fault.slot (writes_of left.texts) between.disk.contents left.written.contents) sink fault left.written.faults)

  module _ (done : Loaded × Report) (u : IsRun (Ok done)) where
    planned : done.0 ≡ planned_image Image held s
    planned = let is_updated = knowing held (λ held. IsUpdated Image held s done) old.store.held is u.updated in is_updated.planned

    -- the update opens its files
    begun : Relates (IsFollowedBy (update_keys Image held s.tree s.stamps)) old.store.keys between.store.keys
    begun =
        let reads = knowing held
        (λ held. ReadsFiles (lacks_file Image held s.tree s.stamps ≡ true) (Some (update_keys Image held s.tree s.stamps)) (Some (update_bytes Image held s.tree s.stamps)) Complete old.store between.store)
        old.store.held is u.reads.keys in
        reads.begins

    -- the report is that of the texts
    report_of : (P : List ℕ → Type 0) → P done.1.text → P u.written.texts.report
    report_of P written = subst P u.written.report_is written

    reported : Relates (IsFollowedBy done.1.text) old.sink.written between.sink.written × (between.sink.faults ≡ old.sink.faults) → (to : Result Loaded ScriptFault) (new : States)
        → ((after : DiskContent) → between.disk.contents ≡ Some after → LeavesRebuilt held (more (planned_image Image held s)) to after between new) → IsLeft to new
    reported (written, faults) to new next =
        let left = u.written in
        let all = all_written (writes_of left.texts) between.disk.contents left.written.contents in
        let writes = answer (Ok done) u in
        by_outcome to new Writes writes
        (made_on to new left.texts (texts_are held s left.texts old.store.held is writes left.are) all.0 all.1.1
        (report_of (λ report. Relates (IsFollowedBy report) old.sink.written between.sink.written) written)
        (record { store = u.reads.any.faults; disk = u.disk_faults; sink = omega (arith, faults) }) begun
        (next all.0 all.1.0))

    not_reported : Relates (IsFollowedByPart done.1.text) old.sink.written between.sink.written × HasRisen old.sink.faults between.sink.faults
        → IsLeft (Err (Updating OutputFault)) between
    not_reported (written, risen) =
        let left = u.written in
        let all = all_written (writes_of left.texts) between.disk.contents left.written.contents in
        let writes = answer (Ok done) u in
        by_outcome (Err (Updating OutputFault)) between Writes writes
        (unreported left.texts (texts_are held s left.texts old.store.held is writes left.are) all.0 all.1.1 all.1.0
        (report_of (λ report. Relates (IsFollowedByPart report) old.sink.written between.sink.written) written) risen)

  -- a script that ends with this update
  at_end : (ended to : Result Loaded ScriptFault) (new : States) → IsLeft ended between → (to ≡ ended) × (new ≡ between) → IsLeft to new
  at_end ended to new left (e, same) = subst (λ (to : Result Loaded ScriptFault). IsLeft to new) (sym e) (subst (λ (new : States). IsLeft ended new) (sym same) left)

  module _ (number : ℕ) (to : Result Loaded ScriptFault) (new : States) (Rest : Loaded → Type 0)
      (next : update_outcome Image held s ≡ Writes → between.store.held ≡ Some held → (after : DiskContent) → between.disk.contents ≡ Some after → Rest (planned_image Image held s) → LeavesRebuilt held (more (planned_image Image held s)) to after between new) where
    by_result : (one : Result Loaded UpdatingFault) (result : Result (Loaded × Report) UpdateFault) → IsRun result → Reports result one old.sink between.sink
        → GoesOn number (updated one) Rest to between new → IsLeft to new
    by_result (Ok session) (Ok done) u reports goes =
        reported done u reports.1 to new (λ after there. next (answer (Ok done) u) (u.reads.any.held ∙ is) after there (subst Rest (reports.0 ∙ planned done u) goes))
    by_result (Err OutputFault) (Ok done) u reports goes = at_end (Err (Updating OutputFault)) to new (not_reported done u reports) goes
    by_result (Err (Update fault)) (Ok done) u reports goes = absurd reports
    by_result one (Err fault) u reports goes =
        at_end (Err (Updating (Update fault))) to new (not_made fault u reports.1)
        (subst (λ (one : Result Loaded UpdatingFault). GoesOn number (updated one) Rest to between new) reports.0 goes)

-- ---- the lines

module _ (tag : Tag) (held : Contents) where
  abbrev pub AreRebuilt : List (List ℕ) → Type 0
  AreRebuilt lines = (number : ℕ) (s : Loaded) (to : Result Loaded ScriptFault) (content : DiskContent) (old new : States) → old.store.held ≡ Some held → old.disk.contents ≡ Some content
      → RunsLines tag number lines s to old new → LeavesRebuilt held (course held number lines s) to content old new

  module _ (lines : List (List ℕ)) (are : AreRebuilt lines) (number : ℕ) (s : Loaded) (to : Result Loaded ScriptFault) (content : DiskContent) (old new : States)
      (is : old.store.held ≡ Some held) (known : old.disk.contents ≡ Some content) where
    abbrev more : Loaded → Course
    more session = course held (1 + number) lines session

    abbrev GoesFrom : States → Result Loaded LineFault → Type 0
    GoesFrom between one = GoesOn number one (λ session. RunsLines tag (1 + number) lines session to between new) to between new

    -- after a line that asks for no update
    edit_on : (one : Result Loaded LineFault) → IsEdit s one → GoesFrom old one → LeavesRebuilt held (goes_on number one more) to content old new
    edit_on (Ok session) kept goes = are (1 + number) session to content old new is known goes
    edit_on (Err fault) (kind, bad) (e, same) =
        let end : Result Loaded ScriptFault = Err (Line number kind) in
        subst (λ (fault : LineFault). LeavesRebuilt held (ends (Err (numbered number fault))) to content old new) (sym bad)
        (subst (λ (to : Result Loaded ScriptFault). LeavesRebuilt held (ends end) to content old new) (sym (e ∙ ap (λ fault. Err (numbered number fault)) bad))
        (unmoved held (ends end) content old new known end same refl (λ w. w) (refl, refl)))

    module _ (one : Result Loaded LineFault) (between : States) (goes : GoesFrom between one) where
      edited_on : (asked : Result ScriptLine LineKind) → (one ≡ after_line asked s) × (between ≡ old) → LeavesRebuilt held (goes_on number (after_line asked s) more) to content old new
      edited_on asked (e, same) = edit_on (after_line asked s) (edit_is s asked)
          (subst (λ (one : Result Loaded LineFault). GoesFrom old one) e (subst (λ (between : States). GoesFrom between one) same goes))

      updated_on : DoesUpdate tag s one old between → LeavesRebuilt held (course_of_update held s (update_outcome Image held s) more) to content old new
      updated_on (this, (u, e)) =
          by_result tag held s more content old between is known number to new
          (λ session. RunsLines tag (1 + number) lines session to between new)
          (λ writes held_too after there runs. are (1 + number) (planned_image Image held s) to after between new held_too there runs)
          this u.result u.updates u.reports (subst (λ (one : Result Loaded LineFault). GoesFrom between one) e goes)

      line_on : (asked : Result ScriptLine LineKind) → DoesLine tag asked s one old between → LeavesRebuilt held (course_by held number asked s more) to content old new
      line_on (Ok asking.Update) does = updated_on does
      line_on (Ok asking.Ignored) does = edited_on (Ok asking.Ignored) does
      line_on (Ok (asking.Put entry)) does = edited_on (Ok (asking.Put entry)) does
      line_on (Ok (asking.Drop path)) does = edited_on (Ok (asking.Drop path)) does
      line_on (Err kind) does = edited_on (Err kind) does

  line_rebuilt : (line : List ℕ) (lines : List (List ℕ)) → AreRebuilt lines → AreRebuilt (line ∷ lines)
  line_rebuilt line lines are number s to content old new is known (one, (between, (takes, goes))) = elim takes [
    | inl does ↦ line_on lines are number s to content old new is known one between goes (line_of line) does
    | inr out ↦
        let end : (to ≡ Err NoMemory) × (new ≡ between) =
        subst (λ (one : Result Loaded LineFault). GoesOn number one (λ session. RunsLines tag (1 + number) lines session to between new) to between new) out.0 goes in
        subst (λ (to : Result Loaded ScriptFault). LeavesRebuilt held (course held number (line ∷ lines) s) to content old new) (sym end.0)
        (unmoved held (course held number (line ∷ lines) s) content old new known (Err NoMemory) (end.1 ∙ out.1) refl (λ w. w) tt)
  ]

  pub are_rebuilt : (lines : List (List ℕ)) → AreRebuilt lines
  are_rebuilt [] number s to content old new is known (done, same) =
      subst (λ (to : Result Loaded ScriptFault). LeavesRebuilt held (ends (Ok s)) to content old new) (sym done)
      (unmoved held (ends (Ok s)) content old new known (Ok s) same refl (λ w. w) (refl, refl))
  are_rebuilt (line ∷ lines) number s to content old new is known runs =
      line_rebuilt line lines (λ n t e c a b. are_rebuilt lines n t e c a b) number s to content old new is known runs
