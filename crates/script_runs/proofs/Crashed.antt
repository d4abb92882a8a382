-- What a crash of a script leaves.
use Rattle.std.proofs.Common.{◌≡◌, ◌+◌, ◌++◌, ℕ, List, [], ◌∷◌, All, drop, append-nil, flat_map, get_or, Option, Some, None, Result, Ok, Err, refl, ap, sym, subst, ◌∙◌, inl, inr, arith}
use Rattle.std.proofs.lemmas.List.Elements.{All-cons, All-nil}
use Rattle.hwcap_dirs.specs.declared.kinds.Scope.TheVariants.{Image}
use Rattle.atomic_replace.specs.declared.fault.DiskFault.{DiskFault}
use Rattle.atomic_replace.specs.Replace.{StopsAt, call_by}
use Rattle.ldconfig_core.specs.Outcome.{Outcome, update_outcome}
use Rattle.ldconfig_core.specs.Settled.{planned_image}
use Rattle.ldconfig_core.specs.Texts.{AreTexts, UpdateTexts, writes_of}
use Rattle.ldconfig_core.specs.Update.{IsUpdated, Updates}
use Rattle.ldconfig_core.specs.declared.fault.UpdateFault.{UpdateFault}
use Rattle.ldconfig_core.specs.declared.fault.UpdateFault.TheVariants as updating
use Rattle.ldconfig_core.specs.declared.report.Report.{Report}
use Rattle.image_session.specs.Session.{Loaded}
use Rattle.manifest_words.specs.declared.fault.LineKind.{LineKind}
use Rattle.atomic_replace.proofs.CrashesOneByOne.{leaves_on, nothing_left}
use Rattle.atomic_replace.specs.OneByOne.{IsOfWrites, LeavesOnlyWritten, calls_of}
use Rattle.script_lines.specs.Script.{line_of}
use Rattle.script_lines.specs.declared.line.ScriptLine.{ScriptLine}
use Rattle.script_lines.specs.declared.line.ScriptLine.TheVariants as asking
use Rattle.tree_face.specs.Crash.{HasMoments, Leaves}
use Rattle.tree_face.specs.Disk.{DiskState}
use Rattle.tree_face.proofs.Follows.{follow}
use Rattle.tree_face.proofs.Known.{relates_by, relates_on}
use Rattle.tree_face.specs.declared.disk.DoneCall.{DoneCall}
use Rattle.tree_face.specs.Follows.{IsFollowedBy}
use Rattle.tree_face.specs.Known.{IfKnown, Relates}
use Rattle.tree_face.specs.Store.{Contents}
use Rattle.tree_face.specs.declared.disk.Tag.{Tag}
use Rattle.update_runs.specs.Update.{Reports, States}
use Rattle.update_runs.specs.declared.fault.UpdatingFault.{UpdatingFault}
use Rattle.update_runs.specs.declared.fault.UpdatingFault.TheVariants.{OutputFault, Update}
use Rattle.script_runs.specs.declared.fault.LineFault.{LineFault}
use Rattle.script_runs.specs.declared.fault.LineFault.TheVariants as lines_end
use Rattle.script_runs.specs.declared.fault.ScriptFault.{ScriptFault}
use Rattle.script_runs.specs.declared.fault.ScriptFault.TheVariants.{Line, NoMemory, Updating}
use Rattle.script_runs.proofs.EditedImage.{IsEdit, edit_is}
use Rattle.script_runs.proofs.UpdateOf.{of_update}
use Rattle.script_runs.specs.Course.{Course, course, course_by, course_of_update, goes_on}
use Rattle.script_runs.specs.Crash.{AreOfCourse, AreOfFirst, IsNotDone, LeavesLast, LeavesWholeCaches, MakesCalls, NoneFailed, calls_of_all}
use Rattle.script_runs.specs.Faults.{numbered, updated}
use Rattle.script_runs.specs.Left.{IsUpdateOf}
use Rattle.script_runs.specs.Run.{DoesLine, DoesUpdate, GoesOn, RunsLines, after_line}

-- ---- lists

first_is : (x y : UpdateTexts) (xs ys : List UpdateTexts) → x ∷ xs ≡ y ∷ ys → x ≡ y
first_is x y xs ys e = ap (λ list. get_or list 0 x) e

rest_is : (x y : UpdateTexts) (xs ys : List UpdateTexts) → x ∷ xs ≡ y ∷ ys → xs ≡ ys
rest_is x y xs ys e = ap (drop 1) e

-- a script that ends with a fault isn't done
pub fault_ends : (to : Result Loaded ScriptFault) (fault : ScriptFault) → to ≡ Err fault → IsNotDone to
fault_ends to fault is session done = let z : Ok session ≡ Err fault = sym done ∙ is in absurd (cc)

-- ---- updates

-- these updates were made between the two disk states; the last one may have failed
record AreWritten (tag : Tag) (updates : List UpdateTexts) (to : Result Loaded ScriptFault) (old new : DiskState) : Type 0 where
  are : All AreTexts updates
  leaves : Leaves (IsOfWrites (flat_map writes_of updates)) old new
  none : updates ≡ [] → new ≡ old
  settled : NoneFailed to → LeavesLast updates new
  calls : Relates (MakesCalls tag updates to) old.calls new.calls

-- some updates with this property were made
abbrev HasWritten : Tag → (List UpdateTexts → Type 0) → Result Loaded ScriptFault → DiskState → DiskState → Type 0
HasWritten tag Of to old new = (updates : List UpdateTexts) × (AreWritten tag updates to old new × Of updates)

no_last : (new : DiskState) → LeavesLast [] new
no_last new [] last e = absurd (cc)
no_last new (x ∷ front) last e = absurd (cc)

-- no writing call failed, because the script ends in the same way
none_failed : (to other : Result Loaded ScriptFault) → to ≡ other → NoneFailed other → NoneFailed to
none_failed to other is none fault e = none fault (sym is ∙ e)

no_calls : (tag : Tag) (to : Result Loaded ScriptFault) → NoneFailed to → (calls : Option (List DoneCall)) → Relates (MakesCalls tag [] to) calls calls
no_calls tag to none None = tt
no_calls tag to none (Some calls) = record { all = λ _. sym (append-nil calls); part = λ fault failed. absurd (none fault failed) }

nothing_written : (tag : Tag) (Of : List UpdateTexts → Type 0) (to : Result Loaded ScriptFault) (old new : DiskState) → NoneFailed to → Of [] → new ≡ old → HasWritten tag Of to old new
nothing_written tag Of to old new none_fails none same = (
  [],
  (
    record {
      are = All-nil AreTexts;
      leaves = subst (λ (new : DiskState). Leaves (IsOfWrites []) old new) (sym same) (nothing_left old);
      none = λ _. same;
      settled = λ _. no_last new;
      calls = subst (λ (new : DiskState). Relates (MakesCalls tag [] to) old.calls new.calls) (sym same) (no_calls tag to none_fails old.calls);
    },
    none,
  ),
)

module _ (tag : Tag) (texts : UpdateTexts) (are : AreTexts texts) (to : Result Loaded ScriptFault) (old between new : DiskState) (leaves : Leaves (IsOfWrites (writes_of texts)) old between)
    (first : Relates (IsFollowedBy (calls_of tag (writes_of texts))) old.calls between.calls) where
  calls_on : (updates : List UpdateTexts) (x y z : List DoneCall) → IsFollowedBy (calls_of tag (writes_of texts)) x y → MakesCalls tag updates to y z → MakesCalls tag (texts ∷ updates) to x z
  calls_on updates x y z one rest =
      let these = calls_of tag (writes_of texts) in
      record {
        all = λ none. follow these (calls_of_all tag updates) x y z one (rest.all none);
        part = λ fault failed. let left = rest.part fault failed in record {
          front = texts ∷ left.front;
          last = left.last;
          parts = ap (λ l. texts ∷ l) left.parts;
          stops = subst (λ (made : List DoneCall). StopsAt (call_by tag fault.slot fault.call) (calls_of tag (writes_of left.last)) made z)
              (follow these (calls_of_all tag left.front) x y (y ++ calls_of_all tag left.front) one refl) left.stops;
        };
      }

  last_is : (updates : List UpdateTexts) → IfKnown between.contents (λ _. LeavesOnlyWritten (writes_of texts) between) → (updates ≡ [] → new ≡ between) → LeavesLast updates new
      → LeavesLast (texts ∷ updates) new
  last_is updates settled none later [] last e =
      subst (λ (texts : UpdateTexts). IfKnown new.contents (λ _. LeavesOnlyWritten (writes_of texts) new)) (first_is texts last updates [] e)
      (subst (λ (new : DiskState). IfKnown new.contents (λ _. LeavesOnlyWritten (writes_of texts) new)) (sym (none (rest_is texts last updates [] e))) settled)
  last_is updates settled none later (x ∷ front) last e = later front last (rest_is texts x updates (front ++ last ∷ []) e)

  -- an update that is made, and what follows
  then_written : (Of Rest : List UpdateTexts → Type 0) → IfKnown between.contents (λ _. LeavesOnlyWritten (writes_of texts) between)
      → ((updates : List UpdateTexts) → Rest updates → Of (texts ∷ updates)) → HasWritten tag Rest to between new → HasWritten tag Of to old new
  then_written Of Rest settled f (updates, (rest, is)) = (
    texts ∷ updates,
    (
      record {
        are = All-cons AreTexts texts updates are rest.are;
        leaves = leaves_on (writes_of texts) (flat_map writes_of updates) old between new leaves rest.leaves;
        none = λ e. absurd (cc);
        settled = λ other. last_is updates settled rest.none (rest.settled other);
        calls = relates_on (IsFollowedBy (calls_of tag (writes_of texts))) (MakesCalls tag updates to) (MakesCalls tag (texts ∷ updates) to) (calls_on updates) old.calls between.calls new.calls first rest.calls;
      },
      f updates is,
    ),
  )

one_fault : (to : Result Loaded ScriptFault) (fault other : DiskFault) → to ≡ Err (Updating (Update (updating.DiskFault fault))) → to ≡ Err (Updating (Update (updating.DiskFault other)))
    → fault ≡ other
one_fault to fault other is e =
    let same : Err (Updating (Update (updating.DiskFault fault))) ≡ Err (Updating (Update (updating.DiskFault other))) = sym is ∙ e in
    ap (fault_in fault) same
  where
    fault_in : DiskFault → Result Loaded ScriptFault → DiskFault
    fault_in else (Err (Updating (Update (updating.DiskFault fault)))) = fault
    fault_in else _ = else

-- an update that ends because a device fails
part_written : (tag : Tag) (Of : List UpdateTexts → Type 0) (texts : UpdateTexts) → AreTexts texts → (to : Result Loaded ScriptFault) (old new : DiskState) (fault : DiskFault)
    → to ≡ Err (Updating (Update (updating.DiskFault fault))) → Of (texts ∷ []) → Leaves (IsOfWrites (writes_of texts)) old new
    → Relates (StopsAt (call_by tag fault.slot fault.call) (calls_of tag (writes_of texts))) old.calls new.calls → HasWritten tag Of to old new
part_written tag Of texts are to old new fault failed is leaves calls = (
  texts ∷ [],
  (
    record {
      are = All-cons AreTexts texts [] are (All-nil AreTexts);
      leaves = leaves_on (writes_of texts) [] old new new leaves (nothing_left new);
      none = λ e. absurd (cc);
      settled = λ other. absurd (other fault failed);
      calls = relates_by (StopsAt (call_by tag fault.slot fault.call) (calls_of tag (writes_of texts))) (MakesCalls tag (texts ∷ []) to) stopped old.calls new.calls calls;
    },
    is,
  ),
)
  where
    stopped : (x y : List DoneCall) → StopsAt (call_by tag fault.slot fault.call) (calls_of tag (writes_of texts)) x y → MakesCalls tag (texts ∷ []) to x y
    stopped x y stops = record {
      all = λ none. absurd (none fault failed);
      part = λ other e. record {
        front = [];
        last = texts;
        parts = refl;
        stops = subst (λ (fault : DiskFault). StopsAt (call_by tag fault.slot fault.call) (calls_of tag (writes_of texts)) (x ++ []) y) (one_fault to fault other failed e)
            (subst (λ (made : List DoneCall). StopsAt (call_by tag fault.slot fault.call) (calls_of tag (writes_of texts)) made y) (sym (append-nil x)) stops);
      };
    }

-- ---- the expected run

none_of : (to : Result Loaded ScriptFault) (known : Option Contents) (course : Contents → Course)
    → ((held : Contents) (session : Loaded) → to ≡ Ok session → (course held).updates ≡ []) → AreOfCourse known to course []
none_of to None course none = tt
none_of to (Some held) course none = none held

-- a script that isn't done may have updates left
none_yet : (to : Result Loaded ScriptFault) (known : Option Contents) (course : Contents → Course) → IsNotDone to → AreOfCourse known to course []
none_yet to known course not_done = none_of to known course (λ held session done. absurd (not_done session done))

-- an update, and the updates after it
module _ (to : Result Loaded ScriptFault) (s : Loaded) (more : Contents → Loaded → Course) (texts : UpdateTexts) (updates : List UpdateTexts) where
  abbrev IsAfter : Contents → Type 0
  IsAfter held = AreOfFirst held to (more held (planned_image Image held s)).updates updates

  update_of : (known : Option Contents) → IfKnown known (λ held. IsUpdateOf held s texts) → IfKnown known IsAfter
      → AreOfCourse known to (λ held. course_of_update held s (update_outcome Image held s) (more held)) (texts ∷ updates)
  update_of None is after = tt
  update_of (Some held) is after =
      subst (λ (outcome : Outcome). AreOfFirst held to (course_of_update held s outcome (more held)).updates (texts ∷ updates)) (sym is.made) (is, after)

  -- the updates of the session with the planned links
  after_of : (session : Loaded) (known between : Option Contents) → between ≡ known → IfKnown known (λ held. session ≡ planned_image Image held s)
      → AreOfCourse between to (λ held. more held session) updates → IfKnown known IsAfter
  after_of session None between same is are = tt
  after_of session (Some held) between same is are =
      subst (λ (i : Loaded). AreOfFirst held to (more held i).updates updates) is
      (subst (λ (known : Option Contents). AreOfCourse known to (λ held. more held session) updates) same are)

-- no update is after it
last_of : (to : Result Loaded ScriptFault) (s : Loaded) (more : Contents → Loaded → Course) (texts : UpdateTexts) (known : Option Contents) → IsNotDone to
    → IfKnown known (IsAfter to s more texts [])
last_of to s more texts None not_done = tt
last_of to s more texts (Some held) not_done = λ session done. absurd (not_done session done)

planned_of : (known : Option Contents) (s session : Loaded) (done : Loaded × Report) → session ≡ done.0 → IfKnown known (λ held. IsUpdated Image held s done)
    → IfKnown known (λ held. session ≡ planned_image Image held s)
planned_of None s session done same is = tt
planned_of (Some held) s session done same is = same ∙ is.planned

-- ---- the lines

module _ (tag : Tag) where
  abbrev AreWrittenBy : List (List ℕ) → Type 0
  AreWrittenBy lines = (number : ℕ) (s : Loaded) (to : Result Loaded ScriptFault) (old new : States) → RunsLines tag number lines s to old new
      → HasWritten tag (AreOfCourse old.store.held to (λ held. course held number lines s)) to old.disk new.disk

  module _ (lines : List (List ℕ)) (are : AreWrittenBy lines) (number : ℕ) (s : Loaded) (to : Result Loaded ScriptFault) (old new : States) where
    abbrev more : Contents → Loaded → Course
    more held session = course held (1 + number) lines session

    abbrev GoesFrom : States → Result Loaded LineFault → Type 0
    GoesFrom between one = GoesOn number one (λ session. RunsLines tag (1 + number) lines session to between new) to between new

    -- ---- an update

    module _ (between : States) where
      abbrev OfUpdate : List UpdateTexts → Type 0
      OfUpdate = AreOfCourse old.store.held to (λ held. course_of_update held s (update_outcome Image held s) (more held))

      abbrev IsRun : Result (Loaded × Report) UpdateFault → Type 0
      IsRun result = Updates Image tag s result old.store between.store old.disk between.disk

      unwritten : IsNotDone to → NoneFailed to → between.disk ≡ old.disk → new ≡ between → HasWritten tag OfUpdate to old.disk new.disk
      unwritten not_done none_fails kept same = nothing_written tag OfUpdate to old.disk new.disk none_fails
          (none_yet to old.store.held (λ held. course_of_update held s (update_outcome Image held s) (more held)) not_done)
          (ap (λ (d : States). d.disk) same ∙ kept)

      failed : (fault : UpdateFault) → IsRun (Err fault) → to ≡ Err (Updating (Update fault)) → new ≡ between → HasWritten tag OfUpdate to old.disk new.disk
      failed (updating.DiskFault fault) u is same =
          let left = u.written in
          subst (λ (s : States). HasWritten tag OfUpdate to old.disk s.disk) (sym same)
          (part_written tag OfUpdate left.texts left.are.are to old.disk between.disk fault is
          (update_of to s more left.texts [] old.store.held (of_update s left.texts old.store.held left.are u.answers)
          (last_of to s more left.texts old.store.held (fault_ends to (Updating (Update (updating.DiskFault fault))) is))) left.written.leaves left.written.calls)
      failed updating.StoreFault u is same = unwritten (fault_ends to (Updating (Update updating.StoreFault)) is) (none_failed to (Err (Updating (Update updating.StoreFault))) is (λ fault e. absurd (cc))) u.written same
      failed (updating.TooLarge nodes bytes) u is same = unwritten (fault_ends to (Updating (Update (updating.TooLarge nodes bytes))) is) (none_failed to (Err (Updating (Update (updating.TooLarge nodes bytes)))) is (λ fault e. absurd (cc))) u.written same
      failed (updating.TooMany count) u is same = unwritten (fault_ends to (Updating (Update (updating.TooMany count))) is) (none_failed to (Err (Updating (Update (updating.TooMany count)))) is (λ fault e. absurd (cc))) u.written same
      failed updating.NoMemory u is same = unwritten (fault_ends to (Updating (Update updating.NoMemory)) is) (none_failed to (Err (Updating (Update updating.NoMemory))) is (λ fault e. absurd (cc))) u.written same

      updated_by : (one : Result Loaded UpdatingFault) (result : Result (Loaded × Report) UpdateFault) → IsRun result → Reports result one old.sink between.sink
          → GoesFrom between (updated one) → HasWritten tag OfUpdate to old.disk new.disk
      updated_by (Ok session) (Ok done) u reports runs =
          let left = u.written in
          then_written tag left.texts left.are.are to old.disk between.disk new.disk left.written.leaves left.written.calls OfUpdate
          (AreOfCourse between.store.held to (λ held. more held session)) left.written.settled
          (λ updates rest. update_of to s more left.texts updates old.store.held (of_update s left.texts old.store.held left.are u.answers)
          (after_of to s more left.texts updates session old.store.held between.store.held u.reads.any.held (planned_of old.store.held s session done reports.0 u.updated) rest))
          (are (1 + number) session to between new runs)
      updated_by (Err OutputFault) (Ok done) u reports (e, end) =
          let left = u.written in
          then_written tag left.texts left.are.are to old.disk between.disk new.disk left.written.leaves left.written.calls OfUpdate (λ updates. updates ≡ []) left.written.settled
          (λ updates none. subst (λ (updates : List UpdateTexts). OfUpdate (left.texts ∷ updates)) (sym none)
          (update_of to s more left.texts [] old.store.held (of_update s left.texts old.store.held left.are u.answers)
          (last_of to s more left.texts old.store.held (fault_ends to (Updating OutputFault) e))))
          (nothing_written tag (λ updates. updates ≡ []) to between.disk new.disk (none_failed to (Err (Updating OutputFault)) e (λ fault e. absurd (cc))) refl (ap (λ (d : States). d.disk) end))
      updated_by (Err (Update fault)) (Ok done) u reports goes = absurd reports
      updated_by one (Err fault) u reports goes =
          let end : (to ≡ Err (Updating (Update fault))) × (new ≡ between) = subst (λ (one : Result Loaded UpdatingFault). GoesFrom between (updated one)) reports.0 goes in
          failed fault u end.0 end.1

    -- ---- another line

    edited_by : (one : Result Loaded LineFault) → IsEdit s one → GoesFrom old one → HasWritten tag (AreOfCourse old.store.held to (λ held. goes_on number one (more held))) to old.disk new.disk
    edited_by (Ok session) kept runs =
        are (1 + number) session to old new runs
    edited_by (Err fault) (kind, bad) (e, end) = nothing_written tag (AreOfCourse old.store.held to (λ held. goes_on number (Err fault) (more held))) to old.disk new.disk
        (none_failed to (Err (Line number kind)) (e ∙ ap (λ fault. Err (numbered number fault)) bad) (λ fault e. absurd (cc)))
        (none_of to old.store.held (λ held. goes_on number (Err fault) (more held)) (λ held session done. refl)) (ap (λ (d : States). d.disk) end)

    edit_by : (asked : Result ScriptLine LineKind) (one : Result Loaded LineFault) (between : States) → (one ≡ after_line asked s) × (between ≡ old) → GoesFrom between one
        → HasWritten tag (AreOfCourse old.store.held to (λ held. goes_on number (after_line asked s) (more held))) to old.disk new.disk
    edit_by asked one between (is, same) goes = edited_by (after_line asked s) (edit_is s asked)
        (subst (λ (one : Result Loaded LineFault). GoesFrom old one) is (subst (λ (between : States). GoesFrom between one) same goes))

    update_by : (one : Result Loaded LineFault) (between : States) → DoesUpdate tag s one old between → GoesFrom between one
        → HasWritten tag (OfUpdate between) to old.disk new.disk
    update_by one between (this, (u, e)) goes =
        updated_by between this u.result u.updates u.reports (subst (λ (one : Result Loaded LineFault). GoesFrom between one) e goes)

    line_by : (asked : Result ScriptLine LineKind) (one : Result Loaded LineFault) (between : States) → DoesLine tag asked s one old between → GoesFrom between one
        → HasWritten tag (AreOfCourse old.store.held to (λ held. course_by held number asked s (more held))) to old.disk new.disk
    line_by (Ok asking.Update) one between u goes = update_by one between u goes
    line_by (Ok asking.Ignored) one between does goes = edit_by (Ok asking.Ignored) one between does goes
    line_by (Ok (asking.Put entry)) one between does goes = edit_by (Ok (asking.Put entry)) one between does goes
    line_by (Ok (asking.Drop path)) one between does goes = edit_by (Ok (asking.Drop path)) one between does goes
    line_by (Err kind) one between does goes = edit_by (Err kind) one between does goes

    -- memory is out
    ended_by : (Of : List UpdateTexts → Type 0) → (IsNotDone to → Of []) → (one : Result Loaded LineFault) (between : States) → (one ≡ Err lines_end.NoMemory) × (between ≡ old) → GoesFrom between one
        → HasWritten tag Of to old.disk new.disk
    ended_by Of none one between (is, same) goes =
        let end : (to ≡ Err NoMemory) × (new ≡ between) = subst (λ (one : Result Loaded LineFault). GoesFrom between one) is goes in
        nothing_written tag Of to old.disk new.disk (none_failed to (Err NoMemory) end.0 (λ fault e. absurd (cc))) (none (fault_ends to NoMemory end.0)) (ap (λ (d : States). d.disk) (end.1 ∙ same))

  are_written : (lines : List (List ℕ)) → AreWrittenBy lines
  are_written [] number s to old new (done, same) =
      nothing_written tag (AreOfCourse old.store.held to (λ held. course held number [] s)) to old.disk new.disk (none_failed to (Ok s) done (λ fault e. absurd (cc)))
      (none_of to old.store.held (λ held. course held number [] s) (λ held session done. refl)) (ap (λ (d : States). d.disk) same)
  are_written (line ∷ lines) number s to old new (one, (between, (takes, goes))) = elim takes [
    | inl does ↦ line_by lines (λ n t e a b. are_written lines n t e a b) number s to old new (line_of line) one between does goes
    | inr out ↦ ended_by lines (λ n t e a b. are_written lines n t e a b) number s to old new
        (AreOfCourse old.store.held to (λ held. course held number (line ∷ lines) s))
        (λ not_done. none_yet to old.store.held (λ held. course held number (line ∷ lines) s) not_done) one between out goes
  ]

pub whole_caches : (tag : Tag) (lines : List (List ℕ)) (number : ℕ) (s : Loaded) (to : Result Loaded ScriptFault) (old new : States) → HasMoments old.disk
    → RunsLines tag number lines s to old new → LeavesWholeCaches tag old.store.held number lines s to old.disk new.disk
whole_caches tag lines number s to old new laws runs =
    let written = are_written tag lines number s to old new runs in
    record {
      updates = written.0;
      are = written.1.0.are;
      of_course = written.1.1;
      whole = λ slot b h. elim (written.1.0.leaves.during old.disk.time slot b (omega arith) h) [
        | inl was ↦ inl (sym (laws.now slot b) ∙ was)
        | inr is ↦ inr is
      ];
      settled = written.1.0.settled;
      calls = written.1.0.calls;
    }
