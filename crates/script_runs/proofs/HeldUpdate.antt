-- The files that a script leaves hold the update of the last updated session, and loading them gives that session.
use Rattle.std.proofs.Common.{◌≡◌, ◌⊎◌, ◌+◌, ◌++◌, ℕ, Bool, true, false, List, [], ◌∷◌, drop, get_or, Option, Some, None, Result, Ok, Err, refl, ap, sym, subst, ◌∙◌, inl, inr}
use Rattle.std.proofs.lemmas.List.Elements.{All-contains, All-cons, All-head, All-nil, All-tail, All-weaker}
use Rattle.std.specs.List.{All, Contains}
use Rattle.std.specs.Option.{option_or}
use Rattle.hwcap_dirs.specs.declared.kinds.Scope.TheVariants.{Image}
use Rattle.image_tree.specs.Tree.{Nodes}
use Rattle.aux_cache.specs.declared.stamps.Stamp.{Stamp}
use Rattle.cache_lookup.specs.Scan.{AreDescending}
use Rattle.cache_reader.specs.Cache.{defect, read}
use Rattle.ldconfig_core.proofs.LookedUp.{searched_too}
use Rattle.ldconfig_core.proofs.OneText.{again}
use Rattle.ldconfig_core.proofs.SettledImage.{unwritten as unlinked}
use Rattle.ldconfig_core.proofs.WrittenSlots.{written_slots}
use Rattle.ldconfig_core.specs.Lookup.{FindsAsSearched}
use Rattle.ldconfig_core.specs.Outcome.{Lacking, Outcome, TooLarge, TooMany, Writes, manifest_with, new_manifest, update_outcome}
use Rattle.ldconfig_core.specs.Repair.{IsImageIn, slots_after}
use Rattle.ldconfig_core.specs.Settled.{IfReads, planned_image}
use Rattle.ldconfig_core.specs.Texts.{UpdateTexts, writes_of}
use Rattle.image_session.specs.Aux.{stamps_of_slot}
use Rattle.image_session.specs.Manifest.{HasTree, manifest_of}
use Rattle.image_session.specs.Session.{Loaded, image_with}
use Rattle.manifest_words.specs.declared.fault.LineKind.{LineKind}
use Rattle.script_lines.specs.Script.{line_of}
use Rattle.script_lines.specs.declared.line.ScriptLine.{ScriptLine}
use Rattle.script_lines.specs.declared.line.ScriptLine.TheVariants as asking
use Rattle.library_search.specs.Ldconfig.{links_in, planned_in}
use Rattle.link_plan.specs.declared.kinds.Planned.{Planned}
use Rattle.tree_face.specs.Disk.{DiskContent, Slots}
use Rattle.tree_face.specs.Store.{Contents}
use Rattle.update_runs.specs.Update.{States}
use Rattle.script_runs.specs.declared.fault.LineFault.{LineFault}
use Rattle.script_runs.specs.declared.fault.ScriptFault.{ScriptFault}
use Rattle.script_runs.proofs.AskedFor.{are_asked}
use Rattle.script_runs.proofs.EditedImage.{IsEdit, edit_is}
use Rattle.script_runs.proofs.ReliableCourse.{each_reliable}
use Rattle.script_runs.specs.Course.{AreReliable, Course, IsReliable, course, course_by, course_of_update, goes_on}
use Rattle.script_runs.specs.Left.{AreMade, HasItsTree, HoldUpdateOf, IsUpdateOf, LeavesRebuilt, OfLast, RebuildsScript}
use Rattle.script_runs.specs.Run.{after_line}

-- ---- the last of a list

module _ (u : Loaded) (us : List Loaded) where
  -- the last item of a list with one more item in front is that item, or the last of the others
  last_by : (P : Loaded → Type 0) → (us ≡ [] → P u) → OfLast us P → OfLast (u ∷ us) P
  last_by P here later [] last e = subst P (ap (λ list. get_or list 0 u) e) (here (ap (drop 1) e))
  last_by P here later (x ∷ front) last e = later front last (ap (drop 1) e)

none_last : (P : Loaded → Type 0) → OfLast [] P
none_last P [] last e = absurd (cc)
none_last P (x ∷ front) last e = absurd (cc)

-- no update is made
ended : (held : Contents) (us : List Loaded) (before after : Slots) (reports : List (List ℕ)) → us ≡ [] → AreMade held us before after reports → after ≡ before
ended held [] before after reports none made = made.0
ended held (u ∷ us) before after reports none made = absurd (cc)

-- ---- the update of the files that are left

module _ (held : Contents) where
  held_by : (u : Loaded) (texts : UpdateTexts) (before : Slots) → IsReliable held u → IsUpdateOf held u texts → HoldUpdateOf held (planned_image Image held u) (slots_after (writes_of texts) before)
  held_by u texts before here is =
      let settled = is.settled here in
      let more = again Image held u (planned_image Image held u) texts settled is.are in
      let slots = written_slots texts before in
      record {
        are_true = settled.are_true;
        same = settled.same;
        made = settled.outcome is.made;
        texts = more.0;
        are = more.1.0;
        manifest = more.1.1.manifest;
        cache = ap (λ (x : Slots). x.cache) slots ∙ ap (λ bytes. Some bytes) (sym more.1.1.cache);
        aux = ap (λ (x : Slots). x.aux) slots ∙ ap (λ bytes. Some bytes) (sym more.1.1.aux);
        accepted = ap defect more.1.1.cache ∙ is.all.accepted;
        descending = subst (λ (cache : List ℕ). AreDescending (read cache)) (sym more.1.1.cache) is.all.descending;
        finds = subst (λ (cache : List ℕ). FindsAsSearched Image held (planned_image Image held u).tree (planned_image Image held u).stamps cache) (sym more.1.1.cache)
            (searched_too Image held u.tree u.stamps (planned_image Image held u).tree (planned_image Image held u).stamps texts.cache settled.entries is.finds);
      }

  held_last : (us : List Loaded) (before after : Slots) (reports : List (List ℕ)) → All (IsReliable held) us → AreMade held us before after reports → OfLast us (λ u. HoldUpdateOf held (planned_image Image held u) after)
  held_last [] before after reports reliable made = none_last (λ u. HoldUpdateOf held (planned_image Image held u) after)
  held_last (u ∷ us) before after reports reliable (texts, (is, (rest, (parts, made)))) =
      last_by u us (λ u. HoldUpdateOf held (planned_image Image held u) after)
      (λ none. subst (λ (slots : Slots). HoldUpdateOf held (planned_image Image held u) slots) (sym (ended held us (slots_after (writes_of texts) before) after rest none made)) (held_by u texts before (All-head (IsReliable held) u us reliable) is))
      (held_last us (slots_after (writes_of texts) before) after rest (All-tail (IsReliable held) u us reliable) made)

-- ---- the manifest

-- each session is the one before with the planned links, or is edited
abbrev AreChained : Contents → Loaded → List Loaded → Type 0
AreChained held s [] = Unit {0}
AreChained held s (u ∷ us) = (u.edited ≡ false → (u.tree ≡ s.tree) × (s.edited ≡ false)) × AreChained held (planned_image Image held u) us

module _ (held : Contents) where
  edited_chain : (s session : Loaded) → (session ≡ s) ⊎ (session.edited ≡ true) → (us : List Loaded) → AreChained held session us → AreChained held s us
  edited_chain s session (inl same) us are = subst (λ (x : Loaded). AreChained held x us) same are
  edited_chain s session (inr edited) [] are = tt
  edited_chain s session (inr edited) (u ∷ us) (first, rest) =
      ((λ not. let z : true ≡ false = sym edited ∙ (first not).1 in absurd (cc)), rest)

  update_chain : (s : Loaded) (outcome : Outcome) (rest : Loaded → Course) → AreChained held (planned_image Image held s) (rest (planned_image Image held s)).updates
      → AreChained held s (course_of_update held s outcome rest).updates
  update_chain s Writes rest are = ((λ not. (refl, not)), are)
  update_chain s Lacking rest are = tt
  update_chain s (TooLarge nodes bytes) rest are = tt
  update_chain s (TooMany count) rest are = tt

  module _ (number : ℕ) (s : Loaded) (rest : Loaded → Course) (are : (session : Loaded) → AreChained held session (rest session).updates) where
    edit_chain : (one : Result Loaded LineFault) → IsEdit s one → AreChained held s (goes_on number one rest).updates
    edit_chain (Ok session) is = edited_chain s session is.1 (rest session).updates (are session)
    edit_chain (Err fault) is = tt

    line_chain : (asked : Result ScriptLine LineKind) → AreChained held s (course_by held number asked s rest).updates
    line_chain (Ok asking.Update) = update_chain s (update_outcome Image held s) rest (are (planned_image Image held s))
    line_chain (Ok asking.Ignored) = edit_chain (after_line (Ok asking.Ignored) s) (edit_is s (Ok asking.Ignored))
    line_chain (Ok (asking.Put entry)) = edit_chain (after_line (Ok (asking.Put entry)) s) (edit_is s (Ok (asking.Put entry)))
    line_chain (Ok (asking.Drop path)) = edit_chain (after_line (Ok (asking.Drop path)) s) (edit_is s (Ok (asking.Drop path)))
    line_chain (Err kind) = edit_chain (after_line (Err kind) s) (edit_is s (Err kind))

  are_chained : (lines : List (List ℕ)) (number : ℕ) (s : Loaded) → AreChained held s (course held number lines s).updates
  are_chained [] number s = tt
  are_chained (line ∷ lines) number s =
      line_chain number s (λ session. course held (1 + number) lines session) (λ session. are_chained lines (1 + number) session) (line_of line)

  front_chained : (s : Loaded) (front rest : List Loaded) → AreChained held s (front ++ rest) → AreChained held s front
  front_chained s [] rest are = tt
  front_chained s (u ∷ front) rest (first, are) = (first, front_chained (planned_image Image held u) front rest are)

  -- after an update, the manifest in its file, new or old, has the planned tree
  unwritten : (edited : Bool) (t : Nodes) (plan : List Planned) → manifest_with Image edited t plan ≡ None → edited ≡ false
  unwritten true t plan none = absurd (cc)
  unwritten false t plan none = refl

  manifest_reads : (s u : Loaded) (texts : UpdateTexts) (slots : Slots) → IsUpdateOf held u texts → (u.edited ≡ false → (u.tree ≡ s.tree) × (s.edited ≡ false)) → HasItsTree s slots
      → manifest_of (option_or texts.manifest slots.manifest) ≡ HasTree (planned_image Image held u).tree
  unfolding new_manifest
  manifest_reads s u texts slots is chain has = by texts.manifest is.are.manifest_is is.manifest_read
    where
      by : (m : Option (List ℕ)) → m ≡ new_manifest Image held u → IfReads m (planned_image Image held u) → manifest_of (option_or m slots.manifest) ≡ HasTree (planned_image Image held u).tree
      by None e reads =
          let not = unwritten u.edited (planned_in Image held u.tree u.stamps) (links_in Image held u.tree u.stamps) (sym e) in
          has (chain not).1 ∙ ap HasTree (sym (chain not).0 ∙ sym (unlinked held u (sym e)))
      by (Some text) e reads = reads

  -- loading the files gives the session with the planned links
  stored_by : (s u : Loaded) (texts : UpdateTexts) (slots : Slots) → IsUpdateOf held u texts → (u.edited ≡ false → (u.tree ≡ s.tree) × (s.edited ≡ false)) → HasItsTree s slots
      → IsImageIn (slots_after (writes_of texts) slots) (planned_image Image held u)
  stored_by s u texts slots is chain has =
      let after = written_slots texts slots in
      record {
        tree = ap (λ (x : Slots). manifest_of x.manifest) after ∙ manifest_reads s u texts slots is chain has;
        is = ap (λ (x : List Stamp). of_parts x None) (sym is.aux_read)
            ∙ ap (of_parts (stamps_of_slot (Some texts.aux))) (sym is.all.undamaged)
            ∙ ap (λ (x : Slots). image_with (planned_image Image held u).tree x.aux) (sym after);
      }
    where
      of_parts : List Stamp → Option ℕ → Loaded
      of_parts stamps damaged = record { tree = planned_in Image held u.tree u.stamps; stamps = stamps; edited = false; damaged = damaged }

  has_planned : (u : Loaded) (slots : Slots) → IsImageIn slots (planned_image Image held u) → HasItsTree (planned_image Image held u) slots
  has_planned u slots is not = is.tree

  stored_last : (s : Loaded) (us : List Loaded) (before after : Slots) (reports : List (List ℕ)) → AreMade held us before after reports → AreChained held s us → HasItsTree s before
      → OfLast us (λ u. IsImageIn after (planned_image Image held u))
  stored_last s [] before after reports made are has = none_last (λ u. IsImageIn after (planned_image Image held u))
  stored_last s (u ∷ us) before after reports (texts, (is, (rest, (parts, made)))) (first, are) has =
      let here = stored_by s u texts before is first has in
      last_by u us (λ u. IsImageIn after (planned_image Image held u))
      (λ none. subst (λ (slots : Slots). IsImageIn slots (planned_image Image held u)) (sym (ended held us (slots_after (writes_of texts) before) after rest none made)) here)
      (stored_last (planned_image Image held u) us (slots_after (writes_of texts) before) after rest made are (has_planned u (slots_after (writes_of texts) before) here))

-- ---- the whole script

pub rebuilds_by : (held : Contents) (lines : List (List ℕ)) (number : ℕ) (s : Loaded) (to : Result Loaded ScriptFault) (content : DiskContent) (old new : States)
    → LeavesRebuilt held (course held number lines s) to content old new → RebuildsScript held number lines s to content old new
rebuilds_by held lines number s to content old new left = record {
  left = left;
  reliable = made_reliable;
  settled = λ reliable. held_last held left.made content.now left.slots left.reports (made_reliable reliable) left.are_made;
  stored = stored_last held s left.made content.now left.slots left.reports left.are_made
      (front_chained held s left.made left.rest (subst (λ (us : List Loaded). AreChained held s us) left.parts (are_chained held lines number s)));
}
  where
    front : (xs ys : List Loaded) → All (IsReliable held) (xs ++ ys) → All (IsReliable held) xs
    front [] ys all = All-nil (IsReliable held)
    front (x ∷ xs) ys all = All-cons (IsReliable held) x xs (All-head (IsReliable held) x (xs ++ ys) all) (front xs ys (All-tail (IsReliable held) x (xs ++ ys) all))

    -- the sessions that were updated are among those whose updates are asked for
    made_reliable : AreReliable held s.stamps (course held number lines s).asked → All (IsReliable held) left.made
    made_reliable reliable =
        let c = course held number lines s in
        let each = each_reliable held lines number s reliable in
        let updates : All (IsReliable held) c.updates =
        All-weaker (Contains c.asked) (IsReliable held) (λ u there. All-contains (IsReliable held) c.asked u each there) c.updates (are_asked held lines number s) in
        front left.made left.rest (subst (λ (us : List Loaded). All (IsReliable held) us) left.parts updates)
