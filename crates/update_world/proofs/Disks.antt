-- The calls of a world on a disk, and the state of the disk after them.
use Rattle.std.proofs.Common.{◌≡◌, ◌<◌, ◌||◌, ◌&&◌, ℕ, zero, suc, Bool, true, false, List, [], ◌∷◌, ◌++◌, length, filter, Option, Some, None, IfSome, is_some, refl, sym, ap, subst, ◌∙◌, append_assoc, append-nil, eqb, slice_get, unwrap_or, Result, Ok, Err, IfOk}
use Rattle.std.specs.Option.{option_map, option_map_or}
use Rattle.std.proofs.lemmas.Bool.{eqb-true, false≢true}
use Rattle.std.proofs.lemmas.List.Folds.{list_any-append}
use Rattle.std.proofs.lemmas.Option.{slice_get_within}
use Rattle.lib_types.specs.declared.fault.NoMemory.{NoMemory}
use Rattle.atomic_replace.specs.Order.{all_calls}
use Rattle.atomic_replace.specs.Step.{Makes}
use Rattle.tree_face.specs.Crash.{LeavesMore, left_by as file_left, published}
use Rattle.tree_face.specs.Disk.{Appends, Content, Creates, DiskContent, DiskState, Keeps, KeepsOthers, Publishes, Slots, Syncs, content_eq, slot_eq, slot_of}
use Rattle.tree_face.specs.Known.{IfKnown, Relates}
use Rattle.tree_face.specs.declared.disk.Call.{Call}
use Rattle.tree_face.specs.declared.disk.Call.TheVariants.{Create, Append, Sync, Publish, Settle}
use Rattle.tree_face.specs.declared.disk.Slot.TheVariants.{Cache}
use Rattle.update_world.specs.declared.post.Post.{Post}
use Rattle.update_world.specs.declared.post.Reading.{Reading}
use Rattle.update_world.specs.declared.post.Turn.{Turn}
use Rattle.update_world.specs.declared.post.Turn.TheVariants.{Step, Load}
use Rattle.update_world.specs.Disks.{AreMade, AreOnDisks, HoldsAlone, HoldsExactly, LeavesExactly, done, is_among, is_load}
use Rattle.update_world.specs.Turns.{PostCall, call_of, calls, calls_after, is_publish, is_settle, left, left_by, publishers, reading, reading_after, readings_after, repeated, steps_of}
use Rattle.update_world.proofs.Differ.{tags_differ}
use Rattle.update_world.proofs.Calls.{absent_differ, absent_call, call_is, calls_more, last_more, load_steps, other_steps, own_steps, place_is, place_of, publishers_more}
use Rattle.update_world.proofs.Left.{left_alone, left_more, left_same, none_more}

-- the temporary file after n calls of its updater: after one call it is empty, after two it has the bytes, after three it is flushed
abbrev HasFile : ℕ → List ℕ → Content → Bool → Type 0
HasFile zero bytes file synced = Unit {0}
HasFile (suc zero) bytes file synced = file ≡ Some []
HasFile (suc (suc zero)) bytes file synced = file ≡ Some bytes
HasFile (suc (suc (suc zero))) bytes file synced = (file ≡ Some bytes) × (synced ≡ true)
HasFile (suc (suc (suc (suc n)))) bytes file synced = Unit {0}

past_file : (k : ℕ) (bytes : List ℕ) (file : Content) (synced : Bool) → slice_get all_calls k ≡ None → HasFile (suc k) bytes file synced
past_file zero bytes file synced e = absurd (false≢true (sym (ap is_some e)))
past_file (suc zero) bytes file synced e = absurd (false≢true (sym (ap is_some e)))
past_file (suc (suc zero)) bytes file synced e = absurd (false≢true (sym (ap is_some e)))
past_file (suc (suc (suc k))) bytes file synced e = tt

related : {A : Type 0} (R : A → A → Type 0) (a : A) (o : Option A) → Relates R (Some a) o → (b : A) × (o ≡ Some b) × R a b
related R a None r = absurd r
related R a (Some b) r = (b, refl, r)

or_none : (a : Bool) → (a || false) ≡ a
or_none true = refl
or_none false = refl

module _ (first : Content) (posts : List Post) (different : repeated posts ≡ None) where
  abbrev of_turns : List Turn → List PostCall
  of_turns turns = calls (length posts) turns

  -- the disk after the calls of these turns
  record OnDisk (turns : List Turn) (s : DiskState) : Type 0 where
    known : DiskContent
    contents : s.contents ≡ Some known
    held : known.now.cache ≡ (reading first posts (publishers (of_turns turns))).bytes
    files : (j : ℕ) (q : Post) → slice_get posts j ≡ Some q → HasFile (steps_of j turns) q.bytes (known.temporary q.tag.0 Cache) (known.synced q.tag.0 Cache)
    left : (b : Content) → s.may Cache b ≡ is_among b (left_by first posts (of_turns turns))

  starts : (s : DiskState) → HoldsAlone first s → OnDisk [] s
  starts s alone = record { known = alone.now.known; contents = alone.now.contents; held = alone.now.held; files = λ j q e. tt; left = λ b. alone.left b ∙ sym (or_none (content_eq first b)) }

  module _ (turns : List Turn) (s : DiskState) (on : OnDisk turns s) where
    -- a turn that makes no call
    still : (t : Turn) → call_of (length posts) turns t ≡ []
        → ((j : ℕ) (q : Post) → slice_get posts j ≡ Some q → HasFile (steps_of j (turns ++ t ∷ [])) q.bytes (on.known.temporary q.tag.0 Cache) (on.known.synced q.tag.0 Cache))
        → OnDisk (turns ++ t ∷ []) s
    still t none files =
        let same : of_turns (turns ++ t ∷ []) ≡ of_turns turns = calls_more (length posts) turns t ∙ ap (λ c. of_turns turns ++ c) none ∙ append-nil (of_turns turns) in
        record {
          known = on.known;
          contents = on.contents;
          held = on.held ∙ ap (λ cs. (reading first posts (publishers cs)).bytes) (sym same);
          files = files;
          left = λ b. on.left b ∙ ap (λ cs. is_among b (left_by first posts cs)) (sym same);
        }

    same_file : (t : Turn) (j : ℕ) (q : Post) → steps_of j (turns ++ t ∷ []) ≡ steps_of j turns → slice_get posts j ≡ Some q
        → HasFile (steps_of j (turns ++ t ∷ [])) q.bytes (on.known.temporary q.tag.0 Cache) (on.known.synced q.tag.0 Cache)
    same_file t j q same e = subst (λ k. HasFile k q.bytes (on.known.temporary q.tag.0 Cache) (on.known.synced q.tag.0 Cache)) (sym same) (on.files j q e)

    loaded : OnDisk (turns ++ Load ∷ []) s
    loaded = still Load refl (λ j q e. same_file Load j q (load_steps j turns) e)

    module _ (i : ℕ) where
      no_post : slice_get posts i ≡ None → OnDisk (turns ++ Step i ∷ []) s
      no_post absent = still (Step i) (absent_call posts i turns absent) (λ j q e. same_file (Step i) j q (other_steps i j turns (absent_differ posts i absent j (slice_get_within posts j q e))) e)

      no_call : i < length posts → slice_get all_calls (steps_of i turns) ≡ None → OnDisk (turns ++ Step i ∷ []) s
      no_call within none = still (Step i) (call_is (length posts) turns i within ∙ ap (λ o. option_map_or (λ (call : Call). pair call) o []) none) (λ j q e. file j q (eqb i j) refl e)
        where
          pair : Call → List PostCall
          pair call = (i, call) ∷ []

          file : (j : ℕ) (q : Post) (b : Bool) → eqb i j ≡ b → slice_get posts j ≡ Some q → HasFile (steps_of j (turns ++ Step i ∷ [])) q.bytes (on.known.temporary q.tag.0 Cache) (on.known.synced q.tag.0 Cache)
          file j q false differ e = same_file (Step i) j q (other_steps i j turns differ) e
          file j q true is e =
              subst (λ k. HasFile k q.bytes (on.known.temporary q.tag.0 Cache) (on.known.synced q.tag.0 Cache)) (sym (own_steps i j turns is))
              (past_file (steps_of j turns) q.bytes _ _ (ap (λ j. slice_get all_calls (steps_of j turns)) (sym (eqb-true i j is)) ∙ none))

      -- a turn that makes this call
      module _ (p : Post) (there : slice_get posts i ≡ Some p) (call : Call) (at : slice_get all_calls (steps_of i turns) ≡ Some call) (new : DiskState) where
        place : steps_of i turns ≡ place_of (Some call)
        place = place_is (steps_of i turns) call at

        -- the updater's own temporary file has changed in this way, and no other file has
        on_call : (known : DiskContent) → new.contents ≡ Some known
            → known.now.cache ≡ (reading first posts (publishers (of_turns turns ++ (i, call) ∷ []))).bytes
            → KeepsOthers p.tag.0 Cache on.known known
            → HasFile (suc (place_of (Some call))) p.bytes (known.temporary p.tag.0 Cache) (known.synced p.tag.0 Cache)
            → ((b : Content) → new.may Cache b ≡ is_among b (left_by first posts (of_turns turns ++ (i, call) ∷ [])))
            → OnDisk (turns ++ Step i ∷ []) new
        on_call known contents held others own left = record {
          known = known;
          contents = contents;
          held = held ∙ ap (λ cs. (reading first posts (publishers cs)).bytes) (sym more);
          files = λ j q e. file j q (eqb i j) refl e;
          left = λ b. left b ∙ ap (λ cs. is_among b (left_by first posts cs)) (sym more);
        }
          where
            pair : Call → List PostCall
            pair call = (i, call) ∷ []

            more : of_turns (turns ++ Step i ∷ []) ≡ of_turns turns ++ (i, call) ∷ []
            more =
                calls_more (length posts) turns (Step i)
                ∙ ap (λ c. of_turns turns ++ c) (call_is (length posts) turns i (slice_get_within posts i p there) ∙ ap (λ o. option_map_or (λ (call : Call). (i, call) ∷ []) o []) at)

            next_to : (q : Post) → eqb q.tag.0 p.tag.0 ≡ false → (eqb q.tag.0 p.tag.0 && slot_eq Cache Cache) ≡ false
            next_to q e = ap (λ b. b && true) e

            same_post : (p q : Post) → Some p ≡ Some q → p ≡ q
            same_post p q e = ap (λ o. unwrap_or o p) e

            file : (j : ℕ) (q : Post) (b : Bool) → eqb i j ≡ b → slice_get posts j ≡ Some q → HasFile (steps_of j (turns ++ Step i ∷ [])) q.bytes (known.temporary q.tag.0 Cache) (known.synced q.tag.0 Cache)
            file j q false differ e =
                let other = next_to q (tags_differ posts different i j p q differ there e) in
                subst (λ c. HasFile (steps_of j (turns ++ Step i ∷ [])) q.bytes c (known.synced q.tag.0 Cache)) (sym (others.bytes q.tag.0 Cache other))
                (subst (λ b. HasFile (steps_of j (turns ++ Step i ∷ [])) q.bytes (on.known.temporary q.tag.0 Cache) b) (sym (others.flushed q.tag.0 Cache other))
                (same_file (Step i) j q (other_steps i j turns differ) e))
            file j q true is e =
                let same : p ≡ q = same_post p q (sym there ∙ ap (slice_get posts) (eqb-true i j is) ∙ e) in
                subst (λ k. HasFile k q.bytes (known.temporary q.tag.0 Cache) (known.synced q.tag.0 Cache)) (ap suc (sym place ∙ ap (λ j. steps_of j turns) (eqb-true i j is)) ∙ sym (own_steps i j turns is))
                (subst (λ (q : Post). HasFile (suc (place_of (Some call))) q.bytes (known.temporary q.tag.0 Cache) (known.synced q.tag.0 Cache)) same own)

      on_made : (p : Post) → slice_get posts i ≡ Some p → (call : Call) → slice_get all_calls (steps_of i turns) ≡ Some call → (new : DiskState)
          → Makes p.tag (Cache, p.bytes) call s new done → OnDisk (turns ++ Step i ∷ []) new
      on_made p there call at new m = by call (place_is (steps_of i turns) call at) (on_call p there call at new) m
        where
          before : (call : Call) → steps_of i turns ≡ place_of (Some call) → HasFile (place_of (Some call)) p.bytes (on.known.temporary p.tag.0 Cache) (on.known.synced p.tag.0 Cache)
          before call is = subst (λ k. HasFile k p.bytes (on.known.temporary p.tag.0 Cache) (on.known.synced p.tag.0 Cache)) is (on.files i p there)

          changed : (R : DiskContent → DiskContent → Type 0) → Relates R s.contents new.contents → (known : DiskContent) × (new.contents ≡ Some known) × R on.known known
          changed R r = related R on.known new.contents (subst (λ o. Relates R o new.contents) on.contents r)

          -- the slot is unchanged
          still_held : (call : Call) (known : DiskContent) → is_publish call ≡ false → known.now ≡ on.known.now → known.now.cache ≡ (reading first posts (publishers (of_turns turns ++ (i, call) ∷ []))).bytes
          still_held call known none same =
              ap (λ (s : Slots). s.cache) same ∙ on.held ∙ ap (λ ps. (reading first posts ps).bytes) (sym (none_more first posts (of_turns turns) i call none))

          still_left : (call : Call) → is_publish call ≡ false → is_settle call ≡ false → ((b : Content) → new.may Cache b ≡ s.may Cache b)
              → (b : Content) → new.may Cache b ≡ is_among b (left_by first posts (of_turns turns ++ (i, call) ∷ []))
          still_left call none before same b = same b ∙ on.left b ∙ ap (is_among b) (sym (left_same first posts (of_turns turns) i call none before))

          bytes_read : (reading first posts (publishers (of_turns turns) ++ i ∷ [])).bytes ≡ Some p.bytes
          bytes_read = ap (λ o. option_map_or (λ (p : Post). Some p.bytes) o first) (last_more posts (publishers (of_turns turns)) i ∙ there)

          more_left : (synced : Bool) (file : Content) → file ≡ Some p.bytes → synced ≡ true → (b : Content) → new.may Cache b ≡ (s.may Cache b || file_left file synced b)
              → new.may Cache b ≡ is_among b (left_by first posts (of_turns turns ++ (i, Publish) ∷ []))
          more_left synced file has flushed b may =
              may
              ∙ ap (λ x. x || file_left file synced b) (on.left b)
              ∙ ap (λ x. is_among b (left_by first posts (of_turns turns)) || x) (ap (λ f. file_left f synced b) has ∙ ap (λ x. file_left (Some p.bytes) x b) flushed)
              ∙ ap (λ c. is_among b (left_by first posts (of_turns turns)) || (content_eq c b || false)) (sym bytes_read)
              ∙ sym (list_any-append (λ (r : Reading). content_eq r.bytes b) (left_by first posts (of_turns turns)) (reading first posts (publishers (of_turns turns) ++ i ∷ []) ∷ []))
              ∙ ap (is_among b) (sym (left_more first posts (of_turns turns) i))

          by : (call : Call) → steps_of i turns ≡ place_of (Some call)
              → ((known : DiskContent) → new.contents ≡ Some known → known.now.cache ≡ (reading first posts (publishers (of_turns turns ++ (i, call) ∷ []))).bytes → KeepsOthers p.tag.0 Cache on.known known
              → HasFile (suc (place_of (Some call))) p.bytes (known.temporary p.tag.0 Cache) (known.synced p.tag.0 Cache)
              → ((b : Content) → new.may Cache b ≡ is_among b (left_by first posts (of_turns turns ++ (i, call) ∷ []))) → OnDisk (turns ++ Step i ∷ []) new)
              → Makes p.tag (Cache, p.bytes) call s new done → OnDisk (turns ++ Step i ∷ []) new
          by Create count then m =
              let (known, is, change) = changed (Creates p.tag.0 Cache) m.does.done in
              then known is (still_held Create known refl change.touches.slots) change.touches.others change.empty (still_left Create refl refl (m.crash.slots Cache).now)
          by Append count then m =
              let (known, is, change) = changed (Appends p.tag.0 Cache p.bytes) m.does.done in
              then known is (still_held Append known refl change.touches.slots) change.touches.others (change.more ∙ ap (option_map (λ (l : List ℕ). l ++ p.bytes)) (before Append count)) (still_left Append refl refl (m.crash.slots Cache).now)
          by Sync count then m =
              let (known, is, change) = changed (Syncs p.tag.0 Cache) m.does.done in
              then known is (still_held Sync known refl change.touches.slots) change.touches.others (change.same ∙ before Sync count, change.flushed) (still_left Sync refl refl (m.crash.slots Cache).now)
          by Publish count then m =
              let (known, is, change) = changed (Publishes p.tag.0 Cache) m.does.done in
              let more = subst (λ o. IfKnown o (λ c. LeavesMore (published c p.tag.0 Cache) Cache s new)) on.contents m.crash.done in
              then known is
              (ap (λ (s : Slots). s.cache) change.slots ∙ (before Publish count).0 ∙ sym bytes_read ∙ ap (λ ps. (reading first posts ps).bytes) (sym (publishers_more (of_turns turns) ((i, Publish) ∷ []))))
              change.others tt (λ b. more_left _ _ (before Publish count).0 (before Publish count).1 b (more.now b))
          by Settle count then m =
              let (known, is, change) = changed Keeps m.does.done in
              let alone = subst (λ o. IfKnown o (λ c. (b : Content) → new.may Cache b ≡ content_eq (slot_of c.now Cache) b)) on.contents m.crash.done in
              then known is (still_held Settle known refl change.slots) (record { bytes = λ t s h. change.temporary t s; flushed = λ t s h. change.flushed t s }) tt
              (λ b. alone b ∙ ap (λ c. content_eq c b) on.held ∙ sym (or_none _) ∙ ap (is_among b) (sym (left_alone first posts (of_turns turns) i)))

      on_step : (new : DiskState) → AreMade posts (call_of (length posts) turns (Step i)) s new → OnDisk (turns ++ Step i ∷ []) new
      on_step new made = by (slice_get posts i) refl (slice_get all_calls (steps_of i turns)) refl
        where
          none : call_of (length posts) turns (Step i) ≡ [] → OnDisk (turns ++ Step i ∷ []) s → OnDisk (turns ++ Step i ∷ []) new
          none e on = subst (OnDisk (turns ++ Step i ∷ [])) (sym (subst (λ cs. AreMade posts cs s new) e made)) on

          by : (o : Option Post) → slice_get posts i ≡ o → (c : Option Call) → slice_get all_calls (steps_of i turns) ≡ c → OnDisk (turns ++ Step i ∷ []) new
          by None there c at = none (absent_call posts i turns there) (no_post there)
          by (Some p) there None at =
              let within = slice_get_within posts i p there in
              none (call_is (length posts) turns i within ∙ ap (λ o. option_map_or (λ (call : Call). (i, call) ∷ []) o []) at) (no_call within at)
          by (Some p) there (Some call) at =
              let one = call_is (length posts) turns i (slice_get_within posts i p there) ∙ ap (λ o. option_map_or (λ (call : Call). (i, call) ∷ []) o []) at in
              let (middle, is, last) = subst (λ cs. AreMade posts cs s new) one made in
              subst (OnDisk (turns ++ Step i ∷ [])) (sym last) (on_made p there call at middle (subst (λ o. IfSome o (λ (p : Post). Makes p.tag (Cache, p.bytes) call s middle done)) there is))

    on_turn : (t : Turn) (new : DiskState) → AreMade posts (call_of (length posts) turns t) s new → OnDisk (turns ++ t ∷ []) new
    on_turn Load new made = subst (OnDisk (turns ++ Load ∷ [])) (sym made) loaded
    on_turn (Step i) new made = on_step i new made

  made_differ : (cs ds : List PostCall) (a c : DiskState) → AreMade posts (cs ++ ds) a c → (b : DiskState) × AreMade posts cs a b × AreMade posts ds b c
  made_differ [] ds a c made = (a, refl, made)
  made_differ (call ∷ cs) ds a c (middle, is, made) = let (b, before, following) = made_differ cs ds middle c made in (b, (middle, is, before), following)

  on_all : (before turns : List Turn) (s t : DiskState) → OnDisk before s → AreMade posts (calls_after (length posts) before turns) s t → OnDisk (before ++ turns) t
  on_all before [] s t on made = subst (OnDisk (before ++ [])) (sym made) (subst (λ ts. OnDisk ts s) (sym (append-nil before)) on)
  on_all before (x ∷ xs) s t on made =
      let (middle, one, rest) = made_differ (call_of (length posts) before x) (calls_after (length posts) (before ++ x ∷ []) xs) s t made in
      subst (λ ts. OnDisk ts t) (append_assoc before (x ∷ []) xs) (on_all (before ++ x ∷ []) xs middle t (on_turn before s on x middle one) rest)

  pub leaves : (turns : List Turn) → LeavesExactly first posts (calls (length posts) turns) (left first posts turns)
  leaves turns = λ old new alone made b. (on_all [] turns old new (starts old alone) made).left b

  pub left_exactly : (turns : List Turn) (r : Result (List Reading) NoMemory) → IfOk r (λ rs. rs ≡ left first posts turns) → IfOk r (LeavesExactly first posts (calls (length posts) turns))
  left_exactly turns (Ok rs) e = subst (LeavesExactly first posts (calls (length posts) turns)) (sym e) (leaves turns)
  left_exactly turns (Err fault) e = tt

  -- a load after these turns reads the content of the slot
  pub holds : (turns : List Turn) → HoldsExactly first posts (calls (length posts) turns) (reading_after first posts turns).bytes
  holds turns = λ old new alone made. let on = on_all [] turns old new (starts old alone) made in record { known = on.known; contents = on.contents; held = on.held }

  -- the reading of the load that follows the earlier turns of a schedule
  read_at : (before earlier later : List Turn) → slice_get (readings_after first posts before (earlier ++ Load ∷ later)) (length (filter is_load earlier)) ≡ Some (reading_after first posts (before ++ earlier))
  read_at before [] later = ap (λ turns. Some (reading_after first posts turns)) (sym (append-nil before))
  read_at before (Step i ∷ earlier) later = read_at (before ++ Step i ∷ []) earlier later ∙ ap (λ turns. Some (reading_after first posts turns)) (append_assoc before (Step i ∷ []) earlier)
  read_at before (Load ∷ earlier) later = read_at (before ++ Load ∷ []) earlier later ∙ ap (λ turns. Some (reading_after first posts turns)) (append_assoc before (Load ∷ []) earlier)

  pub on_disks : (before schedule : List Turn) → AreOnDisks first posts before schedule (readings_after first posts before schedule)
  on_disks before schedule = λ earlier later is.
      (reading_after first posts (before ++ earlier), ap (λ turns. slice_get (readings_after first posts before turns) (length (filter is_load earlier))) is ∙ read_at before earlier later, holds (before ++ earlier))
