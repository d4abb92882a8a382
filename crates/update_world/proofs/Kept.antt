-- A world's invariant holds at the start and after each turn.
use Rattle.std.proofs.Common.{◌≡◌, ◌≢◌, ◌+◌, ◌-◌, ◌≤◌, ◌<◌, ◌^◌, ℕ, zero, suc, Bool, true, false, arith, List, [], ◌∷◌, ◌++◌, length, map, drop, set, get_or, Option, Some, None, IfSome, refl, sym, ap, subst, ◌∙◌, append-nil, cond, eqb, slice_get, nat_le, option_and_then, is_some, length-set, zero-le, le_of_suc-le-suc, not-suc-le-zero}
use Rattle.std.specs.Option.{option_map, option_map_or}
use Rattle.std.proofs.lemmas.Bool.{eq-eqb, eqb-true, false≢true}
use Rattle.std.proofs.lemmas.List.{length-map}
use Rattle.std.proofs.lemmas.List.Sums.{sum_by-set}
use Rattle.std.proofs.lemmas.Option.{get_or_from_slice_get, slice_get_within}
use Rattle.atomic_replace.specs.Order.{all_calls, next_of}
use Rattle.tree_face.specs.Disk.{Content}
use Rattle.tree_face.specs.declared.disk.Call.{Call}
use Rattle.tree_face.specs.declared.disk.Call.TheVariants.{Create, Append, Sync, Publish, Settle}
use Rattle.update_world.specs.declared.post.Post.{Post}
use Rattle.update_world.specs.declared.post.Turn.{Turn}
use Rattle.update_world.specs.declared.post.Turn.TheVariants.{Step, Load}
use Rattle.update_world.specs.Kept.{IsKept, Machines, advanced, after_turn, made, new_machine, next_in, seen, spent, stepped, world_of}
use Rattle.update_world.specs.Turns.{PostCall, call_of, calls, is_publish, is_settle, last_of, publishers, read_in, reading, repeated, steps_of, until_settled}
use Rattle.update_world.specs.Worlds.{IsAfterTurns, temporary_after}
use Rattle.update_world.proofs.Calls.{absent_differ, absent_call, call_is, calls_more, last_more, load_steps, next_is, other_steps, own_steps, place_is, place_of, publishers_more, settled_before, settled_now}
use Rattle.update_world.proofs.Lists.{set_at, set_next_to}

abbrev no_file : Content
no_file = None

each_same : {X Y : Type 0} (xs : List X) (y : Y) (i : ℕ) → i < length xs → slice_get (map (λ _. y) xs) i ≡ Some y
each_same [] y i h = absurd (not-suc-le-zero h)
each_same (x ∷ xs) y zero h = refl
each_same (x ∷ xs) y (suc i) h = each_same xs y i (le_of_suc-le-suc h)

-- after the last call nothing changes
spent_drop : (k : ℕ) → slice_get all_calls k ≡ None → drop (suc k) all_calls ≡ drop k all_calls
spent_drop zero e = absurd (false≢true (sym (ap is_some e)))
spent_drop (suc zero) e = absurd (false≢true (sym (ap is_some e)))
spent_drop (suc (suc zero)) e = absurd (false≢true (sym (ap is_some e)))
spent_drop (suc (suc (suc zero))) e = absurd (false≢true (sym (ap is_some e)))
spent_drop (suc (suc (suc (suc zero)))) e = absurd (false≢true (sym (ap is_some e)))
spent_drop (suc (suc (suc (suc (suc k))))) e = none (suc k) ∙ sym (none k)
  where
    none : (k : ℕ) → ◌≡◌ {A = List Call} (drop k []) []
    none zero = refl
    none (suc k) = refl

spent_file : (k : ℕ) (bytes : List ℕ) → slice_get all_calls k ≡ None → temporary_after (suc k) bytes ≡ temporary_after k bytes
spent_file zero bytes e = absurd (false≢true (sym (ap is_some e)))
spent_file (suc zero) bytes e = absurd (false≢true (sym (ap is_some e)))
spent_file (suc (suc zero)) bytes e = absurd (false≢true (sym (ap is_some e)))
spent_file (suc (suc (suc zero))) bytes e = absurd (false≢true (sym (ap is_some e)))
spent_file (suc (suc (suc (suc k)))) bytes e = refl

drop_more : (k : ℕ) → drop 1 (drop k all_calls) ≡ drop (suc k) all_calls
drop_more zero = refl
drop_more (suc zero) = refl
drop_more (suc (suc zero)) = refl
drop_more (suc (suc (suc zero))) = refl
drop_more (suc (suc (suc (suc zero)))) = refl
drop_more (suc (suc (suc (suc (suc k))))) = by k
  where
    by : (k : ℕ) → ◌≡◌ {A = List Call} (drop 1 (drop k [])) (drop (suc k) [])
    by zero = refl
    by (suc k) = refl

abbrev few_left : List Call → ℕ
few_left left = cond (nat_le (length left) 1) 1 0

module _ (first : Content) (posts : List Post) where
  kept_at_start : length posts < 2 ^ 32 → repeated posts ≡ None → IsKept first posts [] (new_machine first posts)
  kept_at_start few different = record {
    few = few;
    different = different;
    cache = refl;
    temporaries = λ i. at i (slice_get posts i) refl;
    files = length-map posts (λ _. no_file);
    progress = λ i h. each_same posts all_calls i h;
    each = length-map posts (λ _. all_calls);
    published = refl;
    settled = refl;
    counted = zero-le;
  }
    where
      at : (i : ℕ) (o : Option Post) → slice_get posts i ≡ o → IfSome o (λ p. slice_get (map (λ (_ : Post). no_file) posts) i ≡ Some (temporary_after 0 p.bytes))
      at i None e = tt
      at i (Some p) e = each_same posts no_file i (slice_get_within posts i p e)

  module _ (turns : List Turn) (m : Machines) (kept : IsKept first posts turns m) where
    pub after_turns : IsAfterTurns (world_of first posts turns m)
    after_turns = record { cache = kept.cache ∙ ap (λ ps. (reading first posts ps).bytes) kept.published; temporaries = kept.temporaries; progress = kept.progress }

    -- a turn that makes no call
    module _ (t : Turn) (none : call_of (length posts) turns t ≡ [])
        (left : (j : ℕ) → j < length posts → drop (steps_of j (turns ++ t ∷ [])) all_calls ≡ drop (steps_of j turns) all_calls)
        (files : (j : ℕ) (bytes : List ℕ) → j < length posts → temporary_after (steps_of j (turns ++ t ∷ [])) bytes ≡ temporary_after (steps_of j turns) bytes) where
      still_file : (j : ℕ) (o : Option Post) → slice_get posts j ≡ o → IfSome o (λ p. slice_get m.temporaries j ≡ Some (temporary_after (steps_of j turns) p.bytes))
          → IfSome o (λ p. slice_get m.temporaries j ≡ Some (temporary_after (steps_of j (turns ++ t ∷ [])) p.bytes))
      still_file j None e file = tt
      still_file j (Some p) e file = file ∙ ap (λ (c : Content). Some c) (sym (files j p.bytes (slice_get_within posts j p e)))

      still : IsKept first posts (turns ++ t ∷ []) m
      still =
          let same : calls (length posts) (turns ++ t ∷ []) ≡ calls (length posts) turns =
          calls_more (length posts) turns t ∙ ap (λ c. calls (length posts) turns ++ c) none ∙ append-nil (calls (length posts) turns) in
          record {
            few = kept.few;
            different = kept.different;
            cache = kept.cache;
            temporaries = λ j. still_file j (slice_get posts j) refl (kept.temporaries j);
            files = kept.files;
            progress = λ j h. kept.progress j h ∙ ap (λ (l : List Call). Some l) (sym (left j h));
            each = kept.each;
            published = kept.published ∙ ap publishers (sym same);
            settled = kept.settled ∙ ap (λ cs. length (publishers (until_settled cs))) (sym same);
            counted = kept.counted;
          }

    loaded : IsKept first posts (turns ++ Load ∷ []) m
    loaded = still Load refl (λ j h. ap (λ k. drop k all_calls) (load_steps j turns)) (λ j bytes h. ap (λ k. temporary_after k bytes) (load_steps j turns))

    module _ (i : ℕ) where
      others : (j : ℕ) → eqb i j ≡ false → steps_of j (turns ++ Step i ∷ []) ≡ steps_of j turns
      others j e = other_steps i j turns e

      own : (j : ℕ) → eqb i j ≡ true → steps_of j (turns ++ Step i ∷ []) ≡ suc (steps_of j turns)
      own j e = own_steps i j turns e

      no_post : slice_get posts i ≡ None → IsKept first posts (turns ++ Step i ∷ []) m
      no_post e =
          still (Step i) (absent_call posts i turns e) (λ j h. ap (λ k. drop k all_calls) (others j (absent_differ posts i e j h)))
          (λ j bytes h. ap (λ k. temporary_after k bytes) (others j (absent_differ posts i e j h)))

      no_call : i < length posts → slice_get all_calls (steps_of i turns) ≡ None → IsKept first posts (turns ++ Step i ∷ []) m
      no_call within e = still (Step i) (call_is (length posts) turns i within ∙ ap (λ o. option_map_or (λ call. (i, call) ∷ []) o []) e) (λ j h. left j (eqb i j) refl) (λ j bytes h. file j bytes (eqb i j) refl)
        where
          left : (j : ℕ) (b : Bool) → eqb i j ≡ b → drop (steps_of j (turns ++ Step i ∷ [])) all_calls ≡ drop (steps_of j turns) all_calls
          left j false differ = ap (λ k. drop k all_calls) (others j differ)
          left j true is =
              ap (λ k. drop k all_calls) (own j is)
              ∙ subst (λ k. drop (suc (steps_of k turns)) all_calls ≡ drop (steps_of k turns) all_calls) (eqb-true i j is) (spent_drop (steps_of i turns) e)

          file : (j : ℕ) (bytes : List ℕ) (b : Bool) → eqb i j ≡ b → temporary_after (steps_of j (turns ++ Step i ∷ [])) bytes ≡ temporary_after (steps_of j turns) bytes
          file j bytes false differ = ap (λ k. temporary_after k bytes) (others j differ)
          file j bytes true is =
              ap (λ k. temporary_after k bytes) (own j is)
              ∙ subst (λ k. temporary_after (suc (steps_of k turns)) bytes ≡ temporary_after (steps_of k turns) bytes) (eqb-true i j is) (spent_file (steps_of i turns) bytes e)

      -- a turn that makes this call
      module _ (p : Post) (there : slice_get posts i ≡ Some p) (call : Call) (next : next_in m i ≡ Some call) where
        within : i < length posts
        within = slice_get_within posts i p there

        abbrev steps : ℕ
        steps = steps_of i turns

        at : slice_get all_calls steps ≡ Some call
        at = sym (next_is steps) ∙ sym (ap (option_and_then next_of) (kept.progress i within)) ∙ next

        place : steps ≡ place_of (Some call)
        place = place_is steps call at

        more : calls (length posts) (turns ++ Step i ∷ []) ≡ calls (length posts) turns ++ (i, call) ∷ []
        more =
            calls_more (length posts) turns (Step i)
            ∙ ap (λ c. calls (length posts) turns ++ c) (call_is (length posts) turns i within ∙ ap (λ o. option_map_or (λ call. (i, call) ∷ []) o []) at)

        here : slice_get m.temporaries i ≡ Some (temporary_after steps p.bytes)
        here = subst (λ o. IfSome o (λ p. slice_get m.temporaries i ≡ Some (temporary_after steps p.bytes))) there (kept.temporaries i)

        room : i < length m.temporaries
        room = subst (λ n. i < n) (sym kept.files) within

        cache_by : (c : Call) → steps ≡ place_of (Some c) → (made i p.bytes c m).cache ≡ (reading first posts (made i p.bytes c m).published).bytes
        cache_by Create e = kept.cache
        cache_by Append e = kept.cache
        cache_by Sync e = kept.cache
        cache_by Publish e =
            get_or_from_slice_get m.temporaries i (temporary_after steps p.bytes) None here
            ∙ ap (λ k. temporary_after k p.bytes) e
            ∙ sym (ap (λ o. option_map_or (λ (p : Post). Some p.bytes) o first) (last_more posts m.published i ∙ there))
        cache_by Settle e = kept.cache

        file_by : (c : Call) → steps ≡ place_of (Some c) → slice_get (made i p.bytes c m).temporaries i ≡ Some (temporary_after (suc (place_of (Some c))) p.bytes)
        file_by Create e = set_at m.temporaries i (Some []) room
        file_by Append e = set_at m.temporaries i (Some p.bytes) room
        file_by Sync e = here ∙ ap (λ k. Some (temporary_after k p.bytes)) e
        file_by Publish e = set_at m.temporaries i None room
        file_by Settle e = here ∙ ap (λ k. Some (temporary_after k p.bytes)) e

        file_next_to : (c : Call) (j : ℕ) → j ≢ i → slice_get (made i p.bytes c m).temporaries j ≡ slice_get m.temporaries j
        file_next_to Create j h = set_next_to m.temporaries i j (Some []) h
        file_next_to Append j h = set_next_to m.temporaries i j (Some p.bytes) h
        file_next_to Sync j h = refl
        file_next_to Publish j h = set_next_to m.temporaries i j None h
        file_next_to Settle j h = refl

        files_by : (c : Call) → length (made i p.bytes c m).temporaries ≡ length posts
        files_by Create = length-set m.temporaries i (Some []) ∙ kept.files
        files_by Append = length-set m.temporaries i (Some p.bytes) ∙ kept.files
        files_by Sync = kept.files
        files_by Publish = length-set m.temporaries i None ∙ kept.files
        files_by Settle = kept.files

        progress_by : (c : Call) → (advanced i (made i p.bytes c m)).progress ≡ set m.progress i (drop 1 (get_or m.progress i []))
        progress_by Create = refl
        progress_by Append = refl
        progress_by Sync = refl
        progress_by Publish = refl
        progress_by Settle = refl

        none_published : (c : Call) → is_publish c ≡ false → m.published ≡ publishers (calls (length posts) turns ++ (i, c) ∷ [])
        none_published c e =
            kept.published
            ∙ sym (publishers_more (calls (length posts) turns) ((i, c) ∷ []) ∙ ap (λ b. publishers (calls (length posts) turns) ++ map (λ (c : PostCall). c.0) (cond b ((i, c) ∷ []) [])) e ∙ append-nil _)

        published_by : (c : Call) → (made i p.bytes c m).published ≡ publishers (calls (length posts) turns ++ (i, c) ∷ [])
        published_by Create = none_published Create refl
        published_by Append = none_published Append refl
        published_by Sync = none_published Sync refl
        published_by Publish = ap (λ ps. ps ++ i ∷ []) kept.published ∙ sym (publishers_more (calls (length posts) turns) ((i, Publish) ∷ []))
        published_by Settle = none_published Settle refl

        none_settled : (c : Call) → is_settle c ≡ false → m.settled ≡ length (publishers (until_settled (calls (length posts) turns ++ (i, c) ∷ [])))
        none_settled c e = kept.settled ∙ ap (λ cs. length (publishers cs)) (sym (settled_before (calls (length posts) turns) (i, c) e))

        settled_by : (c : Call) → (made i p.bytes c m).settled ≡ length (publishers (until_settled (calls (length posts) turns ++ (i, c) ∷ [])))
        settled_by Create = none_settled Create refl
        settled_by Append = none_settled Append refl
        settled_by Sync = none_settled Sync refl
        settled_by Publish = none_settled Publish refl
        settled_by Settle = ap length (published_by Settle) ∙ ap (λ cs. length (publishers cs)) (sym (settled_now (calls (length posts) turns) (i, Settle) refl))

        left_at : get_or m.progress i [] ≡ drop steps all_calls
        left_at = get_or_from_slice_get m.progress i (drop steps all_calls) [] (kept.progress i within)

        extended : (k : ℕ) → steps ≡ k → spent (set m.progress i (drop 1 (get_or m.progress i []))) + few_left (drop k all_calls) ≡ spent m.progress + few_left (drop 1 (drop k all_calls))
        extended k e =
            subst (λ (l : List Call). spent (set m.progress i (drop 1 (get_or m.progress i []))) + few_left l ≡ spent m.progress + few_left (drop 1 l)) (left_at ∙ ap (λ k. drop k all_calls) e)
            (sum_by-set few_left m.progress i (drop 1 (get_or m.progress i [])) [] (subst (λ n. i < n) (sym kept.each) within))

        counted_by : (c : Call) → steps ≡ place_of (Some c) → length (made i p.bytes c m).published ≤ spent (set m.progress i (drop 1 (get_or m.progress i [])))
        counted_by Create e = let is = extended 0 e in let most = kept.counted in omega (arith, is, most)
        counted_by Append e = let is = extended 1 e in let most = kept.counted in omega (arith, is, most)
        counted_by Sync e = let is = extended 2 e in let most = kept.counted in omega (arith, is, most)
        counted_by Publish e = let is = extended 3 e in let most = kept.counted in let longer = Rattle.std.proofs.Common.length-append m.published (i ∷ []) in omega (arith, is, most, longer)
        counted_by Settle e = let is = extended 4 e in let most = kept.counted in omega (arith, is, most)

        differ : (j : ℕ) → eqb i j ≡ false → j ≢ i
        differ j e same = false≢true (sym e ∙ eq-eqb i j (sym same))

        file_on : (j : ℕ) (b : Bool) → eqb i j ≡ b → (o : Option Post) → slice_get posts j ≡ o → IfSome o (λ q. slice_get m.temporaries j ≡ Some (temporary_after (steps_of j turns) q.bytes))
            → IfSome o (λ q. slice_get (made i p.bytes call m).temporaries j ≡ Some (temporary_after (steps_of j (turns ++ Step i ∷ [])) q.bytes))
        file_on j b e None is file = tt
        file_on j false e (Some q) is file = file_next_to call j (differ j e) ∙ file ∙ ap (λ k. Some (temporary_after k q.bytes)) (sym (others j e))
        file_on j true e (Some q) is file =
            let same : p ≡ q = some_is p q (sym there ∙ ap (slice_get posts) (eqb-true i j e) ∙ is) in
            ap (slice_get (made i p.bytes call m).temporaries) (sym (eqb-true i j e))
            ∙ file_by call place
            ∙ ap (λ k. Some (temporary_after (suc k) p.bytes)) (sym place ∙ ap (λ j. steps_of j turns) (eqb-true i j e))
            ∙ ap (λ k. Some (temporary_after k p.bytes)) (sym (own j e))
            ∙ ap (λ (q : Post). Some (temporary_after (steps_of j (turns ++ Step i ∷ [])) q.bytes)) same
          where
            some_is : (p q : Post) → Some p ≡ Some q → p ≡ q
            some_is p q e = ap (λ o. Rattle.std.proofs.Common.unwrap_or o p) e

        left_on : (j : ℕ) (b : Bool) → eqb i j ≡ b → j < length posts → slice_get (set m.progress i (drop 1 (get_or m.progress i []))) j ≡ Some (drop (steps_of j (turns ++ Step i ∷ [])) all_calls)
        left_on j false e h = set_next_to m.progress i j _ (differ j e) ∙ kept.progress j h ∙ ap (λ k. Some (drop k all_calls)) (sym (others j e))
        left_on j true e h =
            ap (slice_get (set m.progress i (drop 1 (get_or m.progress i [])))) (sym (eqb-true i j e))
            ∙ set_at m.progress i _ (subst (λ n. i < n) (sym kept.each) within)
            ∙ ap (λ (l : List Call). Some (drop 1 l)) left_at
            ∙ ap (λ (l : List Call). Some l) (drop_more steps)
            ∙ ap (λ k. Some (drop (suc (steps_of k turns)) all_calls)) (eqb-true i j e)
            ∙ ap (λ k. Some (drop k all_calls)) (sym (own j e))

        called : IsKept first posts (turns ++ Step i ∷ []) (advanced i (made i p.bytes call m))
        called = record {
          few = kept.few;
          different = kept.different;
          cache = cache_by call place;
          temporaries = λ j. file_on j (eqb i j) refl (slice_get posts j) refl (kept.temporaries j);
          files = files_by call;
          progress = λ j h. ap (λ (l : List (List Call)). slice_get l j) (progress_by call) ∙ left_on j (eqb i j) refl h;
          each = ap (λ (l : List (List Call)). length l) (progress_by call) ∙ length-set m.progress i _ ∙ kept.each;
          published = published_by call ∙ ap publishers (sym more);
          settled = settled_by call ∙ ap (λ cs. length (publishers (until_settled cs))) (sym more);
          counted = subst (λ (l : List (List Call)). length (made i p.bytes call m).published ≤ spent l) (sym (progress_by call)) (counted_by call place);
        }

      step_kept : IsKept first posts (turns ++ Step i ∷ []) (stepped posts i m)
      step_kept = by (slice_get posts i) refl (next_in m i) refl
        where
          by : (o : Option Post) → slice_get posts i ≡ o → (c : Option Call) → next_in m i ≡ c
              → IsKept first posts (turns ++ Step i ∷ []) (option_map_or (λ (p : Post). option_map_or (λ call. advanced i (made i p.bytes call m)) c m) o m)
          by None there c next = no_post there
          by (Some p) there None next =
              let within = slice_get_within posts i p there in
              no_call within (sym (next_is (steps_of i turns)) ∙ sym (ap (option_and_then next_of) (kept.progress i within)) ∙ next)
          by (Some p) there (Some call) next = called p there call next

    turn_kept : (turn : Turn) → IsKept first posts (turns ++ turn ∷ []) (after_turn posts turn m)
    turn_kept (Step i) = step_kept i
    turn_kept Load = loaded

    pub seen_is : (turn : Turn) → seen posts turn m ≡ read_in first posts turns turn
    seen_is (Step i) = refl
    seen_is Load =
        ap (λ (c : Content). record { published = length m.published; writer = option_map (λ p. p.tag) (last_of posts m.published); bytes = c } ∷ []) kept.cache
        ∙ ap (λ ps. reading first posts ps ∷ []) kept.published

    pub turn_on : (turn : Turn) (later : List Turn) (after : Machines) → later ≡ turns ++ turn ∷ [] → after ≡ after_turn posts turn m → IsKept first posts later after
    turn_on turn later after taken is = subst (λ ts. IsKept first posts ts after) (sym taken) (subst (IsKept first posts (turns ++ turn ∷ [])) (sym is) (turn_kept turn))

  pub begun : (turns : List Turn) (m : Machines) → length posts < 2 ^ 32 → repeated posts ≡ None → turns ≡ [] → m ≡ new_machine first posts → IsKept first posts turns m
  begun turns m few different none is = subst (λ ts. IsKept first posts ts m) (sym none) (subst (IsKept first posts []) (sym is) (kept_at_start few different))
