-- The files of items that are processed in order.
use Rattle.std.proofs.Common.{◌≡◌, ◌+◌, ◌∙◌, ℕ, true, false, cond, List, [], ◌∷◌, ◌++◌, length, nat_le, Option, Some, None, append_assoc, refl, sym, ap, subst, inl, inr, arith}
use Rattle.std.proofs.lemmas.Bool.{or_left}
use Rattle.std.proofs.Math.Nat.{add-zero}
use Rattle.std.proofs.lemmas.List.{append-nil}
use Rattle.std.proofs.lemmas.List.Concat.{flat_map-append}
use Rattle.std.proofs.lemmas.List.Folds.{list_any-append}
use Rattle.std.proofs.lemmas.List.Sums.{sum_by-append, sum_by-cons}
use Rattle.std.specs.Prelude.{IfSome, option_map, sum_by}
use Rattle.std.specs.List.{flat_map, list_any}
use Rattle.lib_types.proofs.SortedPairs.{by_test}
use Rattle.tree_face.specs.Follows.{IsFollowedBy, IsFollowedByPart}
use Rattle.tree_face.specs.Known.{IfKnown, Relates}
use Rattle.tree_face.specs.Store.{Contents, Lacks, StoreState}
use Rattle.tree_face.specs.StoreUse.{Ending, Complete, DeviceFailed, GaveUp, HasCause, ReadsFiles}
use Rattle.tree_face.proofs.StoreUse.{IsPartial, reads_on, reads_part, unread}
use Rattle.conf_patterns.specs.Patterns.{Found}
use Rattle.conf_views.specs.declared.view.FoundFile.{FoundFile}
use Rattle.ldso_conf.specs.Endings.{read_ending_by}
use Rattle.ldso_conf.specs.Reading.{Item, Reports, asked, asked_by, begun, bytes_taken, is_missing, key_begun, named, place_in, until_missing}
use Rattle.ldso_conf.specs.Visits.{Progress, HasTaken, IsDone, IsDoneIn, LacksAny, ReadsAny, ReadsFile, ReadsItems, bytes_in, keys_in, lacks_in, size_read, with_dir, with_report}
use Rattle.ldso_conf.specs.declared.fault.ReadFault.{ReadFault}
use Rattle.ldso_conf.specs.declared.fault.ReadFault.TheVariants.{StoreFault, NoMemory, Unseen}
use Rattle.ldso_conf.specs.declared.kinds.ConfReport.{ConfReport}
use Rattle.ldso_conf.specs.declared.kinds.Origin.{Origin}
use Rattle.ldso_conf.specs.declared.reading.TheConstants.{CONF_MAX}
use Rattle.ldso_conf.specs.declared.steps.Step.{Step}
use Rattle.image_tree.specs.declared.path.TheConstants.{PATH_MAX}
use Rattle.ldso_conf.proofs.Visiting.{take_dir, take_report}
use Rattle.ldso_conf.proofs.Items.{following, taken_more, until_after, until_parts, until_whole}

pub partial : (fault : ReadFault) → IsPartial (read_ending_by fault)
partial StoreFault = tt
partial Unseen = tt
partial NoMemory = tt

-- ---- a call that leaves the store as it is

followed_same : (keys : Option (List (List ℕ))) → Relates (IsFollowedBy []) keys keys
followed_same None = tt
followed_same (Some keys) = sym (append-nil keys)

pub reads_no_key : (l : Type 0) (n : ℕ) (s : StoreState) → ReadsFiles l (Some []) (Some n) Complete s s
reads_no_key l n s = record {
  held = refl;
  begins = followed_same s.keys;
  begun = omega arith;
  begun_before = omega arith;
  taken = omega arith;
  taken_before = omega arith;
  faults = omega arith;
  cause = refl;
}

pub key_of_named : (dir : List ℕ) (origin : Origin) → key_begun (named dir origin) ≡ []
key_of_named dir origin = by_test {P = key_begun (named dir origin) ≡ []} (nat_le (length dir) PATH_MAX) (λ short. rw short refl) (λ long. rw long refl)

pub size_of_named : (dir : List ℕ) (origin : Origin) → bytes_taken (named dir origin) ≡ 0
size_of_named dir origin = by_test {P = bytes_taken (named dir origin) ≡ 0} (nat_le (length dir) PATH_MAX) (λ short. rw short refl) (λ long. rw long refl)

pub held_named : (dir : List ℕ) (origin : Origin) → is_missing (named dir origin) ≡ false
held_named dir origin = by_test {P = is_missing (named dir origin) ≡ false} (nat_le (length dir) PATH_MAX) (λ short. rw short refl) (λ long. rw long refl)

pub reads_nothing : (s : StoreState) → ReadsFiles ⊥ (Some []) (Some 0) Complete s s
reads_nothing s = reads_no_key ⊥ 0 s

-- a call that reads everything needs no cause for stopping
pub reads_all : (l1 l2 : Type 0) (keys : Option (List (List ℕ))) (most : Option ℕ) (a b : StoreState) → ReadsFiles l1 keys most Complete a b → ReadsFiles l2 keys most Complete a b
reads_all l1 l2 keys most a b r = record {
  held = r.held;
  begins = r.begins;
  begun = r.begun;
  begun_before = r.begun_before;
  taken = r.taken;
  taken_before = r.taken_before;
  faults = r.faults;
  cause = r.cause;
}

-- the contents of the files aren't known
pub reads_unknown : (l1 l2 : Type 0) (keys : Option (List (List ℕ))) (most : Option ℕ) (e : Ending) (a b c : StoreState) → (l1 → l2) → ReadsFiles ⊥ None None Complete a b →
    ReadsFiles l1 keys most e b c → ReadsFiles l2 None None e a c
reads_unknown l1 l2 keys most e a b c f first next = record {
  held = next.held ∙ first.held;
  begins = tt;
  begun = tt;
  begun_before = omega (arith, first.begun_before, next.begun_before);
  taken = tt;
  taken_before = omega (arith, first.taken_before, next.taken_before);
  faults = omega (arith, first.faults, next.faults);
  cause = at e first.cause next.cause;
} where
  at : (e : Ending) → b.faults ≡ a.faults → HasCause l1 e b.faults c.faults → HasCause l2 e a.faults c.faults
  at Complete none last = last ∙ none
  at DeviceFailed none (inl risen) = inl (rw (← none) risen)
  at DeviceFailed none (inr lacks) = inr (f lacks)
  at GaveUp none last = last ∙ none

if_all : {A : Type 0} {P : A → Type 0} (o : Option A) → ((a : A) → P a) → IfSome o P
if_all None all = tt
if_all (Some a) all = all a

part_none : (keys : List (List ℕ)) (old : Option (List (List ℕ))) → Relates (IsFollowedByPart keys) old old
part_none keys None = tt
part_none keys (Some old) = (0, sym (append-nil old))

-- a call that gives up before it opens a file
pub reads_none : (l : Type 0) (keys : Option (List (List ℕ))) (most : Option ℕ) (s : StoreState) → ReadsFiles l keys most GaveUp s s
reads_none l keys most s = record {
  held = refl;
  begins = if_all keys (λ k. part_none k s.keys);
  begun = if_all keys (λ k. omega arith);
  begun_before = omega arith;
  taken = if_all most (λ n. omega arith);
  taken_before = omega arith;
  faults = omega arith;
  cause = refl;
}

-- ---- the items of a file

module _ (start now : Progress) (a b c : StoreState) where
  -- more items are processed
  done_more : (whole part rest : List Item) (next : Progress) → IsDone whole (part ++ rest) start now a b → HasTaken part now next →
      ReadsFiles ⊥ (Some (flat_map key_begun part)) (Some (sum_by bytes_taken part)) Complete b c → IsDone whole rest start next a c
  done_more whole part rest next d taken reads = record {
    done = d.done ++ part;
    parts = d.parts ∙ sym (append_assoc d.done part rest);
    taken = taken_more start now next d.done part d.taken taken;
    reads = rw (flat_map-append key_begun d.done part, sum_by-append bytes_taken d.done part)
        (reads_on (flat_map key_begun d.done) (flat_map key_begun part) ⊥ ⊥ ⊥ (sum_by bytes_taken d.done) (sum_by bytes_taken part) Complete a b c (λ l. l) d.reads reads);
  }

  -- the next items can't all be processed
  done_stops : (whole part rest : List Item) (e : Ending) → IsDone whole (part ++ rest) start now a b → IsPartial e →
      ReadsFiles (lacks_in part) (Some (keys_in part)) (Some (bytes_in part)) e b c → ReadsFiles (lacks_in whole) (Some (keys_in whole)) (Some (bytes_in whole)) e a c
  done_stops whole part rest e d is_partial reads =
      rw (
        d.parts,
        until_after d.done (part ++ rest) d.taken.held,
        until_parts part rest,
        flat_map-append key_begun d.done (until_missing part ++ left),
        flat_map-append key_begun (until_missing part) left,
        sum_by-append bytes_taken d.done (until_missing part ++ left),
        sum_by-append bytes_taken (until_missing part) left,
      )
      (reads_on (flat_map key_begun d.done) (keys_in part ++ flat_map key_begun left) ⊥ (lacks_in part) lacking (sum_by bytes_taken d.done) (bytes_in part + sum_by bytes_taken left) e a b c
      lacks d.reads
      (reads_part (keys_in part) (flat_map key_begun left) (lacks_in part) (lacks_in part) (bytes_in part) (sum_by bytes_taken left) e b c (λ l. l) is_partial reads))
    where
      left : List Item
      left = following (list_any is_missing part) (until_missing rest)

      lacking : Type 0
      lacking = list_any is_missing (d.done ++ (until_missing part ++ left)) ≡ true

      lacks : lacks_in part → lacking
      lacks l = rw (list_any-append is_missing d.done (until_missing part ++ left), d.taken.held, list_any-append is_missing (until_missing part) left) (or_left _ _ l)

-- all items are processed
done_all : (start now : Progress) (a b : StoreState) (whole : List Item) → IsDone whole [] start now a b →
    HasTaken whole start now × ReadsFiles (lacks_in whole) (Some (keys_in whole)) (Some (bytes_in whole)) Complete a b
done_all start now a b whole d =
    let all : whole ≡ d.done = d.parts ∙ append-nil d.done in
    rw (all, until_whole d.done d.taken.held) (d.taken, reads_all ⊥ _ _ _ a b d.reads)

-- ---- the file itself

module _ (f : Found) (key : List ℕ) where
  size_of_begun : (o : Option (List ℕ)) → bytes_taken (begun f key o) ≡ size_read o
  size_of_begun None = refl
  size_of_begun (Some content) =
      by_test {P = bytes_taken (begun f key (Some content)) ≡ size_read (Some content)} (nat_le (length content) CONF_MAX) (λ small. rw small refl) (λ large. rw large refl)

  key_of_begun : (o : Option (List ℕ)) → key_begun (begun f key o) ≡ key ∷ []
  key_of_begun None = refl
  key_of_begun (Some content) =
      by_test {P = key_begun (begun f key (Some content)) ≡ key ∷ []} (nat_le (length content) CONF_MAX) (λ small. rw small refl) (λ large. rw large refl)

  module _ (whole rest : List Item) (o : Option (List ℕ)) (l : Type 0) (a b : StoreState) (first : whole ≡ begun f key o ∷ rest) where
    -- the file isn't read
    first_stops : (e : Ending) → (l → o ≡ None) → IsPartial e → ReadsFiles l (Some (key ∷ [])) (Some (size_read o)) e a b →
        ReadsFiles (lacks_in whole) (Some (keys_in whole)) (Some (bytes_in whole)) e a b
    first_stops e lacks is_partial reads =
        rw (first, sum_by-cons bytes_taken (begun f key o) left, key_of_begun o, size_of_begun o)
        (reads_part (key ∷ []) (flat_map key_begun left) l lacking (size_read o) (sum_by bytes_taken left) e a b (λ h. rw (lacks h) refl) is_partial reads) where
          left : List Item
          left = cond (is_missing (begun f key o)) [] (until_missing rest)

          lacking : Type 0
          lacking = list_any is_missing (begun f key o ∷ left) ≡ true

    -- the file is read, and its steps are left
    first_done : (r new : Progress) → HasTaken (begun f key o ∷ []) r new → ReadsFiles l (Some (key ∷ [])) (Some (size_read o)) Complete a b → IsDone whole rest r new a b
    first_done r new taken reads = record {
      done = begun f key o ∷ [];
      parts = first;
      taken = taken;
      reads = rw (key_of_begun o, sum_by-cons bytes_taken (begun f key o) [], size_of_begun o, add-zero (size_read o)) (reads_all l ⊥ _ _ a b reads);
    }

-- ---- the same, as far as the contents are known

module _ (whole : Contents → List Item) where
  module _ (f : Found) (key : List ℕ) (rest : Contents → List Item) (a b : StoreState) where
    pub file_stops : (known : Option Contents) (e : Ending) → ((held : Contents) → whole held ≡ begun f key (held key) ∷ rest held) → IsPartial e → ReadsFile key known e a b →
        ReadsItems whole known e a b
    file_stops None e first is_partial reads = reads_unknown ⊥ ⊥ (Some (key ∷ [])) None e a a b (λ l. l) (unread a) reads
    file_stops (Some held) e first is_partial reads = first_stops f key (whole held) (rest held) (held key) (held key ≡ None) a b (first held) e (λ l. l) is_partial reads

    pub file_done : (known : Option Contents) (r new : Progress) → IfKnown known (λ held. whole held ≡ begun f key (held key) ∷ rest held) → IfKnown known (λ held. HasTaken (begun f key (held key) ∷ []) r new) →
        ReadsFile key known Complete a b → IsDoneIn known whole rest r new a b
    file_done None r new first taken reads = reads_unknown ⊥ ⊥ (Some (key ∷ [])) None Complete a a b (λ l. l) (unread a) reads
    file_done (Some held) r new first taken reads = first_done f key (whole held) (rest held) (held key) (held key ≡ None) a b first r new taken reads

  module _ (part rest : Contents → List Item) (start now : Progress) (a b c : StoreState) where
    pub items_stop : (known : Option Contents) (e : Ending) → IsDoneIn known whole (λ held. part held ++ rest held) start now a b → IsPartial e → ReadsItems part known e b c → ReadsItems whole known e a c
    items_stop None e d is_partial reads = reads_unknown ⊥ ⊥ None None e a b c (λ l. l) d reads
    items_stop (Some held) e d is_partial reads = done_stops start now a b c (whole held) (part held) (rest held) e d is_partial reads

    pub items_done : (known : Option Contents) (next : Progress) → IsDoneIn known whole (λ held. part held ++ rest held) start now a b → IfKnown known (λ held. HasTaken (part held) now next) →
        ReadsItems part known Complete b c → IsDoneIn known whole rest start next a c
    items_done None next d taken reads = reads_unknown ⊥ ⊥ None None Complete a b c (λ l. l) d reads
    items_done (Some held) next d taken reads =
        done_more start now a b c (whole held) (part held) (rest held) next d taken
        (reads_all _ ⊥ _ _ b c (rw (until_whole (part held) taken.held) at reads))

  -- the call gives up at this place
  pub stops_here : (rest : Contents → List Item) (start now : Progress) (a b : StoreState) (known : Option Contents) → IsDoneIn known whole rest start now a b → ReadsItems whole known GaveUp a b
  stops_here rest start now a b known d = items_stop (λ held. []) rest start now a b b known GaveUp d tt (reads_none _ _ _ b)

  module _ (file : Contents → List (List ℕ) → FoundFile → List Item) (step : Step) (steps : List Step) (start now next : Progress) (a b c : StoreState) where
    -- one more step is processed
    pub step_done : (known : Option Contents) → IsDoneIn known whole (λ held. asked (file held) now.read (step ∷ steps)) start now a b →
        IfKnown known (λ held. HasTaken (asked_by (file held) now.read step) now next) → ReadsItems (λ held. asked_by (file held) now.read step) known Complete b c →
        IsDoneIn known whole (λ held. asked (file held) next.read steps) start next a c
    step_done None d taken reads = reads_unknown ⊥ ⊥ None None Complete a b c (λ l. l) d reads
    step_done (Some held) d taken reads =
        subst (λ places. IsDone (whole held) (asked (file held) places steps) start next a c) (sym (ap (λ (p : Progress). p.read) taken.reader))
        (items_done (λ k. asked_by (file k) now.read step) (λ k. asked (file k) (now.read ++ flat_map place_in (asked_by (file k) now.read step)) steps) start now a b c (Some held) next d taken reads)

  pub all_done : (known : Option Contents) (start now : Progress) (a b : StoreState) → IsDoneIn known whole (λ held. []) start now a b →
      IfKnown known (λ held. HasTaken (whole held) start now) × ReadsItems whole known Complete a b
  all_done None start now a b d = (tt, d)
  all_done (Some held) start now a b d = done_all start now a b (whole held) d

-- ---- steps without a file

module _ (known : Option Contents) (r new : Progress) (s : StoreState) where
  alone_taken : (item : Item) → HasTaken (item ∷ []) r new → IfKnown known (λ held. HasTaken (item ∷ []) r new)
  alone_taken item taken = if_all known (λ held. taken)

  alone_reads : (k : Option Contents) (item : Item) → key_begun item ≡ [] → is_missing item ≡ false → ReadsItems (λ held. item ∷ []) k Complete s s
  alone_reads None item none held = unread s
  alone_reads (Some c) item none held = rw (held, none) (reads_no_key _ (sum_by bytes_taken (item ∷ [])) s)

  pub report_taken : (report : ConfReport) → new ≡ with_report r report → IfKnown known (λ held. HasTaken (Reports report ∷ []) r new) × ReadsItems (λ held. Reports report ∷ []) known Complete s s
  report_taken report e = (alone_taken (Reports report) (take_report r new report e), alone_reads known (Reports report) refl refl)

  pub dir_taken : (dir : List ℕ) (origin : Origin) → new ≡ with_dir r dir origin →
      IfKnown known (λ held. HasTaken (named dir origin ∷ []) r new) × ReadsItems (λ held. named dir origin ∷ []) known Complete s s
  dir_taken dir origin e =
      (alone_taken (named dir origin) (take_dir r new dir origin e), alone_reads known (named dir origin) (key_of_named dir origin) (held_named dir origin))

-- ---- the files that are read aren't known

any_lacks : (key : List ℕ) (known : Option Contents) → Lacks known key → LacksAny known
any_lacks key None lacks = lacks
any_lacks key (Some held) lacks = (key, lacks)

module _ (known : Option Contents) (a b : StoreState) where
  pub any_file : (key : List ℕ) (e : Ending) → ReadsFile key known e a b → ReadsAny known e a b
  any_file key e reads =
      reads_unknown (Lacks known key) (LacksAny known) (Some (key ∷ [])) (option_map (λ held. size_read (held key)) known) e a a b (any_lacks key known) (unread a) reads

  -- the file is read
  pub file_any : (key : List ℕ) → ReadsFile key known Complete a b → ReadsFiles ⊥ None None Complete a b
  file_any key reads = reads_all (LacksAny known) ⊥ None None a b (any_file key Complete reads)

  module _ (c : StoreState) (first : ReadsFiles ⊥ None None Complete a b) where
    pub any_stops : (e : Ending) → ReadsAny known e b c → ReadsAny known e a c
    any_stops e next = reads_unknown (LacksAny known) (LacksAny known) None None e a b c (λ l. l) first next

    pub any_on : ReadsAny known Complete b c → ReadsFiles ⊥ None None Complete a c
    any_on next = reads_all (LacksAny known) ⊥ None None a c (any_stops Complete next)

  -- the call ends or gives up at this place
  pub any_done : ReadsFiles ⊥ None None Complete a b → ReadsAny known Complete a b
  any_done first = reads_all ⊥ (LacksAny known) None None a b first

  pub any_gives_up : ReadsFiles ⊥ None None Complete a b → ReadsAny known GaveUp a b
  any_gives_up first = any_part (any_done first) where
    any_part : ReadsAny known Complete a b → ReadsAny known GaveUp a b
    any_part r = record {
      held = r.held;
      begins = tt;
      begun = tt;
      begun_before = r.begun_before;
      taken = tt;
      taken_before = r.taken_before;
      faults = r.faults;
      cause = r.cause;
    }

pub any_nothing : (known : Option Contents) (s : StoreState) → ReadsAny known Complete s s
any_nothing known s = any_done known s s (unread s)
