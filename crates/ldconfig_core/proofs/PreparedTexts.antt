-- The prepared texts are those of the image's update.
use Rattle.std.proofs.Common.{◌≡◌, ◌⊎◌, inl, inr, ◌≤◌, ◌<◌, ◌+◌, ℕ, true, false, nat_lt, List, length, Option, Some, None, Err, refl, ap, sym, subst, ◌∙◌, arith}
use Rattle.std.proofs.lemmas.List.Sorted.{length_permutation}
use Rattle.hwcap_dirs.specs.declared.kinds.Scope.{Scope}
use Rattle.aux_cache.specs.AuxText.{aux_text}
use Rattle.cache_entries.specs.Entries.{AreEntriesOf}
use Rattle.cache_layout.specs.declared.limits.TheConstants.{ENTRIES_MAX}
use Rattle.lib_types.specs.declared.entry.Entry.{Entry}
use Rattle.tree_face.proofs.StoreUse.{reads_all}
use Rattle.tree_face.specs.Known.{IfKnown}
use Rattle.tree_face.specs.Store.{Contents, StoreState}
use Rattle.tree_face.specs.StoreUse.{Ending, Complete, GaveUp, ReadsFiles}
use Rattle.image_tree.specs.Tree.{Nodes, IsTree}
use Rattle.update_report.specs.Report.{report_text}
use Rattle.ldconfig_core.proofs.LookedUp.{names_descend, searched}
use Rattle.ldconfig_core.proofs.OutcomeRows as rows
use Rattle.library_search.proofs.Reliable.{info_law}
use Rattle.library_search.proofs.Limits.{over}
use Rattle.ldconfig_core.specs.declared.fault.UpdateFault.{UpdateFault}
use Rattle.ldconfig_core.specs.declared.fault.UpdateFault.TheVariants as faults
use Rattle.library_search.specs.Begun.{lacks_file, opened_in, update_bytes, update_keys}
use Rattle.library_search.specs.Faults.{find_ending}
use Rattle.library_search.specs.Found.{HasTooManyNodes, IsFound, ReadsFinding}
use Rattle.library_search.specs.Laws.{IsInfoRight}
use Rattle.ldso_conf.specs.Reading.{conf_keys}
use Rattle.library_search.specs.declared.fault.FindFault.{FindFault}
use Rattle.library_search.specs.declared.fault.FindFault.TheVariants as finding
use Rattle.library_search.specs.declared.finding.Found.{Found}
use Rattle.ldconfig_core.specs.declared.preparing.Prepared.{Prepared}
use Rattle.ldconfig_core.specs.Faults.{is_of_making, of_finding}
use Rattle.library_search.specs.Judged.{judged}
use Rattle.library_search.specs.Ldconfig.{conf_in, conf_of, entries_in, links_in, places_in, planned_in, info_wanted, stamps_in}
use Rattle.image_session.specs.Aux.{stamps_of_slot}
use Rattle.image_session.specs.Session.{Loaded}
use Rattle.file_table.specs.Table.{analysis_at}
use Rattle.place_libraries.specs.Best.{bests_of}
use Rattle.planned_tree.specs.Search.{IsSearchedAlike}
use Rattle.soname_links.specs.Settled.{IsSettled}
use Rattle.ldconfig_core.proofs.SettledImage.{are_settled}
use Rattle.ldconfig_core.specs.Looked.{HasLooked}
use Rattle.ldconfig_core.specs.Lookup.{FindsAsSearched}
use Rattle.ldconfig_core.specs.Outcome.{TooLarge, TooMany, Writes, is_too_long, manifest_with, new_manifest, size_of, update_outcome}
use Rattle.ldconfig_core.specs.Settled.{AreSettled, IfReads, planned_image}
use Rattle.ldconfig_core.specs.Stages.{HasTooMany, IsMadeOf, IsTooLarge, entries_of, report_input_of, stored_image, texts_of}
use Rattle.ldconfig_core.specs.Texts.{AreTexts, AreTextsOf, report_input_with}
use Rattle.ldconfig_core.specs.Update.{AreUpdateTexts, IfReliableIn, IfReliably, IsAnswer, IsUpdated, update_ending}
use Rattle.tree_face.proofs.Known.{known_then}
use Rattle.aux_cache.proofs.Back.{not_below}

-- the number of failed calls rose, or a content isn't held
cause_of : {risen : Type 0} {a b : Type 0} → (a → b) → risen ⊎ a → risen ⊎ b
cause_of f (inl risen) = inl risen
cause_of f (inr lacks) = inr (f lacks)

module _ (scope : Scope) (s : Loaded) (found : Found) (tree : Nodes) (alike : IsSearchedAlike s.tree tree) where
  -- ---- for given contents

  module _ (held : Contents) (is : IsFound scope held s.tree s.stamps found tree) where
    manifest_is : manifest_with scope s.edited tree found.links.plan ≡ new_manifest scope held s
    unfolding new_manifest
    manifest_is = rw (is.tree_is, is.plan) refl

    too_long : (nodes bytes : ℕ) → IsTooLarge scope s.edited tree found.links.plan nodes bytes → update_outcome scope held s ≡ TooLarge nodes bytes
    too_long nodes bytes large =
        let long : is_too_long (new_manifest scope held s) ≡ true = ap is_too_long (sym manifest_is) ∙ large.1.1 in
        let size : length (planned_in scope held s.tree s.stamps) ≡ nodes = sym (large.0 ∙ ap length is.tree_is) in
        let bytes_are : size_of (new_manifest scope held s) ≡ bytes = sym (large.1.0 ∙ ap size_of manifest_is) in
        rows.too_long scope held s is.none_lacks is.few is.none_after long
        ∙ ap (λ n. TooLarge n (size_of (new_manifest scope held s))) size ∙ ap (TooLarge nodes) bytes_are

    module _ (short : is_too_long (manifest_with scope s.edited tree found.links.plan) ≡ false) where
      short_new : is_too_long (new_manifest scope held s) ≡ false
      short_new = ap is_too_long (sym manifest_is) ∙ short

      too_many : (count : ℕ) → count ≡ length (entries_of found tree) → ENTRIES_MAX < count → update_outcome scope held s ≡ TooMany count
      too_many count e more =
          let size : count ≡ length (entries_in scope held s.tree s.stamps) = e ∙ ap length is.entries_are in
          let many : nat_lt ENTRIES_MAX (length (entries_in scope held s.tree s.stamps)) ≡ true = over ENTRIES_MAX (length (entries_in scope held s.tree s.stamps)) (omega (arith, more, size)) in
          rows.too_many scope held s is.none_lacks is.few is.none_after short_new many ∙ ap TooMany (sym size)

      writes : length (entries_of found tree) ≤ ENTRIES_MAX → update_outcome scope held s ≡ Writes
      writes few =
          let size : length (entries_of found tree) ≡ length (entries_in scope held s.tree s.stamps) = ap length is.entries_are in
          rows.writes scope held s is.none_lacks is.few is.none_after short_new (not_below ENTRIES_MAX (length (entries_in scope held s.tree s.stamps)) (omega (arith, few, size)))

    -- the findings in the report are those of the image
    info_is : (entries : List Entry) → report_input_of s.damaged found entries ≡ report_input_with scope held s entries
    unfolding conf_in
    info_is entries = ap (λ skips. record {
      damaged = s.damaged;
      conf = found.search.conf.reports;
      places = found.search.dirs.places;
      absent = found.search.dirs.absent;
      plan = found.links.plan;
      blocked = found.links.blocked;
      mixed = found.links.mixed;
      skips = skips;
      dangling = found.followed.dangling;
      entries = entries;
      opened = found.search.files.begun;
    }) is.skips_are ∙ rw (is.conf.reports, is.places, is.absent_is, is.plan, is.blocked_is, is.mixed_is, is.dangling_is, is.opened) refl

    -- the image is settled: another update of it plans no link
    settled_is : IsTree tree → IsSettled (judged scope (info_wanted scope held s.tree s.stamps)) s.tree (places_in scope held s.tree) tree → IfReliableIn held s (AreSettled scope held s (planned_image scope held s))
    settled_is is_tree still are same =
        subst (λ (n : Nodes). AreSettled scope held s (stored_image n (stamps_in scope held s.tree s.stamps))) is.tree_is (are_settled scope held s tree alike is.tree_is still is_tree are same)

    module _ (prepared : Prepared) (made : IsMadeOf scope s.edited s.damaged found tree prepared) where
      ordered : AreEntriesOf (entries_in scope held s.tree s.stamps) made.entries
      ordered = subst (λ (all : List Entry). AreEntriesOf all made.entries) is.entries_are made.are

      are_texts : AreTextsOf scope held s (texts_of prepared)
      are_texts = record {
        entries = made.entries;
        are = ordered;
        manifest_is = made.manifest ∙ manifest_is;
        cache_is = made.cache;
        aux_is = made.aux ∙ ap aux_text is.stamps;
        report_is = made.text ∙ ap report_text (info_is made.entries);
      }

      image_is : stored_image tree prepared.stamps ≡ planned_image scope held s
      image_is = ap (λ (n : Nodes). stored_image n prepared.stamps) is.tree_is ∙ ap (stored_image (planned_in scope held s.tree s.stamps)) (made.stamps ∙ is.stamps)

      is_updated : IfReliableIn held s (AreSettled scope held s (planned_image scope held s)) → IsUpdated scope held s (stored_image tree prepared.stamps, prepared.report)
      is_updated settled = record {
        planned = image_is;
        reads = subst (λ (manifest : Option (List ℕ)). IfReads manifest (stored_image tree prepared.stamps)) (made.manifest ∙ manifest_is) made.reads;
        settled = λ are same. subst (λ (image : Loaded). AreSettled scope held s image) (sym image_is) (settled are same);
        report = record {
          libs = made.libs ∙ length_permutation (entries_in scope held s.tree s.stamps) made.entries ordered.all;
          links = made.links ∙ ap length is.plan;
          opened = made.opened ∙ is.opened;
        };
      }

  -- ---- if contents are known

  module _ (known : Option Contents) (is : IfKnown known (λ held. IsFound scope held s.tree s.stamps found tree)) where
    -- the image with the planned links is settled
    pub settled_by : IsTree tree → IfKnown known (λ held. IsSettled (judged scope (info_wanted scope held s.tree s.stamps)) s.tree (places_in scope held s.tree) tree)
        → IfReliably known s (λ held. AreSettled scope held s (planned_image scope held s))
    settled_by is_tree still = by known is still
      where
        by : (k : Option Contents) → IfKnown k (λ held. IsFound scope held s.tree s.stamps found tree) → IfKnown k (λ held. IsSettled (judged scope (info_wanted scope held s.tree s.stamps)) s.tree (places_in scope held s.tree) tree)
            → IfReliably k s (λ held. AreSettled scope held s (planned_image scope held s))
        by None is still = tt
        by (Some held) is still = settled_is held is is_tree still

    abbrev If : (Contents → Type 0) → Type 0
    If P = IfKnown known P

    follows : (P : Contents → Type 0) → ((held : Contents) → IsFound scope held s.tree s.stamps found tree → P held) → If P
    follows P f = known_then known (λ held. IsFound scope held s.tree s.stamps found tree) P f is

    module _ (prepared : Prepared) (made : IsMadeOf scope s.edited s.damaged found tree prepared) (settled : IfReliably known s (λ held. AreSettled scope held s (planned_image scope held s))) where
      texts_alone : AreTexts (texts_of prepared)
      texts_alone = record {
        info = report_input_of s.damaged found made.entries;
        report_is = made.text;
        cache_is = made.cache;
        accepted = made.accepted;
        read_back = made.read_back;
        descending = names_descend made.entries prepared.cache.items made.are.ordered made.read_back;
        stamps = found.search.files.stamps;
        aux_is = made.aux;
        undamaged = made.undamaged;
        aux_read = made.aux_read;
      }

      pub update_texts : AreUpdateTexts scope s known (texts_of prepared)
      update_texts = record {
        are = texts_alone;
        are_of = follows (λ held. AreTextsOf scope held s (texts_of prepared)) (λ held is. are_texts held is prepared made);
        aux_read = follows (λ held. stamps_of_slot (Some prepared.aux.items) ≡ stamps_in scope held s.tree s.stamps) (λ held is. made.aux_read ∙ is.stamps);
        finds = follows (λ held. FindsAsSearched scope held s.tree s.stamps prepared.cache.items)
            (λ held is. searched scope held s.tree s.stamps made.entries prepared.cache.items (ordered held is prepared made) made.read_back);
        counted = follows (λ held. length (update_keys scope held s.tree s.stamps) ≡ length (conf_keys (conf_of scope) held s.tree) + opened_in scope held s.tree s.stamps) (λ held is. is.counted);
        right = follows (λ held. IfReliableIn held s (IsInfoRight scope held s.tree s.stamps)) (λ held is are same. info_law scope held s.tree same s.stamps are);
        settles = settled;
        reads = follows (λ held. IfReads (texts_of prepared).manifest (planned_image scope held s))
            (λ held is. subst (λ (n : Nodes). IfReads (texts_of prepared).manifest (stored_image n (stamps_in scope held s.tree s.stamps))) is.tree_is made.reads);
      }

      pub updated_is : If (λ held. IsUpdated scope held s (stored_image tree prepared.stamps, prepared.report))
      updated_is = by known is settled
        where
          by : (k : Option Contents) → IfKnown k (λ held. IsFound scope held s.tree s.stamps found tree) → IfReliably k s (λ held. AreSettled scope held s (planned_image scope held s))
              → IfKnown k (λ held. IsUpdated scope held s (stored_image tree prepared.stamps, prepared.report))
          by None is settled = tt
          by (Some held) is settled = is_updated held is prepared made settled

    -- the planned links
    pub plan_is : (prepared : Prepared) → IsMadeOf scope s.edited s.damaged found tree prepared → If (λ held. prepared.plan ≡ links_in scope held s.tree s.stamps)
    plan_is prepared made = follows (λ held. prepared.plan ≡ links_in scope held s.tree s.stamps) (λ held is. made.plan ∙ is.plan)

    -- the search directories and the libraries found there
    pub looked_is : (prepared : Prepared) → IsMadeOf scope s.edited s.damaged found tree prepared
        → found.links.bests ≡ bests_of (analysis_at found.search.files.table) tree found.search.dirs.places → If (λ held. HasLooked scope held s prepared.looked)
    looked_is prepared made bests = follows (λ held. HasLooked scope held s prepared.looked)
        (λ held is. rw made.looked record { conf = is.conf; places = is.places; bests = bests ∙ is.bests_are })

    pub writes_is : (prepared : Prepared) → IsMadeOf scope s.edited s.damaged found tree prepared → If (λ held. update_outcome scope held s ≡ Writes)
    writes_is prepared made = follows (λ held. update_outcome scope held s ≡ Writes) (λ held is. writes held is made.short made.few)

    -- ---- failed preparations

    pub making_answers : (A : Type 0) (a b : StoreState) (fault : UpdateFault) → is_of_making fault ≡ true
        → ((nodes bytes : ℕ) → fault ≡ faults.TooLarge nodes bytes → IsTooLarge scope s.edited tree found.links.plan nodes bytes)
        → ((count : ℕ) → fault ≡ faults.TooMany count → HasTooMany scope s.edited found tree count)
        → If (λ held. IsAnswer {A = A} (update_outcome scope held s) (Err fault) a b)
    making_answers A a b fault of large many = follows _ (λ held is. by held is fault of large many)
      where
        by : (held : Contents) → IsFound scope held s.tree s.stamps found tree → (fault : UpdateFault) → is_of_making fault ≡ true
            → ((nodes bytes : ℕ) → fault ≡ faults.TooLarge nodes bytes → IsTooLarge scope s.edited tree found.links.plan nodes bytes)
            → ((count : ℕ) → fault ≡ faults.TooMany count → HasTooMany scope s.edited found tree count)
            → IsAnswer {A = A} (update_outcome scope held s) (Err fault) a b
        by held is (faults.TooLarge nodes bytes) of large many = too_long held is nodes bytes (large nodes bytes refl)
        by held is (faults.TooMany count) of large many = let m = many count refl in too_many held is m.0 count m.1.0 m.1.1
        by held is faults.NoMemory of large many = tt
        by held is faults.StoreFault of large many = absurd (cc)
        by held is (faults.DiskFault fault) of large many = absurd (cc)

-- ---- the files that are read

module _ (scope : Scope) (A : Type 0) (s : Loaded) (a b : StoreState) where
  abbrev Finds : Ending → Type 0
  Finds e = ReadsFinding scope s.tree s.stamps e a b

  -- a call that read all files may still run out of memory
  given_up : Finds Complete → Finds GaveUp
  given_up reads = record {
    keys = known_then a.held
        (λ held. ReadsFiles (lacks_file scope held s.tree s.stamps ≡ true) (Some (update_keys scope held s.tree s.stamps)) (Some (update_bytes scope held s.tree s.stamps)) Complete a b)
        (λ held. ReadsFiles (lacks_file scope held s.tree s.stamps ≡ true) (Some (update_keys scope held s.tree s.stamps)) (Some (update_bytes scope held s.tree s.stamps)) GaveUp a b)
        (λ held reads. reads_all _ _ _ _ _ reads) reads.keys;
    any = reads_all _ _ _ _ _ reads.any;
  }

  pub making_ends : (fault : UpdateFault) → is_of_making fault ≡ true → Finds Complete → Finds (update_ending {A = A} (Err fault))
  making_ends (faults.TooLarge nodes bytes) of reads = reads
  making_ends (faults.TooMany count) of reads = reads
  making_ends faults.NoMemory of reads = given_up reads
  making_ends faults.StoreFault of reads = absurd (cc)
  making_ends (faults.DiskFault fault) of reads = absurd (cc)

  module _ (B : Type 0) where
    pub finding_answers : (fault : FindFault) → ((nodes : ℕ) → fault ≡ finding.TooLarge nodes → IfKnown a.held (λ held. HasTooManyNodes scope held s.tree s.stamps nodes))
        → Finds (find_ending {A = B} (Err fault)) → IfKnown a.held (λ held. IsAnswer {A = A} (update_outcome scope held s) (Err (of_finding fault)) a b)
    finding_answers finding.StoreFault large reads = known_then a.held _ _ (λ held reads. cause_of (rows.lacking scope held s) reads.cause) reads.keys
    finding_answers (finding.TooLarge nodes) large reads =
        known_then a.held _ _ (λ held many. rows.too_many_nodes scope held s many.none_lacks nodes many.many many.nodes_are) (large nodes refl)
    finding_answers finding.NoMemory large reads = known_then a.held _ _ (λ held reads. tt) reads.keys

    pub finding_ends : (fault : FindFault) → Finds (find_ending {A = B} (Err fault)) → Finds (update_ending {A = A} (Err (of_finding fault)))
    finding_ends finding.StoreFault reads = reads
    finding_ends (finding.TooLarge nodes) reads = reads
    finding_ends finding.NoMemory reads = reads
