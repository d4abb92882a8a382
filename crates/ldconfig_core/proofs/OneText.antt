-- The image and the contents determine the texts of an update, and there are such texts.
use Rattle.std.proofs.Common.{◌≡◌, ℕ, Bool, nat_lt, List, [], ◌∷◌, length, Option, refl, sym, ap, subst, ◌∙◌}
use Rattle.hwcap_dirs.specs.declared.kinds.Scope.{Scope}
use Rattle.aux_cache.specs.AuxText.{aux_text}
use Rattle.aux_cache.specs.declared.stamps.Stamp.{Stamp}
use Rattle.image_tree.specs.Tree.{Nodes}
use Rattle.cache_entries.proofs.InOneOrder.{one_list_is}
use Rattle.cache_entries.proofs.Single.{one_list}
use Rattle.cache_entries.specs.Entries.{AreEntriesOf}
use Rattle.cache_writer.specs.CacheText.{cache_text}
use Rattle.cache_layout.specs.declared.limits.TheConstants.{ENTRIES_MAX}
use Rattle.elf_dynamic.specs.Begun.{lacks_one}
use Rattle.image_tree.specs.declared.tree.TheConstants.{NODES_MAX}
use Rattle.ldso_conf.specs.Reading.{conf_lacks}
use Rattle.soname_links.specs.Apply.{nodes_with}
use Rattle.link_plan.specs.declared.kinds.Planned.{Planned}
use Rattle.soname_links.specs.Plan.{with_links}
use Rattle.file_stamps.specs.Stamped.{AreSame, AreTrue}
use Rattle.lib_types.specs.declared.entry.Entry.{Entry}
use Rattle.tree_face.specs.Store.{Contents}
use Rattle.update_report.specs.Report.{report_text}
use Rattle.library_search.proofs.Reliable.{info_law}
use Rattle.library_search.specs.Begun.{after_keys, wanted_keys}
use Rattle.library_search.specs.Laws.{IsInfoRight}
use Rattle.library_search.specs.Judged.{judged}
use Rattle.library_search.specs.Ldconfig.{conf_of, entries_in, links_in, places_in, planned_in, info_files, stamps_in}
use Rattle.ldconfig_core.specs.Outcome.{Lacking, Outcome, Refusal, TooLarge, TooMany, first_refusal, is_too_long, manifest_with, new_manifest, size_of, update_outcome}
use Rattle.image_session.specs.Session.{Loaded}
use Rattle.ldconfig_core.specs.Settled.{AreCachesAgain, AreSettled}
use Rattle.ldconfig_core.specs.Texts.{AreAlike, AreTextsOf, UpdateTexts, report_input_with}

module _ (scope : Scope) (held : Contents) (s : Loaded) where
  pub one_entries : (a b : List Entry) → AreEntriesOf (entries_in scope held s.tree s.stamps) a → AreEntriesOf (entries_in scope held s.tree s.stamps) b → a ≡ b
  unfolding entries_in
  one_entries a b are is = one_list (judged scope (info_files scope held s.tree s.stamps)) (planned_in scope held s.tree s.stamps) (places_in scope held s.tree) a b are is

  pub one_update : (texts others : UpdateTexts) → AreTextsOf scope held s texts → AreTextsOf scope held s others → texts ≡ others
  one_update texts others are is =
      let same : are.entries ≡ is.entries = one_entries are.entries is.entries are.are is.are in
      let manifest : texts.manifest ≡ others.manifest = are.manifest_is ∙ sym is.manifest_is in
      let cache : texts.cache ≡ others.cache = are.cache_is ∙ ap cache_text same ∙ sym is.cache_is in
      let aux : texts.aux ≡ others.aux = are.aux_is ∙ sym is.aux_is in
      let report : texts.report ≡ others.report = are.report_is ∙ ap (λ entries. report_text (report_input_with scope held s entries)) same ∙ sym is.report_is in
      ap (λ m. texts_with m texts.cache texts.aux texts.report) manifest ∙ ap (λ c. texts_with others.manifest c texts.aux texts.report) cache
      ∙ ap (λ a. texts_with others.manifest others.cache a texts.report) aux ∙ ap (λ r. texts_with others.manifest others.cache others.aux r) report
    where
      texts_with : Option (List ℕ) → List ℕ → List ℕ → List ℕ → UpdateTexts
      texts_with m c a r = record { manifest = m; cache = c; aux = a; report = r }

  texts_by : (entries : List Entry) → AreEntriesOf (entries_in scope held s.tree s.stamps) entries → (texts : UpdateTexts) × AreTextsOf scope held s texts
  texts_by entries are = (
    record { manifest = new_manifest scope held s; cache = cache_text entries; aux = aux_text (stamps_in scope held s.tree s.stamps); report = report_text (report_input_with scope held s entries) },
    record { entries = entries; are = are; manifest_is = refl; cache_is = refl; aux_is = refl; report_is = refl },
  )

  -- there are texts for each image
  pub some_texts : (texts : UpdateTexts) × AreTextsOf scope held s texts
  some_texts = let list = one_list_is (entries_in scope held s.tree s.stamps) in texts_by list.0 list.1

-- Images of one tree, both edited or both unedited, have the same outcome and the same texts for all true stamps. This assumes that equal
-- identities imply equal contents.
module _ (scope : Scope) (held : Contents) (s new : Loaded) (tree : new.tree ≡ s.tree) (edited : new.edited ≡ s.edited) (same : AreSame held s.tree s.tree)
    (are : AreTrue held s.tree s.stamps) (too : AreTrue held new.tree new.stamps) where
  abbrev there : List Stamp
  there = new.stamps

  of_tree : AreTrue held s.tree there
  of_tree = subst (λ (t : Nodes). AreTrue held t there) tree too

  abbrev law : IsInfoRight scope held s.tree s.stamps
  law = info_law scope held s.tree same s.stamps are

  abbrev other : IsInfoRight scope held s.tree new.stamps
  other = info_law scope held s.tree same there of_tree

  pub both_links : links_in scope held s.tree new.stamps ≡ links_in scope held s.tree s.stamps
  both_links = other.links ∙ sym law.links

  both_planned : planned_in scope held s.tree there ≡ planned_in scope held s.tree s.stamps
  unfolding planned_in
  both_planned = ap (with_links s.tree) both_links

  both_entries : entries_in scope held s.tree there ≡ entries_in scope held s.tree s.stamps
  both_entries = other.entries ∙ sym law.entries

  both_manifests : new_manifest scope held new ≡ new_manifest scope held s
  unfolding new_manifest
  both_manifests =
      ap (λ t. manifest_with scope new.edited (planned_in scope held t there) (links_in scope held t there)) tree
      ∙ ap (λ e. manifest_with scope e (planned_in scope held s.tree there) (links_in scope held s.tree there)) edited
      ∙ ap (λ t. manifest_with scope s.edited t (links_in scope held s.tree there)) both_planned
      ∙ ap (manifest_with scope s.edited (planned_in scope held s.tree s.stamps)) both_links

  pub one_written : (texts others : UpdateTexts) → AreTextsOf scope held s texts → AreTextsOf scope held new others → AreAlike texts others
  one_written texts others are is =
      let entries : AreEntriesOf (entries_in scope held s.tree s.stamps) is.entries =
      subst (λ (found : List Entry). AreEntriesOf found is.entries) (ap (λ t. entries_in scope held t there) tree ∙ both_entries) is.are in
      record {
        manifest = is.manifest_is ∙ both_manifests ∙ sym are.manifest_is;
        cache = is.cache_is ∙ ap cache_text (one_entries scope held s is.entries are.entries entries are.are) ∙ sym are.cache_is;
        aux = is.aux_is ∙ ap (λ t. aux_text (stamps_in scope held t there)) tree ∙ ap aux_text (other.stamps ∙ sym law.stamps) ∙ sym are.aux_is;
      }

  pub one_outcome : update_outcome scope held new ≡ update_outcome scope held s
  unfolding update_outcome
  one_outcome =
      ap (λ t. outcome_with t there (new_manifest scope held new)) tree
      ∙ ap (λ m. outcome_with s.tree there m) both_manifests
      ∙ ap (λ b. first_refusal (rows b (links_in scope held s.tree there) (lacks_one held (after_keys scope held s.tree there)) (planned_in scope held s.tree there) (entries_in scope held s.tree there))) (other.wanted_lack ∙ sym law.wanted_lack)
      ∙ ap (λ l. first_refusal (rows wanted_here l (lacks_one held (after_keys scope held s.tree there)) (planned_in scope held s.tree there) (entries_in scope held s.tree there))) both_links
      ∙ ap (λ b. first_refusal (rows wanted_here (links_in scope held s.tree s.stamps) b (planned_in scope held s.tree there) (entries_in scope held s.tree there))) (other.after_lack ∙ sym law.after_lack)
      ∙ ap (λ t. first_refusal (rows wanted_here (links_in scope held s.tree s.stamps) (lacks_one held (after_keys scope held s.tree s.stamps)) t (entries_in scope held s.tree there))) both_planned
      ∙ ap (λ es. first_refusal (rows wanted_here (links_in scope held s.tree s.stamps) (lacks_one held (after_keys scope held s.tree s.stamps)) (planned_in scope held s.tree s.stamps) es)) both_entries
    where
      wanted_here : Bool
      wanted_here = lacks_one held (wanted_keys scope held s.tree s.stamps)

      rows_with : Nodes → Bool → List Planned → Bool → Nodes → Option (List ℕ) → List Entry → List Refusal
      rows_with t wanted plan following planned text entries =
          (conf_lacks (conf_of scope) held t, Lacking)
          ∷ (wanted, Lacking)
          ∷ (nat_lt NODES_MAX (nodes_with t plan), TooLarge (nodes_with t plan) 0)
          ∷ (following, Lacking)
          ∷ (is_too_long text, TooLarge (length planned) (size_of text))
          ∷ (nat_lt ENTRIES_MAX (length entries), TooMany (length entries))
          ∷ []

      outcome_with : Nodes → List Stamp → Option (List ℕ) → Outcome
      outcome_with t loaded text =
          first_refusal (rows_with t (lacks_one held (wanted_keys scope held t loaded)) (links_in scope held t loaded) (lacks_one held (after_keys scope held t loaded)) (planned_in scope held t loaded) text (entries_in scope held t loaded))

      rows : Bool → List Planned → Bool → Nodes → List Entry → List Refusal
      rows wanted plan following planned entries = rows_with s.tree wanted plan following planned (new_manifest scope held s) entries

-- another update has texts: no manifest, and the same caches
pub again : (scope : Scope) (held : Contents) (s new : Loaded) (texts : UpdateTexts) → AreSettled scope held s new → AreTextsOf scope held s texts
    → (others : UpdateTexts) × (AreTextsOf scope held new others × AreCachesAgain texts others)
again scope held s new texts settled are =
    let others : UpdateTexts = record {
      manifest = new_manifest scope held new;
      cache = cache_text are.entries;
      aux = aux_text (stamps_in scope held new.tree new.stamps);
      report = report_text (report_input_with scope held new are.entries);
    } in
    let is : AreTextsOf scope held new others = record {
      entries = are.entries;
      are = subst (λ (found : List Entry). AreEntriesOf found are.entries) (sym settled.entries) are.are;
      manifest_is = refl;
      cache_is = refl;
      aux_is = refl;
      report_is = refl;
    } in
    (others, (is, settled.texts texts others are is))
