-- An update of a tree with a part of its planned links ends and writes as one of the tree.
use Rattle.std.proofs.Common.{◌≡◌, ◌∷◌, ◌≤◌, ℕ, Bool, true, false, nat_lt, List, [], length, Option, None, refl, ap, sym, subst, ◌∙◌}
use Rattle.aux_cache.specs.AuxText.{aux_text}
use Rattle.aux_cache.specs.Stamps.{AreRecordable}
use Rattle.cache_entries.specs.Entries.{AreEntriesOf}
use Rattle.cache_layout.specs.declared.limits.TheConstants.{ENTRIES_MAX}
use Rattle.cache_writer.specs.CacheText.{cache_text}
use Rattle.elf_dynamic.specs.Begun.{lacks_one}
use Rattle.file_stamps.proofs.Truth.{same_in, true_in}
use Rattle.file_stamps.specs.Stamped.{AreSame, AreTrue}
use Rattle.hwcap_dirs.specs.declared.kinds.Scope.{Scope}
use Rattle.hwcap_dirs.specs.declared.kinds.Scope.TheVariants.{Image, Root, Only}
use Rattle.image_session.specs.Session.{Loaded}
use Rattle.image_tree.specs.Tree.{Nodes, IsPathSorted, IsTree}
use Rattle.image_tree.specs.declared.tree.TheConstants.{NODES_MAX}
use Rattle.ldconfig_core.proofs.OneText.{one_entries, one_outcome, one_written, some_texts}
use Rattle.ldconfig_core.specs.Outcome.{Lacking, Outcome, TooLarge, TooMany, first_refusal, is_too_long, manifest_with, new_manifest, size_of, update_outcome}
use Rattle.ldconfig_core.specs.Texts.{AreAlike, AreTextsOf, UpdateTexts}
use Rattle.ldso_conf.specs.Reading.{conf_lacks}
use Rattle.lib_types.specs.declared.entry.Entry.{Entry}
use Rattle.library_search.specs.Begun.{after_keys, wanted_keys}
use Rattle.library_search.specs.Ldconfig.{conf_of, entries_in, links_in, planned_in}
use Rattle.link_plan.specs.declared.kinds.Planned.{Planned}
use Rattle.soname_links.specs.Apply.{nodes_with}
use Rattle.tree_face.specs.Store.{Contents}
use Rattle.partial_links.proofs.Resumed.{finds_same, is_tree}
use Rattle.partial_links.specs.Partial.{HasPart}
use Rattle.partial_links.specs.Resumed.{FindsSame, IsRepaired, WritesSame, is_image, with_tree}

-- a directory has no manifest
none_with : (scope : Scope) (edited : Bool) (t : Nodes) (plan : List Planned) → is_image scope ≡ false → manifest_with scope edited t plan ≡ None
none_with Image edited t plan none = absurd (cc)
none_with (Root conf) edited t plan none = refl
none_with (Only dirs) edited t plan none = refl

alike_twice : (a b c : UpdateTexts) → AreAlike a b → AreAlike b c → AreAlike a c
alike_twice a b c first second = record { manifest = second.manifest ∙ first.manifest; cache = second.cache ∙ first.cache; aux = second.aux ∙ first.aux }

module _ (scope : Scope) (none : is_image scope ≡ false) (held : Contents) (s : Loaded) (new : Nodes) (finds : FindsSame scope held s.tree s.stamps new) where
  abbrev again : Loaded
  again = with_tree s new

  no_manifest : (image : Loaded) → new_manifest scope held image ≡ None
  unfolding new_manifest
  no_manifest image = none_with scope image.edited (planned_in scope held image.tree image.stamps) (links_in scope held image.tree image.stamps) none

  same_texts : (texts others : UpdateTexts) → AreTextsOf scope held s texts → AreTextsOf scope held again others → AreAlike texts others
  same_texts texts others are is =
      let entries : AreEntriesOf (entries_in scope held s.tree s.stamps) is.entries = subst (λ (found : List Entry). AreEntriesOf found is.entries) finds.entries is.are in
      record {
        manifest = is.manifest_is ∙ no_manifest again ∙ sym (no_manifest s) ∙ sym are.manifest_is;
        cache = is.cache_is ∙ ap cache_text (one_entries scope held s is.entries are.entries entries are.are) ∙ sym are.cache_is;
        aux = is.aux_is ∙ ap aux_text finds.stamps ∙ sym are.aux_is;
      }

  outcome_by : Bool → List (List ℕ) → ℕ → List (List ℕ) → Option (List ℕ) → Nodes → List Entry → Outcome
  outcome_by lacks first nodes later text planned entries =
      first_refusal (
      (lacks, Lacking)
      ∷ (lacks_one held first, Lacking)
      ∷ (nat_lt NODES_MAX nodes, TooLarge nodes 0)
      ∷ (lacks_one held later, Lacking)
      ∷ (is_too_long text, TooLarge (length planned) (size_of text))
      ∷ (nat_lt ENTRIES_MAX (length entries), TooMany (length entries))
      ∷ []
      )

  same_outcome : update_outcome scope held again ≡ update_outcome scope held s
  unfolding update_outcome outcome_by
  same_outcome =
      let t = s.tree in
      let loaded = s.stamps in
      ap (λ b. outcome_by b (wanted_keys scope held new loaded) (nodes_with new (links_in scope held new loaded)) (after_keys scope held new loaded)
      (new_manifest scope held again) (planned_in scope held new loaded) (entries_in scope held new loaded)) finds.lacks
      ∙ ap (λ keys. outcome_by (conf_lacks (conf_of scope) held t) keys (nodes_with new (links_in scope held new loaded)) (after_keys scope held new loaded)
      (new_manifest scope held again) (planned_in scope held new loaded) (entries_in scope held new loaded)) finds.first_files
      ∙ ap (λ n. outcome_by (conf_lacks (conf_of scope) held t) (wanted_keys scope held t loaded) n (after_keys scope held new loaded)
      (new_manifest scope held again) (planned_in scope held new loaded) (entries_in scope held new loaded)) finds.nodes
      ∙ ap (λ keys. outcome_by (conf_lacks (conf_of scope) held t) (wanted_keys scope held t loaded) (nodes_with t (links_in scope held t loaded)) keys
      (new_manifest scope held again) (planned_in scope held new loaded) (entries_in scope held new loaded)) finds.later_files
      ∙ ap (λ text. outcome_by (conf_lacks (conf_of scope) held t) (wanted_keys scope held t loaded) (nodes_with t (links_in scope held t loaded)) (after_keys scope held t loaded)
      text (planned_in scope held new loaded) (entries_in scope held new loaded)) (no_manifest again ∙ sym (no_manifest s))
      ∙ ap (λ n. outcome_by (conf_lacks (conf_of scope) held t) (wanted_keys scope held t loaded) (nodes_with t (links_in scope held t loaded)) (after_keys scope held t loaded)
      (new_manifest scope held s) n (entries_in scope held new loaded)) finds.planned
      ∙ ap (outcome_by (conf_lacks (conf_of scope) held t) (wanted_keys scope held t loaded) (nodes_with t (links_in scope held t loaded)) (after_keys scope held t loaded)
      (new_manifest scope held s) (planned_in scope held t loaded)) finds.entries

  writes_same : WritesSame scope held s again
  writes_same = record { outcome = same_outcome; texts = same_texts }

  -- ---- an image of the same tree with other stamps

  module _ (are : AreTrue held s.tree s.stamps) (same : AreSame held s.tree s.tree) (later : Loaded) (of_tree : later.tree ≡ new) (edited : later.edited ≡ s.edited)
      (too : AreTrue held s.tree later.stamps) where
    there : (u : Loaded) → AreTrue held s.tree u.stamps → AreTrue held new u.stamps
    there u holds = true_in held s.tree new finds.ids finds.contents u.stamps holds

    same_new : AreSame held new new
    same_new = same_in held s.tree new finds.ids finds.contents same

    of_later : AreTrue held later.tree later.stamps
    of_later = subst (λ (n : Nodes). AreTrue held n later.stamps) (sym of_tree) (there later too)

    stamped : WritesSame scope held s later
    stamped = record {
      outcome = one_outcome scope held again later of_tree edited same_new (there s are) of_later ∙ same_outcome;
      texts = λ texts others is others_are.
          let middle = some_texts scope held again in
          alike_twice texts middle.0 others (same_texts texts middle.0 is middle.1)
          (one_written scope held again later of_tree edited same_new (there s are) of_later middle.0 others middle.1 others_are);
    }

-- What is left of the links of an image's update is repaired by the next one.
pub repaired : (scope : Scope) → is_image scope ≡ false → (held : Contents) (s : Loaded) (new : Nodes) → IsTree s.tree → AreRecordable s.stamps → IsPathSorted new
    → nodes_with s.tree (links_in scope held s.tree s.stamps) ≤ NODES_MAX → HasPart s.tree (links_in scope held s.tree s.stamps) new → IsRepaired scope held s new
repaired scope none held s new tree are sorted few part =
    let after = is_tree scope held s.tree s.stamps new tree are part sorted few in
    let finds = finds_same scope held s.tree s.stamps new tree are part after in
    record { is_tree = after; finds = finds; writes = writes_same scope none held s new finds; stamped = stamped scope none held s new finds }
