-- The reading of the conf file, if its path resolves and if it doesn't.
use Rattle.std.proofs.Common.{◌≡◌, ◌+◌, ◌∙◌, ℕ, true, List, [], length, Option, Some, None, refl, sym, ap, subst}
use Rattle.std.proofs.Math.Nat.{zero-add}
use Rattle.std.specs.List.{flat_map}
use Rattle.std.specs.Prelude.{IsSomeAnd, option_map}
use Rattle.tree_face.specs.Known.{IfKnown}
use Rattle.tree_face.specs.Store.{Contents, StoreState}
use Rattle.tree_face.specs.StoreUse.{Ending, Complete, GaveUp, ReadsFiles}
use Rattle.image_tree.specs.Tree.{Nodes}
use Rattle.conf_views.specs.Files.{file_at}
use Rattle.conf_views.specs.declared.view.FoundFile.{FoundFile}
use Rattle.ldso_conf.specs.Reading.{ConfFile, Item, all_from, conf_bytes, conf_items, conf_keys, conf_lacks, dir_in, included, key_begun, origin_in, reading, report_in, IsConfOf, ReadsConf}
use Rattle.ldso_conf.specs.Visits.{Progress, HasTaken, IsConfFrom, ReadsItems, nothing_read}
use Rattle.ldso_conf.specs.declared.kinds.Conf.{Conf}
use Rattle.ldso_conf.specs.declared.reading.TheConstants.{DEPTH_MAX}
use Rattle.ldso_conf.proofs.Items.{until_whole}
use Rattle.tree_face.proofs.StoreUse.{unread}
use Rattle.ldso_conf.proofs.Uses.{reads_all, reads_none, reads_nothing}

module _ (path : List ℕ) (t : Nodes) where
  abbrev all_items : Contents → List Item
  all_items held = all_from t held (file_at t path)

  -- if all items were processed, the result is that of the conf files
  as_conf : (held : Contents) (conf : Conf) (reader : Progress) → HasTaken (all_items held) nothing_read reader → IsConfFrom conf reader → IsConfOf (ConfFile path) conf held t
  unfolding reading conf_items conf_keys conf_lacks
  as_conf held conf reader taken is =
      let whole = until_whole (all_items held) taken.held in
      record {
        dirs = is.dirs ∙ ap (λ (p : Progress). p.dirs) taken.reader ∙ sym (ap (flat_map dir_in) whole);
        origins = is.origins ∙ ap (λ (p : Progress). p.origins) taken.reader ∙ sym (ap (flat_map origin_in) whole);
        reports = is.reports ∙ ap (λ (p : Progress). p.reports) taken.reader ∙ sym (ap (flat_map report_in) whole);
        files = is.files ∙ ap (λ (p : Progress). p.files) taken.reader ∙ zero-add (length (flat_map key_begun (all_items held)))
            ∙ sym (ap (λ items. length (flat_map key_begun items)) whole);
        all_held = rw whole taken.held;
      }

  as_reads : (e : Ending) (old new : StoreState) (known : Option Contents) → ReadsItems all_items known e old new →
      ReadsFiles (IsSomeAnd known (λ held. conf_lacks (ConfFile path) held t ≡ true)) (option_map (λ held. conf_keys (ConfFile path) held t) known) (option_map (λ held. conf_bytes (ConfFile path) held t) known) e old new
  unfolding conf_items conf_keys conf_bytes conf_lacks
  as_reads e old new None reads = reads
  as_reads e old new (Some held) reads = reads

  -- ---- the path of the conf file doesn't resolve

  no_items : file_at t path ≡ None → (held : Contents) → all_items held ≡ []
  no_items e held = rw e refl

  pub no_conf : (known : Option Contents) (conf : Conf) (reader : Progress) → file_at t path ≡ None → reader ≡ nothing_read → IsConfFrom conf reader →
      IfKnown known (λ held. IsConfOf (ConfFile path) conf held t)
  no_conf None conf reader e start is = tt
  no_conf (Some held) conf reader e start is = as_conf held conf reader (rw (no_items e held) record { held = refl; reader = start }) is

  pub no_reads : (s : StoreState) → file_at t path ≡ None → ReadsConf (ConfFile path) t Complete s s
  no_reads s e = as_reads Complete s s s.held (at s.held) where
    at : (known : Option Contents) → ReadsItems all_items known Complete s s
    at None = unread s
    at (Some held) = rw (no_items e held) (reads_all ⊥ _ _ _ s s (reads_nothing s))

  pub gave_up : (s : StoreState) → ReadsConf (ConfFile path) t GaveUp s s
  gave_up s = reads_none _ _ _ s

  -- ---- the path of the conf file resolves

  module _ (start : Progress) (file : FoundFile) (there : file_at t path ≡ Some file) (none : start ≡ nothing_read) where
    abbrev visited : Contents → List Item
    visited held = included t held (DEPTH_MAX + 1) start.read file

    from_start : (held : Contents) → visited held ≡ all_items held
    from_start held = rw (none, there) refl

    pub a_conf : (known : Option Contents) (conf : Conf) (reader : Progress) → IfKnown known (λ held. HasTaken (visited held) start reader) → IsConfFrom conf reader →
        IfKnown known (λ held. IsConfOf (ConfFile path) conf held t)
    a_conf None conf reader taken is = tt
    a_conf (Some held) conf reader taken is = as_conf held conf reader (subst (λ s. HasTaken (all_items held) s reader) none (subst (λ items. HasTaken items start reader) (from_start held) taken)) is

    pub a_reads : (u : Nodes) → u ≡ t → (e : Ending) (old new : StoreState)
        → ReadsItems (λ held. included u held (DEPTH_MAX + 1) start.read file) old.held e old new → ReadsConf (ConfFile path) t e old new
    a_reads u is e old new reads =
        as_reads e old new old.held (at old.held (subst (λ x. ReadsItems (λ held. included x held (DEPTH_MAX + 1) start.read file) old.held e old new) is reads))
      where
        at : (known : Option Contents) → ReadsItems visited known e old new → ReadsItems all_items known e old new
        at None reads = reads
        at (Some held) reads = rw (← from_start held) reads
