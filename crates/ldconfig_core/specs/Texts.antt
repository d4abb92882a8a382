-- The texts that an update builds.
use Rattle.std.specs.Prelude.{◌≡◌, ℕ, List, [], ◌∷◌, ◌++◌, map, Option, Some, None, option_map, Vec}
use Rattle.std.specs.declared.alloc.Global.{Global}
use Rattle.std.specs.List.{filter_map}
use Rattle.atomic_replace.specs.Replace.{Write}
use Rattle.cache_entries.specs.Entries.{AreEntriesOf}
use Rattle.cache_lookup.specs.Scan.{AreDescending}
use Rattle.cache_reader.specs.Cache.{defect, read}
use Rattle.cache_writer.specs.CacheText.{cache_text, hwcaps_names}
use Rattle.cache_writer.specs.ReadBack.{as_read}
use Rattle.hwcap_dirs.specs.Places.{absent}
use Rattle.hwcap_dirs.specs.declared.kinds.Scope.{Scope}
use Rattle.lib_types.specs.declared.entry.Entry.{Entry}
use Rattle.library_files.specs.Search.{dangling}
use Rattle.soname_links.specs.Marks.{blocked, mixed}
use Rattle.tree_face.specs.declared.disk.Slot.{Slot}
use Rattle.tree_face.specs.declared.disk.Slot.TheVariants.{Manifest, Cache, Aux}
use Rattle.tree_face.specs.Store.{Contents}
use Rattle.update_report.specs.Report.{ReportInput, report_text}
use Rattle.update_report.specs.Skips.{skip_at}
use Rattle.library_search.specs.Begun.{opened_in}
use Rattle.library_search.specs.Ldconfig.{conf_in, entries_in, library_files, links_in, places_in, planned_in, info_files, info_wanted, stamps_in}
use Rattle.library_search.specs.Judged.{judged}
use Rattle.ldconfig_core.specs.Outcome.{new_manifest}
use Rattle.image_session.specs.Aux.{stamps_of_slot}
use Rattle.image_session.specs.Session.{Loaded}
use Rattle.aux_cache.specs.AuxFile.{damage}
use Rattle.aux_cache.specs.AuxText.{aux_text}
use Rattle.aux_cache.specs.declared.stamps.Stamp.{Stamp}

-- the findings in the report, with the entries in order
abbrev pub report_input_with : Scope → Contents → Loaded → List Entry → ReportInput
report_input_with scope held s entries = record {
  damaged = s.damaged;
  conf = (conf_in scope held s.tree).reports;
  places = places_in scope held s.tree;
  absent = absent s.tree (conf_in scope held s.tree).dirs;
  plan = links_in scope held s.tree s.stamps;
  blocked = blocked (judged scope (info_wanted scope held s.tree s.stamps)) s.tree (places_in scope held s.tree);
  mixed = mixed (judged scope (info_wanted scope held s.tree s.stamps)) s.tree (places_in scope held s.tree);
  skips = filter_map (skip_at (judged scope (info_files scope held s.tree s.stamps))) (library_files scope held s.tree s.stamps);
  dangling = dangling (planned_in scope held s.tree s.stamps) (places_in scope held s.tree);
  entries = entries;
  opened = opened_in scope held s.tree s.stamps;
}

-- the texts of an update: the manifest if it is written, the cache, the auxiliary cache and the report
pub record UpdateTexts : Type 0 where
  pub manifest : Option (List ℕ)
  pub cache : List ℕ
  pub aux : List ℕ
  pub report : List ℕ

-- the texts of the update of a loaded image
pub record AreTextsOf (scope : Scope) (held : Contents) (s : Loaded) (texts : UpdateTexts) : Type 0 where
  pub entries : List Entry
  pub are : AreEntriesOf (entries_in scope held s.tree s.stamps) entries
  pub manifest_is : texts.manifest ≡ new_manifest scope held s
  pub cache_is : texts.cache ≡ cache_text entries
  pub aux_is : texts.aux ≡ aux_text (stamps_in scope held s.tree s.stamps)
  pub report_is : texts.report ≡ report_text (report_input_with scope held s entries)

-- the same manifest, cache and auxiliary cache
pub record AreAlike (texts others : UpdateTexts) : Type 0 where
  pub manifest : others.manifest ≡ texts.manifest
  pub cache : others.cache ≡ texts.cache
  pub aux : others.aux ≡ texts.aux

-- This holds even if contents are unknown. A reader accepts the cache and reads it back as some entries in the loader's order of names.
-- The auxiliary cache is read back as some stamps, and the report lists some findings.
pub record AreTexts (texts : UpdateTexts) : Type 0 where
  pub info : ReportInput
  pub report_is : texts.report ≡ report_text info
  pub cache_is : texts.cache ≡ cache_text info.entries
  pub accepted : defect texts.cache ≡ None
  pub read_back : read texts.cache ≡ map (as_read (hwcaps_names info.entries)) info.entries
  pub descending : AreDescending (read texts.cache)
  pub stamps : List Stamp
  pub aux_is : texts.aux ≡ aux_text stamps
  pub undamaged : damage texts.aux ≡ None
  pub aux_read : stamps_of_slot (Some texts.aux) ≡ stamps

-- ---- the writes

abbrev pub of_manifest : Option (List ℕ) → List Write
of_manifest None = []
of_manifest (Some text) = (Manifest, text) ∷ []

-- the manifest if it is written, then the cache, then the auxiliary cache
abbrev pub writes_of : UpdateTexts → List Write
writes_of texts = of_manifest texts.manifest ++ (Cache, texts.cache) ∷ (Aux, texts.aux) ∷ []

-- the slots that an update may write
abbrev pub update_slots : List Slot
update_slots = Manifest ∷ Cache ∷ Aux ∷ []

abbrev pub manifest_bytes : Option (Vec ℕ Global) → Option (List ℕ)
manifest_bytes manifest = option_map (λ text. text.items) manifest
