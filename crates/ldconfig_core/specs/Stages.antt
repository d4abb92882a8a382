-- What an update builds from the results of its search.
use Rattle.std.specs.Prelude.{◌≡◌, ◌≤◌, ◌<◌, ℕ, Bool, true, false, List, length, map, Option, Some, None, IfSome}
use Rattle.std.specs.List.{filter_map}
use Rattle.std.specs.Map.{keys_of}
use Rattle.hwcap_dirs.specs.declared.kinds.Scope.{Scope}
use Rattle.cache_entries.specs.Entries as entries
use Rattle.cache_entries.specs.Entries.{AreEntriesOf}
use Rattle.cache_reader.specs.Cache.{defect, read}
use Rattle.cache_writer.specs.CacheText.{cache_text, hwcaps_names}
use Rattle.cache_writer.specs.ReadBack.{as_read}
use Rattle.cache_layout.specs.declared.limits.TheConstants.{ENTRIES_MAX}
use Rattle.lib_types.specs.declared.entry.Entry.{Entry}
use Rattle.string_pool.specs.Order.{ascending}
use Rattle.file_table.specs.Table.{analysis_at}
use Rattle.link_plan.specs.declared.kinds.Planned.{Planned}
use Rattle.image_tree.specs.Tree.{Nodes}
use Rattle.update_report.specs.Report.{ReportInput, report_text}
use Rattle.update_report.specs.Skips.{skip_at}
use Rattle.library_search.specs.declared.finding.Found.{Found}
use Rattle.ldconfig_core.specs.declared.preparing.Looked.{Looked}
use Rattle.ldconfig_core.specs.declared.preparing.Prepared.{Prepared}
use Rattle.ldconfig_core.specs.Outcome.{is_too_long, manifest_with, size_of}
use Rattle.image_session.specs.Session.{Loaded}
use Rattle.image_session.specs.Aux.{stamps_of_slot}
use Rattle.aux_cache.specs.AuxFile.{damage}
use Rattle.aux_cache.specs.AuxText.{aux_text}
use Rattle.aux_cache.specs.declared.stamps.Stamp.{Stamp}
use Rattle.image_session.specs.Manifest.{HasTree, manifest_of}
use Rattle.ldconfig_core.specs.Texts.{UpdateTexts, manifest_bytes}

-- an image with this tree and these stamps, all of it stored
abbrev pub stored_image : Nodes → List Stamp → Loaded
stored_image tree stamps = record { tree = tree; stamps = stamps; edited = false; damaged = None }

-- ---- built from the results of the search

-- the cache entries, in no order
abbrev pub entries_of : Found → Nodes → List Entry
entries_of found tree = entries.found (analysis_at found.search.files.table) tree found.search.dirs.places

-- the findings in the report
abbrev pub report_input_of : Option ℕ → Found → List Entry → ReportInput
report_input_of damaged found entries = record {
  damaged = damaged;
  conf = found.search.conf.reports;
  places = found.search.dirs.places;
  absent = found.search.dirs.absent;
  plan = found.links.plan;
  blocked = found.links.blocked;
  mixed = found.links.mixed;
  skips = filter_map (skip_at (analysis_at found.search.files.table)) (ascending (keys_of found.search.files.table));
  dangling = found.followed.dangling;
  entries = entries;
  opened = found.search.files.begun;
}

-- the search directories and the libraries found there
abbrev pub looked_of : Found → Looked
looked_of found = record { conf = found.search.conf; dirs = found.search.dirs; bests = found.links.bests }

-- a written manifest reads as the tree
abbrev pub IfTree : Option (List ℕ) → Nodes → Type 0
IfTree manifest tree = IfSome manifest (λ text. manifest_of (Some text) ≡ HasTree tree)

-- the manifest is too long; these are the numbers of nodes and bytes
abbrev pub IsTooLarge : Scope → Bool → Nodes → List Planned → ℕ → ℕ → Type 0
IsTooLarge scope edited tree plan nodes bytes =
    (nodes ≡ length tree) × ((bytes ≡ size_of (manifest_with scope edited tree plan)) × (is_too_long (manifest_with scope edited tree plan) ≡ true))

-- the manifest isn't too long, but there are too many entries, namely this number
abbrev pub HasTooMany : Scope → Bool → Found → Nodes → ℕ → Type 0
HasTooMany scope edited found tree count =
    (is_too_long (manifest_with scope edited tree found.links.plan) ≡ false) × ((count ≡ length (entries_of found tree)) × (ENTRIES_MAX < count))

-- the texts and numbers built from the results of the search
pub record IsMadeOf (scope : Scope) (edited : Bool) (damaged : Option ℕ) (found : Found) (tree : Nodes) (prepared : Prepared) : Type 0 where
  pub entries : List Entry
  pub are : AreEntriesOf (entries_of found tree) entries
  pub few : length (entries_of found tree) ≤ ENTRIES_MAX
  pub plan : prepared.plan ≡ found.links.plan
  pub manifest : manifest_bytes prepared.manifest ≡ manifest_with scope edited tree found.links.plan
  pub short : is_too_long (manifest_with scope edited tree found.links.plan) ≡ false
  pub reads : IfTree (manifest_bytes prepared.manifest) tree
  pub cache : prepared.cache.items ≡ cache_text entries
  pub accepted : defect prepared.cache.items ≡ None
  pub read_back : read prepared.cache.items ≡ map (as_read (hwcaps_names entries)) entries
  pub aux : prepared.aux.items ≡ aux_text found.search.files.stamps
  pub undamaged : damage prepared.aux.items ≡ None
  pub aux_read : stamps_of_slot (Some prepared.aux.items) ≡ found.search.files.stamps
  pub stamps : prepared.stamps ≡ found.search.files.stamps
  pub looked : prepared.looked ≡ looked_of found
  pub text : prepared.report.text ≡ report_text (report_input_of damaged found entries)
  pub libs : prepared.report.libs ≡ length entries
  pub links : prepared.report.links ≡ length found.links.plan
  pub opened : prepared.report.opened ≡ found.search.files.begun

abbrev pub texts_of : Prepared → UpdateTexts
texts_of prepared = record { manifest = manifest_bytes prepared.manifest; cache = prepared.cache.items; aux = prepared.aux.items; report = prepared.report.text }
