-- If a directory has the search directories of an image, and the loader can search for each library's name, its update makes the cache of an image's update.
use Rattle.std.proofs.Common.{◌≡◌, ◌∙◌, ◌++◌, List, filter, not, ap, sym, subst}
use Rattle.std.specs.List.{list_any}
use Rattle.std.specs.Str.{bytes_eq}
use Rattle.aux_cache.specs.declared.stamps.Stamp.{Stamp}
use Rattle.cache_entries.specs.Entries.{AreEntriesOf, found}
use Rattle.cache_writer.specs.CacheText.{cache_text}
use Rattle.file_stamps.specs.Info.{info_in}
use Rattle.file_table.specs.Analyses.{Analyses}
use Rattle.hwcap_dirs.specs.declared.kinds.Scope.{Scope}
use Rattle.hwcap_dirs.specs.declared.kinds.Scope.TheVariants.{Image}
use Rattle.image_session.specs.Session.{Loaded}
use Rattle.image_tree.specs.Tree.{Nodes}
use Rattle.ldconfig_core.proofs.OneText.{one_entries}
use Rattle.ldconfig_core.specs.Texts.{AreTextsOf, UpdateTexts}
use Rattle.library_files.specs.Search.{reached, wanted}
use Rattle.library_search.specs.Judged.{judged}
use Rattle.library_search.specs.Ldconfig.{after_in, entries_in, library_paths, links_in, places_in, planned_in, reached_in, info_files, info_wanted, wanted_in}
use Rattle.lib_types.specs.declared.entry.Entry.{Entry}
use Rattle.planned_tree.proofs.Agree.{agree}
use Rattle.root_update.specs.Made.{AreAllSearchable}
use Rattle.soname_links.specs.Plan.{links, with_links}
use Rattle.tree_face.specs.Store.{Contents}

module _ (scope : Scope) (held : Contents) (s : Loaded) (same : places_in Image held s.tree ≡ places_in scope held s.tree) (all : AreAllSearchable scope held s) where
  abbrev t : Nodes
  t = s.tree

  abbrev loaded : List Stamp
  loaded = s.stamps

  same_wanted : wanted_in Image held t ≡ wanted_in scope held t
  unfolding wanted_in
  same_wanted = ap (wanted t) same

  same_info : info_wanted Image held t loaded ≡ info_wanted scope held t loaded
  unfolding info_wanted
  same_info = ap (info_in held t loaded) same_wanted

  -- each library with a library name counts
  counted_wanted : judged scope (info_wanted scope held t loaded) ≡ info_wanted scope held t loaded
  counted_wanted = agree (judged scope (info_wanted scope held t loaded)) (info_wanted scope held t loaded) all.wanted

  same_links : links_in Image held t loaded ≡ links_in scope held t loaded
  unfolding links_in
  same_links =
      ap (λ (w : Analyses). links w t (places_in Image held t)) (same_info ∙ sym counted_wanted)
      ∙ ap (links (judged scope (info_wanted scope held t loaded)) t) same

  same_planned : planned_in Image held t loaded ≡ planned_in scope held t loaded
  unfolding planned_in
  same_planned = ap (with_links t) same_links

  same_reached : reached_in Image held t loaded ≡ reached_in scope held t loaded
  unfolding reached_in
  same_reached = ap (λ n. reached n (places_in Image held t)) same_planned ∙ ap (reached (planned_in scope held t loaded)) same

  same_after : after_in Image held t loaded ≡ after_in scope held t loaded
  same_after =
      ap (λ paths. filter (λ path. not (list_any (bytes_eq path) paths)) (reached_in Image held t loaded)) same_wanted
      ∙ ap (λ paths. filter (λ path. not (list_any (bytes_eq path) (wanted_in scope held t))) paths) same_reached

  same_paths : library_paths Image held t loaded ≡ library_paths scope held t loaded
  same_paths = ap (λ paths. paths ++ after_in Image held t loaded) same_wanted ∙ ap (λ paths. wanted_in scope held t ++ paths) same_after

  same_files : info_files Image held t loaded ≡ info_files scope held t loaded
  unfolding info_files
  same_files = ap (info_in held t loaded) same_paths

  counted_files : judged scope (info_files scope held t loaded) ≡ info_files scope held t loaded
  counted_files = agree (judged scope (info_files scope held t loaded)) (info_files scope held t loaded) all.files

  same_entries : entries_in Image held t loaded ≡ entries_in scope held t loaded
  unfolding entries_in
  same_entries =
      ap (λ (w : Analyses). found w (planned_in Image held t loaded) (places_in Image held t)) (same_files ∙ sym counted_files)
      ∙ ap (λ n. found (judged scope (info_files scope held t loaded)) n (places_in Image held t)) same_planned
      ∙ ap (found (judged scope (info_files scope held t loaded)) (planned_in scope held t loaded)) same

  pub same_cache : (texts others : UpdateTexts) → AreTextsOf scope held s texts → AreTextsOf Image held s others → others.cache ≡ texts.cache
  same_cache texts others are is =
      let of_root : AreEntriesOf (entries_in scope held t loaded) is.entries = subst (λ (found : List Entry). AreEntriesOf found is.entries) same_entries is.are in
      is.cache_is ∙ ap cache_text (one_entries scope held s is.entries are.entries of_root are.are) ∙ sym are.cache_is
