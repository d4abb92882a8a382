-- What the update of a part of a directory's tree finds is what that of the tree finds.
use Rattle.std.proofs.Common.{◌≡◌, ◌∙◌, true, List, length, Option, Some, None, option_map, ap, sym}
use Rattle.std.specs.Prelude.{IsSomeAnd}
use Rattle.aux_cache.specs.declared.stamps.Stamp.{Stamp}
use Rattle.cache_entries.specs.Entries as entries
use Rattle.elf_dynamic.specs.Begun.{lacks_one}
use Rattle.file_table.specs.Table.{analysis_at}
use Rattle.hwcap_dirs.specs.declared.kinds.Scope.{Scope}
use Rattle.image_tree.specs.Tree.{Nodes}
use Rattle.ldso_conf.specs.Reading.{IsConfOf, Reading, ReadsConf, conf_bytes, conf_keys, conf_lacks, reading}
use Rattle.ldso_conf.specs.declared.kinds.Conf.{Conf}
use Rattle.library_search.specs.Found.{IsFound}
use Rattle.library_search.specs.Ldconfig.{best_libraries, conf_of, entries_in, places_in}
use Rattle.library_search.specs.declared.finding.Found.{Found}
use Rattle.place_libraries.specs.Best.{bests_of}
use Rattle.root_folder.specs.Whole.{IsWhole}
use Rattle.seen_conf.proofs.Conf.{conf_bytes_seen, conf_keys_seen, conf_lacks_seen, conf_seen, reading_seen}
use Rattle.seen_tree.specs.Part.{AreSeen, IsPart}
use Rattle.tree_face.specs.Known.{IfKnown}
use Rattle.tree_face.specs.Store.{Contents, StoreState}
use Rattle.tree_face.specs.StoreUse.{Ending, ReadsFiles}
use Rattle.seen_update.specs.Alike.{LooksAlike}
use Rattle.seen_update.specs.Found.{FindsOf}
use Rattle.seen_update.specs.Looked.{conf_looked}

module _ (scope : Scope) (held : Contents) (t part : Nodes) (whole : IsWhole t) (is : IsPart t part) (all : AreSeen t part (conf_looked scope held t)) (conf : Conf) where
  -- the conf files of the tree are those of the part
  pub conf_in_part : IsConfOf (conf_of scope) conf held t → IsConfOf (conf_of scope) conf held part
  conf_in_part of =
      let same : reading (conf_of scope) part held ≡ reading (conf_of scope) t held = reading_seen t part whole is held (conf_of scope) all in
      record {
        dirs = of.dirs ∙ ap (λ (r : Reading). r.dirs) (sym same);
        origins = of.origins ∙ ap (λ (r : Reading). r.origins) (sym same);
        reports = of.reports ∙ ap (λ (r : Reading). r.reports) (sym same);
        files = of.files ∙ ap length (sym (conf_keys_seen t part whole is held (conf_of scope) all));
        all_held = conf_lacks_seen t part whole is held (conf_of scope) all ∙ of.all_held;
      }

  pub conf_of_part : IsConfOf (conf_of scope) conf held part → IsConfOf (conf_of scope) conf held t
  conf_of_part of = conf_seen t part whole is held (conf_of scope) all conf of

-- the same conf files are read from a store
module _ (scope : Scope) (t part : Nodes) (whole : IsWhole t) (is : IsPart t part) (e : Ending) (old new : StoreState) where
  reads_by : (known : Option Contents) → IfKnown known (λ held. AreSeen t part (conf_looked scope held t))
      → ReadsFiles (IsSomeAnd known (λ held. conf_lacks (conf_of scope) held t ≡ true)) (option_map (λ held. conf_keys (conf_of scope) held t) known)
      (option_map (λ held. conf_bytes (conf_of scope) held t) known) e old new
      → ReadsFiles (IsSomeAnd known (λ held. conf_lacks (conf_of scope) held part ≡ true)) (option_map (λ held. conf_keys (conf_of scope) held part) known)
      (option_map (λ held. conf_bytes (conf_of scope) held part) known) e old new
  reads_by None all reads = reads
  reads_by (Some held) all reads =
      rw (conf_lacks_seen t part whole is held (conf_of scope) all, conf_keys_seen t part whole is held (conf_of scope) all, conf_bytes_seen t part whole is held (conf_of scope) all) reads

  pub reads_in_part : IfKnown old.held (λ held. AreSeen t part (conf_looked scope held t)) → ReadsConf (conf_of scope) t e old new → ReadsConf (conf_of scope) part e old new
  reads_in_part all reads = reads_by old.held all reads

module _ (scope : Scope) (held : Contents) (t part : Nodes) (loaded : List Stamp) (found : Found) (tree : Nodes) (whole : IsWhole t) (is : IsPart t part)
    (all : AreSeen t part (conf_looked scope held t)) (alike : LooksAlike scope held part t loaded) (f : IsFound scope held part loaded found tree) where
  -- in a tree in which the sonames were looked up too
  pub finds_of : (last : Nodes) → entries.found (analysis_at found.search.files.table) last (places_in scope held t) ≡ entries_in scope held t loaded
      → bests_of (analysis_at found.search.files.table) last (places_in scope held t) ≡ best_libraries scope held t loaded → FindsOf scope held t loaded found last
  finds_of last entries_are bests_are =
      let places : found.search.dirs.places ≡ places_in scope held t = f.places ∙ alike.places in
      record {
        conf = conf_of_part scope held t part whole is all found.search.conf f.conf;
        places = places;
        absent_is = f.absent_is ∙ alike.absent_is;
        plan = f.plan ∙ alike.links;
        blocked_is = f.blocked_is ∙ alike.blocked_is;
        mixed_is = f.mixed_is ∙ alike.mixed_is;
        dangling_is = f.dangling_is ∙ alike.dangling_is;
        entries_are = ap (entries.found (analysis_at found.search.files.table) last) places ∙ entries_are;
        bests_are = ap (bests_of (analysis_at found.search.files.table) last) places ∙ bests_are;
        skips_are = f.skips_are ∙ alike.skips;
        stamps = f.stamps ∙ alike.stamps;
        opened = f.opened ∙ alike.opened;
        none_lacks = sym alike.lacks_wanted_is ∙ f.none_lacks;
        none_after = ap (lacks_one held) (sym alike.after_keys_are) ∙ f.none_after;
      }
