-- If the paths that a reading of the conf files looks up were seen, the reading in the part is that in the tree.
use Rattle.std.proofs.Common.{length, true, ◌≡◌, ℕ, zero, suc, ◌+◌, List, [], ◌∷◌, ◌++◌, refl, ap, sym, subst, ◌∙◌, Option, Some, None}
use Rattle.std.specs.List.{flat_map, list_any}
use Rattle.std.specs.Prelude.{IsSomeAnd, option_map, sum_by}
use Rattle.conf_views.proofs.Files.{file_seen}
use Rattle.conf_views.specs.Files.{file_at}
use Rattle.conf_views.specs.declared.view.FoundFile.{FoundFile}
use Rattle.image_tree.specs.Tree.{Nodes}
use Rattle.ldso_conf.specs.Reading.{Item, Names, Reports, Reads, Passes, Misses, Source, ConfFile, Given, all_from, asked, asked_by, bytes_taken, conf_bytes, conf_items, conf_keys, conf_lacks, included, included_at, is_missing, key_begun, place_in, reading, reading_of, until_missing, with_steps, IsConfOf, Reading, ReadsConf}
use Rattle.ldso_conf.specs.Steps.{steps_of}
use Rattle.ldso_conf.specs.declared.kinds.Conf.{Conf}
use Rattle.ldso_conf.specs.declared.reading.TheConstants.{DEPTH_MAX}
use Rattle.path_walk.specs.declared.walk.Mode.TheVariants.{Plain}
use Rattle.root_folder.specs.Whole.{IsWhole}
use Rattle.seen_conf.proofs.Items.{AreRead, AreSame, Files, GiveSame, read_parts, step_same, until_both}
use Rattle.seen_conf.proofs.Steps.{steps_seen}
use Rattle.ldso_conf.specs.Looked.{file_paths, items_looked, patterns_looked}
use Rattle.conf_views.specs.Patterns.{results_looked}
use Rattle.seen_tree.proofs.Same.{seen_parts}
use Rattle.seen_tree.specs.Part.{AreSeen, IsPart, looked_by}
use Rattle.tree_face.specs.Known.{IfKnown}
use Rattle.tree_face.specs.Store.{Contents, StoreState}
use Rattle.tree_face.specs.StoreUse.{Ending, ReadsFiles}
use Rattle.ldso_conf.proofs.Items.{following}

module _ (t part : Nodes) (whole : IsWhole t) (is : IsPart t part) where
  -- ---- the items of one file

  module _ (file new : Files) (same : GiveSame t part file new) where
    asked_seen : (before : List (List ℕ)) (steps : List _) → AreRead t part (asked file before steps) → AreSame (asked file before steps) (asked new before steps)
    asked_seen before [] all = refl
    asked_seen before (s ∷ steps) all =
        let xs = asked_by file before s in
        let next = before ++ flat_map place_in xs in
        let ys = asked file next steps in
        let other = asked_by new before s in
        let parts = read_parts t part xs ys all in
        until_both xs other ys (asked new (before ++ flat_map place_in other) steps) (step_same t part file new same before s parts.0)
        (λ items held.
        ap (λ done. until_missing (asked new (before ++ flat_map place_in done) steps)) items
        ∙ asked_seen next steps (subst (λ b. AreSeen t part (patterns_looked t (following b (until_missing ys)))) held parts.1))

    with_seen : (before : List (List ℕ)) (item : Item) → AreRead t part (with_steps file t before item)
        → AreSame (with_steps file t before item) (with_steps new part before item)
    with_seen before (Names dir origin) all = refl
    with_seen before (Reports report) all = refl
    with_seen before (Passes f key) all = refl
    with_seen before (Misses f key) all = refl
    with_seen before (Reads f key content) all =
        let next = before ++ f.1 ∷ [] in
        let steps = steps_of t f.0 content in
        let rest = until_missing (asked file next steps) in
        let parts = seen_parts t part (file_paths (results_looked t) f.0 content) (patterns_looked t rest) all in
        ap (λ lines. Reads f key content ∷ until_missing (asked new next lines)) (steps_seen t part whole is f.0 content parts.0)
        ∙ ap (λ items. Reads f key content ∷ items) (asked_seen next steps parts.1)

  -- ---- the items of all files

  module _ (held : Contents) where
    included_seen : (left : ℕ) (before : List (List ℕ)) (f : FoundFile) → AreRead t part (included t held left before f)
        → AreSame (included t held left before f) (included part held left before f)
    included_seen zero before f all = refl
    included_seen (suc left) before f all =
        with_seen (included t held left) (included part held left) (included_seen left) before (included_at held (suc left) before f) all

    all_seen : (o : Option FoundFile) → AreRead t part (all_from t held o) → AreSame (all_from t held o) (all_from part held o)
    all_seen None all = refl
    all_seen (Some f) all = included_seen (DEPTH_MAX + 1) [] f all

    -- the conf files have the same items
    pub items_seen : (source : Source) → AreSeen t part (items_looked source held t)
        → conf_items source held part ≡ conf_items source held t
    unfolding conf_items items_looked
    items_seen (Given dirs) all = refl
    items_seen (ConfFile path) all =
        let parts = seen_parts t part (looked_by t path Plain) (patterns_looked t (until_missing (all_from t held (file_at t path)))) all in
        ap (λ o. until_missing (all_from part held o)) (file_seen t part whole is path parts.0) ∙ all_seen (file_at t path) parts.1

    -- ---- the reading

    module _ (source : Source) (all : AreSeen t part (items_looked source held t)) where
      pub reading_seen : reading source part held ≡ reading source t held
      unfolding reading
      reading_seen = ap reading_of (items_seen source all)

      pub conf_keys_seen : conf_keys source held part ≡ conf_keys source held t
      unfolding conf_keys
      conf_keys_seen = ap (flat_map key_begun) (items_seen source all)

      pub conf_bytes_seen : conf_bytes source held part ≡ conf_bytes source held t
      unfolding conf_bytes
      conf_bytes_seen = ap (sum_by bytes_taken) (items_seen source all)

      pub conf_lacks_seen : conf_lacks source held part ≡ conf_lacks source held t
      unfolding conf_lacks
      conf_lacks_seen = ap (list_any is_missing) (items_seen source all)

      -- what is the result of the reading in the part is the result in the tree
      pub conf_seen : (conf : Conf) → IsConfOf source conf held part → IsConfOf source conf held t
      conf_seen conf is = record {
        dirs = is.dirs ∙ ap (λ (r : Reading). r.dirs) reading_seen;
        origins = is.origins ∙ ap (λ (r : Reading). r.origins) reading_seen;
        reports = is.reports ∙ ap (λ (r : Reading). r.reports) reading_seen;
        files = is.files ∙ ap length conf_keys_seen;
        all_held = sym conf_lacks_seen ∙ is.all_held;
      }

  -- the same files are read from a store
  module _ (source : Source) (e : Ending) (old new : StoreState) where
    reads_by : (known : Option Contents) → IfKnown known (λ held. AreSeen t part (items_looked source held t))
        → ReadsFiles (IsSomeAnd known (λ held. conf_lacks source held part ≡ true)) (option_map (λ held. conf_keys source held part) known)
        (option_map (λ held. conf_bytes source held part) known) e old new
        → ReadsFiles (IsSomeAnd known (λ held. conf_lacks source held t ≡ true)) (option_map (λ held. conf_keys source held t) known)
        (option_map (λ held. conf_bytes source held t) known) e old new
    reads_by None all reads = reads
    reads_by (Some held) all reads =
        rw (← conf_lacks_seen held source all, ← conf_keys_seen held source all, ← conf_bytes_seen held source all) reads

    pub reads_seen : IfKnown old.held (λ held. AreSeen t part (items_looked source held t)) → ReadsConf source part e old new
        → ReadsConf source t e old new
    reads_seen all reads = reads_by old.held all reads
