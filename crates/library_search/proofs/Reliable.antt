-- The results of an update's search, assuming that stamps are true and that equal identities imply equal contents.
use Rattle.std.proofs.Common.{◌≡◌, ◌++◌, List, [], Option, Some, None, filter, not, ap, sym, subst, ◌∙◌}
use Rattle.std.proofs.lemmas.List.{append-nil}
use Rattle.std.proofs.lemmas.List.Kept.{IsStrictlySortedBy-filter}
use Rattle.std.specs.Cmp.Lexicographic.{slice_cmp}
use Rattle.std.specs.List.{list_any}
use Rattle.std.specs.Option.{option_and_then}
use Rattle.std.specs.Ordering.{nat_cmp}
use Rattle.std.specs.Prelude.{IfSome}
use Rattle.std.specs.Str.{bytes_eq}
use Rattle.aux_cache.specs.Stamps.{stamp_of}
use Rattle.aux_cache.specs.declared.stamps.Stamp.{Stamp}
use Rattle.elf_dynamic.specs.Begun.{lacks_one}
use Rattle.hwcap_dirs.specs.declared.kinds.Scope.{Scope}
use Rattle.string_pool.proofs.Members.{AreSorted}
use Rattle.file_table.specs.Analyses.{Analyses}
use Rattle.string_pool.specs.Order.{ascending}
use Rattle.library_files.specs.Search.{reached}
use Rattle.image_tree.specs.declared.node.Id.{Id}
use Rattle.image_tree.specs.Tree.{Nodes}
use Rattle.planned_tree.proofs.Agree.{agree}
use Rattle.soname_links.specs.Plan.{links, with_links}
use Rattle.file_stamps.proofs.Truth.{info_right, opened_lack_the_same, true_made}
use Rattle.file_stamps.specs.Files.{what_is}
use Rattle.file_stamps.specs.Info.{info_stamps}
use Rattle.file_stamps.specs.Opened.{ids_at, ids_of, opened_keys}
use Rattle.file_stamps.specs.Stamped.{AreSame, AreTrue, id_at, of_stamp, stamps_of, with_stamps}
use Rattle.tree_face.specs.Store.{Contents}
use Rattle.cache_entries.specs.Entries.{found}
use Rattle.cache_entries.specs.Walk.{walk}
use Rattle.library_search.proofs.FilesAgree.{reached_sorted, wanted_sorted}
use Rattle.library_search.proofs.StampsAgree.{opens_both}
use Rattle.library_search.specs.Begun.{after_keys, ids_wanted, wanted_keys}
use Rattle.library_search.specs.Judged.{judged}
use Rattle.library_search.specs.Laws.{IsInfoRight}
use Rattle.library_search.specs.Ldconfig.{after_in, entries_in, library_files, library_paths, links_in, places_in, planned_in, reached_in, info_files, info_wanted, stamps_in, walk_in, wanted_in}

-- an empty list of stamps is true
pub none_true : (held : Contents) (t : Nodes) → AreTrue held t []
none_true held t path = by (id_at t path)
  where
    by : (o : Option Id) → IfSome (option_and_then (stamp_of []) o) (λ s. what_is held t path ≡ Some (of_stamp s))
    by None = tt
    by (Some id) = tt

pub wanted_in_order : (scope : Scope) (held : Contents) (t : Nodes) → AreSorted (wanted_in scope held t)
unfolding wanted_in
wanted_in_order scope held t = wanted_sorted t (places_in scope held t)

pub after_in_order : (scope : Scope) (held : Contents) (t : Nodes) (loaded : List Stamp) → AreSorted (after_in scope held t loaded)
unfolding reached_in
after_in_order scope held t loaded = IsStrictlySortedBy-filter (slice_cmp nat_cmp) _ (reached_in scope held t loaded) (reached_sorted (planned_in scope held t loaded) (places_in scope held t))

-- ---- consequences of the analyses

module _ (scope : Scope) (held : Contents) (t : Nodes) (loaded others : List Stamp) (first : info_wanted scope held t loaded ≡ info_wanted scope held t others) where
  same_links : links_in scope held t loaded ≡ links_in scope held t others
  unfolding links_in
  same_links = ap (λ (w : Analyses). links (judged scope w) t (places_in scope held t)) first

  same_planned : planned_in scope held t loaded ≡ planned_in scope held t others
  unfolding planned_in
  same_planned = ap (with_links t) same_links

  same_reached : reached_in scope held t loaded ≡ reached_in scope held t others
  unfolding reached_in
  same_reached = ap (λ n. reached n (places_in scope held t)) same_planned

  same_files : library_files scope held t loaded ≡ library_files scope held t others
  same_files = ap (λ paths. ascending (wanted_in scope held t ++ paths)) same_reached

  same_after : after_in scope held t loaded ≡ after_in scope held t others
  same_after = ap (λ paths. filter (λ path. not (list_any (bytes_eq path) (wanted_in scope held t))) paths) same_reached

  module _ (all : info_files scope held t loaded ≡ info_files scope held t others) where
    same_entries : entries_in scope held t loaded ≡ entries_in scope held t others
    unfolding entries_in
    same_entries =
        ap (λ (w : Analyses). found (judged scope w) (planned_in scope held t loaded) (places_in scope held t)) all
        ∙ ap (λ n. found (judged scope (info_files scope held t others)) n (places_in scope held t)) same_planned

    same_walk : walk_in scope held t loaded ≡ walk_in scope held t others
    unfolding walk_in
    same_walk =
        ap (λ (w : Analyses). walk (judged scope w) (planned_in scope held t loaded) (places_in scope held t)) all
        ∙ ap (λ n. walk (judged scope (info_files scope held t others)) n (places_in scope held t)) same_planned

    same_stamps : stamps_in scope held t loaded ≡ stamps_in scope held t others
    unfolding stamps_in
    same_stamps =
        ap (λ (w : Analyses). with_stamps [] (info_stamps t w (library_paths scope held t loaded))) all
        ∙ ap (λ paths. with_stamps [] (info_stamps t (info_files scope held t others) (wanted_in scope held t ++ paths))) same_after

-- ---- with true stamps

module _ (scope : Scope) (held : Contents) (t : Nodes) (same : AreSame held t t) where
  module _ (loaded : List Stamp) (are : AreTrue held t loaded) where
    pub wanted_is : info_wanted scope held t loaded ≡ what_is held t
    unfolding info_wanted
    wanted_is = agree _ (what_is held t) (info_right held t same loaded are (wanted_in scope held t))

    pub info_is : info_files scope held t loaded ≡ what_is held t
    unfolding info_files
    info_is = agree _ (what_is held t) (info_right held t same loaded are (library_paths scope held t loaded))

    pub stamps_are : stamps_in scope held t loaded ≡ stamps_of held t (library_paths scope held t loaded)
    unfolding stamps_in
    stamps_are = ap (λ (w : Analyses). with_stamps [] (info_stamps t w (library_paths scope held t loaded))) info_is

    -- the stamps are true for each tree in which equal identities imply equal contents
    pub stamps_true : (u : Nodes) → AreSame held t u → AreTrue held u (stamps_in scope held t loaded)
    stamps_true u over = subst (AreTrue held u) (sym stamps_are) (true_made held u t over (library_paths scope held t loaded))

    -- stamps hide no file whose content isn't held
    pub wanted_lack : lacks_one held (wanted_keys scope held t loaded) ≡ lacks_one held (opened_keys t [] (wanted_in scope held t))
    unfolding wanted_keys
    wanted_lack =
        ap (λ ids. lacks_one held (opened_keys t ids (wanted_in scope held t))) (sym (append-nil (ids_of loaded)))
        ∙ opened_lack_the_same held t loaded [] (wanted_in scope held t) are (wanted_in_order scope held t)

    pub after_lack : lacks_one held (after_keys scope held t loaded) ≡ lacks_one held (opened_keys t (ids_at t (wanted_in scope held t)) (after_in scope held t loaded))
    unfolding after_keys ids_wanted
    after_lack = opened_lack_the_same held t loaded (ids_at t (wanted_in scope held t)) (after_in scope held t loaded) are (after_in_order scope held t loaded)

  pub info_law : (loaded : List Stamp) → AreTrue held t loaded → IsInfoRight scope held t loaded
  unfolding wanted_keys after_keys ids_wanted
  info_law loaded are =
      let first : info_wanted scope held t loaded ≡ info_wanted scope held t [] = wanted_is loaded are ∙ sym (wanted_is [] (none_true held t)) in
      let all : info_files scope held t loaded ≡ info_files scope held t [] = info_is loaded are ∙ sym (info_is [] (none_true held t)) in
      record {
        info = λ path. ap (λ (w : Analyses). w path) (info_is loaded are);
        links = same_links scope held t loaded [] first;
        files = same_files scope held t loaded [] first;
        entries = same_entries scope held t loaded [] first all;
        walk = same_walk scope held t loaded [] first all;
        stamps = same_stamps scope held t loaded [] first all;
        wanted_lack = wanted_lack loaded are;
        after_lack = after_lack loaded are ∙ ap (λ paths. lacks_one held (opened_keys t (ids_at t (wanted_in scope held t)) paths)) (same_after scope held t loaded [] first);
        opened = opens_both t loaded (wanted_in scope held t) (after_in scope held t loaded) (wanted_in_order scope held t) (after_in_order scope held t loaded);
      }
