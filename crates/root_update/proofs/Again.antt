-- A second update of a directory plans no link and writes the same caches. So does an update without an auxiliary cache.
use Rattle.std.proofs.Common.{◌≡◌, ◌∙◌, ◌++◌, ℕ, false, List, [], Some, ap, refl, subst, sym}
use Rattle.aux_cache.specs.declared.stamps.Stamp.{Stamp}
use Rattle.elf_dynamic.proofs.BegunKeys.{none_lacks}
use Rattle.elf_dynamic.specs.Begun.{lacks_one}
use Rattle.file_stamps.proofs.Opened.{opened_append, opened_are}
use Rattle.file_stamps.specs.Opened.{ids_at, ids_of, opened_keys, opens}
use Rattle.file_stamps.specs.Reading.{opened_by}
use Rattle.file_stamps.specs.Stamped.{AreSame, AreTrue, stamps_of}
use Rattle.file_table.specs.Analyses.{Analyses}
use Rattle.hwcap_dirs.specs.declared.kinds.Scope.{Scope}
use Rattle.image_session.specs.Aux.{stamps_of_slot}
use Rattle.image_session.specs.Session.{Loaded, image_with}
use Rattle.image_tree.specs.Tree.{Nodes}
use Rattle.image_tree.specs.declared.node.Id.{Id}
use Rattle.ldconfig_core.proofs.OneText.{again, both_links, one_outcome, one_written, some_texts}
use Rattle.ldconfig_core.proofs.OutcomeRows.{writes_held}
use Rattle.ldconfig_core.specs.Outcome.{Writes, update_outcome}
use Rattle.ldconfig_core.specs.Settled.{AreCachesAgain, AreSettled, planned_image, unstamped_image}
use Rattle.ldconfig_core.specs.Texts.{AreTextsOf, UpdateTexts}
use Rattle.library_search.proofs.Reliable.{after_in_order, none_true, info_is, info_law, stamps_are, wanted_in_order, wanted_is}
use Rattle.library_search.specs.Begun.{after_keys, ids_wanted, opened_in, wanted_keys}
use Rattle.library_search.specs.Judged.{AreJudged}
use Rattle.library_search.specs.Ldconfig.{after_in, library_paths, stamps_in, wanted_in}
use Rattle.root_update.proofs.AsImage.{same_cache}
use Rattle.root_update.proofs.Reopened.{opens_again}
use Rattle.root_update.specs.Made.{AreAllSearchable, ChangesNothing, HasCacheOfImage, IsRootRebuilt, IsRootSettled, tree_after, unstamped_in}
use Rattle.tree_face.specs.Disk.{Content}
use Rattle.tree_face.specs.Store.{Contents}

module _ (scope : Scope) (held : Contents) (image : Loaded) (texts : UpdateTexts) (are : AreTextsOf scope held image texts) where
  -- ---- again

  module _ (settled : AreSettled scope held image (planned_image scope held image)) where
    -- the planned tree, with the stamps of its libraries
    abbrev stamped : Loaded
    stamped = planned_image scope held image

    module _ (aux : Content) (too : AreTrue held (tree_after scope held image) (stamps_of_slot aux)) where
      abbrev next : Loaded
      next = image_with (tree_after scope held image) aux

      caches : (others : UpdateTexts) → AreTextsOf scope held next others → AreCachesAgain texts others
      caches others is =
          let more = again scope held image stamped texts settled are in
          let alike = one_written scope held stamped next refl refl settled.same settled.are_true too more.0 others more.1.0 is in
          record { manifest = alike.manifest ∙ more.1.1.manifest; cache = alike.cache ∙ more.1.1.cache; aux = alike.aux ∙ more.1.1.aux }

      nothing : ChangesNothing scope held image next texts
      nothing = record {
        no_links = both_links scope held stamped next refl refl settled.same settled.are_true too ∙ settled.no_links;
        writes = λ h. one_outcome scope held stamped next refl refl settled.same settled.are_true too ∙ settled.outcome h;
        caches = caches;
      }

    abbrev made : List Stamp
    made = stamps_in scope held image.tree image.stamps

    -- the contents of the files that it opens are held
    opened_held : update_outcome scope held stamped ≡ Writes → lacks_one held (opened_by stamped.tree (ids_of made) (library_paths scope held stamped.tree made)) ≡ false
    unfolding wanted_keys after_keys ids_wanted
    opened_held writes =
        let t : Nodes = stamped.tree in
        let ids : List Id = ids_of made in
        let first : List (List ℕ) = wanted_in scope held t in
        let parts = writes_held scope held stamped writes in
        ap (lacks_one held) (opened_append t ids first (after_in scope held t made)
        ∙ ap (λ l. l ++ opened_by t (ids ++ ids_at t first) (after_in scope held t made)) (sym (opened_are t ids first (wanted_in_order scope held t)))
        ∙ ap (λ l. opened_keys t ids first ++ l) (sym (opened_are t (ids ++ ids_at t first) (after_in scope held t made) (after_in_order scope held t made))))
        ∙ none_lacks held (opened_keys t ids first) (opened_keys t (ids ++ ids_at t first) (after_in scope held t made)) parts.0 parts.1

    opened : update_outcome scope held stamped ≡ Writes → opened_in scope held stamped.tree made ≡ unstamped_in scope held stamped.tree made
    opened writes =
        let paths : List (List ℕ) = library_paths scope held stamped.tree made in
        let are_those : made ≡ stamps_of held stamped.tree paths = sym settled.stamps ∙ stamps_are scope held stamped.tree settled.same made settled.are_true in
        (info_law scope held stamped.tree settled.same made settled.are_true).opened ∙ ap (λ (stamps : List Stamp). opens stamped.tree stamps paths) are_those
        ∙ opens_again held stamped.tree settled.same paths (ap (λ (stamps : List Stamp). lacks_one held (opened_by stamped.tree (ids_of stamps) paths)) (sym are_those) ∙ opened_held writes)

    pub is_settled : stamps_of_slot (Some texts.aux) ≡ stamps_in scope held image.tree image.stamps → update_outcome scope held image ≡ Writes → IsRootSettled scope held image texts
    is_settled read writes = record {
      again = nothing;
      still_true = settled.true_too;
      made_true = subst (λ (stamps : List Stamp). AreTrue held (tree_after scope held image) stamps) (sym read) settled.are_true;
      opened = subst (λ (stamps : List Stamp). opened_in scope held stamped.tree stamps ≡ unstamped_in scope held stamped.tree stamps) (sym read) (opened (settled.outcome writes));
    }

  -- ---- without the auxiliary cache

  module _ (truth : AreTrue held image.tree image.stamps) (same : AreSame held image.tree image.tree) where
    abbrev bare : Loaded
    bare = unstamped_image image

    abbrev none : AreTrue held image.tree []
    none = none_true held image.tree

    -- without stamps, each library's name is searchable too
    all_bare : AreAllSearchable scope held image → AreAllSearchable scope held bare
    all_bare all = record {
      wanted = subst (λ (w : Analyses). AreJudged scope w) (wanted_is scope held image.tree same image.stamps truth ∙ sym (wanted_is scope held image.tree same [] none)) all.wanted;
      files = subst (λ (w : Analyses). AreJudged scope w) (info_is scope held image.tree same image.stamps truth ∙ sym (info_is scope held image.tree same [] none)) all.files;
    }

    as_image : HasCacheOfImage scope held image bare texts
    as_image alike all others is =
        let mid = some_texts scope held bare in
        same_cache scope held bare alike (all_bare all) mid.0 others mid.1 is ∙ (one_written scope held image bare refl refl same truth none texts mid.0 are mid.1).cache

    pub is_rebuilt : IsRootRebuilt scope held image texts
    is_rebuilt = record {
      outcome = one_outcome scope held image bare refl refl same truth none;
      same = λ others is. one_written scope held image bare refl refl same truth none texts others are is;
      as_image = as_image;
    }
