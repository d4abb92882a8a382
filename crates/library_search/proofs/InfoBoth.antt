-- Analyses, if some files are read first and the others in the tree with the planned links.
use Rattle.std.proofs.Common.{◌≡◌, ◌++◌, ℕ, true, false, List, [], ◌∷◌, refl, ap, sym, ◌∙◌, append_assoc}
use Rattle.std.proofs.lemmas.Bool.{or_left, or_right}
use Rattle.std.proofs.lemmas.List.Elements.{filter_map-append}
use Rattle.std.specs.List.{before_first, cons_option}
use Rattle.std.specs.Option.{option_and_then, option_map, option_or}
use Rattle.std.specs.Str.{bytes_eq}
use Rattle.aux_cache.specs.Stamps.{stamp_of}
use Rattle.aux_cache.specs.declared.stamps.Stamp.{Stamp}
use Rattle.string_pool.proofs.Members.{is_in}
use Rattle.file_table.specs.Analyses.{AgreeOn, Analyses}
use Rattle.image_tree.specs.Tree.{Nodes}
use Rattle.planned_tree.specs.Search.{IsSearchedAlike}
use Rattle.file_stamps.proofs.Opened.{before_after, before_front, more_alike, info_alike}
use Rattle.file_stamps.specs.Files.{what_is}
use Rattle.file_stamps.specs.Info.{info_by, info_in, info_stamps}
use Rattle.file_stamps.specs.Stamped.{StampTheSame, id_at, of_stamp, stamp_at, stamp_by, stamp_for, stamps_at}
use Rattle.tree_face.specs.Store.{Contents}
use Rattle.library_search.proofs.FilesAgree.{id_same, what_same}
use Rattle.library_search.proofs.StampsAgree.{stamps_same}
use Rattle.lib_types.proofs.SameTexts.{itself}

-- equal analyses give equal stamps
pub stamps_agree : (t u : Nodes) → ((path : List ℕ) → id_at u path ≡ id_at t path) → (what new : Analyses) (paths : List (List ℕ)) → AgreeOn paths what new → info_stamps u new paths ≡ info_stamps t what paths
stamps_agree t u ids what new [] agree = refl
stamps_agree t u ids what new (path ∷ paths) agree =
    let here : is_in (path ∷ paths) path ≡ true = or_left (bytes_eq path path) (is_in paths path) (itself path) in
    let rest = stamps_agree t u ids what new paths (λ q there. agree q (or_right (bytes_eq q path) (is_in paths q) there)) in
    ap (λ i. cons_option (stamp_by i (new path)) (info_stamps u new paths)) (ids path)
    ∙ ap (λ w. cons_option (stamp_by (id_at t path) w) (info_stamps u new paths)) (agree path here)
    ∙ ap (λ l. cons_option (stamp_by (id_at t path) (what path)) l) rest

module _ (held : Contents) (t : Nodes) (loaded : List Stamp) (xs ys : List (List ℕ)) where
  -- a path of the first list
  pub info_front : (path : List ℕ) → is_in xs path ≡ true → info_in held t loaded (xs ++ ys) path ≡ info_in held t loaded xs path
  info_front path there = ap (λ l. info_by held t (loaded ++ stamps_at held t l) path) (before_front path xs ys there)

  module _ (new : Nodes) (alike : IsSearchedAlike t new) where
    info_there : (stamps : List Stamp) (path : List ℕ) → info_by held new stamps path ≡ info_by held t stamps path
    info_there stamps path =
        ap (λ i. option_or (option_map of_stamp (option_and_then (stamp_of stamps) i)) (what_is held new path)) (id_same held t new alike path)
        ∙ ap (λ w. option_or (option_map of_stamp (stamp_for stamps t path)) w) (what_same held t new alike path)

    -- a path of the second list
    pub info_after : (there : List Stamp) → StampTheSame there (loaded ++ stamps_at held t xs) → (path : List ℕ) → is_in xs path ≡ false
        → info_in held new there ys path ≡ info_in held t loaded (xs ++ ys) path
    info_after there same path out =
        let before = before_first (bytes_eq path) ys in
        let first = loaded ++ stamps_at held t xs in
        info_there (there ++ stamps_at held new before) path
        ∙ ap (λ l. info_by held t (there ++ l) path) (stamps_same held t new alike before)
        ∙ info_alike held t (there ++ stamps_at held t before) (first ++ stamps_at held t before) path (more_alike there first (stamps_at held t before) same)
        ∙ ap (λ l. info_by held t l path)
        (append_assoc loaded (stamps_at held t xs) (stamps_at held t before) ∙ ap (λ l. loaded ++ l) (sym (filter_map-append (stamp_at held t) xs before)))
        ∙ ap (λ l. info_by held t (loaded ++ stamps_at held t l) path) (sym (before_after path xs ys out))
